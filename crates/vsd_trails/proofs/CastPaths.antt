-- What the answer of a cast tells of its trail.
use Rattle.std.proofs.Common.{◌≡◌, ◌⊎◌, inl, inr, ℕ, zero, suc, Bool, true, List, [], ◌∷◌, ◌++◌, append_assoc, Option, Some, None, Result, Ok, Err, sym, ◌∙◌, ap, subst, ⊎_elim, arith}
use Rattle.vsd_words.specs.declared.handle.Handle.{Handle}
use Rattle.vsd_words.specs.declared.cast_word.CastWord.{CastWord}
use Rattle.vsd_words.specs.Hash.{home_of}
use Rattle.vsd_rule.specs.declared.key.Key.{Key}
use Rattle.vsd_rule.specs.declared.step.Act.TheVariants.{LoadRegion, LoadHandle}
use Rattle.vsd_rule.specs.declared.step.Begins.TheVariants.{Cast}
use Rattle.vsd_rule.specs.RowSteps.{unpacked_handle}
use Rattle.vsd_trails.specs.declared.answers.CastAnswer.{CastAnswer}
use Rattle.vsd_trails.specs.declared.answers.Unloaded.{Unloaded}
use Rattle.vsd_trails.specs.declared.casting.Miss.{Miss}
use Rattle.vsd_trails.specs.declared.casting.Find.{Find}
use Rattle.vsd_trails.specs.declared.casting.Find.TheVariants as find
use Rattle.vsd_trails.specs.Programs.{Fields, TrailStep, done, ask, after_steps, Runs}
use Rattle.vsd_trails.specs.Words.{unpacked_cast, unpacked_handle_word, type_by}
use Rattle.vsd_trails.specs.RowTrails.{typing}
use Rattle.vsd_trails.specs.CastTrails.{region_size, is_hit, probing, finding_cast, making_odd, publishing, writing, growing, putting_by, putting_cast, asking, typing_target, typing_source, casting_by, casting}
use Rattle.vsd_trails.specs.CallPaths.{ShowsUnloaded}
use Rattle.vsd_trails.specs.CastPaths.{ShowsHit, HasNoHit, CastTells}
use Rattle.vsd_trails.proofs.Runs.{splits, makes_only}
use Rattle.vsd_trails.proofs.Asking.{Only, nothing, one, and_then, either}
use Rattle.vsd_trails.proofs.Loads.{one_load, nothing_run, gone_shown}
use Rattle.vsd_trails.proofs.Probes.{hit_by, NoVersion, cons_unhit, plain_unhit, miss_probed, hit_probed}

-- ---- the look into the cast cache, and what comes after it

module _ (k : Key) (source target : Handle) where
  -- the region was loaded first
  pub record Looks (xs : List TrailStep) (found : Find) : Type 0 where
    pub region : TrailStep
    pub probes : List TrailStep
    pub at : Fields
    pub whole : xs ≡ region ∷ probes
    pub region_is : region.step.act ≡ LoadRegion
    pub run : Runs k at (probing source target region.step.found (home_of source target (region_size region.step.found)) 8 0 []) probes found

  looks : (f : Fields) (xs : List TrailStep) (found : Find) → Runs k f (finding_cast source target) xs found → Looks xs found
  unfolding finding_cast
  looks f xs found runs =
      let a = splits k f (ask (record { act = LoadRegion; begins = Some (Cast source target) }) (λ word. done word)) (λ region. probing source target region (home_of source target (region_size region)) 8 0 []) xs found runs in
      let region = one_load k f LoadRegion (Some (Cast source target)) (λ word. word) a.prefix a.answer tt a.first in
      record {
        region = region.step;
        probes = a.rest;
        at = after_steps k f a.prefix;
        whole = a.whole ∙ ap (λ (l : List TrailStep). l ++ a.rest) region.is;
        region_is = region.act_is;
        run = subst (λ (n : ℕ). Runs k (after_steps k f a.prefix) (probing source target n (home_of source target (region_size n)) 8 0 []) a.rest found) (sym region.answer) a.second;
      }

  hit_shown : (f : Fields) (xs rest : List TrailStep) (answer : Bool) → Runs k f (finding_cast source target) xs (find.Hit answer) → ShowsHit source target (xs ++ rest) answer
  hit_shown f xs rest answer runs =
      let l = looks f xs (find.Hit answer) runs in
      let home = home_of source target (region_size l.region.step.found) in
      let h = hit_probed k source target l.region.step.found home 8 0 [] l.at l.probes answer l.run in
      let p = h.probe in
      let hit = hit_by (is_hit source target p.a.step.found (unpacked_handle p.b.step.found) (unpacked_cast p.c.step.found) p.d.step.found) (unpacked_cast p.c.step.found).yes answer p.a.step.found p.is in
      let inside : xs ++ rest ≡ (l.region ∷ h.before) ++ ((p.a ∷ p.b ∷ p.c ∷ p.d ∷ []) ++ (h.after ++ rest)) =
      ap (λ (y : List TrailStep). y ++ rest) (l.whole ∙ ap (λ (y : List TrailStep). l.region ∷ y) (h.whole ∙ ap (λ (y : List TrailStep). h.before ++ (y ++ h.after)) p.whole))
      ∙ ap (λ (y : List TrailStep). l.region ∷ y) (append_assoc h.before (p.a ∷ p.b ∷ p.c ∷ p.d ∷ h.after) rest) in
      let high = h.high in
      record {
        region = l.region.step.found;
        i = h.i;
        version = p.a.step.found;
        packed = p.b.step.found;
        word = p.c.step.found;
        again = p.d.step.found;
        region_loaded = record { before = []; there = l.region ∷ []; after = l.probes ++ rest; whole = ap (λ (y : List TrailStep). y ++ rest) l.whole; same = λ i. (l.region_is i, l.region.step.found) ∷ [] };
        probe = omega arith;
        loads = record {
          before = l.region ∷ h.before;
          there = p.a ∷ p.b ∷ p.c ∷ p.d ∷ [];
          after = h.after ++ rest;
          whole = inside;
          same = λ i. (p.a_is i, p.a.step.found) ∷ (p.b_is i, p.b.step.found) ∷ (p.c_is i, p.c.step.found) ∷ (p.d_is i, p.d.step.found) ∷ [];
        };
        hit = hit.0;
        is = hit.1;
      }

  miss_unhit : (f : Fields) (xs rest : List TrailStep) (m : Miss) → Runs k f (finding_cast source target) xs (find.Miss m) → HasNoHit source target rest → HasNoHit source target (xs ++ rest)
  miss_unhit f xs rest m runs none =
      let l = looks f xs (find.Miss m) runs in
      let home = home_of source target (region_size l.region.step.found) in
      let probes = miss_probed k source target l.region.step.found home 8 0 [] l.at l.probes m rest l.run none in
      subst (λ (y : List TrailStep). HasNoHit source target (y ++ rest)) (sym l.whole) (cons_unhit source target l.region LoadRegion (l.probes ++ rest) l.region_is tt probes)

  -- ---- after a miss

  publishing_plain : (region row : ℕ) (word : CastWord) (version : ℕ) → Only NoVersion (publishing region row source word version)
  unfolding publishing
  publishing_plain region row word version = and_then NoVersion (one NoVersion tt) (λ a. and_then NoVersion (one NoVersion tt) (λ b. and_then NoVersion (one NoVersion tt) (λ c. nothing NoVersion)))

  odd_plain : (region row version : ℕ) → Only NoVersion (making_odd region row version)
  odd_plain region row zero = one NoVersion tt
  odd_plain region row (suc n) = one NoVersion tt

  writing_plain : (m : Miss) (answer : Bool) (i : ℕ) → Only NoVersion (writing k m source target answer i)
  unfolding writing
  writing_plain m answer i = either NoVersion _ (nothing NoVersion) (and_then NoVersion (odd_plain m.region _ _) (λ found. either NoVersion _ (publishing_plain m.region _ _ _) (nothing NoVersion)))

  putting_plain : (m : Miss) (answer : Bool) (chosen : Option ℕ) → Only NoVersion (putting_by k m source target answer chosen)
  unfolding putting_by growing
  putting_plain m answer (Some i) = writing_plain m answer i
  putting_plain m answer None = either NoVersion _ (and_then NoVersion (one NoVersion tt) (λ found. either NoVersion _ (nothing NoVersion) (nothing NoVersion))) (writing_plain m answer _)

  target_plain : (m : Miss) (number : ℕ) (type : Result ℕ Unloaded) → Only NoVersion (typing_target k source target m number type)
  unfolding typing_target asking putting_cast
  target_plain m number (Err u) = nothing NoVersion
  target_plain m number (Ok other) = and_then NoVersion (putting_plain m _ _) (λ put. nothing NoVersion)

  source_plain : (m : Miss) (type : Result ℕ Unloaded) → Only NoVersion (typing_source k source target m type)
  unfolding typing_source
  source_plain m (Err u) = nothing NoVersion
  source_plain m (Ok number) = and_then NoVersion (one NoVersion tt) (target_plain m number)

  miss_plain : (m : Miss) → Only NoVersion (casting_by k source target (find.Miss m))
  unfolding casting_by
  miss_plain m = and_then NoVersion (one NoVersion tt) (source_plain m)

  -- an answer after a miss is a walk's, or shows which handle is unloaded
  abbrev Missed : List TrailStep → Result CastAnswer Unloaded → Type 0
  Missed trail answer = ((given : Bool) × (answer ≡ Ok (record { yes = given; walked = true }))) ⊎ ((u : Unloaded) × (answer ≡ Err u) × (ShowsUnloaded source trail u ⊎ ShowsUnloaded target trail u))

  target_missed : (type : Result ℕ Unloaded) (f : Fields) (m : Miss) (number : ℕ) (x : TrailStep) (before xs : List TrailStep) (answer : Result CastAnswer Unloaded) → x.step.act ≡ LoadHandle target.row
      → type_by target (unpacked_handle_word x.step.found) ≡ type → Runs k f (typing_target k source target m number type) xs answer → Missed (before ++ x ∷ xs) answer
  unfolding typing_target asking
  target_missed (Err u) f m number x before xs answer is type runs = let e = nothing_run k f xs (Err u) answer runs in inr (u, sym e.1, inr (gone_shown target x before xs u is type))
  target_missed (Ok other) f m number x before xs answer is type runs =
      let a = splits k f (putting_cast k m source target _) _ xs answer runs in
      let e = nothing_run k (after_steps k f a.prefix) a.rest _ answer a.second in
      inl (_, sym e.1)

  source_missed : (type : Result ℕ Unloaded) (f : Fields) (m : Miss) (x : TrailStep) (before xs : List TrailStep) (answer : Result CastAnswer Unloaded) → x.step.act ≡ LoadHandle source.row
      → type_by source (unpacked_handle_word x.step.found) ≡ type → Runs k f (typing_source k source target m type) xs answer → Missed (before ++ x ∷ xs) answer
  unfolding typing_source
  source_missed (Err u) f m x before xs answer is type runs = let e = nothing_run k f xs (Err u) answer runs in inr (u, sym e.1, inl (gone_shown source x before xs u is type))
  source_missed (Ok number) f m x before xs answer is type runs =
      let a = splits k f (typing target) (typing_target k source target m number) xs answer runs in
      let load = one_load k f (LoadHandle target.row) None (λ word. type_by target (unpacked_handle_word word)) a.prefix a.answer tt a.first in
      let t = target_missed a.answer (after_steps k f a.prefix) m number load.step (before ++ x ∷ []) a.rest answer load.act_is load.answer a.second in
      let place : (before ++ x ∷ []) ++ load.step ∷ a.rest ≡ before ++ x ∷ xs =
      append_assoc before (x ∷ []) (load.step ∷ a.rest) ∙ ap (λ (l : List TrailStep). before ++ x ∷ l) (sym (a.whole ∙ ap (λ (l : List TrailStep). l ++ a.rest) load.is)) in
      subst (λ (l : List TrailStep). Missed l answer) place t

  missed : (f : Fields) (m : Miss) (before xs : List TrailStep) (answer : Result CastAnswer Unloaded) → Runs k f (casting_by k source target (find.Miss m)) xs answer → Missed (before ++ xs) answer
  unfolding casting_by
  missed f m before xs answer runs =
      let a = splits k f (typing source) (typing_source k source target m) xs answer runs in
      let load = one_load k f (LoadHandle source.row) None (λ word. type_by source (unpacked_handle_word word)) a.prefix a.answer tt a.first in
      let t = source_missed a.answer (after_steps k f a.prefix) m load.step before a.rest answer load.act_is load.answer a.second in
      subst (λ (l : List TrailStep). Missed l answer) (ap (λ (l : List TrailStep). before ++ l) (sym (a.whole ∙ ap (λ (l : List TrailStep). l ++ a.rest) load.is))) t

  -- ---- a cast

  found_tells : (found : Find) (f g : Fields) (prefix rest : List TrailStep) (answer : Result CastAnswer Unloaded) → Runs k f (finding_cast source target) prefix found
      → Runs k g (casting_by k source target found) rest answer → CastTells source target (prefix ++ rest) answer
  unfolding casting_by
  found_tells (find.Hit given) f g prefix rest answer first second =
      let e = nothing_run k g rest _ answer second in
      subst (CastTells source target (prefix ++ rest)) e.1 (hit_shown f prefix rest given first)
  found_tells (find.Miss m) f g prefix rest answer first second =
      let plain = makes_only NoVersion k g (casting_by k source target (find.Miss m)) rest answer (miss_plain m).only second in
      let unhit = miss_unhit f prefix rest m first (plain_unhit source target rest plain) in
      ⊎_elim
      (λ walked. subst (CastTells source target (prefix ++ rest)) (sym walked.1) unhit)
      (λ gone. subst (CastTells source target (prefix ++ rest)) (sym gone.1) (unhit, gone.2))
      (missed g m prefix rest answer second)

  pub cast_tells : (f : Fields) (trail : List TrailStep) (answer : Result CastAnswer Unloaded) → Runs k f (casting k source target) trail answer → CastTells source target trail answer
  unfolding casting
  cast_tells f trail answer runs =
      let a = splits k f (finding_cast source target) (casting_by k source target) trail answer runs in
      subst (λ (l : List TrailStep). CastTells source target l answer) (sym a.whole) (found_tells a.answer f (after_steps k f a.prefix) a.prefix a.rest answer a.first a.second)
