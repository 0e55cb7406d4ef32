-- What a call and an unload try.
use Rattle.std.proofs.Common.{◌≡◌, ◌⊎◌, inl, inr, ℕ, zero, suc, false, nat_eq, List, [], ◌∷◌, ◌++◌, append_assoc, append-nil, Option, Some, None, Result, Ok, Err, refl, sym, ◌∙◌, ap, subst, ⊎_elim, arith}
use Rattle.std.proofs.lemmas.Bool.{eqb-true}
use Rattle.vsd_words.specs.declared.handle.Handle.{Handle}
use Rattle.vsd_words.specs.declared.cell_word.CellWord.{CellWord}
use Rattle.vsd_words.specs.declared.cell_word.CellWord.TheVariants.{Lookup}
use Rattle.vsd_words.specs.Hash.{bucket_of}
use Rattle.vsd_rule.specs.declared.key.Key.{Key}
use Rattle.vsd_rule.specs.declared.step.Act.{Act}
use Rattle.vsd_rule.specs.declared.step.Act.TheVariants.{Unpin, SetHandle, SetToken, SetTarget, Free, LoadCell, ToDispatch, PutBucket, LoadHandle, EpochToRetire}
use Rattle.vsd_rule.specs.Lists.{site_token, target_of}
use Rattle.vsd_trails.specs.declared.answers.Answer.{Answer}
use Rattle.vsd_trails.specs.declared.answers.Path.{Path}
use Rattle.vsd_trails.specs.declared.answers.Path.TheVariants.{Stub, Bucket, Walked}
use Rattle.vsd_trails.specs.declared.answers.Seen.{Seen}
use Rattle.vsd_trails.specs.declared.answers.Unloaded.{Unloaded}
use Rattle.vsd_trails.specs.declared.answers.Found.{Found}
use Rattle.vsd_trails.specs.declared.answers.Found.TheVariants.{Hit, Other, Empty}
use Rattle.vsd_trails.specs.Programs.{Fields, TrailStep, Program, done, bind, when◌then◌else◌, after_step, after_steps, Runs}
use Rattle.vsd_trails.specs.Laws.{TwoRuns}
use Rattle.vsd_trails.specs.Words.{unpacked_cell, unpacked_bucket, unpacked_handle_word, type_by}
use Rattle.vsd_trails.specs.RowTrails.{reading, loading, making, filling, claiming, has_room, retiring, retiring_any, typing, abandoning}
use Rattle.vsd_trails.specs.CallTrails.{caching_in, caching, Stubbed, stub_hit, stub_miss, finding, stubbing, installing_in, installing, by_stub, by_bucket, by_walk, seen_by, walking_by, walking, resolving_by, answering_by, calling}
use Rattle.vsd_trails.specs.Attempts.{EndsBy, BeginsBy, Publishes, TriesRow, OutRetired, LostFreed, BucketTry, CellTry, TriesBucket, TriesCell, TriesBoth, TriesByPath}
use Rattle.vsd_trails.specs.CallPaths.{InTurn}
use Rattle.vsd_trails.proofs.CallParts.{CallParts, call_parts}
use Rattle.vsd_trails.proofs.CallPaths.{cell_found}
use Rattle.vsd_trails.proofs.Runs.{splits, after_steps-append}
use Rattle.vsd_trails.proofs.Loads.{IsNoUnbind, one_load, nothing_run, branch}

-- ---- a row that is published

module _ (k : Key) (h : Handle) (token target : ℕ) (Ends : ℕ → TrailStep → List TrailStep → Type 0) where
  record Filled (row : ℕ) (act : Act) (xs : List TrailStep) : Type 0 where
    handle : TrailStep
    its_token : TrailStep
    its_target : TrailStep
    last : TrailStep
    more : List TrailStep
    whole : xs ≡ handle ∷ its_token ∷ its_target ∷ last ∷ more
    handle_is : handle.step.act ≡ SetHandle row h
    token_is : its_token.step.act ≡ SetToken row token
    target_is : its_target.step.act ≡ SetTarget row target
    last_is : last.step.act ≡ act
    ends : Ends row last more

  fills : {A B : Type 0} (f : Fields) (row : ℕ) (act : Act) (read : ℕ → A) (g : A → Program B) (xs : List TrailStep) (b : B) → IsNoUnbind act
      → ((f' : Fields) (last : TrailStep) (more : List TrailStep) → Runs k f' (g (read last.step.found)) more b → Ends row last more)
      → Runs k f (bind (filling row h token target) (λ u. bind (reading act read) g)) xs b → Filled row act xs
  unfolding filling
  fills {A} f row act read g xs b plain ending runs =
      let fill = splits k f (filling row h token target) (λ u. bind (reading act read) g) xs b runs in
      let a = splits k f (making (SetHandle row h)) _ fill.prefix fill.answer fill.first in
      let handle = one_load k f (SetHandle row h) None _ a.prefix a.answer tt a.first in
      let f1 = after_steps k f a.prefix in
      let c = splits k f1 (making (SetToken row token)) _ a.rest fill.answer a.second in
      let its_token = one_load k f1 (SetToken row token) None _ c.prefix c.answer tt c.first in
      let its_target = one_load k (after_steps k f1 c.prefix) (SetTarget row target) None _ c.rest fill.answer tt c.second in
      let f2 = after_steps k f fill.prefix in
      let d = splits k f2 (reading act read) g fill.rest b fill.second in
      let last = one_load k f2 act None read d.prefix d.answer plain d.first in
      let stores : fill.prefix ≡ handle.step ∷ its_token.step ∷ its_target.step ∷ [] =
      a.whole ∙ (ap (λ (l : List TrailStep). l ++ a.rest) handle.is ∙ ap (λ (l : List TrailStep). handle.step ∷ l) (c.whole ∙ (ap (λ (l : List TrailStep). l ++ c.rest) its_token.is ∙ ap (λ (l : List TrailStep). its_token.step ∷ l) its_target.is))) in
      record {
        handle = handle.step;
        its_token = its_token.step;
        its_target = its_target.step;
        last = last.step;
        more = d.rest;
        whole = fill.whole ∙ (ap (λ (l : List TrailStep). l ++ fill.rest) stores ∙ ap (λ (l : List TrailStep). handle.step ∷ its_token.step ∷ its_target.step ∷ l) (d.whole ∙ ap (λ (l : List TrailStep). l ++ d.rest) last.is));
        handle_is = handle.act_is;
        token_is = its_token.act_is;
        target_is = its_target.act_is;
        last_is = last.act_is;
        ends = ending (after_steps k f2 d.prefix) last.step d.rest (subst (λ (answer : A). Runs k (after_steps k f2 d.prefix) (g answer) d.rest b) (sym last.answer) d.second);
      }

  -- a claim, and what is done with what it gave
  tries : {B : Type 0} (f : Fields) (publish : ℕ → Act) (g : Option ℕ → Program B) (xs : List TrailStep) (b : B)
      → ((f' : Fields) (ys : List TrailStep) → Runs k f' (g None) ys b → ys ≡ []) → ((f' : Fields) (row : ℕ) (ys : List TrailStep) → Runs k f' (g (Some row)) ys b → Filled row (publish row) ys)
      → Runs k f (bind (claiming k) g) xs b → TriesRow k f h token target publish Ends xs
  tries f publish g xs b ends fills_row runs =
      let a = splits k f (claiming k) g xs b runs in
      by_given a a.answer refl
    where
      by_given : (a : TwoRuns _ _ k f (claiming k) g xs b) (given : Option ℕ) → a.answer ≡ given → TriesRow k f h token target publish Ends xs
      by_given a None is =
          let rest = ends (after_steps k f a.prefix) a.rest (subst (λ (o : Option ℕ). Runs k (after_steps k f a.prefix) (g o) a.rest b) is a.second) in
          let whole : xs ≡ a.prefix = a.whole ∙ (ap (λ (l : List TrailStep). a.prefix ++ l) rest ∙ append-nil a.prefix) in
          inl (subst (λ (l : List TrailStep). Runs k f (claiming k) l None) (sym whole) (subst (Runs k f (claiming k) a.prefix) is a.first))
      by_given a (Some row) is =
          let s = fills_row (after_steps k f a.prefix) row a.rest (subst (λ (o : Option ℕ). Runs k (after_steps k f a.prefix) (g o) a.rest b) is a.second) in
          inr (record {
            row = row;
            claims = a.prefix;
            handle = s.handle;
            its_token = s.its_token;
            its_target = s.its_target;
            last = s.last;
            more = s.more;
            whole = a.whole ∙ ap (λ (l : List TrailStep). a.prefix ++ l) s.whole;
            claimed = subst (Runs k f (claiming k) a.prefix) is a.first;
            handle_is = s.handle_is;
            token_is = s.token_is;
            target_is = s.target_is;
            last_is = s.last_is;
            ends = s.ends;
          })

-- ---- what comes of it

retire_begins : (k : Key) (f : Fields) (row : ℕ) (more : List TrailStep) (u : Unit {0}) → Runs k f (retiring row) more u → BeginsBy (EpochToRetire row) more
unfolding retiring
retire_begins k f row more u runs =
    let a = splits k f (loading (EpochToRetire row)) _ more u runs in
    let load = one_load k f (EpochToRetire row) None (λ word. word) a.prefix a.answer tt a.first in
    record { first = load.step; after = a.rest; whole = a.whole ∙ ap (λ (l : List TrailStep). l ++ a.rest) load.is; first_is = load.act_is }

out_retired : (k : Key) (f : Fields) (out : Option ℕ) (more : List TrailStep) (u : Unit {0}) → Runs k f (retiring_any out) more u → OutRetired out more
out_retired k f None more u runs = (nothing_run k f more tt u runs).0
out_retired k f (Some row) more u runs = retire_begins k f row more u runs

lost_freed : (k : Key) (f : Fields) (row found : ℕ) (more : List TrailStep) (u : Unit {0}) → Runs k f (when nat_eq found 0 then done tt else abandoning row) more u → LostFreed row found more
unfolding when◌then◌else◌
lost_freed k f row zero more u runs = (nothing_run k f more tt u runs).0
lost_freed k f row (suc found) more u runs =
    ⊎_elim
    (λ won. let clash = eqb-true (suc found) 0 won.0 in absurd (omega arith))
    (λ lost. let free = one_load k f (Free row) None (λ word. tt) more u tt lost.1 in (free.step, free.is, free.act_is))
    (branch k f (nat_eq (suc found) 0) _ _ more u runs)

-- ---- where they stand

ends_after : (act : Act) (prefix xs : List TrailStep) → EndsBy act xs → EndsBy act (prefix ++ xs)
ends_after act prefix xs e = record {
  before = prefix ++ e.before;
  last = e.last;
  whole = ap (λ (l : List TrailStep). prefix ++ l) e.whole ∙ sym (append_assoc prefix e.before (e.last ∷ []));
  last_is = e.last_is;
}

module _ (k : Key) (site : ℕ) (h : Handle) where
  caching_tries : (target : ℕ) (f : Fields) (xs : List TrailStep) (u : Unit {0}) → Runs k f (caching k (site_token k site) h target) xs u → (has_room f.limbo ≡ false) ⊎ BucketTry k site h target f xs
  unfolding caching bind
  caching_tries target f xs u runs =
      let token = site_token k site in
      let bucket = bucket_of token h k.sizes.buckets in
      let Ends : ℕ → TrailStep → List TrailStep → Type 0 = λ row last more. OutRetired (unpacked_bucket last.step.found) more in
      ⊎_elim
      (λ room. inr (tries k h token target Ends f (PutBucket bucket) (caching_in k token h target) xs u
      (λ f' ys r. (nothing_run k f' ys tt u r).0)
      (λ f' row ys r. fills k h token target Ends f' row (PutBucket bucket row) unpacked_bucket retiring_any ys u tt
      (λ g last more ends. out_retired k g (unpacked_bucket last.step.found) more u ends) r) room.1))
      (λ full. inl full.0)
      (branch k f (has_room f.limbo) _ _ xs u runs)

  installing_tries : (target : ℕ) (f : Fields) (xs : List TrailStep) (u : Unit {0}) → Runs k f (installing k site h Lookup target) xs u → CellTry k site h target f xs
  unfolding installing installing_in
  installing_tries target f xs u runs =
      let token = site_token k site in
      let Ends : ℕ → TrailStep → List TrailStep → Type 0 = λ row last more. LostFreed row last.step.found more in
      tries k h token target Ends f (ToDispatch site) (installing_in k site h target) xs u
      (λ f' ys r. (nothing_run k f' ys tt u r).0)
      (λ f' row ys r. fills k h token target Ends f' row (ToDispatch site row) (λ word. nat_eq word 0) (λ won. when won then done tt else abandoning row) ys u tt
      (λ g last more ends. lost_freed k g row last.step.found more u ends) r) runs

  -- the steps end by the try for the bucket and the one for the cell, right after the load of the handle word
  record WalkTail (f : Fields) (xs : List TrailStep) (cell : CellWord) (target : ℕ) : Type 0 where
    front : List TrailStep
    cached : List TrailStep
    installed : List TrailStep
    whole : xs ≡ front ++ (cached ++ installed)
    loads : EndsBy (LoadHandle h.row) front
    caches : (has_room (after_steps k f front).limbo ≡ false) ⊎ BucketTry k site h target (after_steps k f front) cached
    installs : cell ≡ Lookup → CellTry k site h target (after_steps k f (front ++ cached)) installed

  -- the steps end by the try for the cell
  record HitTail (f : Fields) (xs : List TrailStep) (cell : CellWord) (target : ℕ) : Type 0 where
    front : List TrailStep
    installed : List TrailStep
    whole : xs ≡ front ++ installed
    installs : cell ≡ Lookup → CellTry k site h target (after_steps k f front) installed

  walk_later : (f : Fields) (prefix rest : List TrailStep) (cell : CellWord) (target : ℕ) → WalkTail (after_steps k f prefix) rest cell target → WalkTail f (prefix ++ rest) cell target
  walk_later f prefix rest cell target t = record {
    front = prefix ++ t.front;
    cached = t.cached;
    installed = t.installed;
    whole = ap (λ (l : List TrailStep). prefix ++ l) t.whole ∙ sym (append_assoc prefix t.front (t.cached ++ t.installed));
    loads = ends_after (LoadHandle h.row) prefix t.front t.loads;
    caches = subst (λ (g : Fields). (has_room g.limbo ≡ false) ⊎ BucketTry k site h target g t.cached) (sym (after_steps-append k f prefix t.front)) t.caches;
    installs = λ looked. subst (λ (g : Fields). CellTry k site h target g t.installed)
        (sym (after_steps-append k f prefix (t.front ++ t.cached)) ∙ ap (after_steps k f) (sym (append_assoc prefix t.front t.cached))) (t.installs looked);
  }

  hit_later : (f : Fields) (prefix rest : List TrailStep) (cell : CellWord) (target : ℕ) → HitTail (after_steps k f prefix) rest cell target → HitTail f (prefix ++ rest) cell target
  hit_later f prefix rest cell target t = record {
    front = prefix ++ t.front;
    installed = t.installed;
    whole = ap (λ (l : List TrailStep). prefix ++ l) t.whole ∙ sym (append_assoc prefix t.front t.installed);
    installs = λ looked. subst (λ (g : Fields). CellTry k site h target g t.installed) (sym (after_steps-append k f prefix t.front)) (t.installs looked);
  }

  -- by the answer: a walk tries both, a hit of the bucket the cell alone, and no call that loaded Lookup is answered by a stub
  abbrev TailsBy : Fields → List TrailStep → CellWord → ℕ → Path → Type 0
  TailsBy f xs cell target Stub = cell ≡ Lookup → ⊥
  TailsBy f xs cell target Bucket = HitTail f xs cell target
  TailsBy f xs cell target (Walked seen) = WalkTail f xs cell target

  abbrev Tails : Fields → List TrailStep → CellWord → Result Answer Unloaded → Type 0
  Tails f xs cell (Err u) = Unit {0}
  Tails f xs cell (Ok a) = TailsBy f xs cell a.target a.path

  by_later : (f : Fields) (prefix rest : List TrailStep) (cell : CellWord) (target : ℕ) (path : Path) → TailsBy (after_steps k f prefix) rest cell target path → TailsBy f (prefix ++ rest) cell target path
  by_later f prefix rest cell target Stub t = t
  by_later f prefix rest cell target Bucket t = hit_later f prefix rest cell target t
  by_later f prefix rest cell target (Walked seen) t = walk_later f prefix rest cell target t

  later : (f : Fields) (prefix rest xs : List TrailStep) (cell : CellWord) (answer : Result Answer Unloaded) → xs ≡ prefix ++ rest → Tails (after_steps k f prefix) rest cell answer → Tails f xs cell answer
  later f prefix rest xs cell (Err u) whole t = tt
  later f prefix rest xs cell (Ok a) whole t = subst (λ (l : List TrailStep). TailsBy f l cell a.target a.path) (sym whole) (by_later f prefix rest cell a.target a.path t)

  -- ---- the parts of a call

  walked_tries : (f : Fields) (cell : CellWord) (seen : Seen) (load : TrailStep) → load.step.act ≡ LoadHandle h.row → (type : Result ℕ Unloaded) (xs : List TrailStep) (answer : Result Answer Unloaded)
      → Runs k (after_step k f load) (walking_by k site h cell seen type) xs answer → Tails f (load ∷ xs) cell answer
  unfolding walking_by
  walked_tries f cell seen load is (Err u) xs answer runs = subst (Tails f (load ∷ xs) cell) (nothing_run k (after_step k f load) xs (Err u) answer runs).1 tt
  walked_tries f cell seen load is (Ok number) xs answer runs =
      let target = target_of k number (site_token k site) in
      let f1 = after_step k f load in
      let a = splits k f1 (caching k (site_token k site) h target) _ xs answer runs in
      let g = after_steps k f1 a.prefix in
      let b = splits k g (installing k site h cell target) _ a.rest answer a.second in
      let e = nothing_run k (after_steps k g b.prefix) b.rest (by_walk target seen) answer b.second in
      let ended : a.rest ≡ b.prefix = b.whole ∙ (ap (λ (l : List TrailStep). b.prefix ++ l) e.0 ∙ append-nil b.prefix) in
      let tail : WalkTail f (load ∷ xs) cell target = record {
        front = load ∷ [];
        cached = a.prefix;
        installed = b.prefix;
        whole = ap (λ (l : List TrailStep). load ∷ l) (a.whole ∙ ap (λ (l : List TrailStep). a.prefix ++ l) ended);
        loads = record { before = []; last = load; whole = refl; last_is = is };
        caches = caching_tries target f1 a.prefix a.answer a.first;
        installs = λ looked. installing_tries target g b.prefix b.answer (subst (λ (w : CellWord). Runs k g (installing k site h w target) b.prefix b.answer) looked b.first);
      } in
      subst (Tails f (load ∷ xs) cell) e.1 tail

  walking_tries : (f : Fields) (cell : CellWord) (seen : Seen) (xs : List TrailStep) (answer : Result Answer Unloaded) → Runs k f (walking k site h cell seen) xs answer → Tails f xs cell answer
  unfolding walking
  walking_tries f cell seen xs answer runs =
      let a = splits k f (typing h) (walking_by k site h cell seen) xs answer runs in
      let load = one_load k f (LoadHandle h.row) None (λ word. type_by h (unpacked_handle_word word)) a.prefix a.answer tt a.first in
      let whole : xs ≡ load.step ∷ a.rest = a.whole ∙ ap (λ (l : List TrailStep). l ++ a.rest) load.is in
      subst (λ (l : List TrailStep). Tails f l cell answer) (sym whole) (walked_tries f cell seen load.step load.act_is a.answer a.rest answer
      (subst (λ (l : List TrailStep). Runs k (after_steps k f l) (walking_by k site h cell seen a.answer) a.rest answer) load.is a.second))

  resolving_tries : (f : Fields) (cell : CellWord) (expected : Option Handle) (found : Found) (xs : List TrailStep) (answer : Result Answer Unloaded) → Runs k f (resolving_by k site h cell expected found) xs answer → Tails f xs cell answer
  unfolding resolving_by
  resolving_tries f cell expected (Hit target) xs answer runs =
      let a = splits k f (installing k site h cell target) _ xs answer runs in
      let e = nothing_run k (after_steps k f a.prefix) a.rest (by_bucket target) answer a.second in
      let tail : HitTail f xs cell target = record {
        front = [];
        installed = a.prefix;
        whole = a.whole ∙ (ap (λ (l : List TrailStep). a.prefix ++ l) e.0 ∙ append-nil a.prefix);
        installs = λ looked. installing_tries target f a.prefix a.answer (subst (λ (w : CellWord). Runs k f (installing k site h w target) a.prefix a.answer) looked a.first);
      } in
      subst (Tails f xs cell) e.1 tail
  resolving_tries f cell expected (Other g t) xs answer runs = walking_tries f cell (seen_by cell expected (Other g t)) xs answer runs
  resolving_tries f cell expected Empty xs answer runs = walking_tries f cell (seen_by cell expected Empty) xs answer runs

  stub_tries : (f : Fields) (cell : CellWord) (stubbed : Stubbed) (xs : List TrailStep) (answer : Result Answer Unloaded) → (cell ≡ Lookup → (target : ℕ) → stubbed ≡ stub_hit target → ⊥)
      → Runs k f (answering_by k site h cell stubbed) xs answer → Tails f xs cell answer
  unfolding answering_by
  stub_tries f cell (stub_hit target) xs answer no_hit runs = subst (Tails f xs cell) (nothing_run k f xs (by_stub target) answer runs).1 (λ looked. no_hit looked target refl)
  stub_tries f cell (stub_miss expected) xs answer no_hit runs =
      let a = splits k f (finding k (site_token k site) h) (resolving_by k site h cell expected) xs answer runs in
      later f a.prefix a.rest xs cell answer a.whole (resolving_tries (after_steps k f a.prefix) cell expected a.answer a.rest answer a.second)

  no_stub : (f : Fields) (cell : CellWord) (stubbed : Stubbed) (xs : List TrailStep) → Runs k f (stubbing k site h cell) xs stubbed → cell ≡ Lookup → (target : ℕ) → stubbed ≡ stub_hit target → ⊥
  unfolding stubbing
  no_stub f cell stubbed xs runs looked target hit =
      let e = nothing_run k f xs (stub_miss None) stubbed (subst (λ (w : CellWord). Runs k f (stubbing k site h w) xs stubbed) looked runs) in
      let clash = e.1 ∙ hit in cc

  -- ---- a call

  -- up to the unpin
  record CallTail (f : Fields) (trail : List TrailStep) (answer : Result Answer Unloaded) (cell : CellWord) : Type 0 where
    front : List TrailStep
    ends : List TrailStep
    whole : trail ≡ front ++ ends
    tails : Tails f front cell answer
    unpins : BeginsBy Unpin ends

  call_tail : (f : Fields) (trail : List TrailStep) (answer : Result Answer Unloaded) (p : CallParts k site h f trail answer) → CallTail f trail answer (unpacked_cell p.cell.step.found)
  call_tail f trail answer p =
      let cell = unpacked_cell p.cell.step.found in
      let prefix = p.pins ++ p.cell ∷ p.looks in
      let tails = stub_tries p.at_later cell p.stubbed p.later answer (no_stub p.at_looks cell p.stubbed p.looks p.looks_run) p.later_run in
      record {
        front = prefix ++ p.later;
        ends = p.ends;
        whole = p.whole ∙ (sym (append_assoc p.pins (p.cell ∷ p.looks) (p.later ++ p.ends)) ∙ sym (append_assoc prefix p.later p.ends));
        tails = later f prefix p.later (prefix ++ p.later) cell answer refl (subst (λ (g : Fields). Tails g p.later cell answer) p.later_fields tails);
        unpins = p.unpins;
      }

  -- the two tries of a walk
  module _ (f : Fields) (trail front ends : List TrailStep) (cell : CellWord) (target : ℕ) (whole : trail ≡ front ++ ends) (unpins : BeginsBy Unpin ends) where
    walk_bucket : WalkTail f front cell target → TriesBucket k site h target f trail
    walk_bucket t = record {
      at = after_steps k f t.front;
      there = t.cached;
      part = record {
        before = t.front;
        after = t.installed ++ ends;
        whole = whole ∙ (ap (λ (l : List TrailStep). l ++ ends) t.whole ∙ (append_assoc t.front (t.cached ++ t.installed) ends ∙ ap (λ (l : List TrailStep). t.front ++ l) (append_assoc t.cached t.installed ends)));
        fields = refl;
      };
      place = t.loads;
      tries = t.caches;
    }

    walk_cell : (t : WalkTail f front cell target) → cell ≡ Lookup → TriesBoth k site h target f trail
    unfolding walk_bucket
    walk_cell t looked = record {
      bucket = walk_bucket t;
      cell = record {
        at = after_steps k f (t.front ++ t.cached);
        there = t.installed;
        part = record {
          before = t.front ++ t.cached;
          after = ends;
          whole = (walk_bucket t).part.whole ∙ sym (append_assoc t.front t.cached (t.installed ++ ends));
          fields = refl;
        };
        place = unpins;
        tries = t.installs looked;
      };
      apart = refl;
    }

    hit_cell : HitTail f front cell target → cell ≡ Lookup → TriesCell k site h target f trail
    hit_cell t looked = record {
      at = after_steps k f t.front;
      there = t.installed;
      part = record {
        before = t.front;
        after = ends;
        whole = whole ∙ (ap (λ (l : List TrailStep). l ++ ends) t.whole ∙ append_assoc t.front t.installed ends);
        fields = refl;
      };
      place = unpins;
      tries = t.installs looked;
    }

    cell_tried : (path : Path) → TailsBy f front cell target path → cell ≡ Lookup → TriesByPath k site h target f trail path
    cell_tried Stub t looked = absurd (t looked)
    cell_tried Bucket t looked = hit_cell t looked
    cell_tried (Walked seen) t looked = walk_cell t looked

  pub walk_tries : (f : Fields) (trail : List TrailStep) (target : ℕ) (seen : Seen) → Runs k f (calling k site h) trail (by_walk target seen) → TriesBucket k site h target f trail
  walk_tries f trail target seen runs =
      let p = call_parts k site h f trail (by_walk target seen) runs in
      let t = call_tail f trail (by_walk target seen) p in
      walk_bucket f trail t.front t.ends (unpacked_cell p.cell.step.found) target t.whole t.unpins t.tails

  pub lookup_tries : (f : Fields) (trail : List TrailStep) (a : Answer) → InTurn trail ((LoadCell site, 0) ∷ []) → Runs k f (calling k site h) trail (Ok a) → TriesByPath k site h a.target f trail a.path
  lookup_tries f trail a load runs =
      let p = call_parts k site h f trail (Ok a) runs in
      let t = call_tail f trail (Ok a) p in
      cell_tried f trail t.front t.ends (unpacked_cell p.cell.step.found) a.target t.whole t.unpins a.path t.tails (ap unpacked_cell (cell_found k site h f trail (Ok a) p 0 load))
