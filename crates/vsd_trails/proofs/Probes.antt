-- The probes of a cast: which of them hit, and that where none did no four loads of the trail are a hit.
use Rattle.std.proofs.Common.{◌≡◌, ℕ, zero, suc, ◌+◌, ◌<◌, ◌≤◌, Bool, true, false, List, [], ◌∷◌, ◌++◌, map, append_assoc, append-nil, None, refl, sym, ◌∙◌, ap, subst, if◌then◌else◌, arith}
use Rattle.vsd_words.specs.declared.handle.Handle.{Handle}
use Rattle.vsd_rule.specs.declared.key.Key.{Key}
use Rattle.vsd_rule.specs.declared.step.Act.{Act}
use Rattle.vsd_rule.specs.declared.step.Act.TheVariants.{LoadVersion, LoadSource, LoadCast, LoadVersionAgain}
use Rattle.vsd_rule.specs.RowSteps.{unpacked_handle}
use Rattle.vsd_trails.specs.declared.casting.Miss.{Miss}
use Rattle.vsd_trails.specs.declared.casting.Find.TheVariants as find
use Rattle.vsd_trails.specs.Programs.{Fields, TrailStep, Asked, asked_act, after_steps, Runs, EachStep}
use Rattle.vsd_trails.specs.Words.{unpacked_cast}
use Rattle.vsd_trails.specs.RowTrails.{reading, loading}
use Rattle.vsd_trails.specs.CastTrails.{probe_row, Probed, probe_hit, probe_miss, is_hit, probed, probing_row, unless_hit, probing}
use Rattle.vsd_trails.specs.CallPaths.{load_of}
use Rattle.vsd_trails.specs.CastPaths.{probe_loads, HasNoHit}
use Rattle.vsd_trails.proofs.Runs.{splits}
use Rattle.vsd_trails.proofs.Loads.{one_load, nothing_run}

-- ---- one probe

pub record Probe (source target : Handle) (region row : ℕ) (xs : List TrailStep) (found : Probed) : Type 0 where
  pub a : TrailStep
  pub b : TrailStep
  pub c : TrailStep
  pub d : TrailStep
  pub whole : xs ≡ a ∷ b ∷ c ∷ d ∷ []
  pub a_is : a.step.act ≡ LoadVersion region row
  pub b_is : b.step.act ≡ LoadSource region row
  pub c_is : c.step.act ≡ LoadCast region row
  pub d_is : d.step.act ≡ LoadVersionAgain region row
  pub is : probed source target a.step.found (unpacked_handle b.step.found) (unpacked_cast c.step.found) d.step.found ≡ found

module _ (k : Key) (source target : Handle) where
  pub probe_of : (f : Fields) (region row : ℕ) (xs : List TrailStep) (found : Probed) → Runs k f (probing_row source target region row) xs found → Probe source target region row xs found
  unfolding probing_row
  probe_of f region row xs found runs =
      let a = splits k f (loading (LoadVersion region row)) _ xs found runs in
      let a' = one_load k f (LoadVersion region row) None _ a.prefix a.answer tt a.first in
      let f1 = after_steps k f a.prefix in
      let b = splits k f1 (reading (LoadSource region row) unpacked_handle) _ a.rest found a.second in
      let b' = one_load k f1 (LoadSource region row) None _ b.prefix b.answer tt b.first in
      let f2 = after_steps k f1 b.prefix in
      let c = splits k f2 (reading (LoadCast region row) unpacked_cast) _ b.rest found b.second in
      let c' = one_load k f2 (LoadCast region row) None _ c.prefix c.answer tt c.first in
      let f3 = after_steps k f2 c.prefix in
      let d = splits k f3 (loading (LoadVersionAgain region row)) _ c.rest found c.second in
      let d' = one_load k f3 (LoadVersionAgain region row) None _ d.prefix d.answer tt d.first in
      let e = nothing_run k (after_steps k f3 d.prefix) d.rest _ found d.second in
      let tail : c.rest ≡ d'.step ∷ [] = d.whole ∙ (ap (λ (l : List TrailStep). d.prefix ++ l) e.0 ∙ (append-nil d.prefix ∙ d'.is)) in
      let last : b.rest ≡ c'.step ∷ d'.step ∷ [] = c.whole ∙ (ap (λ (l : List TrailStep). l ++ c.rest) c'.is ∙ ap (λ (l : List TrailStep). c'.step ∷ l) tail) in
      let more : a.rest ≡ b'.step ∷ c'.step ∷ d'.step ∷ [] = b.whole ∙ (ap (λ (l : List TrailStep). l ++ b.rest) b'.is ∙ ap (λ (l : List TrailStep). b'.step ∷ l) last) in
      record {
        a = a'.step;
        b = b'.step;
        c = c'.step;
        d = d'.step;
        whole = a.whole ∙ (ap (λ (l : List TrailStep). l ++ a.rest) a'.is ∙ ap (λ (l : List TrailStep). a'.step ∷ l) more);
        a_is = a'.act_is;
        b_is = b'.act_is;
        c_is = c'.act_is;
        d_is = d'.act_is;
        is = (λ i. probed source target (a'.answer i) (b'.answer i) (c'.answer i) (d'.answer i)) ∙ e.1;
      }

-- a hit or a miss, by the test
pub hit_by : (b : Bool) (answer given : Bool) (version : ℕ) → (let p : Probed = if b then probe_hit answer else probe_miss version in p ≡ probe_hit given) → (b ≡ true) × (answer ≡ given)
hit_by true answer given version same = (refl, cc)
hit_by false answer given version same = absurd (cc)

miss_by : (b : Bool) (answer : Bool) (version given : ℕ) → (let p : Probed = if b then probe_hit answer else probe_miss version in p ≡ probe_miss given) → b ≡ false
miss_by true answer version given same = absurd (cc)
miss_by false answer version given same = refl

-- ---- the loads of a probe in a list

-- a step that is no first load of a version
abbrev pub IsNoVersion : Act → Type 0
IsNoVersion (LoadVersion region row) = ⊥
IsNoVersion act = Unit {0}

abbrev pub NoVersion : Asked → Type 0
NoVersion c = IsNoVersion c.act

record Four (xs : List TrailStep) (c d e g : Act × ℕ) : Type 0 where
  u : TrailStep
  v : TrailStep
  w : TrailStep
  z : TrailStep
  whole : xs ≡ u ∷ v ∷ w ∷ z ∷ []
  first : load_of u ≡ c
  second : load_of v ≡ d
  third : load_of w ≡ e
  fourth : load_of z ≡ g

four_loads : (xs : List TrailStep) (c d e g : Act × ℕ) → map load_of xs ≡ c ∷ d ∷ e ∷ g ∷ [] → Four xs c d e g
four_loads [] c d e g same = absurd (cc)
four_loads (p ∷ []) c d e g same = absurd (cc)
four_loads (p ∷ q ∷ []) c d e g same = absurd (cc)
four_loads (p ∷ q ∷ r ∷ []) c d e g same = absurd (cc)
four_loads (p ∷ q ∷ r ∷ s ∷ []) c d e g same = record { u = p; v = q; w = r; z = s; whole = refl; first = cc; second = cc; third = cc; fourth = cc }
four_loads (p ∷ q ∷ r ∷ s ∷ t ∷ ts) c d e g same = absurd (cc)

module _ (source target : Handle) where
  -- the same of loads that begin after a prefix
  abbrev UnhitFrom : List TrailStep → List TrailStep → Type 0
  UnhitFrom before xs = (region row version packed word again : ℕ) (there after : List TrailStep) → xs ≡ before ++ (there ++ after) → map load_of there ≡ probe_loads region row version packed word again
      → is_hit source target version (unpacked_handle packed) (unpacked_cast word) again ≡ false

  unhit_from : (xs : List TrailStep) → HasNoHit source target xs → (before : List TrailStep) → UnhitFrom before xs
  unhit_from xs none before region row version packed word again there after whole same =
      none region row version packed word again (record { before = before; there = there; after = after; whole = whole; same = same })

  has_no_hit : (xs : List TrailStep) → ((before : List TrailStep) → UnhitFrom before xs) → HasNoHit source target xs
  has_no_hit xs each region row version packed word again i = each i.before region row version packed word again i.there i.after i.whole i.same

  -- the first of the loads is no other step
  no_version : (x : TrailStep) (act : Act) (region row version : ℕ) → x.step.act ≡ act → IsNoVersion act → load_of x ≡ (LoadVersion region row, version) → ⊥
  no_version x act region row version is other load =
      let is_load : x.step.act ≡ LoadVersion region row = λ c. (load c).0 in
      subst IsNoVersion (sym is ∙ is_load) other

  pub cons_unhit : (x : TrailStep) (act : Act) (xs : List TrailStep) → x.step.act ≡ act → IsNoVersion act → HasNoHit source target xs → HasNoHit source target (x ∷ xs)
  cons_unhit x act xs is other none = has_no_hit (x ∷ xs) from
    where
      from : (before : List TrailStep) → UnhitFrom before (x ∷ xs)
      from [] region row version packed word again there after whole same =
          let four = four_loads there (LoadVersion region row, version) (LoadSource region row, packed) (LoadCast region row, word) (LoadVersionAgain region row, again) same in
          let place : x ∷ xs ≡ four.u ∷ four.v ∷ four.w ∷ four.z ∷ after = whole ∙ ap (λ (l : List TrailStep). l ++ after) four.whole in
          let first : x ≡ four.u = cc in
          absurd (no_version x act region row version is other (ap load_of first ∙ four.first))
      from (p ∷ ps) region row version packed word again there after whole same =
          let tails : xs ≡ ps ++ (there ++ after) = cc in
          unhit_from xs none ps region row version packed word again there after tails same

  none_unhit : HasNoHit source target []
  none_unhit = has_no_hit [] from
    where
      from : (before : List TrailStep) → UnhitFrom before []
      from [] region row version packed word again there after whole same =
          let four = four_loads there (LoadVersion region row, version) (LoadSource region row, packed) (LoadCast region row, word) (LoadVersionAgain region row, again) same in
          let place : [] ≡ four.u ∷ four.v ∷ four.w ∷ four.z ∷ after = whole ∙ ap (λ (l : List TrailStep). l ++ after) four.whole in absurd (cc)
      from (p ∷ ps) region row version packed word again there after whole same = absurd (cc)

  -- steps that load no version
  pub plain_unhit : (xs : List TrailStep) → EachStep NoVersion xs → HasNoHit source target xs
  plain_unhit [] all = none_unhit
  plain_unhit (x ∷ xs) all = cons_unhit x x.step.act xs refl (plain_act x.step.act all.0) (plain_unhit xs all.1)
    where
      plain_act : (act : Act) → IsNoVersion (asked_act act) → IsNoVersion act
      plain_act (LoadVersion region row) is = is
      plain_act act is = tt

  -- a probe that missed
  probe_unhit : (region row : ℕ) (version : ℕ) (xs rest : List TrailStep) → Probe source target region row xs (probe_miss version) → HasNoHit source target rest → HasNoHit source target (xs ++ rest)
  probe_unhit region row version xs rest p none =
      let tail = cons_unhit p.b (LoadSource region row) (p.c ∷ p.d ∷ rest) p.b_is tt (cons_unhit p.c (LoadCast region row) (p.d ∷ rest) p.c_is tt (cons_unhit p.d (LoadVersionAgain region row) rest p.d_is tt none)) in
      subst (λ (l : List TrailStep). HasNoHit source target (l ++ rest)) (sym p.whole) (has_no_hit (p.a ∷ p.b ∷ p.c ∷ p.d ∷ rest) (from tail))
    where
      from : HasNoHit source target (p.b ∷ p.c ∷ p.d ∷ rest) → (before : List TrailStep) → UnhitFrom before (p.a ∷ p.b ∷ p.c ∷ p.d ∷ rest)
      from tail [] region' row' version' packed word again there after whole same =
          let four = four_loads there (LoadVersion region' row', version') (LoadSource region' row', packed) (LoadCast region' row', word) (LoadVersionAgain region' row', again) same in
          let place : p.a ∷ p.b ∷ p.c ∷ p.d ∷ rest ≡ four.u ∷ four.v ∷ four.w ∷ four.z ∷ after = whole ∙ ap (λ (l : List TrailStep). l ++ after) four.whole in
          let a : p.a ≡ four.u = cc in
          let b : p.b ≡ four.v = cc in
          let c : p.c ≡ four.w = cc in
          let d : p.d ≡ four.z = cc in
          let found_a : p.a.step.found ≡ version' = let e = ap load_of a ∙ four.first in λ i. (e i).1 in
          let found_b : p.b.step.found ≡ packed = let e = ap load_of b ∙ four.second in λ i. (e i).1 in
          let found_c : p.c.step.found ≡ word = let e = ap load_of c ∙ four.third in λ i. (e i).1 in
          let found_d : p.d.step.found ≡ again = let e = ap load_of d ∙ four.fourth in λ i. (e i).1 in
          let missed = miss_by (is_hit source target p.a.step.found (unpacked_handle p.b.step.found) (unpacked_cast p.c.step.found) p.d.step.found) (unpacked_cast p.c.step.found).yes p.a.step.found version p.is in
          (λ i. is_hit source target (sym found_a i) (unpacked_handle (sym found_b i)) (unpacked_cast (sym found_c i)) (sym found_d i)) ∙ missed
      from tail (q ∷ qs) region' row' version' packed word again there after whole same =
          let tails : p.b ∷ p.c ∷ p.d ∷ rest ≡ qs ++ (there ++ after) = cc in
          unhit_from (p.b ∷ p.c ∷ p.d ∷ rest) tail qs region' row' version' packed word again there after tails same

-- ---- all probes

-- a hit, as a part of a list, at one of the probes
pub record HitAt (source target : Handle) (region home from n : ℕ) (xs : List TrailStep) (answer : Bool) : Type 0 where
  pub i : ℕ
  pub low : from ≤ i
  pub high : i < from + n
  pub before : List TrailStep
  pub after : List TrailStep
  pub block : List TrailStep
  pub whole : xs ≡ before ++ (block ++ after)
  pub probe : Probe source target region (probe_row region home i) block (probe_hit answer)

module _ (k : Key) (source target : Handle) (region home : ℕ) where
  pub miss_probed : (n i : ℕ) (versions : List ℕ) (f : Fields) (xs : List TrailStep) (m : Miss) (rest : List TrailStep)
      → Runs k f (probing source target region home n i versions) xs (find.Miss m) → HasNoHit source target rest → HasNoHit source target (xs ++ rest)
  unfolding probing
  miss_probed zero i versions f xs m rest runs none =
      let e = nothing_run k f xs _ (find.Miss m) runs in subst (λ (l : List TrailStep). HasNoHit source target (l ++ rest)) (sym e.0) none
  miss_probed (suc n) i versions f xs m rest runs none =
      let row = probe_row region home i in
      let a = splits k f (probing_row source target region row) _ xs (find.Miss m) runs in
      let g = after_steps k f a.prefix in
      subst (HasNoHit source target) (sym (ap (λ (l : List TrailStep). l ++ rest) a.whole ∙ append_assoc a.prefix a.rest rest))
      (by_probe g a.answer a.prefix a.rest (probe_of k source target f region row a.prefix a.answer a.first) a.second (λ v more. miss_probed n (i + 1) (versions ++ v ∷ []) g a.rest m rest more none))
    where
      by_probe : (g : Fields) (found : Probed) (prefix more : List TrailStep) → Probe source target region (probe_row region home i) prefix found
          → Runs k g (unless_hit (λ version. probing source target region home n (i + 1) (versions ++ version ∷ [])) found) more (find.Miss m)
          → ((v : ℕ) → Runs k g (probing source target region home n (i + 1) (versions ++ v ∷ [])) more (find.Miss m) → HasNoHit source target (more ++ rest)) → HasNoHit source target (prefix ++ (more ++ rest))
      by_probe g (probe_hit answer) prefix more p r next = let e = nothing_run k g more (find.Hit answer) (find.Miss m) r in let clash = e.1 in absurd (cc)
      by_probe g (probe_miss v) prefix more p r next = probe_unhit source target region (probe_row region home i) v prefix (more ++ rest) p (next v r)

  pub hit_probed : (n i : ℕ) (versions : List ℕ) (f : Fields) (xs : List TrailStep) (answer : Bool)
      → Runs k f (probing source target region home n i versions) xs (find.Hit answer) → HitAt source target region home i n xs answer
  unfolding probing
  hit_probed zero i versions f xs answer runs = let e = nothing_run k f xs _ (find.Hit answer) runs in let clash = e.1 in absurd (cc)
  hit_probed (suc n) i versions f xs answer runs =
      let row = probe_row region home i in
      let a = splits k f (probing_row source target region row) _ xs (find.Hit answer) runs in
      let g = after_steps k f a.prefix in
      by_probe g a.answer a.prefix a.rest a.whole (probe_of k source target f region row a.prefix a.answer a.first) a.second (λ v more. hit_probed n (i + 1) (versions ++ v ∷ []) g a.rest answer more)
    where
      by_probe : (g : Fields) (found : Probed) (prefix more : List TrailStep) → xs ≡ prefix ++ more → Probe source target region (probe_row region home i) prefix found
          → Runs k g (unless_hit (λ version. probing source target region home n (i + 1) (versions ++ version ∷ [])) found) more (find.Hit answer)
          → ((v : ℕ) → Runs k g (probing source target region home n (i + 1) (versions ++ v ∷ [])) more (find.Hit answer) → HitAt source target region home (i + 1) n more answer)
          → HitAt source target region home i (suc n) xs answer
      by_probe g (probe_hit given) prefix more whole p r next =
          let e = nothing_run k g more (find.Hit given) (find.Hit answer) r in
          let same : given ≡ answer = let hits = e.1 in cc in
          record { i = i; low = omega arith; high = omega arith; before = []; after = more; block = prefix; whole = whole; probe = subst (λ (b : Bool). Probe source target region (probe_row region home i) prefix (probe_hit b)) same p }
      by_probe g (probe_miss v) prefix more whole p r next =
          let t = next v r in
          let l = t.low in
          let h = t.high in
          record {
            i = t.i;
            low = omega arith;
            high = omega arith;
            before = prefix ++ t.before;
            after = t.after;
            block = t.block;
            whole = whole ∙ (ap (λ (l : List TrailStep). prefix ++ l) t.whole ∙ sym (append_assoc prefix t.before (t.block ++ t.after)));
            probe = t.probe;
          }
