-- What the answers of a look and of a write tell of their trails.
use Rattle.std.proofs.Common.{◌≡◌, inl, inr, ℕ, zero, suc, ◌+◌, ◌%◌, ◌^◌, ◌<◌, add-zero, zero-add, Bool, true, false, cond, ◌||◌, nat_eq, nat_lt, nat_le, List, [], ◌∷◌, ◌++◌, append_assoc, append-nil, length, map, slice_index, Option, Some, None, Ok, refl, sym, ◌∙◌, ap, subst, ⊎_elim, eq-eqb, arith, if◌then◌else◌}
use Rattle.std.specs.List.{position, position_from}
use Rattle.std.proofs.lemmas.Bool.{eqb-true, leb-true, ltb-true, ltb-false}
use Rattle.std.proofs.lemmas.List.Quantifiers.{position-Some}
use Rattle.std.proofs.lemmas.Iterator.Adapters.{position_from-zero}
use Rattle.vsd_words.specs.declared.handle.Handle.{Handle}
use Rattle.vsd_words.specs.declared.cast_word.CastWord.{CastWord}
use Rattle.vsd_words.specs.Hash.{home_of}
use Rattle.vsd_rule.specs.declared.key.Key.{Key}
use Rattle.vsd_rule.specs.declared.step.Act.{Act}
use Rattle.vsd_rule.specs.declared.step.Act.TheVariants.{LoadRegion, LoadVersion, ClaimCast, ReclaimCast, SetSource, SetCast, Publish, Grow}
use Rattle.vsd_rule.specs.declared.step.Begins.TheVariants.{Cast}
use Rattle.vsd_rule.specs.RowSteps.{unpacked_handle}
use Rattle.vsd_trails.specs.declared.casting.Miss.{Miss}
use Rattle.vsd_trails.specs.declared.casting.Find.{Find}
use Rattle.vsd_trails.specs.declared.casting.Find.TheVariants as find
use Rattle.vsd_trails.specs.declared.casting.Put.{Put}
use Rattle.vsd_trails.specs.declared.casting.Put.TheVariants as put
use Rattle.vsd_trails.specs.declared.casting.Lost.TheVariants as lost
use Rattle.vsd_trails.specs.Programs.{Fields, TrailStep, Program, done, ask, bind, when◌then◌else◌, after_steps, Runs}
use Rattle.vsd_trails.specs.Words.{unpacked_cast}
use Rattle.vsd_trails.specs.RowTrails.{loading, making}
use Rattle.vsd_trails.specs.CallPaths.{InTurn}
use Rattle.vsd_trails.specs.CastPaths.{ShowsHit, HasNoHit}
use Rattle.vsd_trails.specs.CastTrails.{region_size, probe_row, Probed, probe_hit, probe_miss, is_hit, probing_row, unless_hit, probing, finding_cast, is_busy, making_odd, publishing, writing, growing, putting_by, putting_cast, casting_by, casting}
use Rattle.vsd_trails.specs.Laws.{TwoRuns}
use Rattle.vsd_trails.proofs.Runs.{joins, splits}
use Rattle.vsd_trails.proofs.Loads.{OneLoad, one_load, nothing_run, branch}
use Rattle.vsd_trails.proofs.Probes.{Probe, probe_of, cons_unhit, plain_unhit, miss_probed}
use Rattle.vsd_trails.proofs.CastPaths.{cast_tells}
use Rattle.vsd_table.specs.declared.seated.Seated.{Seated}
use Rattle.vsd_table.specs.Seating.{view_of}
use Rattle.vsd_rows.specs.Makes.{fields_of, Makes}
use Rattle.vsd_ccache.specs.Tells.{Tells, ShowsMiss, FindTells, AllUsed, IsFirstUnused, IsChosen, WantsRegion, IsBusy, odd_act, act_of, written_acts, PutTells}
use Rattle.vsd_ccache.proofs.Writing.{not_busy}

-- ---- where loads stand

later : (prefix rest : List TrailStep) (loads : _) → InTurn rest loads → InTurn (prefix ++ rest) loads
later prefix rest loads t = record {
  before = prefix ++ t.before;
  there = t.there;
  after = t.after;
  whole = ap (λ (l : List TrailStep). prefix ++ l) t.whole ∙ sym (append_assoc prefix t.before (t.there ++ t.after));
  same = t.same;
}

first_load : (x : TrailStep) (rest : List TrailStep) (act : Act) → x.step.act ≡ act → InTurn (x ∷ rest) ((act, x.step.found) ∷ [])
first_load x rest act is = record { before = []; there = x ∷ []; after = rest; whole = refl; same = λ c. (is c, x.step.found) ∷ [] }

-- the same load, by other names
load_along : (region row version region' row' version' : ℕ) (xs : List TrailStep) → region ≡ region' → row ≡ row' → version ≡ version' → InTurn xs ((LoadVersion region row, version) ∷ []) → InTurn xs ((LoadVersion region' row', version') ∷ [])
load_along region row version region' row' version' xs first second third t = subst (λ (l : _). InTurn xs l) (λ c. (LoadVersion (first c) (second c), third c) ∷ []) t

-- ---- the versions of a miss

missed_version : (b : Bool) (answer : Bool) (version given : ℕ) → (let p : Probed = if b then probe_hit answer else probe_miss version in p ≡ probe_miss given) → version ≡ given
missed_version true answer version given same = absurd (cc)
missed_version false answer version given same = cc

-- the versions from the i-th probe on
record Versions (region home i n : ℕ) (before : List ℕ) (m : Miss) (xs : List TrailStep) : Type 0 where
  more : List ℕ
  region_is : m.region ≡ region
  home_is : m.home ≡ home
  whole : m.versions ≡ before ++ more
  count : length more ≡ n
  each : (j : ℕ) → j < n → InTurn xs ((LoadVersion region (probe_row region home (i + j)), slice_index more j) ∷ [])

module _ (k : Key) (source target : Handle) (region home : ℕ) where
  first_version : (f : Fields) (i : ℕ) (prefix rest : List TrailStep) (v : ℕ) → Probe source target region (probe_row region home i) prefix (probe_miss v)
      → InTurn (prefix ++ rest) ((LoadVersion region (probe_row region home i), v) ∷ [])
  first_version f i prefix rest v p =
      let is : p.a.step.found ≡ v = missed_version (is_hit source target p.a.step.found (unpacked_handle p.b.step.found) (unpacked_cast p.c.step.found) p.d.step.found) (unpacked_cast p.c.step.found).yes p.a.step.found v p.is in
      let here = first_load p.a (p.b ∷ p.c ∷ p.d ∷ rest) (LoadVersion region (probe_row region home i)) p.a_is in
      subst (λ (n : ℕ). InTurn (prefix ++ rest) ((LoadVersion region (probe_row region home i), n) ∷ [])) is
      (subst (λ (l : List TrailStep). InTurn (l ++ rest) ((LoadVersion region (probe_row region home i), p.a.step.found) ∷ [])) (sym p.whole) here)

  versions_of : (n i : ℕ) (before : List ℕ) (f : Fields) (xs : List TrailStep) (m : Miss) → Runs k f (probing source target region home n i before) xs (find.Miss m) → Versions region home i n before m xs
  unfolding probing
  versions_of zero i before f xs m runs =
      let e = nothing_run k f xs (find.Miss (record { region = region; home = home; versions = before })) (find.Miss m) runs in
      let ends = e.1 in
      let same : record { region = region; home = home; versions = before } ≡ m = cc in
      record {
        more = [];
        region_is = ap (λ (y : Miss). y.region) (sym same);
        home_is = ap (λ (y : Miss). y.home) (sym same);
        whole = ap (λ (y : Miss). y.versions) (sym same) ∙ sym (append-nil before);
        count = refl;
        each = λ j small. absurd (omega arith);
      }
  versions_of (suc n) i before f xs m runs =
      let row = probe_row region home i in
      let a = splits k f (probing_row source target region row) _ xs (find.Miss m) runs in
      let g = after_steps k f a.prefix in
      subst (Versions region home i (suc n) before m) (sym a.whole)
      (by_probe g a.answer a.prefix a.rest (probe_of k source target f region row a.prefix a.answer a.first) a.second (λ v more. versions_of n (i + 1) (before ++ v ∷ []) g a.rest m more))
    where
      by_probe : (g : Fields) (found : Probed) (prefix rest : List TrailStep) → Probe source target region (probe_row region home i) prefix found
          → Runs k g (unless_hit (λ version. probing source target region home n (i + 1) (before ++ version ∷ [])) found) rest (find.Miss m)
          → ((v : ℕ) → Runs k g (probing source target region home n (i + 1) (before ++ v ∷ [])) rest (find.Miss m) → Versions region home (i + 1) n (before ++ v ∷ []) m rest)
          → Versions region home i (suc n) before m (prefix ++ rest)
      by_probe g (probe_hit answer) prefix rest p r next = let e = nothing_run k g rest (find.Hit answer) (find.Miss m) r in let clash = e.1 in absurd (cc)
      by_probe g (probe_miss v) prefix rest p r next =
          let t = next v r in
          let count = t.count in
          record {
            more = v ∷ t.more;
            region_is = t.region_is;
            home_is = t.home_is;
            whole = t.whole ∙ append_assoc before (v ∷ []) t.more;
            count = omega arith;
            each = at_probe t;
          }
        where
          at_probe : (t : Versions region home (i + 1) n (before ++ v ∷ []) m rest) → (j : ℕ) → j < suc n → InTurn (prefix ++ rest) ((LoadVersion region (probe_row region home (i + j)), slice_index (v ∷ t.more) j) ∷ [])
          at_probe t zero small = subst (λ (q : ℕ). InTurn (prefix ++ rest) ((LoadVersion region (probe_row region home q), v) ∷ [])) (sym (add-zero i)) (first_version g i prefix rest v p)
          at_probe t (suc j) small =
              let place : i + 1 + j ≡ i + suc j = omega arith in
              subst (λ (q : ℕ). InTurn (prefix ++ rest) ((LoadVersion region (probe_row region home q), slice_index t.more j) ∷ [])) place (later prefix rest _ (t.each j (omega arith)))

-- ---- a look

module _ (k : Key) (source target : Handle) where
  hit_shown : (f : Fields) (xs : List TrailStep) (answer : Bool) → Runs k f (finding_cast source target) xs (find.Hit answer) → ShowsHit source target xs answer
  unfolding casting casting_by
  hit_shown f xs answer runs =
      let whole : Runs k f (casting k source target) (xs ++ []) (Ok (record { yes = answer; walked = false })) =
      joins k f (finding_cast source target) (casting_by k source target) xs [] (find.Hit answer) (Ok (record { yes = answer; walked = false })) runs refl in
      subst (λ (l : List TrailStep). ShowsHit source target l answer) (append-nil xs) (cast_tells k source target f (xs ++ []) (Ok (record { yes = answer; walked = false })) whole)

  miss_shown : (f : Fields) (xs : List TrailStep) (m : Miss) → Runs k f (finding_cast source target) xs (find.Miss m) → ShowsMiss source target xs m
  unfolding finding_cast
  miss_shown f xs m runs =
      let a = splits k f (ask (record { act = LoadRegion; begins = Some (Cast source target) }) (λ word. done word)) (λ region. probing source target region (home_of source target (region_size region)) 8 0 []) xs (find.Miss m) runs in
      let load = one_load k f LoadRegion (Some (Cast source target)) (λ word. word) a.prefix a.answer tt a.first in
      let g = after_steps k f a.prefix in
      let region = a.answer in
      let home = home_of source target (region_size region) in
      let v = versions_of k source target region home 8 0 [] g a.rest m a.second in
      let none = miss_probed k source target region home 8 0 [] g a.rest m [] a.second (plain_unhit source target [] tt) in
      let unhit : HasNoHit source target a.rest = subst (HasNoHit source target) (append-nil a.rest) none in
      let all : xs ≡ load.step ∷ a.rest = a.whole ∙ ap (λ (l : List TrailStep). l ++ a.rest) load.is in
      let here = first_load load.step a.rest LoadRegion load.act_is in
      let named : region ≡ m.region = sym v.region_is in
      let versions : m.versions ≡ v.more = v.whole in
      record {
        unhit = subst (HasNoHit source target) (sym all) (cons_unhit source target load.step LoadRegion a.rest load.act_is tt unhit);
        region = subst (λ (l : List TrailStep). InTurn l ((LoadRegion, m.region) ∷ [])) (sym all) (subst (λ (n : ℕ). InTurn (load.step ∷ a.rest) ((LoadRegion, n) ∷ [])) (load.answer ∙ named) here);
        home = v.home_is ∙ ap (λ (n : ℕ). home_of source target (region_size n)) named;
        eight = ap length versions ∙ v.count;
        version = λ i small.
            subst (λ (l : List TrailStep). InTurn l ((LoadVersion m.region (probe_row m.region m.home i), slice_index m.versions i) ∷ [])) (sym all)
            (later (load.step ∷ []) a.rest _ (turned v i small));
      }
    where
      turned : {region home : ℕ} {rest : List TrailStep} → Versions region home 0 8 [] m rest → (i : ℕ) → i < 8 → InTurn rest ((LoadVersion m.region (probe_row m.region m.home i), slice_index m.versions i) ∷ [])
      turned {region} {home} {rest} v i small =
          let first : 0 + i ≡ i = zero-add i in
          let one = subst (λ (n : ℕ). InTurn rest ((LoadVersion region (probe_row region home n), slice_index v.more i) ∷ [])) first (v.each i small) in
          let same : probe_row region home i ≡ probe_row m.region m.home i = λ c. probe_row (sym v.region_is c) (sym v.home_is c) i in
          let versions : v.more ≡ m.versions = sym v.whole in
          load_along region (probe_row region home i) (slice_index v.more i) m.region (probe_row m.region m.home i) (slice_index m.versions i) rest (sym v.region_is) same (ap (λ (l : List ℕ). slice_index l i) versions) one

  pub find_tells : (f : Fields) (xs : List TrailStep) (found : Find) → Runs k f (finding_cast source target) xs found → FindTells source target xs found
  find_tells f xs (find.Hit answer) runs = hit_shown f xs answer runs
  find_tells f xs (find.Miss m) runs = miss_shown f xs m runs

-- ---- the row that a write chooses

abbrev unused : ℕ → Bool
unused version = nat_eq version 0

none_head : (b : Bool) (s : ℕ) (o : Option ℕ) → cond b (Some s) o ≡ None → (b ≡ false) × (o ≡ None)
none_head true s o is = absurd (cc)
none_head false s o is = (refl, is)

none_from : (s : ℕ) (xs : List ℕ) → position_from unused s xs ≡ None → AllUsed xs
none_from s [] is i small = absurd (omega arith)
none_from s (x ∷ xs) is zero small = λ same. let h = none_head (unused x) s (position_from unused (s + 1) xs) is in let clash = sym (eq-eqb x 0 same) ∙ h.0 in cc
none_from s (x ∷ xs) is (suc i) small = let h = none_head (unused x) s (position_from unused (s + 1) xs) is in none_from (s + 1) xs h.1 i (omega arith)

all_used : (xs : List ℕ) → position unused xs ≡ None → AllUsed xs
all_used xs is = none_from 0 xs (sym (position_from-zero unused xs) ∙ is)

first_unused : (xs : List ℕ) (i : ℕ) → position unused xs ≡ Some i → IsFirstUnused xs i
first_unused xs i is =
    let found = position-Some unused xs i 0 is in
    record {
      probe = found.0;
      unused = eqb-true (slice_index xs i) 0 found.1;
      first = λ j small same. let clash = sym (eq-eqb (slice_index xs j) 0 same) ∙ found.2 j small in cc;
    }

-- ---- a write

busy_is : (version : ℕ) → is_busy version ≡ true → IsBusy version
busy_is version busy = odd_or (nat_eq (version % 2) 1) refl
  where
    odd_or : (b : Bool) → nat_eq (version % 2) 1 ≡ b → IsBusy version
    odd_or true is = inl (eqb-true (version % 2) 1 is)
    odd_or false is = inr (leb-true (2 ^ 62) version (ap (λ (b : Bool). b || nat_le (2 ^ 62) version) (sym is) ∙ busy))

free_is : (version : ℕ) → is_busy version ≡ false → IsBusy version → ⊥
free_is version free (inl odd) = let even = (not_busy version free).0 in let clash : 0 ≡ 1 = sym even ∙ odd in absurd (omega arith)
free_is version free (inr high) = let low = (not_busy version free).1 in absurd (omega arith)

module _ (k : Key) (m : Miss) (source target : Handle) (answer : Bool) where
  odd_run : (region row version : ℕ) (f : Fields) (xs : List TrailStep) (found : ℕ) → Runs k f (making_odd region row version) xs found → OneLoad (odd_act region row version) (λ (word : ℕ). word) xs found
  odd_run region row zero f xs found runs = one_load k f (ClaimCast region row) None (λ (word : ℕ). word) xs found tt runs
  odd_run region row (suc n) f xs found runs = one_load k f (ReclaimCast region row (suc n)) None (λ (word : ℕ). word) xs found tt runs

  record Stores (region row : ℕ) (word : CastWord) (version : ℕ) (xs : List TrailStep) (a : Put) : Type 0 where
    acts : map act_of xs ≡ written_acts region row source word version
    is : put.Written ≡ a

  stores_run : (region row : ℕ) (word : CastWord) (version : ℕ) (f : Fields) (xs : List TrailStep) (a : Put) → Runs k f (publishing region row source word version) xs a → Stores region row word version xs a
  unfolding publishing
  stores_run region row word version f xs a runs =
      let one = splits k f (making (SetSource region row source)) _ xs a runs in
      let one' = one_load k f (SetSource region row source) None (λ (found : ℕ). tt) one.prefix one.answer tt one.first in
      let f1 = after_steps k f one.prefix in
      let two = splits k f1 (making (SetCast region row word)) _ one.rest a one.second in
      let two' = one_load k f1 (SetCast region row word) None (λ (found : ℕ). tt) two.prefix two.answer tt two.first in
      let f2 = after_steps k f1 two.prefix in
      let three = splits k f2 (making (Publish region row (version + 2))) _ two.rest a two.second in
      let three' = one_load k f2 (Publish region row (version + 2)) None (λ (found : ℕ). tt) three.prefix three.answer tt three.first in
      let e = nothing_run k (after_steps k f2 three.prefix) three.rest put.Written a three.second in
      let tail : two.rest ≡ three'.step ∷ [] = three.whole ∙ (ap (λ (l : List TrailStep). three.prefix ++ l) e.0 ∙ (append-nil three.prefix ∙ three'.is)) in
      let more : one.rest ≡ two'.step ∷ three'.step ∷ [] = two.whole ∙ (ap (λ (l : List TrailStep). l ++ two.rest) two'.is ∙ ap (λ (l : List TrailStep). two'.step ∷ l) tail) in
      let all : xs ≡ one'.step ∷ two'.step ∷ three'.step ∷ [] = one.whole ∙ (ap (λ (l : List TrailStep). l ++ one.rest) one'.is ∙ ap (λ (l : List TrailStep). one'.step ∷ l) more) in
      record { acts = ap (map act_of) all ∙ (λ i. one'.act_is i ∷ two'.act_is i ∷ three'.act_is i ∷ []); is = e.1 }

  module _ (i : ℕ) (chosen : IsChosen k m source target i) where
    abbrev version : ℕ
    version = slice_index m.versions i

    abbrev row : ℕ
    row = probe_row m.region m.home i

    abbrev word : CastWord
    word = record { target = target; yes = answer }

    abbrev by_found : ℕ → Program Put
    by_found found = when nat_eq found version then publishing m.region row source word version else done (put.Nothing (lost.Claim found))

    exchanged : (f : Fields) (xs : List TrailStep) (a : Put) → is_busy version ≡ false → TwoRuns ℕ Put k f (making_odd m.region row version) by_found xs a → PutTells k m source target answer xs a
    exchanged f xs a free t =
        let odd = odd_run m.region row version f t.prefix t.answer t.first in
        let g = after_steps k f t.prefix in
        let whole : xs ≡ odd.step ∷ t.rest = t.whole ∙ ap (λ (l : List TrailStep). l ++ t.rest) odd.is in
        ⊎_elim
        (λ won. let s = stores_run m.region row word version g t.rest a won.1 in
        subst (PutTells k m source target answer xs) s.is (record {
          i = i;
          chosen = chosen;
          free = free_is version free;
          steps = record { exchange = odd.step; more = t.rest; whole = whole; act_is = odd.act_is; word = odd.answer ∙ eqb-true t.answer version won.0; more_are = s.acts };
        }))
        (λ other. let e = nothing_run k g t.rest (put.Nothing (lost.Claim t.answer)) a other.1 in
        subst (PutTells k m source target answer xs) e.1 (record {
          i = i;
          chosen = chosen;
          free = free_is version free;
          other = λ same. let clash = sym (eq-eqb t.answer version same) ∙ other.0 in cc;
          steps = record { exchange = odd.step; more = []; whole = whole ∙ ap (λ (l : List TrailStep). odd.step ∷ l) e.0; act_is = odd.act_is; word = odd.answer; more_are = refl };
        }))
        (branch k g (nat_eq t.answer version) (publishing m.region row source word version) (done (put.Nothing (lost.Claim t.answer))) t.rest a t.second)

    write_shown : (f : Fields) (xs : List TrailStep) (a : Put) → Runs k f (writing k m source target answer i) xs a → PutTells k m source target answer xs a
    unfolding writing
    write_shown f xs a runs =
        ⊎_elim
        (λ busy. let e = nothing_run k f xs (put.Nothing (lost.Busy version)) a busy.1 in
        subst (PutTells k m source target answer xs) e.1 (record { i = i; chosen = chosen; is = refl; busy = busy_is version busy.0; steps = e.0 }))
        (λ free. exchanged f xs a free.0 (splits k f (making_odd m.region row version) by_found xs a free.1))
        (branch k f (is_busy version) (done (put.Nothing (lost.Busy version))) (bind (making_odd m.region row version) by_found) xs a runs)

  grow_shown : WantsRegion k m → (f : Fields) (xs : List TrailStep) (a : Put) → Runs k f (growing k m source target answer) xs a → PutTells k m source target answer xs a
  unfolding growing
  grow_shown wants f xs a runs =
      let t = splits k f (loading (Grow m.region)) (λ found. when nat_eq found m.region then done put.Grew else done (put.Nothing (lost.Grow found))) xs a runs in
      let load = one_load k f (Grow m.region) None (λ (word : ℕ). word) t.prefix t.answer tt t.first in
      let g = after_steps k f t.prefix in
      let whole : xs ≡ load.step ∷ t.rest = t.whole ∙ ap (λ (l : List TrailStep). l ++ t.rest) load.is in
      ⊎_elim
      (λ won. let e = nothing_run k g t.rest put.Grew a won.1 in
      subst (PutTells k m source target answer xs) e.1 (record {
        wants = wants;
        steps = record { exchange = load.step; more = []; whole = whole ∙ ap (λ (l : List TrailStep). load.step ∷ l) e.0; act_is = load.act_is; word = load.answer ∙ eqb-true t.answer m.region won.0; more_are = refl };
      }))
      (λ other. let e = nothing_run k g t.rest (put.Nothing (lost.Grow t.answer)) a other.1 in
      subst (PutTells k m source target answer xs) e.1 (record {
        wants = wants;
        other = λ same. let clash = sym (eq-eqb t.answer m.region same) ∙ other.0 in cc;
        steps = record { exchange = load.step; more = []; whole = whole ∙ ap (λ (l : List TrailStep). load.step ∷ l) e.0; act_is = load.act_is; word = load.answer; more_are = refl };
      }))
      (branch k g (nat_eq t.answer m.region) (done put.Grew) (done (put.Nothing (lost.Grow t.answer))) t.rest a t.second)

  pub put_tells : (f : Fields) (xs : List TrailStep) (a : Put) → Runs k f (putting_cast k m source target answer) xs a → PutTells k m source target answer xs a
  unfolding putting_cast putting_by
  put_tells f xs a runs = by_first (position unused m.versions) refl runs
    where
      by_first : (o : Option ℕ) → position unused m.versions ≡ o → Runs k f (putting_by k m source target answer o) xs a → PutTells k m source target answer xs a
      by_first (Some i) is more = write_shown i (inl (first_unused m.versions i is)) f xs a more
      by_first None is more =
          ⊎_elim
          (λ next. grow_shown (record { used = all_used m.versions is; next = ltb-true (m.region + 1) k.sizes.regions next.0 }) f xs a next.1)
          (λ last. write_shown _ (inr (record { used = all_used m.versions is; last = ltb-false (m.region + 1) k.sizes.regions last.0; chosen = refl })) f xs a last.1)
          (branch k f (nat_lt (m.region + 1) k.sizes.regions) (growing k m source target answer) _ xs a more)

-- ---- as clauses

pub find_shown : (source target : Handle) (old new : Seated) (found : Find) → Makes old new (finding_cast source target) found → Tells old new (λ trail. FindTells source target trail found)
find_shown source target old new found makes =
    record { trail = makes.trail; made = makes.made; shows = find_tells (view_of old).key source target (fields_of old) makes.trail found makes.runs }

pub put_shown : (k : Key) (m : Miss) (source target : Handle) (answer : Bool) (old new : Seated) (a : Put) → (view_of old).key ≡ k → Makes old new (putting_cast k m source target answer) a
    → Tells old new (λ trail. PutTells k m source target answer trail a)
put_shown k m source target answer old new a key makes =
    let runs : Runs k (fields_of old) (putting_cast k m source target answer) makes.trail a = subst (λ (q : Key). Runs q (fields_of old) (putting_cast k m source target answer) makes.trail a) key makes.runs in
    record { trail = makes.trail; made = makes.made; shows = put_tells k m source target answer (fields_of old) makes.trail a runs }
