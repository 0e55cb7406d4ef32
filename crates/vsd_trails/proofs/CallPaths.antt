-- What the answer of a call tells of its trail.
use Rattle.std.proofs.Common.{◌≡◌, ℕ, ◌+◌, List, [], ◌∷◌, ◌++◌, map, append_assoc, Option, Some, None, Result, refl, sym, ◌∙◌, ap, subst, ⊎_elim, arith}
use Rattle.vsd_words.specs.declared.handle.Handle.{Handle}
use Rattle.vsd_words.specs.declared.cell_word.CellWord.{CellWord}
use Rattle.vsd_words.specs.declared.cell_word.CellWord.TheVariants.{Dispatch}
use Rattle.vsd_words.specs.Hash.{bucket_of}
use Rattle.vsd_rule.specs.declared.key.Key.{Key}
use Rattle.vsd_rule.specs.declared.step.Act.{Act}
use Rattle.vsd_rule.specs.declared.step.Act.TheVariants.{LoadRow, LoadCell, LoadBucket, LoadHandle}
use Rattle.vsd_rule.specs.declared.step.RowWord.TheVariants as word
use Rattle.vsd_rule.specs.Lists.{site_token}
use Rattle.vsd_rule.specs.RowSteps.{unpacked_handle}
use Rattle.vsd_trails.specs.declared.answers.Answer.{Answer}
use Rattle.vsd_trails.specs.declared.answers.Seen.{Seen}
use Rattle.vsd_trails.specs.declared.answers.Unloaded.{Unloaded}
use Rattle.vsd_trails.specs.declared.answers.Found.{Found}
use Rattle.vsd_trails.specs.declared.answers.Found.TheVariants.{Hit, Other, Empty}
use Rattle.vsd_trails.specs.Programs.{Fields, TrailStep, Asked, asked_act, asked_of, Runs, EachStep}
use Rattle.vsd_trails.specs.Words.{unpacked_cell}
use Rattle.vsd_trails.specs.CallTrails.{Stubbed, stub_hit, stub_miss, stubbing, seen_by, by_stub, resolving_by, answering_by, calling}
use Rattle.vsd_trails.specs.CallPaths.{load_of, InTurn, cell_loads, bucket_loads, HeldByCell, HeldByBucket, HoldsPair, CellShown, BucketShown, IsSeen, IsNoHandleLoad, LoadsNoHandle, AnswerTells, ShowsUnloaded}
use Rattle.vsd_trails.proofs.Runs.{makes_only}
use Rattle.vsd_trails.proofs.Words.{cell_read}
use Rattle.vsd_trails.proofs.Loads.{nothing_run, gone_shown, each_append, each_weaker, only_there}
use Rattle.vsd_trails.proofs.CallParts.{IsOther, Others, IsNoCellLoad, NoCell, other_no_cell, later_no_cell, CallParts, BucketParts, call_parts, bucket_parts}
use Rattle.vsd_trails.proofs.CallShapes.{NoRowShape, OtherShape, hit_shape, miss_shape, EntryHit, EntryOther, EntryEmpty, EntryShape, entry_shape, Walk, hit_goes, other_walks, empty_walks}

-- ---- kinds of loads

abbrev IsNoBucketLoad : Act → Type 0
IsNoBucketLoad (LoadBucket bucket) = ⊥
IsNoBucketLoad act = Unit {0}

other_no_bucket : (act : Act) → IsOther act → IsNoBucketLoad act
other_no_bucket (LoadCell site) other = absurd other
other_no_bucket (LoadBucket bucket) other = other
other_no_bucket (LoadHandle row) other = absurd other
other_no_bucket act other = tt

other_no_handle : (act : Act) → IsOther act → IsNoHandleLoad act
other_no_handle (LoadCell site) other = absurd other
other_no_handle (LoadBucket bucket) other = absurd other
other_no_handle (LoadHandle row) other = other
other_no_handle act other = tt

-- a step has what its act has
step_has : (P : Act → Type 0) (x : TrailStep) (act : Act) → x.step.act ≡ act → P (asked_act act) → P (asked_of x).act
step_has P x act is has = subst (λ (a : Act). P (asked_act a)) (sym is) has

act_has : (P : Act → Type 0) (x : TrailStep) (act : Act) → x.step.act ≡ act → P (asked_of x).act → P (asked_act act)
act_has P x act is has = subst (λ (a : Act). P (asked_act a)) is has

-- ---- lists of so many loads

pub record OneLoaded (xs : List TrailStep) (c : Act × ℕ) : Type 0 where
  pub u : TrailStep
  pub whole : xs ≡ u ∷ []
  pub first : load_of u ≡ c

one_loaded : (xs : List TrailStep) (c : Act × ℕ) → map load_of xs ≡ c ∷ [] → OneLoaded xs c
one_loaded [] c same = absurd (cc)
one_loaded (x ∷ []) c same = record { u = x; whole = refl; first = cc }
one_loaded (x ∷ y ∷ ys) c same = absurd (cc)

pub record Two (xs : List TrailStep) (c d : Act × ℕ) : Type 0 where
  pub u : TrailStep
  pub v : TrailStep
  pub whole : xs ≡ u ∷ v ∷ []
  pub first : load_of u ≡ c
  pub second : load_of v ≡ d

two_loads : (xs : List TrailStep) (c d : Act × ℕ) → map load_of xs ≡ c ∷ d ∷ [] → Two xs c d
two_loads [] c d same = absurd (cc)
two_loads (x ∷ []) c d same = absurd (cc)
two_loads (x ∷ y ∷ []) c d same = record { u = x; v = y; whole = refl; first = cc; second = cc }
two_loads (x ∷ y ∷ z ∷ zs) c d same = absurd (cc)

pub record Three (xs : List TrailStep) (c d e : Act × ℕ) : Type 0 where
  pub u : TrailStep
  pub v : TrailStep
  pub w : TrailStep
  pub whole : xs ≡ u ∷ v ∷ w ∷ []
  pub first : load_of u ≡ c
  pub second : load_of v ≡ d
  pub third : load_of w ≡ e

pub three_loads : (xs : List TrailStep) (c d e : Act × ℕ) → map load_of xs ≡ c ∷ d ∷ e ∷ [] → Three xs c d e
three_loads [] c d e same = absurd (cc)
three_loads (x ∷ []) c d e same = absurd (cc)
three_loads (x ∷ y ∷ []) c d e same = absurd (cc)
three_loads (x ∷ y ∷ z ∷ []) c d e same = record { u = x; v = y; w = z; whole = refl; first = cc; second = cc; third = cc }
three_loads (x ∷ y ∷ z ∷ q ∷ qs) c d e same = absurd (cc)

-- ---- a row that the bucket names and that does not hold the pair

entry_clash : (token : ℕ) (h : Handle) (named : ℕ) (entries : List TrailStep) (found : Found) → ((target : ℕ) → found ≡ Hit target → ⊥) → EntryShape token h named entries found
    → (row : ℕ) → named ≡ row + 1 → (v w : TrailStep) (more after : List TrailStep) → entries ++ more ≡ v ∷ w ∷ after → unpacked_handle v.step.found ≡ h → w.step.found ≡ token → ⊥
entry_clash token h named entries (Hit target) no_hit s row names v w more after place same same_token = no_hit target refl
entry_clash token h named entries (Other g t) no_hit s row names v w more after place same same_token =
    let whole : s.handle ∷ s.its_token ∷ more ≡ v ∷ w ∷ after = ap (λ (l : List TrailStep). l ++ more) (sym s.whole) ∙ place in
    let first : s.handle ≡ v = cc in
    let second : s.its_token ≡ w = cc in
    s.other (sym s.its_handle ∙ (ap (λ (x : TrailStep). unpacked_handle x.step.found) first ∙ same)) (sym s.found_token ∙ (ap (λ (x : TrailStep). x.step.found) second ∙ same_token))
entry_clash token h named entries Empty no_hit s row names v w more after place same same_token = let none = s.names in absurd (omega arith)

-- ---- the parts of a call

module _ (k : Key) (site : ℕ) (h : Handle) (f : Fields) (trail : List TrailStep) (answer : Result Answer Unloaded) (p : CallParts k site h f trail answer) where
  -- each step after the load of the cell, and each but it, has what others have and what the later ones have
  after_cell : (P : Act → Type 0) → ((act : Act) → IsOther act → P act) → EachStep (λ c. P c.act) p.later → EachStep (λ c. P c.act) (p.looks ++ (p.later ++ p.ends))
  after_cell P weaker later =
      let Q : Asked → Type 0 = λ c. P c.act in
      let weak = λ (xs : List TrailStep). each_weaker Others Q (λ c. weaker c.act) xs in
      each_append Q p.looks (p.later ++ p.ends) (weak p.looks p.looks_others) (each_append Q p.later p.ends later (weak p.ends p.ends_others))

  -- a load of the cell is the one that the call makes
  cell_there : (before : List TrailStep) (x : TrailStep) (after : List TrailStep) → x.step.act ≡ LoadCell site → p.pins ++ p.cell ∷ (p.looks ++ (p.later ++ p.ends)) ≡ before ++ x ∷ after
      → (p.cell ≡ x) × (p.looks ++ (p.later ++ p.ends) ≡ after)
  cell_there before x after is place =
      let cell = unpacked_cell p.cell.step.found in
      let later = makes_only NoCell k p.at_later (answering_by k site h cell p.stubbed) p.later answer (later_no_cell k site h cell p.stubbed).only p.later_run in
      only_there NoCell p.pins p.cell (p.looks ++ (p.later ++ p.ends)) before x after
      (each_weaker Others NoCell (λ c. other_no_cell c.act) p.pins p.pins_others) (after_cell IsNoCellLoad other_no_cell later) (act_has IsNoCellLoad x (LoadCell site) is) place

  pub cell_found : (word : ℕ) → InTurn trail ((LoadCell site, word) ∷ []) → p.cell.step.found ≡ word
  cell_found word load =
      let one = one_loaded load.there (LoadCell site, word) load.same in
      let is : one.u.step.act ≡ LoadCell site = let e = one.first in λ c. (e c).0 in
      let found : one.u.step.found ≡ word = let e = one.first in λ c. (e c).1 in
      let place : p.pins ++ p.cell ∷ (p.looks ++ (p.later ++ p.ends)) ≡ load.before ++ one.u ∷ load.after =
      sym p.whole ∙ (load.whole ∙ ap (λ (l : List TrailStep). load.before ++ (l ++ load.after)) one.whole) in
      let there = cell_there load.before one.u load.after is place in
      ap (λ (x : TrailStep). x.step.found) there.0 ∙ found

  -- ---- by the cell

  stub_tells : (target : ℕ) → p.stubbed ≡ stub_hit target → AnswerTells k site h trail answer
  unfolding answering_by
  stub_tells target is =
      let s = hit_shape k site h p.cell.step.found p.at_looks p.looks target (subst (λ (x : Stubbed). Runs k p.at_looks (stubbing k site h (unpacked_cell p.cell.step.found)) p.looks x) is p.looks_run) in
      let e = nothing_run k p.at_later p.later (by_stub target) answer (subst (λ (x : Stubbed). Runs k p.at_later (answering_by k site h (unpacked_cell p.cell.step.found) x) p.later answer) is p.later_run) in
      let loads : InTurn trail (cell_loads site s.row s.handle.step.found ++ (LoadRow s.row word.Target, target) ∷ []) = record {
        before = p.pins;
        there = p.cell ∷ s.handle ∷ s.loaded ∷ [];
        after = p.later ++ p.ends;
        whole = p.whole ∙ ap (λ (l : List TrailStep). p.pins ++ p.cell ∷ (l ++ (p.later ++ p.ends))) s.whole;
        same = λ c. (p.cell_is c, s.names c) ∷ (s.handle_is c, s.handle.step.found) ∷ (s.loaded_is c, s.target_is c) ∷ [];
      } in
      let none : EachStep LoadsNoHandle p.later = subst (EachStep LoadsNoHandle) (sym e.0) tt in
      let all : EachStep LoadsNoHandle (p.pins ++ p.cell ∷ (p.looks ++ (p.later ++ p.ends))) =
      each_append LoadsNoHandle p.pins (p.cell ∷ (p.looks ++ (p.later ++ p.ends))) (each_weaker Others LoadsNoHandle (λ c. other_no_handle c.act) p.pins p.pins_others)
      (step_has IsNoHandleLoad p.cell (LoadCell site) p.cell_is tt, after_cell IsNoHandleLoad other_no_handle none) in
      subst (AnswerTells k site h trail) e.1 (
        record { row = s.row; packed = s.handle.step.found; handle = s.same; loads = loads },
        subst (EachStep LoadsNoHandle) (sym p.whole) all,
      )

  -- the cell's row does not hold the pair
  cell_unheld : (expected : Option Handle) → p.stubbed ≡ stub_miss expected → HeldByCell site h trail → ⊥
  cell_unheld expected is held =
      let two = two_loads held.loads.there (LoadCell site, 2 + held.row) (LoadRow held.row word.Handle, held.packed) held.loads.same in
      let first_is : two.u.step.act ≡ LoadCell site = let e = two.first in λ c. (e c).0 in
      let first_found : two.u.step.found ≡ 2 + held.row = let e = two.first in λ c. (e c).1 in
      let second_found : two.v.step.found ≡ held.packed = let e = two.second in λ c. (e c).1 in
      let place : p.pins ++ p.cell ∷ (p.looks ++ (p.later ++ p.ends)) ≡ held.loads.before ++ two.u ∷ two.v ∷ held.loads.after =
      sym p.whole ∙ (held.loads.whole ∙ ap (λ (l : List TrailStep). held.loads.before ++ (l ++ held.loads.after)) two.whole) in
      let there = cell_there held.loads.before two.u (two.v ∷ held.loads.after) first_is place in
      let names : p.cell.step.found ≡ 2 + held.row = ap (λ (x : TrailStep). x.step.found) there.0 ∙ first_found in
      ⊎_elim
      (λ (s : NoRowShape k site h p.cell.step.found p.looks expected). ⊎_elim (λ zero_. absurd (omega arith)) (λ one_. absurd (omega arith)) s.plain)
      (λ (s : OtherShape k site h p.cell.step.found p.looks expected).
      let same : s.handle ∷ (s.more ++ (p.later ++ p.ends)) ≡ two.v ∷ held.loads.after = ap (λ (l : List TrailStep). l ++ (p.later ++ p.ends)) (sym s.whole) ∙ there.1 in
      let step : s.handle ≡ two.v = cc in
      s.other (ap (λ (x : TrailStep). unpacked_handle x.step.found) step ∙ (ap unpacked_handle second_found ∙ held.handle)))
      (miss_shape k site h p.cell.step.found p.at_looks p.looks expected (subst (λ (x : Stubbed). Runs k p.at_looks (stubbing k site h (unpacked_cell p.cell.step.found)) p.looks x) is p.looks_run))

  -- what the look at the cell shows
  cell_shown : (expected : Option Handle) → p.stubbed ≡ stub_miss expected → CellShown site h trail (unpacked_cell p.cell.step.found) expected
  cell_shown expected is =
      ⊎_elim
      (λ (s : NoRowShape k site h p.cell.step.found p.looks expected).
      let load : (n : ℕ) → p.cell.step.found ≡ n → InTurn trail ((LoadCell site, n) ∷ []) = λ n found. record {
        before = p.pins;
        there = p.cell ∷ [];
        after = p.looks ++ (p.later ++ p.ends);
        whole = p.whole;
        same = λ c. (p.cell_is c, found c) ∷ [];
      } in
      ⊎_elim
      (λ (found : p.cell.step.found ≡ 0). subst (λ (n : ℕ). CellShown site h trail (unpacked_cell n) expected) (sym found) (s.none, load 0 found))
      (λ (found : p.cell.step.found ≡ 1). subst (λ (n : ℕ). CellShown site h trail (unpacked_cell n) expected) (sym found) (s.none, load 1 found))
      s.plain)
      (λ (s : OtherShape k site h p.cell.step.found p.looks expected).
      let loads : InTurn trail (cell_loads site s.row s.handle.step.found) = record {
        before = p.pins;
        there = p.cell ∷ s.handle ∷ [];
        after = s.more ++ (p.later ++ p.ends);
        whole = p.whole ∙ ap (λ (l : List TrailStep). p.pins ++ p.cell ∷ (l ++ (p.later ++ p.ends))) s.whole;
        same = λ c. (p.cell_is c, s.names c) ∷ (s.handle_is c, s.handle.step.found) ∷ [];
      } in
      let cell : Dispatch s.row ≡ unpacked_cell p.cell.step.found = sym (cell_read (Dispatch s.row)) ∙ ap unpacked_cell (sym s.names) in
      subst (λ (w : CellWord). CellShown site h trail w expected) cell
      (subst (CellShown site h trail (Dispatch s.row)) (sym s.expects) (s.handle.step.found, refl, s.other, loads)))
      (miss_shape k site h p.cell.step.found p.at_looks p.looks expected (subst (λ (x : Stubbed). Runs k p.at_looks (stubbing k site h (unpacked_cell p.cell.step.found)) p.looks x) is p.looks_run))

  -- ---- by the bucket

  module _ (expected : Option Handle) (is : p.stubbed ≡ stub_miss expected) (b : BucketParts k site h (unpacked_cell p.cell.step.found) expected p.later answer) where
    bucket : ℕ
    bucket = bucket_of (site_token k site) h k.sizes.buckets

    prefix : List TrailStep
    prefix = p.pins ++ p.cell ∷ p.looks

    -- the trail round the load of the bucket
    at_bucket : trail ≡ prefix ++ b.named ∷ (b.entries ++ (b.rest ++ p.ends))
    unfolding prefix
    at_bucket =
        let inner : p.later ++ p.ends ≡ b.named ∷ (b.entries ++ (b.rest ++ p.ends)) = ap (λ (l : List TrailStep). l ++ p.ends) b.whole ∙ ap (λ (l : List TrailStep). b.named ∷ l) (append_assoc b.entries b.rest p.ends) in
        p.whole ∙ (ap (λ (l : List TrailStep). p.pins ++ p.cell ∷ (p.looks ++ l)) inner ∙ sym (append_assoc p.pins (p.cell ∷ p.looks) (b.named ∷ (b.entries ++ (b.rest ++ p.ends)))))

    -- what all steps after the load of the bucket have, where those of the rest have it
    after_bucket : (P : Act → Type 0) → ((act : Act) → IsOther act → P act) → EachStep (λ c. P c.act) b.rest → EachStep (λ c. P c.act) (b.entries ++ (b.rest ++ p.ends))
    after_bucket P weaker rest =
        let Q : Asked → Type 0 = λ c. P c.act in
        let weak = λ (xs : List TrailStep). each_weaker Others Q (λ c. weaker c.act) xs in
        each_append Q b.entries (b.rest ++ p.ends) (weak b.entries b.entries_others) (each_append Q b.rest p.ends rest (weak p.ends p.ends_others))

    front_has : (P : Act → Type 0) → ((act : Act) → IsOther act → P act) → P (LoadCell site) → EachStep (λ c. P c.act) prefix
    unfolding prefix
    front_has P weaker of_cell =
        let Q : Asked → Type 0 = λ c. P c.act in
        let weak = λ (xs : List TrailStep). each_weaker Others Q (λ c. weaker c.act) xs in
        each_append Q p.pins (p.cell ∷ p.looks) (weak p.pins p.pins_others) (step_has P p.cell (LoadCell site) p.cell_is of_cell, weak p.looks p.looks_others)

    bucket_tells : (target : ℕ) → b.found ≡ Hit target → AnswerTells k site h trail answer
    unfolding bucket
    bucket_tells target hit =
        let token = site_token k site in
        let s : EntryHit token h b.named.step.found b.entries target = subst (EntryShape token h b.named.step.found b.entries) hit (entry_shape token h k b.named.step.found b.at_entries b.entries b.found b.entries_run) in
        let goes = hit_goes k site h b.at_rest (unpacked_cell p.cell.step.found) expected target b.rest answer
        (subst (λ (x : Found). Runs k b.at_rest (resolving_by k site h (unpacked_cell p.cell.step.found) expected x) b.rest answer) hit b.rest_run) in
        let loads : InTurn trail (bucket_loads (bucket_of token h k.sizes.buckets) s.row s.handle.step.found token ++ (LoadRow s.row word.Target, target) ∷ []) = record {
          before = prefix;
          there = b.named ∷ s.handle ∷ s.its_token ∷ s.loaded ∷ [];
          after = b.rest ++ p.ends;
          whole = at_bucket ∙ ap (λ (l : List TrailStep). prefix ++ b.named ∷ (l ++ (b.rest ++ p.ends))) s.whole;
          same = λ c. (b.named_is c, s.names c) ∷ (s.handle_is c, s.handle.step.found) ∷ (s.token_is c, s.same_token c) ∷ (s.loaded_is c, s.target_is c) ∷ [];
        } in
        let all : EachStep LoadsNoHandle (prefix ++ b.named ∷ (b.entries ++ (b.rest ++ p.ends))) =
        each_append LoadsNoHandle prefix (b.named ∷ (b.entries ++ (b.rest ++ p.ends))) (front_has IsNoHandleLoad other_no_handle tt)
        (step_has IsNoHandleLoad b.named (LoadBucket (bucket_of token h k.sizes.buckets)) b.named_is tt, after_bucket IsNoHandleLoad other_no_handle (each_weaker Others LoadsNoHandle (λ c. other_no_handle c.act) b.rest goes.others)) in
        subst (AnswerTells k site h trail) (sym goes.is) (
          record { row = s.row; packed = s.handle.step.found; handle = s.same; loads = loads },
          subst (EachStep LoadsNoHandle) (sym at_bucket) all,
          cell_unheld expected is,
        )

    -- the bucket's row does not hold the pair
    bucket_unheld : EachStep (λ c. IsNoBucketLoad c.act) b.rest → ((target : ℕ) → b.found ≡ Hit target → ⊥) → HeldByBucket (site_token k site) h trail → ⊥
    bucket_unheld rest no_hit held =
        let token = site_token k site in
        let Q : Asked → Type 0 = λ c. IsNoBucketLoad c.act in
        let three = three_loads held.loads.there (LoadBucket held.bucket, held.row + 1) (LoadRow held.row word.Handle, held.packed) (LoadRow held.row word.Token, token) held.loads.same in
        let first_is : three.u.step.act ≡ LoadBucket held.bucket = let e = three.first in λ c. (e c).0 in
        let first_found : three.u.step.found ≡ held.row + 1 = let e = three.first in λ c. (e c).1 in
        let second_found : three.v.step.found ≡ held.packed = let e = three.second in λ c. (e c).1 in
        let third_found : three.w.step.found ≡ token = let e = three.third in λ c. (e c).1 in
        let place : prefix ++ b.named ∷ (b.entries ++ (b.rest ++ p.ends)) ≡ held.loads.before ++ three.u ∷ three.v ∷ three.w ∷ held.loads.after =
        sym at_bucket ∙ (held.loads.whole ∙ ap (λ (l : List TrailStep). held.loads.before ++ (l ++ held.loads.after)) three.whole) in
        let there = only_there Q prefix b.named (b.entries ++ (b.rest ++ p.ends)) held.loads.before three.u (three.v ∷ three.w ∷ held.loads.after)
        (front_has IsNoBucketLoad other_no_bucket tt) (after_bucket IsNoBucketLoad other_no_bucket rest)
        (act_has IsNoBucketLoad three.u (LoadBucket held.bucket) first_is) place in
        let names : b.named.step.found ≡ held.row + 1 = ap (λ (x : TrailStep). x.step.found) there.0 ∙ first_found in
        entry_clash (site_token k site) h b.named.step.found b.entries b.found no_hit (entry_shape token h k b.named.step.found b.at_entries b.entries b.found b.entries_run)
        held.row names three.v three.w (b.rest ++ p.ends) held.loads.after there.1 (ap unpacked_handle second_found ∙ held.handle) third_found

    -- what the look at the bucket shows
    other_shown : (g : Handle) (t : ℕ) → b.found ≡ Other g t → BucketShown bucket (site_token k site) h trail (Some g) (Some t)
    unfolding bucket
    other_shown g t found =
        let token = site_token k site in
        let s : EntryOther token h b.named.step.found b.entries g t = subst (EntryShape token h b.named.step.found b.entries) found (entry_shape token h k b.named.step.found b.at_entries b.entries b.found b.entries_run) in
        let loads : InTurn trail (bucket_loads (bucket_of token h k.sizes.buckets) s.row s.handle.step.found t) = record {
          before = prefix;
          there = b.named ∷ s.handle ∷ s.its_token ∷ [];
          after = b.rest ++ p.ends;
          whole = at_bucket ∙ ap (λ (l : List TrailStep). prefix ++ b.named ∷ (l ++ (b.rest ++ p.ends))) s.whole;
          same = λ c. (b.named_is c, s.names c) ∷ (s.handle_is c, s.handle.step.found) ∷ (s.token_is c, s.found_token c) ∷ [];
        } in
        (s.row, s.handle.step.found, s.its_handle, s.other, loads)

    empty_shown : b.found ≡ Empty → BucketShown bucket (site_token k site) h trail None None
    unfolding bucket
    empty_shown found =
        let token = site_token k site in
        let s : EntryEmpty token h b.named.step.found b.entries = subst (EntryShape token h b.named.step.found b.entries) found (entry_shape token h k b.named.step.found b.at_entries b.entries b.found b.entries_run) in
        record {
          before = prefix;
          there = b.named ∷ [];
          after = b.entries ++ (b.rest ++ p.ends);
          whole = at_bucket;
          same = λ c. (b.named_is c, s.names c) ∷ [];
        }

    -- ---- by a walk

    walk_tells : (seen : Seen) → IsSeen k site h trail seen → ((target : ℕ) → b.found ≡ Hit target → ⊥) → Walk k site h b.rest answer seen → AnswerTells k site h trail answer
    walk_tells seen shown no_hit w =
        let load_has : (P : Act → Type 0) → ((act : Act) → IsOther act → P act) → P (LoadHandle h.row) → EachStep (λ c. P c.act) b.rest = λ P weaker of_load.
        let Q : Asked → Type 0 = λ c. P c.act in
        subst (EachStep Q) (sym w.whole) (step_has P w.load (LoadHandle h.row) w.load_is of_load, each_weaker Others Q (λ c. weaker c.act) w.more w.others) in
        let unheld : HoldsPair k site h trail → ⊥ = ⊎_elim
        (cell_unheld expected is)
        (bucket_unheld (load_has IsNoBucketLoad other_no_bucket tt) no_hit) in
        ⊎_elim
        (λ walked. subst (AnswerTells k site h trail) (sym walked.2) (shown, unheld))
        (λ gone.
        let place : (prefix ++ b.named ∷ b.entries) ++ w.load ∷ (w.more ++ p.ends) ≡ trail =
        sym (at_bucket ∙ (ap (λ (l : List TrailStep). prefix ++ b.named ∷ (b.entries ++ (l ++ p.ends))) w.whole ∙ sym (append_assoc prefix (b.named ∷ b.entries) (w.load ∷ (w.more ++ p.ends))))) in
        let shows : ShowsUnloaded h trail gone.0 =
        subst (λ (l : List TrailStep). ShowsUnloaded h l gone.0) place (gone_shown h w.load (prefix ++ b.named ∷ b.entries) (w.more ++ p.ends) gone.0 w.load_is gone.1) in
        subst (AnswerTells k site h trail) (sym gone.2) (shows, unheld))
        w.by_type

    miss_tells : (found : Found) → b.found ≡ found → AnswerTells k site h trail answer
    unfolding bucket
    miss_tells (Hit target) same = bucket_tells target same
    miss_tells (Other g t) same =
        let cell = unpacked_cell p.cell.step.found in
        walk_tells (seen_by cell expected (Other g t)) (record { cell = cell_shown expected is; bucket = other_shown g t same }) (λ target hit. let clash = sym same ∙ hit in cc)
        (other_walks k site h b.at_rest cell expected g t b.rest answer (subst (λ (x : Found). Runs k b.at_rest (resolving_by k site h cell expected x) b.rest answer) same b.rest_run))
    miss_tells Empty same =
        let cell = unpacked_cell p.cell.step.found in
        walk_tells (seen_by cell expected Empty) (record { cell = cell_shown expected is; bucket = empty_shown same }) (λ target hit. let clash = sym same ∙ hit in cc)
        (empty_walks k site h b.at_rest cell expected b.rest answer (subst (λ (x : Found). Runs k b.at_rest (resolving_by k site h cell expected x) b.rest answer) same b.rest_run))

  parts_tell : (stubbed : Stubbed) → p.stubbed ≡ stubbed → AnswerTells k site h trail answer
  parts_tell (stub_hit target) is = stub_tells target is
  parts_tell (stub_miss expected) is =
      let b = bucket_parts k site h p.at_later (unpacked_cell p.cell.step.found) expected p.later answer
      (subst (λ (x : Stubbed). Runs k p.at_later (answering_by k site h (unpacked_cell p.cell.step.found) x) p.later answer) is p.later_run) in
      miss_tells expected is b b.found refl

pub answer_tells : (k : Key) (site : ℕ) (h : Handle) (f : Fields) (trail : List TrailStep) (answer : Result Answer Unloaded) → Runs k f (calling k site h) trail answer → AnswerTells k site h trail answer
answer_tells k site h f trail answer runs = let p = call_parts k site h f trail answer runs in parts_tell k site h f trail answer p p.stubbed refl
