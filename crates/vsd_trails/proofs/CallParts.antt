-- The parts of a call's trail: pin, the load of the cell, the look at its row, what comes after, and the end.
use Rattle.std.proofs.Common.{◌≡◌, ℕ, zero, suc, ◌+◌, min, List, [], ◌∷◌, ◌++◌, append_assoc, Option, Some, None, Result, Ok, Err, refl, sym, ◌∙◌, ap, subst}
use Rattle.vsd_words.specs.declared.handle.Handle.{Handle}
use Rattle.vsd_words.specs.declared.cell_word.CellWord.{CellWord}
use Rattle.vsd_words.specs.declared.cell_word.CellWord.TheVariants.{Lookup, Resolve, Dispatch}
use Rattle.vsd_words.specs.Hash.{bucket_of}
use Rattle.vsd_rule.specs.declared.key.Key.{Key}
use Rattle.vsd_rule.specs.declared.row_view.RetiredRow.{RetiredRow}
use Rattle.vsd_rule.specs.declared.step.Act.{Act}
use Rattle.vsd_rule.specs.declared.step.Act.TheVariants.{Unpin, LoadCell, LoadBucket, LoadHandle}
use Rattle.vsd_rule.specs.declared.step.Doing.{Doing}
use Rattle.vsd_rule.specs.declared.step.Doing.TheVariants.{Call}
use Rattle.vsd_rule.specs.Lists.{site_token}
use Rattle.vsd_trails.specs.declared.answers.Answer.{Answer}
use Rattle.vsd_trails.specs.declared.answers.Seen.{Seen}
use Rattle.vsd_trails.specs.declared.answers.Unloaded.{Unloaded}
use Rattle.vsd_trails.specs.declared.answers.Found.{Found}
use Rattle.vsd_trails.specs.declared.answers.Found.TheVariants.{Hit, Other, Empty}
use Rattle.vsd_trails.specs.Programs.{Fields, TrailStep, Asked, Program, done, bind, after_step, after_steps, Runs, EachStep}
use Rattle.vsd_trails.specs.Words.{unpacked_cell, unpacked_bucket}
use Rattle.vsd_trails.specs.RowTrails.{pinning, unpinning, claiming_row, claiming_from, claiming, filling, seeing_room, retiring, retiring_any, passing, sweeping_oldest, sweeping, unlinking, reading_cell, looking}
use Rattle.vsd_trails.specs.CallTrails.{finding_in, finding, caching_in, caching, Stubbed, stub_hit, stub_miss, patching, stubbing, installing_in, installing, walking_by, walking, resolving_by, answering_by, answering, calling}
use Rattle.vsd_trails.specs.Laws.{TwoRuns}
use Rattle.vsd_trails.specs.Attempts.{BeginsBy}
use Rattle.vsd_trails.proofs.Runs.{splits, makes_only, after_steps-append}
use Rattle.vsd_trails.proofs.Asking.{Only, nothing, one, sees, and_then, either, only_weaker}
use Rattle.vsd_trails.proofs.Loads.{one_load, nothing_run, each_append}

-- ---- steps that load neither a cell, nor a bucket, nor a handle word

abbrev pub IsOther : Act → Type 0
IsOther (LoadCell site) = ⊥
IsOther (LoadBucket bucket) = ⊥
IsOther (LoadHandle row) = ⊥
IsOther act = Unit {0}

abbrev pub Others : Asked → Type 0
Others c = IsOther c.act

abbrev pub IsNoCellLoad : Act → Type 0
IsNoCellLoad (LoadCell site) = ⊥
IsNoCellLoad act = Unit {0}

abbrev pub NoCell : Asked → Type 0
NoCell c = IsNoCellLoad c.act

pub other_no_cell : (act : Act) → IsOther act → IsNoCellLoad act
other_no_cell (LoadCell site) other = other
other_no_cell (LoadBucket bucket) other = absurd other
other_no_cell (LoadHandle row) other = absurd other
other_no_cell act other = tt

other_has_no_cell : (c : Asked) → Others c → NoCell c
other_has_no_cell c other = other_no_cell c.act other

pinning_others : (doing : Doing) → Only Others (pinning doing)
unfolding pinning
pinning_others doing = and_then Others (one Others tt) (λ epoch. one Others tt)

claiming_row_others : (row : ℕ) → Only Others (claiming_row row)
unfolding claiming_row
claiming_row_others row = and_then Others (one Others tt) (λ free. either Others free (one Others tt) (nothing Others))

claiming_from_others : (k : Key) (n row : ℕ) → Only Others (claiming_from k n row)
unfolding claiming_from
claiming_from_others k zero row = nothing Others
claiming_from_others k (suc n) row = and_then Others (claiming_row_others row) (λ won. either Others won (nothing Others) (claiming_from_others k n _))

claiming_others : (k : Key) → Only Others (claiming k)
unfolding claiming
claiming_others k = sees Others (λ f. claiming_from_others k (min 8 k.sizes.rows) f.cursor)

filling_others : (row : ℕ) (h : Handle) (token target : ℕ) → Only Others (filling row h token target)
unfolding filling
filling_others row h token target = and_then Others (one Others tt) (λ a. and_then Others (one Others tt) (λ b. one Others tt))

room_others : Only Others seeing_room
room_others = sees Others (λ f. nothing Others)

retiring_others : (row : ℕ) → Only Others (retiring row)
unfolding retiring
retiring_others row = and_then Others (one Others tt) (λ epoch. either Others _ (one Others tt) (nothing Others))

retiring_any_others : (out : Option ℕ) → Only Others (retiring_any out)
retiring_any_others None = nothing Others
retiring_any_others (Some row) = retiring_others row

passing_others : (x : RetiredRow) (n caller : ℕ) → Only Others (passing x n caller)
unfolding passing
passing_others x zero caller = and_then Others (one Others tt) (λ u. nothing Others)
passing_others x (suc n) caller = and_then Others (one Others tt) (λ word. either Others _ (passing_others x n (caller + 1)) (nothing Others))

oldest_others : (k : Key) (limbo : List RetiredRow) → Only Others (sweeping_oldest k limbo)
oldest_others k [] = nothing Others
oldest_others k (x ∷ xs) = passing_others x k.sizes.callers 0

sweeping_others : (k : Key) → Only Others (sweeping k)
unfolding sweeping
sweeping_others k = sees Others (λ f. oldest_others k f.limbo)

caching_in_others : (k : Key) (token : ℕ) (h : Handle) (target : ℕ) (given : Option ℕ) → Only Others (caching_in k token h target given)
caching_in_others k token h target None = nothing Others
caching_in_others k token h target (Some row) = and_then Others (filling_others row h token target) (λ u. and_then Others (one Others tt) retiring_any_others)

pub caching_others : (k : Key) (token : ℕ) (h : Handle) (target : ℕ) → Only Others (caching k token h target)
unfolding caching
caching_others k token h target = and_then Others room_others (λ room. either Others room (and_then Others (claiming_others k) (caching_in_others k token h target)) (nothing Others))

pub finding_in_others : (token : ℕ) (h : Handle) (named : Option ℕ) → Only Others (finding_in token h named)
finding_in_others token h None = nothing Others
finding_in_others token h (Some row) = and_then Others (one Others tt) (λ g. and_then Others (one Others tt) (λ t. either Others _ (one Others tt) (nothing Others)))

module _ (k : Key) (site : ℕ) (h : Handle) where
  installing_in_others : (target : ℕ) (given : Option ℕ) → Only Others (installing_in k site h target given)
  unfolding installing_in
  installing_in_others target None = nothing Others
  installing_in_others target (Some row) = and_then Others (filling_others row h (site_token k site) target) (λ u. and_then Others (one Others tt) (λ won. either Others won (nothing Others) (one Others tt)))

  pub installing_others : (cell : CellWord) (target : ℕ) → Only Others (installing k site h cell target)
  unfolding installing
  installing_others Lookup target = and_then Others (claiming_others k) (installing_in_others target)
  installing_others Resolve target = nothing Others
  installing_others (Dispatch row) target = nothing Others

  patching_others : (row : ℕ) → Only Others (patching k site h row)
  unfolding patching unlinking
  patching_others row = and_then Others (one Others tt) (λ count. and_then Others room_others (λ room. either Others _ (and_then Others (one Others tt) (λ won. either Others won (retiring_others row) (nothing Others))) (nothing Others)))

  pub stubbing_others : (cell : CellWord) → Only Others (stubbing k site h cell)
  unfolding stubbing
  stubbing_others Lookup = nothing Others
  stubbing_others Resolve = nothing Others
  stubbing_others (Dispatch row) = and_then Others (one Others tt) (λ g. either Others _ (one Others tt) (and_then Others (patching_others row) (λ u. nothing Others)))

  -- ---- after the load of the cell no cell is loaded

  walking_by_no_cell : (cell : CellWord) (seen : Seen) (type : Result ℕ Unloaded) → Only NoCell (walking_by k site h cell seen type)
  unfolding walking_by
  walking_by_no_cell cell seen (Err u) = nothing NoCell
  walking_by_no_cell cell seen (Ok number) =
      and_then NoCell (only_weaker Others NoCell other_has_no_cell (caching_others k (site_token k site) h _)) (λ u. and_then NoCell (only_weaker Others NoCell other_has_no_cell (installing_others cell _)) (λ v. nothing NoCell))

  walking_no_cell : (cell : CellWord) (seen : Seen) → Only NoCell (walking k site h cell seen)
  unfolding walking
  walking_no_cell cell seen = and_then NoCell (one NoCell tt) (walking_by_no_cell cell seen)

  resolving_no_cell : (cell : CellWord) (expected : Option Handle) (found : Found) → Only NoCell (resolving_by k site h cell expected found)
  unfolding resolving_by
  resolving_no_cell cell expected (Hit target) = and_then NoCell (only_weaker Others NoCell other_has_no_cell (installing_others cell target)) (λ u. nothing NoCell)
  resolving_no_cell cell expected (Other g t) = walking_no_cell cell _
  resolving_no_cell cell expected Empty = walking_no_cell cell _

  pub later_no_cell : (cell : CellWord) (stubbed : Stubbed) → Only NoCell (answering_by k site h cell stubbed)
  unfolding answering_by finding
  later_no_cell cell (stub_hit target) = nothing NoCell
  later_no_cell cell (stub_miss expected) =
      and_then NoCell (and_then NoCell (one NoCell tt) (λ named. only_weaker Others NoCell other_has_no_cell (finding_in_others (site_token k site) h named))) (resolving_no_cell cell expected)

  -- ---- the parts of a call

  -- pin, the load of the cell, the look at its row, what comes after, and the end
  pub record CallParts (f : Fields) (trail : List TrailStep) (answer : Result Answer Unloaded) : Type 0 where
    pub pins : List TrailStep
    pub cell : TrailStep
    pub looks : List TrailStep
    pub later : List TrailStep
    pub ends : List TrailStep
    pub at_looks : Fields
    pub at_later : Fields
    pub stubbed : Stubbed
    pub whole : trail ≡ pins ++ cell ∷ (looks ++ (later ++ ends))
    pub pins_others : EachStep Others pins
    pub cell_is : cell.step.act ≡ LoadCell site
    pub looks_run : Runs k at_looks (stubbing k site h (unpacked_cell cell.step.found)) looks stubbed
    pub looks_others : EachStep Others looks
    pub later_run : Runs k at_later (answering_by k site h (unpacked_cell cell.step.found) stubbed) later answer
    pub ends_others : EachStep Others ends
    pub unpins : BeginsBy Unpin ends
    pub later_fields : at_later ≡ after_steps k f (pins ++ cell ∷ looks)

  answering_parts : (f : Fields) (cell : CellWord) (trail : List TrailStep) (answer : Result Answer Unloaded) → Runs k f (answering k site h cell) trail answer
      → TwoRuns Stubbed (Result Answer Unloaded) k f (stubbing k site h cell) (answering_by k site h cell) trail answer
  unfolding answering
  answering_parts f cell trail answer runs = splits k f (stubbing k site h cell) (answering_by k site h cell) trail answer runs

  -- the end: unpin and sweep
  leaving : Result Answer Unloaded → Program (Result Answer Unloaded)
  leaving answer = bind unpinning (λ u. bind (sweeping k) (λ swept. done answer))

  leaves : (f : Fields) (given : Result Answer Unloaded) (xs : List TrailStep) (answer : Result Answer Unloaded) → Runs k f (leaving given) xs answer → EachStep Others xs × (given ≡ answer) × BeginsBy Unpin xs
  unfolding leaving
  leaves f given xs answer runs =
      let d = splits k f unpinning _ xs answer runs in
      let unpin = one_load k f Unpin None (λ word. tt) d.prefix d.answer tt d.first in
      let g = after_steps k f d.prefix in
      let e = splits k g (sweeping k) _ d.rest answer d.second in
      let end = nothing_run k (after_steps k g e.prefix) e.rest given answer e.second in
      let same : xs ≡ d.prefix ++ (e.prefix ++ e.rest) = d.whole ∙ ap (λ (l : List TrailStep). d.prefix ++ l) e.whole in
      let no_more : EachStep Others e.rest = subst (EachStep Others) (sym end.0) tt in (
        subst (EachStep Others) (sym same) (each_append Others d.prefix (e.prefix ++ e.rest) (makes_only Others k f unpinning d.prefix d.answer (tt, λ word. tt) d.first)
            (each_append Others e.prefix e.rest (makes_only Others k g (sweeping k) e.prefix e.answer (sweeping_others k).only e.first) no_more)),
        end.1,
        record { first = unpin.step; after = d.rest; whole = d.whole ∙ ap (λ (l : List TrailStep). l ++ d.rest) unpin.is; first_is = unpin.act_is },
      )

  -- from the answering on
  answers : (f : Fields) (cell : CellWord) (x : TrailStep) (xs : List TrailStep) (answer : Result Answer Unloaded)
      → x.step.act ≡ LoadCell site → unpacked_cell x.step.found ≡ cell → Runs k (after_step k f x) (bind (answering k site h cell) leaving) xs answer → CallParts f (x ∷ xs) answer
  answers before cell x xs answer is reads runs =
      let f = after_step k before x in
      let c = splits k f (answering k site h cell) leaving xs answer runs in
      let s = answering_parts f cell c.prefix c.answer c.first in
      let end = leaves (after_steps k f c.prefix) c.answer c.rest answer c.second in
      record {
        pins = [];
        cell = x;
        looks = s.prefix;
        later = s.rest;
        ends = c.rest;
        at_looks = f;
        at_later = after_steps k f s.prefix;
        stubbed = s.answer;
        whole = ap (λ (l : List TrailStep). x ∷ l) (c.whole ∙ (ap (λ (l : List TrailStep). l ++ c.rest) s.whole ∙ append_assoc s.prefix s.rest c.rest));
        pins_others = tt;
        cell_is = is;
        looks_run = subst (λ (w : CellWord). Runs k f (stubbing k site h w) s.prefix s.answer) (sym reads) s.first;
        looks_others = makes_only Others k f (stubbing k site h cell) s.prefix s.answer (stubbing_others cell).only s.first;
        later_run = subst (λ (w : CellWord). Runs k (after_steps k f s.prefix) (answering_by k site h w s.answer) s.rest answer) (sym reads)
            (subst (Runs k (after_steps k f s.prefix) (answering_by k site h cell s.answer) s.rest) end.1 s.second);
        ends_others = end.0;
        unpins = end.2;
        later_fields = refl;
      }

  -- from the load of the cell on
  loads_cell : (f : Fields) (xs : List TrailStep) (answer : Result Answer Unloaded) → Runs k f (bind (reading_cell site) (λ cell. bind (answering k site h cell) leaving)) xs answer → CallParts f xs answer
  loads_cell f xs answer runs =
      let b = splits k f (reading_cell site) (λ cell. bind (answering k site h cell) leaving) xs answer runs in
      let cell = one_load k f (LoadCell site) None unpacked_cell b.prefix b.answer tt b.first in
      let same : xs ≡ cell.step ∷ b.rest = b.whole ∙ ap (λ (l : List TrailStep). l ++ b.rest) cell.is in
      let after : Runs k (after_step k f cell.step) (bind (answering k site h b.answer) leaving) b.rest answer =
      subst (λ (l : List TrailStep). Runs k (after_steps k f l) (bind (answering k site h b.answer) leaving) b.rest answer) cell.is b.second in
      subst (λ (l : List TrailStep). CallParts f l answer) (sym same) (answers f b.answer cell.step b.rest answer cell.act_is cell.answer after)

  pub call_parts : (f : Fields) (trail : List TrailStep) (answer : Result Answer Unloaded) → Runs k f (calling k site h) trail answer → CallParts f trail answer
  unfolding calling leaving
  call_parts f trail answer runs =
      let a = splits k f (pinning (Call site h)) _ trail answer runs in
      let p = loads_cell (after_steps k f a.prefix) a.rest answer a.second in
      record {
        pins = a.prefix ++ p.pins;
        cell = p.cell;
        looks = p.looks;
        later = p.later;
        ends = p.ends;
        at_looks = p.at_looks;
        at_later = p.at_later;
        stubbed = p.stubbed;
        whole = a.whole ∙ (ap (λ (l : List TrailStep). a.prefix ++ l) p.whole ∙ sym (append_assoc a.prefix p.pins (p.cell ∷ (p.looks ++ (p.later ++ p.ends)))));
        pins_others = each_append Others a.prefix p.pins (makes_only Others k f (pinning (Call site h)) a.prefix a.answer (pinning_others (Call site h)).only a.first) p.pins_others;
        cell_is = p.cell_is;
        looks_run = p.looks_run;
        looks_others = p.looks_others;
        later_run = p.later_run;
        ends_others = p.ends_others;
        unpins = p.unpins;
        later_fields = p.later_fields ∙ (sym (after_steps-append k f a.prefix (p.pins ++ p.cell ∷ p.looks)) ∙ ap (after_steps k f) (sym (append_assoc a.prefix p.pins (p.cell ∷ p.looks))));
      }

  -- a look at the bucket, and what comes after it
  pub record BucketParts (cell : CellWord) (expected : Option Handle) (later : List TrailStep) (answer : Result Answer Unloaded) : Type 0 where
    pub named : TrailStep
    pub entries : List TrailStep
    pub rest : List TrailStep
    pub at_entries : Fields
    pub at_rest : Fields
    pub found : Found
    pub whole : later ≡ named ∷ (entries ++ rest)
    pub named_is : named.step.act ≡ LoadBucket (bucket_of (site_token k site) h k.sizes.buckets)
    pub entries_run : Runs k at_entries (finding_in (site_token k site) h (unpacked_bucket named.step.found)) entries found
    pub entries_others : EachStep Others entries
    pub rest_run : Runs k at_rest (resolving_by k site h cell expected found) rest answer

  pub bucket_parts : (f : Fields) (cell : CellWord) (expected : Option Handle) (later : List TrailStep) (answer : Result Answer Unloaded)
      → Runs k f (answering_by k site h cell (stub_miss expected)) later answer → BucketParts cell expected later answer
  unfolding answering_by finding
  bucket_parts f cell expected later answer runs =
      let a = splits k f (finding k (site_token k site) h) (resolving_by k site h cell expected) later answer runs in
      let b = splits k f (looking (bucket_of (site_token k site) h k.sizes.buckets)) (finding_in (site_token k site) h) a.prefix a.answer a.first in
      let named = one_load k f (LoadBucket (bucket_of (site_token k site) h k.sizes.buckets)) None unpacked_bucket b.prefix b.answer tt b.first in
      record {
        named = named.step;
        entries = b.rest;
        rest = a.rest;
        at_entries = after_steps k f b.prefix;
        at_rest = after_steps k f a.prefix;
        found = a.answer;
        whole = a.whole ∙ ap (λ (l : List TrailStep). l ++ a.rest) (b.whole ∙ ap (λ (l : List TrailStep). l ++ b.rest) named.is);
        named_is = named.act_is;
        entries_run = subst (λ (o : Option ℕ). Runs k (after_steps k f b.prefix) (finding_in (site_token k site) h o) b.rest a.answer) (sym named.answer) b.second;
        entries_others = makes_only Others k (after_steps k f b.prefix) (finding_in (site_token k site) h b.answer) b.rest a.answer (finding_in_others (site_token k site) h b.answer).only b.second;
        rest_run = a.second;
      }
