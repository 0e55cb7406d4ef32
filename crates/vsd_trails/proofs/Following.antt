-- Programs in each of whose runs some steps are followed by their answers, and those answers stand nowhere else.
use Rattle.std.proofs.Common.{◌≡◌, ℕ, zero, suc, ◌+◌, min, Bool, true, false, List, [], ◌∷◌, ◌++◌, Option, Some, None, Result, Ok, Err, refl, sym, ap, subst}
use Rattle.vsd_words.specs.declared.handle.Handle.{Handle}
use Rattle.vsd_words.specs.declared.cell_word.CellWord.{CellWord}
use Rattle.vsd_words.specs.declared.cell_word.CellWord.TheVariants.{Lookup, Resolve, Dispatch}
use Rattle.vsd_rule.specs.declared.key.Key.{Key}
use Rattle.vsd_rule.specs.declared.row_view.RetiredRow.{RetiredRow}
use Rattle.vsd_rule.specs.declared.step.Act.{Act}
use Rattle.vsd_rule.specs.declared.step.Act.TheVariants.{Unbind, Count, ToResolve, ToLookup, PutBucket, EmptyBucket, EpochToRetire, Raise}
use Rattle.vsd_rule.specs.declared.step.Doing.{Doing}
use Rattle.vsd_rule.specs.declared.step.Doing.TheVariants.{Call, Unload}
use Rattle.vsd_rule.specs.Lists.{site_token}
use Rattle.vsd_trails.specs.declared.answers.Seen.{Seen}
use Rattle.vsd_trails.specs.declared.answers.Unloaded.{Unloaded}
use Rattle.vsd_trails.specs.declared.answers.Found.{Found}
use Rattle.vsd_trails.specs.declared.answers.Found.TheVariants.{Hit, Other, Empty}
use Rattle.vsd_trails.specs.Programs.{Fields, TrailStep, Asked, Program, done, look, ask, bind, asked_act, when◌then◌else◌, after_steps, Runs}
use Rattle.vsd_trails.specs.RowTrails.{pinning, claiming_row, claiming_from, claiming, filling, seeing_room, retiring_any, passing, sweeping_oldest, sweeping, unlinking, putting_row, emptying}
use Rattle.vsd_trails.specs.CallTrails.{finding_in, finding, caching_in, caching, Stubbed, stub_hit, stub_miss, patching, stubbing, installing_in, installing, walking_by, walking, resolving_by, answering_by, answering, calling}
use Rattle.vsd_trails.specs.UnloadTrails.{unbinding, purging_cell, purging_bucket, purging_cells, purging_buckets, unloading}
use Rattle.vsd_trails.specs.Following.{Follows}
use Rattle.vsd_trails.proofs.Runs.{splits}
use Rattle.vsd_trails.proofs.Loads.{IsNoUnbind, one_load, nothing_run}

-- ---- lists of steps

module _ (Due IsKind : TrailStep → Type 0) (Answers : TrailStep → TrailStep → Type 0) where
  -- a step after the one before it, if any
  abbrev pub Linked : Option TrailStep → TrailStep → Type 0
  Linked None y = IsKind y → ⊥
  Linked (Some x) y = (Due x → Answers x y) × (IsKind y → Due x × Answers x y)

  -- the steps that come after this one, if any
  abbrev pub Chain : List TrailStep → Option TrailStep → Type 0
  Chain [] None = Unit {0}
  Chain [] (Some x) = Due x → ⊥
  Chain (y ∷ ys) before = Linked before y × Chain ys (Some y)

  ended : (x : TrailStep) (ys : List TrailStep) → (Due x → ⊥) → Chain ys None → Chain ys (Some x)
  ended x [] none chain = none
  ended x (y ∷ ys) none chain = ((λ due. absurd (none due), λ is. absurd (chain.0 is)), chain.1)

  pub chains : (xs ys : List TrailStep) (before : Option TrailStep) → Chain xs before → Chain ys None → Chain (xs ++ ys) before
  chains [] ys None chain more = more
  chains [] ys (Some x) chain more = ended x ys chain more
  chains (x ∷ xs) ys before chain more = (chain.0, chains xs ys (Some x) chain.1 more)

  due_at : (before : List TrailStep) (x : TrailStep) (after : List TrailStep) (prev : Option TrailStep) → Chain (before ++ x ∷ after) prev → Due x
      → (y : TrailStep) × (more : List TrailStep) × (after ≡ y ∷ more) × Answers x y
  due_at [] x [] prev chain due = absurd (chain.1 due)
  due_at [] x (y ∷ ys) prev chain due = (y, ys, refl, chain.1.0.0 due)
  due_at (b ∷ bs) x after prev chain due = due_at bs x after (Some b) chain.1 due

  only_after : (p : TrailStep) (before : List TrailStep) (y : TrailStep) (after : List TrailStep) → Chain (before ++ y ∷ after) (Some p) → IsKind y
      → (earlier : List TrailStep) × (x : TrailStep) × (p ∷ before ≡ earlier ++ x ∷ []) × Due x × Answers x y
  only_after p [] y after chain is = let t = chain.0.1 is in ([], p, refl, t.0, t.1)
  only_after p (b ∷ bs) y after chain is = let t = only_after b bs y after chain.1 is in (p ∷ t.0, t.1, ap (λ (l : List TrailStep). p ∷ l) t.2, t.3, t.4)

  only_at : (before : List TrailStep) (y : TrailStep) (after : List TrailStep) → Chain (before ++ y ∷ after) None → IsKind y
      → (earlier : List TrailStep) × (x : TrailStep) × (before ≡ earlier ++ x ∷ []) × Due x × Answers x y
  only_at [] y after chain is = absurd (chain.0 is)
  only_at (b ∷ bs) y after chain is = only_after b bs y after chain.1 is

  pub follows : (trail : List TrailStep) → Chain trail None → Follows Due IsKind Answers trail
  follows trail chain = record {
    due = λ before x after whole due. due_at before x after None (subst (λ (l : List TrailStep). Chain l None) whole chain) due;
    only = λ before y after whole is. only_at before y after (subst (λ (l : List TrailStep). Chain l None) whole chain) is;
  }

-- ---- acts of which no law here speaks

abbrev pub IsQuiet : Act → Type 0
IsQuiet (Count token) = ⊥
IsQuiet (ToResolve site row) = ⊥
IsQuiet (ToLookup site row) = ⊥
IsQuiet (PutBucket bucket row) = ⊥
IsQuiet (EmptyBucket bucket) = ⊥
IsQuiet (EpochToRetire row) = ⊥
IsQuiet (Raise epoch) = ⊥
IsQuiet act = Unit {0}

quiet_act : (act : Act) → IsQuiet (asked_act act) → IsQuiet act
quiet_act (Unbind row generation number) q = tt
quiet_act act q = q

-- ---- programs

module _ (k : Key) (Due IsKind : TrailStep → Type 0) (Answers : TrailStep → TrailStep → Type 0) where
  -- each run of the program is a chain of its own
  pub record Closed {A : Type 0} (p : Program A) : Type 0 where
    pub each : (f : Fields) (xs : List TrailStep) (a : A) → Runs k f p xs a → Chain Due IsKind Answers xs None

  -- a step of which no law here speaks
  quiet_run : ((x : TrailStep) → IsQuiet x.step.act → Due x → ⊥) → ((x : TrailStep) → IsQuiet x.step.act → IsKind x → ⊥) → {A : Type 0} (c : Asked) (read : ℕ → A) → IsQuiet c.act
      → (f : Fields) (xs : List TrailStep) (a : A) → Runs k f (ask c (λ word. done (read word))) xs a → Chain Due IsKind Answers xs None
  quiet_run not_due not_kind c read q f [] a runs = absurd runs
  quiet_run not_due not_kind c read q f (x ∷ []) a runs =
      let calm : IsQuiet x.step.act = quiet_act x.step.act (subst (λ (d : Asked). IsQuiet d.act) (sym runs.0) q) in
      (not_kind x calm, not_due x calm)
  quiet_run not_due not_kind c read q f (x ∷ y ∷ ys) a runs = absurd runs.2

module _ {k : Key} {Due IsKind : TrailStep → Type 0} {Answers : TrailStep → TrailStep → Type 0} where
  pub nothing : {A : Type 0} {a : A} → Closed k Due IsKind Answers (done a)
  nothing {a = a} = record { each = λ f xs b runs. subst (λ (l : List TrailStep). Chain Due IsKind Answers l None) (sym (nothing_run k f xs a b runs).0) tt }

  pub sees : {A : Type 0} {p : Fields → Program A} → ((f : Fields) → Closed k Due IsKind Answers (p f)) → Closed k Due IsKind Answers (look p)
  sees each = record { each = λ f xs a runs. (each f).each f xs a runs }

  pub and_then : {A B : Type 0} {p : Program A} {g : A → Program B} → Closed k Due IsKind Answers p → ((a : A) → Closed k Due IsKind Answers (g a)) → Closed k Due IsKind Answers (bind p g)
  and_then {p = p} {g = g} first next = record {
    each = λ f xs b runs.
        let t = splits k f p g xs b runs in
        subst (λ (l : List TrailStep). Chain Due IsKind Answers l None) (sym t.whole)
        (chains Due IsKind Answers t.prefix t.rest None (first.each f t.prefix t.answer t.first) ((next t.answer).each (after_steps k f t.prefix) t.rest b t.second));
  }

  pub either : {A : Type 0} {p q : Program A} (b : Bool) → Closed k Due IsKind Answers p → Closed k Due IsKind Answers q → Closed k Due IsKind Answers (when b then p else q)
  unfolding when◌then◌else◌
  either true p q = p
  either false p q = q

  -- a step that is neither due nor an answer
  pub plain : {A : Type 0} (act : Act) {begins : _} {read : ℕ → A} → IsNoUnbind act → ((x : TrailStep) → x.step.act ≡ act → Due x → ⊥) → ((x : TrailStep) → x.step.act ≡ act → IsKind x → ⊥)
      → Closed k Due IsKind Answers (ask (record { act = act; begins = begins }) (λ word. done (read word)))
  plain act {begins} {read} bound not_due not_kind = record {
    each = λ f xs a runs.
        let x = one_load k f act begins read xs a bound runs in
        subst (λ (l : List TrailStep). Chain Due IsKind Answers l None) (sym x.is) (not_kind x.step x.act_is, not_due x.step x.act_is);
  }

  -- the steps of which no law here speaks
  module _ (not_due : (x : TrailStep) → IsQuiet x.step.act → Due x → ⊥) (not_kind : (x : TrailStep) → IsQuiet x.step.act → IsKind x → ⊥) where
    pub quiet : {A : Type 0} {c : Asked} {read : ℕ → A} → IsQuiet c.act → Closed k Due IsKind Answers (ask c (λ word. done (read word)))
    quiet {c = c} {read = read} q = record { each = quiet_run k Due IsKind Answers not_due not_kind c read q }

    pinned : (doing : Doing) → Closed k Due IsKind Answers (pinning doing)
    unfolding pinning
    pinned doing = and_then (quiet tt) (λ epoch. quiet tt)

    claimed_row : (row : ℕ) → Closed k Due IsKind Answers (claiming_row row)
    unfolding claiming_row
    claimed_row row = and_then (quiet tt) (λ free. either free (quiet tt) nothing)

    claimed_from : (n row : ℕ) → Closed k Due IsKind Answers (claiming_from k n row)
    unfolding claiming_from
    claimed_from zero row = nothing
    claimed_from (suc n) row = and_then (claimed_row row) (λ won. either won nothing (claimed_from n _))

    claimed : Closed k Due IsKind Answers (claiming k)
    unfolding claiming
    claimed = sees (λ f. claimed_from (min 8 k.sizes.rows) f.cursor)

    filled : (row : ℕ) (h : Handle) (token target : ℕ) → Closed k Due IsKind Answers (filling row h token target)
    unfolding filling
    filled row h token target = and_then (quiet tt) (λ a. and_then (quiet tt) (λ b. quiet tt))

    pub room_seen : Closed k Due IsKind Answers seeing_room
    room_seen = sees (λ f. nothing)

    passed : (x : RetiredRow) (n caller : ℕ) → Closed k Due IsKind Answers (passing x n caller)
    unfolding passing
    passed x zero caller = and_then (quiet tt) (λ u. nothing)
    passed x (suc n) caller = and_then (quiet tt) (λ word. either _ (passed x n (caller + 1)) nothing)

    oldest : (limbo : List RetiredRow) → Closed k Due IsKind Answers (sweeping_oldest k limbo)
    oldest [] = nothing
    oldest (x ∷ xs) = passed x k.sizes.callers 0

    swept : Closed k Due IsKind Answers (sweeping k)
    unfolding sweeping
    swept = sees (λ f. oldest f.limbo)

    found_in : (token : ℕ) (h : Handle) (named : Option ℕ) → Closed k Due IsKind Answers (finding_in token h named)
    found_in token h None = nothing
    found_in token h (Some row) = and_then (quiet tt) (λ g. and_then (quiet tt) (λ t. either _ (quiet tt) nothing))

    module _ (puts : (bucket row : ℕ) → Closed k Due IsKind Answers (bind (putting_row bucket row) retiring_any)) where
      cached_in : (token : ℕ) (h : Handle) (target : ℕ) (given : Option ℕ) → Closed k Due IsKind Answers (caching_in k token h target given)
      cached_in token h target None = nothing
      cached_in token h target (Some row) = and_then (filled row h token target) (λ u. puts _ row)

      cached : (token : ℕ) (h : Handle) (target : ℕ) → Closed k Due IsKind Answers (caching k token h target)
      unfolding caching
      cached token h target = and_then room_seen (λ room. either room (and_then claimed (cached_in token h target)) nothing)

      module _ (site : ℕ) (h : Handle) (patches : (row : ℕ) → Closed k Due IsKind Answers (patching k site h row)) where
        installed_in : (target : ℕ) (given : Option ℕ) → Closed k Due IsKind Answers (installing_in k site h target given)
        unfolding installing_in
        installed_in target None = nothing
        installed_in target (Some row) = and_then (filled row h (site_token k site) target) (λ u. and_then (quiet tt) (λ won. either won nothing (quiet tt)))

        installed : (cell : CellWord) (target : ℕ) → Closed k Due IsKind Answers (installing k site h cell target)
        unfolding installing
        installed Lookup target = and_then claimed (installed_in target)
        installed Resolve target = nothing
        installed (Dispatch row) target = nothing

        stubbed : (cell : CellWord) → Closed k Due IsKind Answers (stubbing k site h cell)
        unfolding stubbing
        stubbed Lookup = nothing
        stubbed Resolve = nothing
        stubbed (Dispatch row) = and_then (quiet tt) (λ g. either _ (quiet tt) (and_then (patches row) (λ u. nothing)))

        walked_by : (cell : CellWord) (seen : Seen) (type : Result ℕ Unloaded) → Closed k Due IsKind Answers (walking_by k site h cell seen type)
        unfolding walking_by
        walked_by cell seen (Err u) = nothing
        walked_by cell seen (Ok number) = and_then (cached (site_token k site) h _) (λ u. and_then (installed cell _) (λ v. nothing))

        walked : (cell : CellWord) (seen : Seen) → Closed k Due IsKind Answers (walking k site h cell seen)
        unfolding walking
        walked cell seen = and_then (quiet tt) (walked_by cell seen)

        resolved : (cell : CellWord) (expected : Option Handle) (found : Found) → Closed k Due IsKind Answers (resolving_by k site h cell expected found)
        unfolding resolving_by
        resolved cell expected (Hit target) = and_then (installed cell target) (λ u. nothing)
        resolved cell expected (Other g t) = walked cell _
        resolved cell expected Empty = walked cell _

        answered_by : (cell : CellWord) (look : Stubbed) → Closed k Due IsKind Answers (answering_by k site h cell look)
        unfolding answering_by finding
        answered_by cell (stub_hit target) = nothing
        answered_by cell (stub_miss expected) = and_then (and_then (quiet tt) (found_in (site_token k site) h)) (resolved cell expected)

        pub called : Closed k Due IsKind Answers (calling k site h)
        unfolding calling answering
        called = and_then (pinned (Call site h)) (λ u. and_then (quiet tt) (λ cell. and_then (and_then (stubbed cell) (answered_by cell)) (λ answer. and_then (quiet tt) (λ v. and_then swept (λ s. nothing)))))

    module _ (unlinks : (site row : ℕ) → Closed k Due IsKind Answers (unlinking (ToLookup site row) row)) (empties : (bucket : ℕ) → Closed k Due IsKind Answers (bind (emptying bucket) retiring_any)) (h : Handle) where
      cell_purged : (site : ℕ) (cell : CellWord) → Closed k Due IsKind Answers (purging_cell h site cell)
      unfolding purging_cell
      cell_purged site Lookup = nothing
      cell_purged site Resolve = nothing
      cell_purged site (Dispatch row) = and_then (quiet tt) (λ g. and_then room_seen (λ room. either _ (unlinks site row) nothing))

      bucket_purged : (bucket : ℕ) (named : Option ℕ) → Closed k Due IsKind Answers (purging_bucket h bucket named)
      unfolding purging_bucket
      bucket_purged bucket None = nothing
      bucket_purged bucket (Some row) = and_then (quiet tt) (λ g. and_then room_seen (λ room. either _ (empties bucket) nothing))

      cells_purged : (n site : ℕ) → Closed k Due IsKind Answers (purging_cells h n site)
      unfolding purging_cells
      cells_purged zero site = nothing
      cells_purged (suc n) site = and_then (quiet tt) (λ cell. and_then (cell_purged site cell) (λ u. cells_purged n (site + 1)))

      buckets_purged : (n bucket : ℕ) → Closed k Due IsKind Answers (purging_buckets h n bucket)
      unfolding purging_buckets
      buckets_purged zero bucket = nothing
      buckets_purged (suc n) bucket = and_then (quiet tt) (λ named. and_then (bucket_purged bucket named) (λ u. buckets_purged n (bucket + 1)))

      pub unloaded : Closed k Due IsKind Answers (unloading k h)
      unfolding unloading
      unloaded = and_then (pinned (Unload h)) (λ u. and_then (quiet tt) (λ v. and_then (cells_purged k.sizes.sites 0) (λ w. and_then (buckets_purged k.sizes.buckets 0) (λ x. and_then (quiet tt) (λ y. and_then swept (λ z. nothing))))))
