-- Each row that came out of a cell or a bucket enters limbo by the next step, and the epoch is raised right after that.
use Rattle.std.proofs.Common.{◌≡◌, ◌⊎◌, inl, inr, ℕ, zero, suc, ◌+◌, ◌^◌, ◌<◌, Bool, true, false, nat_eq, nat_lt, List, [], ◌∷◌, ◌++◌, append-nil, Option, Some, None, Result, refl, sym, ◌∙◌, ap, subst, ⊎_elim, arith}
use Rattle.std.proofs.lemmas.Bool.{ltb-true, ltb-false, eqb-true, eqb-false}
use Rattle.vsd_words.specs.declared.handle.Handle.{Handle}
use Rattle.vsd_rule.specs.declared.key.Key.{Key}
use Rattle.vsd_rule.specs.declared.step.Act.{Act}
use Rattle.vsd_rule.specs.declared.step.Act.TheVariants.{Count, ToResolve, ToLookup, PutBucket, EmptyBucket, EpochToRetire, Raise}
use Rattle.vsd_rule.specs.Lists.{site_token}
use Rattle.vsd_trails.specs.declared.answers.Answer.{Answer}
use Rattle.vsd_trails.specs.declared.answers.Unloaded.{Unloaded}
use Rattle.vsd_trails.specs.Programs.{Fields, TrailStep, Program, done, ask, bind, when◌then◌else◌, after_steps, Runs}
use Rattle.vsd_trails.specs.Words.{unpacked_bucket}
use Rattle.vsd_trails.specs.RowTrails.{reading, loading, trying, making, retiring, retiring_any, unlinking, putting_row, emptying}
use Rattle.vsd_trails.specs.CallTrails.{counting, patching, calling}
use Rattle.vsd_trails.specs.UnloadTrails.{unloading}
use Rattle.vsd_trails.specs.Following.{TakesOut, CameOut, Retires, SomeCameOut, RetiresSome, RetiresRows, RetiresIts, RetiresBelowEnd, RaisesSome, RaisesIts, RaisesEpoch}
use Rattle.vsd_trails.proofs.Runs.{splits}
use Rattle.vsd_trails.proofs.Loads.{IsNoUnbind, one_load, nothing_run, branch}
use Rattle.vsd_trails.proofs.Following.{Chain, follows, IsQuiet, Closed, nothing, sees, and_then, either, plain, quiet, room_seen, called, unloaded}

-- ---- a retirement

-- the load of the epoch at which the row enters limbo, and the exchange of the epoch where it can rise
record Retirement (row : ℕ) (xs : List TrailStep) : Type 0 where
  load : TrailStep
  load_is : load.step.act ≡ EpochToRetire row
  how : ((raise : TrailStep) × (xs ≡ load ∷ raise ∷ []) × (load.step.found < 2 ^ 62) × (raise.step.act ≡ Raise load.step.found))
      ⊎ ((xs ≡ load ∷ []) × (load.step.found < 2 ^ 62 → ⊥))

not_below : (a b : ℕ) → nat_lt a b ≡ false → a < b → ⊥
not_below a b is less = let clash = ltb-false a b is in absurd (omega arith)

retirement : (k : Key) (f : Fields) (row : ℕ) (xs : List TrailStep) (u : Unit {0}) → Runs k f (retiring row) xs u → Retirement row xs
unfolding retiring
retirement k f row xs u runs =
    let a = splits k f (loading (EpochToRetire row)) _ xs u runs in
    let load = one_load k f (EpochToRetire row) None (λ word. word) a.prefix a.answer tt a.first in
    let g = after_steps k f a.prefix in
    let whole : xs ≡ load.step ∷ a.rest = a.whole ∙ ap (λ (l : List TrailStep). l ++ a.rest) load.is in
    record {
      load = load.step;
      load_is = load.act_is;
      how = ⊎_elim
          (λ low.
          let raise = one_load k g (Raise a.answer) None (λ word. tt) a.rest u tt low.1 in
          inl (
            raise.step,
            whole ∙ ap (λ (l : List TrailStep). load.step ∷ l) raise.is,
            subst (λ (n : ℕ). n < 2 ^ 62) (sym load.answer) (ltb-true a.answer (2 ^ 62) low.0),
            raise.act_is ∙ ap (λ (n : ℕ). Raise n) (sym load.answer),
          ))
          (λ high.
          let e = nothing_run k g a.rest tt u high.1 in
          inr (
            whole ∙ ap (λ (l : List TrailStep). load.step ∷ l) e.0,
            λ less. not_below a.answer (2 ^ 62) high.0 (subst (λ (n : ℕ). n < 2 ^ 62) load.answer less),
          ))
          (branch k g (nat_lt a.answer (2 ^ 62)) _ _ a.rest u a.second);
    }

-- an act that is another one
abbrev IsNoRetire : Act → Type 0
IsNoRetire (EpochToRetire row) = ⊥
IsNoRetire act = Unit {0}

abbrev IsNoRaise : Act → Type 0
IsNoRaise (Raise epoch) = ⊥
IsNoRaise act = Unit {0}

-- ---- the epoch

module _ (k : Key) where
  abbrev Raised : {A : Type 0} → Program A → Type 0
  Raised p = Closed k RetiresBelowEnd RaisesSome RaisesIts p

  no_due : (x : TrailStep) (act : Act) → x.step.act ≡ act → IsNoRetire act → RetiresBelowEnd x → ⊥
  no_due x act is none due = subst IsNoRetire (sym is ∙ due.retires.1) none

  no_raise : (x : TrailStep) (act : Act) → x.step.act ≡ act → IsNoRaise act → RaisesSome x → ⊥
  no_raise x act is none raises = subst IsNoRaise (sym is ∙ raises.1) none

  quiet_due : (x : TrailStep) → IsQuiet x.step.act → RetiresBelowEnd x → ⊥
  quiet_due x calm due = subst IsQuiet due.retires.1 calm

  quiet_raise : (x : TrailStep) → IsQuiet x.step.act → RaisesSome x → ⊥
  quiet_raise x calm raises = subst IsQuiet raises.1 calm

  -- a step that neither retires a row nor raises the epoch
  neither : {A : Type 0} (act : Act) {begins : _} {read : ℕ → A} → IsNoUnbind act → IsNoRetire act → IsNoRaise act → Raised (ask (record { act = act; begins = begins }) (λ word. done (read word)))
  neither act bound retire raise = plain act bound (λ x is. no_due x act is retire) (λ x is. no_raise x act is raise)

  raised : (row : ℕ) → Raised (retiring row)
  raised row = record {
    each = λ f xs u runs.
        let r = retirement k f row xs u runs in
        let first : RaisesSome r.load → ⊥ = no_raise r.load (EpochToRetire row) r.load_is tt in
        ⊎_elim
        (λ low. subst (λ (l : List TrailStep). Chain RetiresBelowEnd RaisesSome RaisesIts l None) (sym low.1)
        (first, (((λ due. low.3), λ is. (record { retires = (row, r.load_is); below = low.2 }, low.3)), no_due low.0 (Raise r.load.step.found) low.3 tt)))
        (λ high. subst (λ (l : List TrailStep). Chain RetiresBelowEnd RaisesSome RaisesIts l None) (sym high.0) (first, λ due. high.1 due.below))
        r.how;
  }

  raised_any : (out : Option ℕ) → Raised (retiring_any out)
  raised_any None = nothing
  raised_any (Some row) = raised row

  raised_puts : (bucket row : ℕ) → Raised (bind (putting_row bucket row) retiring_any)
  raised_puts bucket row = and_then (neither (PutBucket bucket row) tt tt tt) raised_any

  raised_empties : (bucket : ℕ) → Raised (bind (emptying bucket) retiring_any)
  raised_empties bucket = and_then (neither (EmptyBucket bucket) tt tt tt) raised_any

  raised_unlinks : (site row : ℕ) → Raised (unlinking (ToLookup site row) row)
  unfolding unlinking
  raised_unlinks site row = and_then (neither (ToLookup site row) tt tt tt) (λ won. either won (raised row) nothing)

  raised_resolves : (site row : ℕ) → Raised (unlinking (ToResolve site row) row)
  unfolding unlinking
  raised_resolves site row = and_then (neither (ToResolve site row) tt tt tt) (λ won. either won (raised row) nothing)

  raised_patches : (site : ℕ) (h : Handle) (row : ℕ) → Raised (patching k site h row)
  unfolding patching
  raised_patches site h row = and_then (neither (Count (site_token k site)) tt tt tt) (λ count. and_then (room_seen quiet_due quiet_raise) (λ room. either _ (raised_resolves site row) nothing))

  pub call_raises : (site : ℕ) (h : Handle) (f : Fields) (trail : List TrailStep) (answer : Result Answer Unloaded) → Runs k f (calling k site h) trail answer → RaisesEpoch trail
  call_raises site h f trail answer runs =
      let closed = called quiet_due quiet_raise raised_puts site h (raised_patches site h) in
      follows RetiresBelowEnd RaisesSome RaisesIts trail (closed.each f trail answer runs)

  pub unload_raises : (h : Handle) (f : Fields) (trail : List TrailStep) (u : Unit {0}) → Runs k f (unloading k h) trail u → RaisesEpoch trail
  unload_raises h f trail u runs =
      let closed = unloaded quiet_due quiet_raise raised_unlinks raised_empties h in
      follows RetiresBelowEnd RaisesSome RaisesIts trail (closed.each f trail u runs)

-- ---- rows that came out

abbrev IsNoOut : Act → Type 0
IsNoOut (ToResolve site row) = ⊥
IsNoOut (ToLookup site row) = ⊥
IsNoOut (PutBucket bucket row) = ⊥
IsNoOut (EmptyBucket bucket) = ⊥
IsNoOut act = Unit {0}

takes_none : (act : Act) (found row : ℕ) → IsNoOut act → TakesOut act found row → ⊥
takes_none (ToResolve site from) found row none out = none
takes_none (ToLookup site from) found row none out = none
takes_none (PutBucket bucket new) found row none out = none
takes_none (EmptyBucket bucket) found row none out = none
takes_none act found row none out = out

quiet_no_out : (act : Act) → IsQuiet act → IsNoOut act
quiet_no_out (ToResolve site row) calm = calm
quiet_no_out (ToLookup site row) calm = calm
quiet_no_out (PutBucket bucket row) calm = calm
quiet_no_out (EmptyBucket bucket) calm = calm
quiet_no_out act calm = tt

none_in : (word row : ℕ) → unpacked_bucket word ≡ None → word ≡ row + 1 → ⊥
none_in zero row read is = absurd (omega arith)
none_in (suc n) row read is = absurd (cc)

some_in : (word row : ℕ) → unpacked_bucket word ≡ Some row → word ≡ row + 1
some_in zero row read = absurd (cc)
some_in (suc n) row read = let same : n ≡ row = cc in omega arith

module _ (k : Key) where
  abbrev Retired : {A : Type 0} → Program A → Type 0
  Retired p = Closed k SomeCameOut RetiresSome RetiresIts p

  abbrev Out : List TrailStep → Option TrailStep → Type 0
  Out xs before = Chain SomeCameOut RetiresSome RetiresIts xs before

  none_out : (x : TrailStep) (act : Act) → x.step.act ≡ act → IsNoOut act → SomeCameOut x → ⊥
  none_out x act is none out = takes_none act x.step.found out.0 none (subst (λ (a : Act). TakesOut a x.step.found out.0) is out.1)

  no_retire : (x : TrailStep) (act : Act) → x.step.act ≡ act → IsNoRetire act → RetiresSome x → ⊥
  no_retire x act is none retires = subst IsNoRetire (sym is ∙ retires.1) none

  quiet_out : (x : TrailStep) → IsQuiet x.step.act → SomeCameOut x → ⊥
  quiet_out x calm out = takes_none x.step.act x.step.found out.0 (quiet_no_out x.step.act calm) out.1

  quiet_retire : (x : TrailStep) → IsQuiet x.step.act → RetiresSome x → ⊥
  quiet_retire x calm retires = subst IsQuiet retires.1 calm

  -- a row came out, and was retired
  retired_next : (x : TrailStep) (ys : List TrailStep) (row : ℕ) → (RetiresSome x → ⊥) → CameOut row x → Retirement row ys → Out (x ∷ ys) None
  retired_next x ys row other out r =
      let link : (SomeCameOut x → RetiresIts x r.load) × (RetiresSome r.load → SomeCameOut x × RetiresIts x r.load) =
      ((λ due. (row, out, r.load_is)), λ is. ((row, out), (row, out, r.load_is))) in
      let none : SomeCameOut r.load → ⊥ = none_out r.load (EpochToRetire row) r.load_is tt in
      ⊎_elim
      (λ low. subst (λ (l : List TrailStep). Out (x ∷ l) None) (sym low.1)
      (other, (link, (((λ due. absurd (none due)), λ is. absurd (no_retire low.0 (Raise r.load.step.found) low.3 tt is)), none_out low.0 (Raise r.load.step.found) low.3 tt))))
      (λ high. subst (λ (l : List TrailStep). Out (x ∷ l) None) (sym high.0) (other, (link, none)))
      r.how

  -- no row came out
  retired_none : (x : TrailStep) (ys : List TrailStep) → (RetiresSome x → ⊥) → (SomeCameOut x → ⊥) → ys ≡ [] → Out (x ∷ ys) None
  retired_none x ys other none ends = subst (λ (l : List TrailStep). Out (x ∷ l) None) (sym ends) (other, none)

  -- an exchange that takes the row out where it is won
  retired_exchange : (act : Act) (row : ℕ) → IsNoUnbind act → IsNoRetire act → ((found : ℕ) → found ≡ 2 + row → TakesOut act found row) → ((found r : ℕ) → TakesOut act found r → found ≡ 2 + row) → Retired (unlinking act row)
  unfolding unlinking
  retired_exchange act row bound other takes taken = record {
    each = λ f xs u runs.
        let a = splits k f (trying act (2 + row)) (λ won. when won then retiring row else done tt) xs u runs in
        let x = one_load k f act None (λ word. nat_eq word (2 + row)) a.prefix a.answer bound a.first in
        let g = after_steps k f a.prefix in
        let whole : xs ≡ x.step ∷ a.rest = a.whole ∙ ap (λ (l : List TrailStep). l ++ a.rest) x.is in
        let none : RetiresSome x.step → ⊥ = no_retire x.step act x.act_is other in
        subst (λ (l : List TrailStep). Out l None) (sym whole)
        (⊎_elim
        (λ won. retired_next x.step a.rest row none
        (subst (λ (c : Act). TakesOut c x.step.step.found row) (sym x.act_is) (takes x.step.step.found (eqb-true x.step.step.found (2 + row) (x.answer ∙ won.0))))
        (retirement k g row a.rest u won.1))
        (λ lost. retired_none x.step a.rest none
        (λ out. eqb-false x.step.step.found (2 + row) (x.answer ∙ lost.0) (taken x.step.step.found out.0 (subst (λ (c : Act). TakesOut c x.step.step.found out.0) x.act_is out.1)))
        (nothing_run k g a.rest tt u lost.1).0)
        (branch k g a.answer _ _ a.rest u a.second));
  }

  -- a swap that takes out the row that the bucket named
  retired_swap : (act : Act) → IsNoUnbind act → IsNoRetire act → ((found row : ℕ) → found ≡ row + 1 → TakesOut act found row) → ((found row : ℕ) → TakesOut act found row → found ≡ row + 1)
      → Retired (bind (reading act unpacked_bucket) retiring_any)
  retired_swap act bound other takes taken = record {
    each = λ f xs u runs.
        let a = splits k f (reading act unpacked_bucket) retiring_any xs u runs in
        let x = one_load k f act None unpacked_bucket a.prefix a.answer bound a.first in
        let whole : xs ≡ x.step ∷ a.rest = a.whole ∙ ap (λ (l : List TrailStep). l ++ a.rest) x.is in
        subst (λ (l : List TrailStep). Out l None) (sym whole)
        (by_named (after_steps k f a.prefix) x.step x.act_is (no_retire x.step act x.act_is other) a.rest u a.answer x.answer a.second);
  }
    where
      by_named : (g : Fields) (x : TrailStep) → x.step.act ≡ act → (RetiresSome x → ⊥) → (ys : List TrailStep) (u : Unit {0}) (named : Option ℕ) → unpacked_bucket x.step.found ≡ named
          → Runs k g (retiring_any named) ys u → Out (x ∷ ys) None
      by_named g x is none ys u None read runs =
          retired_none x ys none (λ out. none_in x.step.found out.0 read (taken x.step.found out.0 (subst (λ (c : Act). TakesOut c x.step.found out.0) is out.1))) (nothing_run k g ys tt u runs).0
      by_named g x is none ys u (Some row) read runs =
          retired_next x ys row none (subst (λ (c : Act). TakesOut c x.step.found row) (sym is) (takes x.step.found row (some_in x.step.found row read))) (retirement k g row ys u runs)

  retired_puts : (bucket row : ℕ) → Retired (bind (putting_row bucket row) retiring_any)
  retired_puts bucket row = retired_swap (PutBucket bucket row) tt tt (λ found r is. is) (λ found r is. is)

  retired_empties : (bucket : ℕ) → Retired (bind (emptying bucket) retiring_any)
  retired_empties bucket = retired_swap (EmptyBucket bucket) tt tt (λ found r is. is) (λ found r is. is)

  retired_unlinks : (site row : ℕ) → Retired (unlinking (ToLookup site row) row)
  retired_unlinks site row = retired_exchange (ToLookup site row) row tt tt (λ found is. (refl, is)) (λ found r out. out.1)

  retired_patches : (site : ℕ) (h : Handle) (row : ℕ) → Retired (patching k site h row)
  unfolding patching
  retired_patches site h row =
      and_then (plain (Count (site_token k site)) tt (λ x is. none_out x (Count (site_token k site)) is tt) (λ x is. no_retire x (Count (site_token k site)) is tt))
      (λ count. and_then (room_seen quiet_out quiet_retire) (λ room. either _ (retired_exchange (ToResolve site row) row tt tt (λ found is. (refl, is)) (λ found r out. out.1)) nothing))

  pub call_retires : (site : ℕ) (h : Handle) (f : Fields) (trail : List TrailStep) (answer : Result Answer Unloaded) → Runs k f (calling k site h) trail answer → RetiresRows trail
  call_retires site h f trail answer runs =
      let closed = called quiet_out quiet_retire retired_puts site h (retired_patches site h) in
      follows SomeCameOut RetiresSome RetiresIts trail (closed.each f trail answer runs)

  pub unload_retires : (h : Handle) (f : Fields) (trail : List TrailStep) (u : Unit {0}) → Runs k f (unloading k h) trail u → RetiresRows trail
  unload_retires h f trail u runs =
      let closed = unloaded quiet_out quiet_retire retired_unlinks retired_empties h in
      follows SomeCameOut RetiresSome RetiresIts trail (closed.each f trail u runs)
