-- The entries of the four operations, and the programs that begin none.
use Rattle.std.proofs.Common.{◌≡◌, ℕ, zero, suc, ◌+◌, List, [], ◌∷◌, Some, None, refl}
use Rattle.vsd_words.specs.declared.handle.Handle.{Handle}
use Rattle.vsd_rule.specs.declared.key.Key.{Key}
use Rattle.vsd_rule.specs.declared.row_view.RetiredRow.{RetiredRow}
use Rattle.vsd_rule.specs.declared.step.Act.TheVariants.{Epoch, LoadRegion, Bind}
use Rattle.vsd_rule.specs.declared.step.Begins.TheVariants.{Operation, Cast}
use Rattle.vsd_rule.specs.declared.step.Doing.TheVariants.{Nothing, Call, Unload}
use Rattle.vsd_trails.specs.Programs.{Fields, TrailStep, Asked, Program, bind, Runs}
use Rattle.vsd_trails.specs.RowTrails.{pinning, unpinning, typing, passing, sweeping_oldest, sweeping}
use Rattle.vsd_trails.specs.CallTrails.{calling}
use Rattle.vsd_trails.specs.CastTrails.{finding_cast, casting}
use Rattle.vsd_trails.specs.UnloadTrails.{binding, unloading}
use Rattle.vsd_trails.specs.Operations.{Event, called, cast_to, loaded, unloaded, call_event, cast_event, load_event, unload_event, begun}
use Rattle.vsd_trails.specs.Laws.{AddsEntry, AddsNothing}
use Rattle.vsd_trails.proofs.Runs.{maps, makes_only}
use Rattle.vsd_trails.proofs.Asking.{Only, nothing, one, sees, and_then, either}
use Rattle.vsd_trails.proofs.Logs.{first_asked, adds_entry, passed_over}

-- ---- operations

module _ (k : Key) where
  call_first : (site : ℕ) (h : Handle) → first_asked (call_event k site h) ≡ Some (record { act = Epoch; begins = Some (Operation (Call site h)) })
  unfolding call_event calling pinning bind
  call_first site h = refl

  call_runs : (site : ℕ) (h : Handle) (f : Fields) (trail : List TrailStep) (answer : _) → Runs k f (calling k site h) trail answer → Runs k f (call_event k site h) trail (called site h answer)
  unfolding call_event
  call_runs site h f trail answer = maps k f (calling k site h) (called site h) trail answer

  pub adds_call : (site : ℕ) (h : Handle) → AddsEntry _ k (calling k site h) (called site h)
  adds_call site h f trail answer entries old log runs =
      adds_entry Event k (begun k) _ (call_event k site h) f trail (called site h answer) entries old (call_first site h) refl log (call_runs site h f trail answer runs)

  cast_first : (source target : Handle) → first_asked (cast_event k source target) ≡ Some (record { act = LoadRegion; begins = Some (Cast source target) })
  unfolding cast_event casting finding_cast bind
  cast_first source target = refl

  cast_runs : (source target : Handle) (f : Fields) (trail : List TrailStep) (answer : _) → Runs k f (casting k source target) trail answer → Runs k f (cast_event k source target) trail (cast_to source target answer)
  unfolding cast_event
  cast_runs source target f trail answer = maps k f (casting k source target) (cast_to source target) trail answer

  pub adds_cast : (source target : Handle) → AddsEntry _ k (casting k source target) (cast_to source target)
  adds_cast source target f trail answer entries old log runs =
      adds_entry Event k (begun k) _ (cast_event k source target) f trail (cast_to source target answer) entries old (cast_first source target) refl log (cast_runs source target f trail answer runs)

  load_first : (h : Handle) (number : ℕ) → first_asked (load_event k h.row h.generation number) ≡ Some (record { act = Bind h.row h.generation number; begins = None })
  unfolding load_event binding bind
  load_first h number = refl

  load_runs : (h : Handle) (number : ℕ) (f : Fields) (trail : List TrailStep) (answer : Handle) → Runs k f (binding h number) trail answer → Runs k f (load_event k h.row h.generation number) trail (loaded number answer)
  unfolding load_event
  load_runs h number f trail answer = maps k f (binding h number) (loaded number) trail answer

  pub adds_load : (h : Handle) (number : ℕ) → AddsEntry _ k (binding h number) (loaded number)
  adds_load h number f trail answer entries old log runs =
      adds_entry Event k (begun k) _ (load_event k h.row h.generation number) f trail (loaded number answer) entries old (load_first h number) refl log (load_runs h number f trail answer runs)

  unload_first : (h : Handle) → first_asked (unload_event k h) ≡ Some (record { act = Epoch; begins = Some (Operation (Unload h)) })
  unfolding unload_event unloading pinning bind
  unload_first h = refl

  unload_runs : (h : Handle) (f : Fields) (trail : List TrailStep) (answer : Unit {0}) → Runs k f (unloading k h) trail answer → Runs k f (unload_event k h) trail (unloaded h)
  unfolding unload_event
  unload_runs h f trail answer = maps k f (unloading k h) (λ u. unloaded h) trail answer

  pub adds_unload : (h : Handle) → AddsEntry _ k (unloading k h) (λ u. unloaded h)
  adds_unload h f trail answer entries old log runs =
      adds_entry Event k (begun k) _ (unload_event k h) f trail (unloaded h) entries old (unload_first h) refl log (unload_runs h f trail answer runs)

  -- ---- programs that begin nothing

  abbrev BeginsNothing : Asked → Type 0
  BeginsNothing c = begun k c ≡ None

  adds_none : {A : Type 0} (p : Program A) → Only BeginsNothing p → AddsNothing A k p
  adds_none p asks f trail answer entries old log runs = passed_over Event k (begun k) trail old entries (makes_only BeginsNothing k f p trail answer asks.only runs) log

  pin_begins_nothing : Only BeginsNothing (pinning Nothing)
  unfolding pinning
  pin_begins_nothing = and_then BeginsNothing (one BeginsNothing refl) (λ epoch. one BeginsNothing refl)

  passing_begins_nothing : (x : RetiredRow) (n caller : ℕ) → Only BeginsNothing (passing x n caller)
  unfolding passing
  passing_begins_nothing x zero caller = and_then BeginsNothing (one BeginsNothing refl) (λ u. nothing BeginsNothing)
  passing_begins_nothing x (suc n) caller = and_then BeginsNothing (one BeginsNothing refl) (λ word. either BeginsNothing _ (passing_begins_nothing x n (caller + 1)) (nothing BeginsNothing))

  oldest_begins_nothing : (limbo : List RetiredRow) → Only BeginsNothing (sweeping_oldest k limbo)
  oldest_begins_nothing [] = nothing BeginsNothing
  oldest_begins_nothing (x ∷ xs) = passing_begins_nothing x k.sizes.callers 0

  sweeping_begins_nothing : Only BeginsNothing (sweeping k)
  unfolding sweeping
  sweeping_begins_nothing = sees BeginsNothing (λ f. oldest_begins_nothing f.limbo)

  pub pin_adds_nothing : AddsNothing _ k (pinning Nothing)
  pin_adds_nothing = adds_none (pinning Nothing) pin_begins_nothing

  pub unpin_adds_nothing : AddsNothing _ k unpinning
  unpin_adds_nothing = adds_none unpinning (one BeginsNothing refl)

  pub learn_adds_nothing : (h : Handle) → AddsNothing _ k (typing h)
  learn_adds_nothing h = adds_none (typing h) (one BeginsNothing refl)

  pub sweep_adds_nothing : AddsNothing _ k (sweeping k)
  sweep_adds_nothing = adds_none (sweeping k) sweeping_begins_nothing
