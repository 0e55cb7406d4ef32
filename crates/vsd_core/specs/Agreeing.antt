-- How an entry of a log agrees with what is known of its handles.
use Rattle.std.specs.Prelude.{◌≡◌, ℕ, List, IfOk}
use Rattle.std.specs.Int.{from_bool}
use mathlib.Core.Option.{some}
use lib.ListN.{get_elem?}
use Rattle.vsd_rule.specs.declared.key.Key.{Key}
use Rattle.vsd_rule.specs.declared.view.View.{View}
use Rattle.vsd_rule.specs.Lists.{site_token, target_of, compatible}
use Rattle.vsd_rule.specs.Facts.{Knows}
use Rattle.vsd_rule.specs.Rule.{Rule}
use Rattle.vsd_trails.specs.Logs.{Entry}
use Rattle.vsd_trails.specs.Operations.{Event, called, cast_to, loaded, unloaded}
use Rattle.vsd_core.specs.declared.caller.Caller.{Caller}
use Rattle.vsd_core.specs.Callers.{known_by, LogIs}

-- What was answered is the world's answer for each type that the view knows the handles to name: the target of a call, the answer of a cast.
-- A handle that was loaded is known to name the type that was loaded, and no other.
abbrev pub AgreesWith : Key → View → Event → Type 0
AgreesWith k v (called site h answer) = IfOk answer (λ a. (number : ℕ) → Knows v.handles h number → a.target ≡ target_of k number (site_token k site))
AgreesWith k v (cast_to source target answer) =
    IfOk answer (λ a. (number other : ℕ) → Knows v.handles source number → Knows v.handles target other → from_bool a.yes ≡ compatible k number other)
AgreesWith k v (loaded number h) = (other : ℕ) → Knows v.handles h other → other ≡ number
AgreesWith k v (unloaded h) = Unit {0}

-- so does each entry of each caller's log with what anyone knows, wherever the rule holds
abbrev pub AnswersAgree : Type 0
AnswersAgree = (k : Key) (words : List ℕ) (views : List View) (seat other i : ℕ) (c : Caller) (v : View) (entries : List (Entry Event)) (x : Entry Event)
    → Rule k words views → get_elem? views seat ≡ some (known_by c) → get_elem? views other ≡ some v → LogIs k c entries → get_elem? entries i ≡ some x
    → AgreesWith k v x.event

-- and with what the caller itself knows, whatever it has learnt since
abbrev pub OwnAnswersAgree : Type 0
OwnAnswersAgree = (k : Key) (i : ℕ) (c : Caller) (entries : List (Entry Event)) (x : Entry Event) → (known_by c).key ≡ k → LogIs k c entries → get_elem? entries i ≡ some x → AgreesWith k (known_by c) x.event
