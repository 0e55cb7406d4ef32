-- Each entry of a log agrees with what is known of its handles.
use Rattle.std.proofs.Common.{◌≡◌, ℕ, zero, suc, Bool, List, [], ◌∷◌, Ok, Err, inl, inr, sym, ◌∙◌, ap, subst}
use Rattle.std.specs.Int.{from_bool}
use mathlib.Core.Option.{some, some-injective, some-ne-none}
use mathlib.Core.Logic.{∥∥₁_elim, ∥∥₁_map}
use native.Mathlib.Nat.{ℕ_set}
use lib.ListN.{get_elem?}
use Rattle.vsd_words.specs.declared.handle.Handle.{Handle}
use Rattle.vsd_rule.specs.declared.key.Key.{Key}
use Rattle.vsd_rule.specs.declared.view.View.{View}
use Rattle.vsd_rule.specs.Lists.{site_token, target_of, compatible}
use Rattle.vsd_rule.specs.Facts.{Knows}
use Rattle.vsd_rule.specs.Evidence.{HasEvidence, HasCastEvidence}
use Rattle.vsd_rule.specs.Zones.{zones}
use Rattle.vsd_rule.specs.Rule.{Whole, Rule}
use Rattle.vsd_rule.proofs.Laws.{bindings_agree, evidence_agrees, cast_evidence_agrees}
use Rattle.vsd_table.specs.declared.seated.Seated.{Seated}
use Rattle.vsd_table.specs.Seating.{view_of}
use Rattle.vsd_trails.specs.Logs.{Entry, Log}
use Rattle.vsd_trails.specs.Operations.{Event, called, cast_to, loaded, unloaded, begun}
use Rattle.vsd_trails.specs.Laws.{HasLog}
use Rattle.vsd_trails.proofs.Logs.{one_log}
use Rattle.vsd_rows.specs.Makes.{steps_of}
use Rattle.vsd_core.specs.declared.caller.Caller.{Caller}
use Rattle.vsd_core.specs.Callers.{seat_of, known_by, LogIs}
use Rattle.vsd_core.specs.Resting.{IsShown, AreShown, Rests}
use Rattle.vsd_core.specs.Agreeing.{AgreesWith, AnswersAgree, OwnAnswersAgree}

-- ---- what a seat has evidence of agrees with what is known

-- All that the one view has evidence of, or knows, agrees with what the other knows.
pub record AgreesAll (k : Key) (v u : View) : Type 0 where
  pub bindings : (h : Handle) (number other : ℕ) → Knows v.handles h number → Knows u.handles h other → other ≡ number
  pub calls : (h : Handle) (token target number : ℕ) → HasEvidence v h token target → Knows u.handles h number → target ≡ target_of k number token
  pub casts : (source target : Handle) (given : Bool) (number other : ℕ) → HasCastEvidence v source target given → Knows u.handles source number → Knows u.handles target other → from_bool given ≡ compatible k number other

module _ (k : Key) (words : List ℕ) (views : List View) (r : Rule k words views) (seat other : ℕ) (v u : View) (at : get_elem? views seat ≡ some v) (there : get_elem? views other ≡ some u) where
  abbrev w : Whole k (zones k.sizes words) views
  w = r.whole

  calls_agree : (h : Handle) (token target number : ℕ) → HasEvidence v h token target → Knows u.handles h number → target ≡ target_of k number token
  calls_agree h token target number (inl known) knows =
      let same = bindings_agree k (zones k.sizes words) views w seat v at other u there h known.number number known.knows knows in
      known.answer ∙ (λ c. target_of (w.keyed seat v at c) (same c) token)
  calls_agree h token target number (inr has) knows = evidence_agrees k (zones k.sizes words) views w seat v at other u there has.0 number _ has.1 knows

  casts_agree : (source target : Handle) (given : Bool) (number third : ℕ) → HasCastEvidence v source target given → Knows u.handles source number → Knows u.handles target third → from_bool given ≡ compatible k number third
  casts_agree source target given number third (inl known) knows knows' =
      let same = bindings_agree k (zones k.sizes words) views w seat v at other u there source known.number number known.knows_source knows in
      let same' = bindings_agree k (zones k.sizes words) views w seat v at other u there target known.other third known.knows_target knows' in
      known.answer ∙ (λ c. compatible (w.keyed seat v at c) (same c) (same' c))
  casts_agree source target given number third (inr has) knows knows' = cast_evidence_agrees k (zones k.sizes words) views w seat v at other u there has.0 number third _ has.1 knows knows'

  by_rule : AgreesAll k v u
  by_rule = record {
    bindings = λ h number third knows knows'. sym (bindings_agree k (zones k.sizes words) views w seat v at other u there h number third knows knows');
    calls = calls_agree;
    casts = casts_agree;
  }

-- ---- so do the entries that it shows

module _ (k : Key) (v u : View) (key : v.key ≡ k) (agrees : AgreesAll k v u) where
  shown_agrees : (event : Event) → IsShown v event → AgreesWith k u event
  shown_agrees (called site h (Ok a)) shown = λ number knows. agrees.calls h (site_token k site) a.target number (subst (λ (q : Key). HasEvidence v h (site_token q site) a.target) key shown) knows
  shown_agrees (called site h (Err e)) shown = tt
  shown_agrees (cast_to source target (Ok a)) shown = λ number other knows knows'. agrees.casts source target a.yes number other shown knows knows'
  shown_agrees (cast_to source target (Err e)) shown = tt
  shown_agrees (loaded number h) shown = λ other knows. agrees.bindings h number other shown knows
  shown_agrees (unloaded h) shown = tt

-- equations of numbers come out of a truncation
come_out : (k : Key) (u : View) (event : Event) → ∥ AgreesWith k u event ∥₁ → AgreesWith k u event
come_out k u (called site h (Ok a)) t = λ number knows. ∥∥₁_elim t (ℕ_set _ _) (λ f. f number knows)
come_out k u (called site h (Err e)) t = tt
come_out k u (cast_to source target (Ok a)) t = λ number other knows knows'. ∥∥₁_elim t (ℕ_set _ _) (λ f. f number other knows knows')
come_out k u (cast_to source target (Err e)) t = tt
come_out k u (loaded number h) t = λ other knows. ∥∥₁_elim t (ℕ_set _ _) (λ f. f other knows)
come_out k u (unloaded h) t = tt

shown_there : (v : View) (entries : List (Entry Event)) → AreShown v entries → (i : ℕ) (x : Entry Event) → get_elem? entries i ≡ some x → IsShown v x.event
shown_there v [] are i x at = absurd (some-ne-none x (sym at))
shown_there v (y ∷ ys) are zero x at = subst (λ (e : Entry Event). IsShown v e.event) (some-injective y x at) are.0
shown_there v (y ∷ ys) are (suc i) x at = shown_there v ys are.1 i x at

pub entries_agree : (k : Key) (c : Caller) (u : View) → (known_by c).key ≡ k → AgreesAll k (known_by c) u → (entries : List (Entry Event)) → LogIs k c entries → (i : ℕ) (x : Entry Event) → get_elem? entries i ≡ some x → AgreesWith k u x.event
entries_agree k c u key agrees entries log i x at = come_out k u x.event (∥∥₁_map c.rests (λ (r : Rests (seat_of c)).
    let mine : HasLog k (steps_of (seat_of c)) r.entries = subst (λ (q : Key). HasLog q (steps_of (seat_of c)) r.entries) key r.log in
    let same : r.entries ≡ entries = ap (λ (l : Log Event). l.entries) (one_log Event k (begun k) (steps_of (seat_of c)) _ _ mine log) in
    shown_agrees k (known_by c) u key agrees x.event (shown_there (known_by c) entries (subst (AreShown (known_by c)) same r.shown) i x at)))

pub all_agree : AnswersAgree
all_agree k words views seat other i c v entries x rule at there log in_log =
    entries_agree k c v (rule.whole.keyed seat (known_by c) at) (by_rule k words views rule seat other (known_by c) v at there) entries log i x in_log

-- what a seat knows agrees with itself
by_seat : (k : Key) (s : Seated) → (view_of s).key ≡ k → AgreesAll k (view_of s) (view_of s)
by_seat k s key = record {
  bindings = λ h number other knows knows'. s.consistent.bindings h other number knows' knows;
  calls = λ h token target number evidence knows. s.consistent.calls h token target number evidence knows ∙ ap (λ (q : Key). target_of q number token) key;
  casts = λ source target given number other evidence knows knows'. s.consistent.casts source target given number other evidence knows knows' ∙ ap (λ (q : Key). compatible q number other) key;
}

pub own_agree : OwnAnswersAgree
own_agree k i c entries x key log at = entries_agree k c (known_by c) key (by_seat k (seat_of c) key) entries log i x at
