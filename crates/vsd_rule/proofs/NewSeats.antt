-- What a seat that has made no step knows is true, by each part of the rule.
use Rattle.std.proofs.Common.{◌≡◌, ◌≢◌, ℕ, zero, suc, ◌+◌, ◌<◌, ◌≤◌, List, [], ◌∷◌, length, get_or, ap, sym, refl, ◌∙◌, subst, arith, Option, Some}
use mathlib.Core.Option.{some, some-ne-none, some-injective}
use lib.ListN.{get_elem?}
use Rattle.std.proofs.lemmas.List.{length-replicate, get_or-replicate}
use Rattle.vsd_words.specs.declared.handle_word.HandleWord.{HandleWord}
use Rattle.vsd_rule.specs.declared.key.Key.{Key}
use Rattle.vsd_rule.specs.declared.row_view.Keeping.{Keeping}
use Rattle.vsd_rule.specs.declared.view.Who.{Who}
use Rattle.vsd_rule.specs.declared.view.Who.TheVariants.{Caller}
use Rattle.vsd_rule.specs.Layout.{handle_rows, first_row, cast_rows}
use Rattle.vsd_rule.specs.Lists.{LawfulKey, host_type}
use Rattle.vsd_rule.specs.Handles.{blank_word, host_word, handle, binding_for, AreBindings, IsBinding, HandleRow, KnowsWords, TrueHandleView}
use Rattle.vsd_rule.specs.Rows.{RowState, kept, Content, Pins, TrueRowView}
use Rattle.vsd_rule.specs.Casts.{CastContent, TrueCastView}
use Rattle.vsd_rule.specs.Moves.{host_bindings, opening_handle_view, opening_row_view, opening_cast_view}

-- the only one of a list
pub only : {A : Type 0} (a b : A) (i : ℕ) → get_elem? (a ∷ []) i ≡ some b → (i ≡ 0) × (a ≡ b)
only a b zero e = (refl, some-injective a b e)
only a b (suc i) e = absurd (some-ne-none b (sym e))

pub none_there : {A : Type 0} (a : A) (i : ℕ) → get_elem? [] i ≡ some a → ⊥
none_there a i e = some-ne-none a (sym e)

module _ (k : Key) (gen : ℕ → ℕ) (name : ℕ → ℕ → ℕ) where
  -- the hosts' bindings are true, where each host row is bound to its type from generation 1 on
  pub are_host_bindings : (from : ℕ) (numbers : List ℕ) → ((i : ℕ) → i < length numbers → IsBinding k gen name (binding_for (handle (from + i) 1) (get_or numbers i 0)))
      → AreBindings k gen name (host_bindings from numbers)
  are_host_bindings from [] each = tt
  are_host_bindings from (number ∷ numbers) each =
      let here : IsBinding k gen name (binding_for (handle from 1) number) = subst (λ (row : ℕ). IsBinding k gen name (binding_for (handle row 1) number)) (omega arith) (each 0 (omega arith)) in
      let others = λ (i : ℕ) (h : i < length numbers). subst (λ (row : ℕ). IsBinding k gen name (binding_for (handle row 1) (get_or numbers i 0))) (omega arith) (each (suc i) (omega arith)) in
      (here, are_host_bindings (from + 1) numbers others)

  module _ (handle_word_of : ℕ → HandleWord) where
    pub host_is_binding : LawfulKey k → (host : ℕ) → host < k.sizes.hosts → HandleRow k gen name handle_word_of host → handle_word_of host ≡ host_word k host
        → IsBinding k gen name (binding_for (handle host 1) (host_type k host))
    host_is_binding lawful host h row is =
        let one : gen host ≡ 1 = sym row.generation ∙ ap (λ (w : HandleWord). w.generation) is in
        let number : host_type k host ≡ name host (gen host) = sym (ap (λ (w : HandleWord). w.number) is) ∙ row.number (omega arith) in
        record {
          bound = record { row = omega arith; some = omega arith; old = omega arith };
          number = number ∙ ap (name host) one;
          typed = lawful.types host h;
        }

    -- what a new seat knows of handles is true, whosesoever it is
    pub new_true_handle_view : LawfulKey k → (who : Who) → ((row : ℕ) → row < handle_rows k.sizes → HandleRow k gen name handle_word_of row)
        → ((host : ℕ) → host < k.sizes.hosts → handle_word_of host ≡ host_word k host)
        → KnowsWords k gen name handle_word_of who (opening_handle_view k) → TrueHandleView k gen name handle_word_of (record { who = who; handles = opening_handle_view k })
    new_true_handle_view lawful who rows hosts words =
        let each = λ (i : ℕ) (h : i < length k.world.host_types).
        let j : i < k.sizes.hosts = omega (arith, lawful.hosts) in
        let at : 0 + i ≡ i = omega arith in
        subst (λ (row : ℕ). IsBinding k gen name (binding_for (handle row 1) (host_type k i))) (sym at) (host_is_binding lawful i j (rows i (omega arith)) (hosts i j)) in
        record { bindings = are_host_bindings 0 k.world.host_types each; words = words }

    -- a caller's own words are blank at first
    pub new_words : (number : ℕ) → ((row : ℕ) → first_row k.sizes number ≤ row → row < handle_rows k.sizes → handle_word_of row ≡ blank_word) → number < k.sizes.callers
        → KnowsWords k gen name handle_word_of (Caller number) (opening_handle_view k)
    new_words number blank h =
        (length-replicate 64 blank_word, λ i small. get_or-replicate 64 i blank_word blank_word small ∙ sym (blank (first_row k.sizes number + i) (omega arith) (omega arith)))

  module _ (state : ℕ → RowState) (content : ℕ → Content) (epoch : ℕ) (pins : List ℕ) (seat : ℕ) where
    -- a seat that isn't pinned and keeps no row
    pub new_true_row_view : (who : Who) (cursor : ℕ) → Pins k pins who 0 → (0 < k.sizes.rows → cursor < k.sizes.rows)
        → ((row : ℕ) (keeping : Keeping) → row < k.sizes.rows → state row ≢ kept seat keeping)
        → TrueRowView k gen name state content epoch pins seat (record { who = who; rows = opening_row_view cursor })
    new_true_row_view who cursor pin in_range elsewhere = record {
      pin = pin;
      pinned = omega arith;
      loaded = tt;
      cursor = in_range;
      keepings = λ row h keeping. elsewhere row keeping h;
      stored = λ row f h e. absurd (cc);
      limbo = λ i x e. absurd (none_there x i e);
      once = λ i j x y e f same. absurd (none_there x i e);
      room = omega arith;
      passed = omega arith;
      protects = λ h. tt;
      evidences = tt;
    }

  module _ (writer : ℕ → Option ℕ) (content : ℕ → CastContent) (words : List ℕ) (seat : ℕ) where
    -- a seat that has no cast row
    pub new_true_cast_view : ((row : ℕ) → row < cast_rows k.sizes → writer row ≢ Some seat) → TrueCastView k gen name writer content words seat opening_cast_view
    new_true_cast_view elsewhere = record { probe = tt; writes = elsewhere; evidences = tt }
