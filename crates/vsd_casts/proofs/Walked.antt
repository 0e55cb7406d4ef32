-- A walk: which types the two words gave, and what that tells of all that the caller knows.
use Rattle.std.proofs.Common.{◌≡◌, ◌⊎◌, inl, inr, ℕ, zero, suc, ◌+◌, ◌*◌, ◌<◌, Bool, true, false, cond, nat_eq, List, ◌∷◌, slice_index, Result, Ok, Err, IsTrue, ◌↔◌, refl, sym, ◌∙◌, ap, subst, ⊎_elim, if◌then◌else◌, arith}
use mathlib.Core.Option.{some}
use lib.ListN.{get_elem?}
use Rattle.std.specs.Int.{from_bool}
use Rattle.vsd_words.specs.declared.handle.Handle.{Handle}
use Rattle.vsd_rule.specs.declared.key.Key.{Key}
use Rattle.vsd_rule.specs.declared.handle_view.Binding.{Binding}
use Rattle.vsd_rule.specs.declared.handle_view.HandleView.{HandleView}
use Rattle.vsd_rule.specs.declared.view.View.{View}
use Rattle.vsd_rule.specs.Handles.{handle, binding_for}
use Rattle.vsd_rule.specs.Lists.{compatible}
use Rattle.vsd_rule.specs.Facts.{Knows}
use Rattle.vsd_rule.specs.Evidence.{HasCastEvidence}
use Rattle.vsd_table.specs.declared.seated.Seated.{Seated}
use Rattle.vsd_table.specs.Seating.{view_of}
use Rattle.vsd_trails.specs.declared.answers.Unloaded.{Unloaded}
use Rattle.vsd_trails.specs.Words.{is_live_at}
use Rattle.std.proofs.lemmas.Bool.{eqb-true}
use Rattle.vsd_trails.proofs.Loads.{and_both}
use Rattle.vsd_rows.proofs.Filling.{test_is}
use Rattle.vsd_handles.specs.Types.{LoadsType}

-- ---- the answer of the tables

bit_is : (given : Bool) (n : ℕ) → n < 2 → (IsTrue given ↔ n ≡ 1) → from_bool given ≡ n
bit_is true n small decides = sym (decides.0 refl)
bit_is false zero small decides = refl
bit_is false (suc zero) small decides = let e = decides.1 refl in absurd (cc)
bit_is false (suc (suc n)) small decides = absurd (omega arith)

module _ (k : Key) (cmp : List ℕ) (types number other : ℕ) (given : Bool) (same_cmp : k.world.cmp ≡ cmp) (same_types : k.world.types ≡ types)
    (decides : IsTrue given ↔ slice_index cmp (number * types + other) ≡ 1) where
  entry_is : slice_index cmp (number * types + other) ≡ compatible k number other
  entry_is = ap (λ (l : List ℕ). slice_index l (number * types + other)) (sym same_cmp) ∙ ap (λ (n : ℕ). slice_index k.world.cmp (number * n + other)) (sym same_types)

  pub given_is : given ≡ nat_eq (compatible k number other) 1
  given_is = sym (test_is given (slice_index cmp (number * types + other)) 1 decides) ∙ ap (λ (n : ℕ). nat_eq n 1) entry_is

  pub answer_is : slice_index cmp (number * types + other) < 2 → from_bool given ≡ compatible k number other
  answer_is small = bit_is given (slice_index cmp (number * types + other)) small decides ∙ entry_is

pub asked_evidence : (v : View) (k : Key) (source target : Handle) (number other : ℕ) (given : Bool) → v.key ≡ k → Knows v.handles source number → Knows v.handles target other
    → from_bool given ≡ compatible k number other → HasCastEvidence v source target given
asked_evidence v k source target number other given key first second is =
    inl (record { number = number; other = other; knows_source = first; knows_target = second; answer = subst (λ (q : Key). from_bool given ≡ compatible q number other) (sym key) is })

-- ---- what is known after the load of a handle word

-- what is known is the new binding, or was known before
known_of : (test : Bool) (x : Binding) (old : List Binding) (y : Binding) → (i : ℕ) × (get_elem? (cond test (x ∷ old) old) i ≡ some y) → (x ≡ y) ⊎ ((i : ℕ) × (get_elem? old i ≡ some y))
known_of true x old y (zero, there) = inl cc
known_of true x old y (suc i, there) = inr (i, there)
known_of false x old y there = inr there

chosen_ok : (b : Bool) (number given : ℕ) (r : Unloaded) → (let answer : Result ℕ Unloaded = if b then Ok number else Err r in Ok given ≡ answer) → (b ≡ true) × (given ≡ number)
chosen_ok true number given r same = (refl, cc)
chosen_ok false number given r same = absurd (cc)

-- a handle's numbers that are known after the load of a word that gave one are that one, or were known before
pub known_after : (old new : Seated) (h g : Handle) (number m : ℕ) → LoadsType old new h (Ok number) → Knows (view_of new).handles g m → ((h ≡ g) × (number ≡ m)) ⊎ Knows (view_of old).handles g m
known_after old new h g number m loads knows =
    let w = loads.found in
    let before = (view_of old).handles.bindings in
    let x = binding_for (handle h.row w.generation) w.number in
    let both = chosen_ok (is_live_at h.generation w) w.number number (record { handle = h; found = w }) loads.decides in
    let live = and_both w.live (nat_eq w.generation h.generation) both.0 in
    let generation : w.generation ≡ h.generation = eqb-true w.generation h.generation live.1 in
    let there : (i : ℕ) × (get_elem? (cond w.live (x ∷ before) before) i ≡ some (binding_for g m)) =
    subst (λ (v : View). Knows v.handles g m) loads.step.view knows in
    ⊎_elim
    (λ (same : x ≡ binding_for g m). inl (
      ap (λ (n : ℕ). handle h.row n) (sym generation) ∙ ap (λ (b : Binding). b.handle) same,
      both.1 ∙ ap (λ (b : Binding). b.number) same,
    ))
    (λ (known : Knows (view_of old).handles g m). inr known)
    (known_of w.live x before (binding_for g m) there)

-- both words were loaded, and all that is known of the two handles is what they gave
module _ (old one two : Seated) (source target : Handle) (number other : ℕ) (first : LoadsType old one source (Ok number)) (second : LoadsType one two target (Ok other))
    (known : (m : ℕ) → Knows (view_of old).handles source m → number ≡ m) (known_target : (m : ℕ) → Knows (view_of one).handles target m → other ≡ m) (learnt : Knows (view_of one).handles source number) where
  source_is : (m : ℕ) → Knows (view_of one).handles source m → number ≡ m
  source_is m knows = ⊎_elim (λ same. same.1) (λ before. known m before) (known_after old one source source number m first knows)

  pub only_source : (m : ℕ) → Knows (view_of two).handles source m → number ≡ m
  only_source m knows =
      ⊎_elim
      (λ same. let again : Knows (view_of one).handles target number = subst (λ (h : Handle). Knows (view_of one).handles h number) (sym same.0) learnt in sym (known_target number again) ∙ same.1)
      (λ before. source_is m before)
      (known_after one two target source other m second knows)

  pub only_target : (m : ℕ) → Knows (view_of two).handles target m → other ≡ m
  only_target m knows = ⊎_elim (λ same. same.1) (λ before. known_target m before) (known_after one two target target other m second knows)

pub world_is : (v w : View) (k : Key) (source target : Handle) (number other : ℕ) (given : Bool) → w.handles ≡ v.handles → ((m : ℕ) → Knows v.handles source m → number ≡ m) → ((m : ℕ) → Knows v.handles target m → other ≡ m)
    → from_bool given ≡ compatible k number other → (n m : ℕ) → Knows w.handles source n → Knows w.handles target m → from_bool given ≡ compatible k n m
world_is v w k source target number other given same first second is n m knows knows' =
    let a : number ≡ n = first n (subst (λ (q : HandleView). Knows q source n) same knows) in
    let b : other ≡ m = second m (subst (λ (q : HandleView). Knows q target m) same knows') in
    is ∙ (λ i. compatible k (a i) (b i))
