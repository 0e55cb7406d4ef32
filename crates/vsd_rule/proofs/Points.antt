-- Functions changed at one point, and lists of which one element changes.
use Rattle.std.proofs.Common.{◌≡◌, ◌≢◌, ℕ, List, map, set, refl, ap, ◌∙◌}
use Rattle.std.proofs.lemmas.List.{map-set}
use Rattle.std.specs.Prelude.{Option, Some, None, IfSome}
use mathlib.Core.Option.{some}
use native.Mathlib.Decide.{ℕ_discrete}
use lib.ListN.{get_elem?}
use Rattle.atomic_table.proofs.Lists.{set_again, at_map}

module _ {A : Type 0} where
  abbrev pick : {P : Type 0} → Dec P → A → A → A
  pick (yes _) a b = a
  pick (no _) a b = b

  pub put : (ℕ → A) → ℕ → A → ℕ → A
  put f i c j = pick (ℕ_discrete j i) c (f j)

  pub put_here : (f : ℕ → A) (i : ℕ) (c : A) → put f i c i ≡ c
  unfolding put
  put_here f i c = go (ℕ_discrete i i)
    where
      go : (d : Dec (i ≡ i)) → pick d c (f i) ≡ c
      go (yes e) = refl
      go (no n) = absurd (n refl)

  pub put_else : (f : ℕ → A) (i : ℕ) (c : A) (j : ℕ) → j ≢ i → put f i c j ≡ f j
  unfolding put
  put_else f i c j other = go (ℕ_discrete j i)
    where
      go : (d : Dec (j ≡ i)) → pick d c (f j) ≡ f j
      go (yes e) = absurd (other e)
      go (no n) = refl

  -- what a change does not show is the same list
  pub unseen_set : {B : Type 0} (f : A → B) (l : List A) (i : ℕ) (v w : A) → get_elem? l i ≡ some v → f w ≡ f v → map f (set l i w) ≡ map f l
  unseen_set f l i v w at e = map-set f l i w ∙ (ap (set (map f l) i) e ∙ set_again (map f l) i (f v) (at_map f l i v at))

pub if_some : {A : Type 0} (o : Option A) (P Q : A → Type 0) → ((x : A) → P x → Q x) → IfSome o P → IfSome o Q
if_some None P Q h p = p
if_some (Some x) P Q h p = h x p
