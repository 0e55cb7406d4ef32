-- What `==` of terms finds in a list of terms.
use Rattle.std.proofs.Common.{◌≡◌, ℕ, List, [], ◌∷◌, get_or, sym, ap, ◌∙◌, Some, Contains}
use Rattle.std.specs.Bool.{Decides}
use Rattle.std.specs.List.{list_any, position, slice_get}
use Rattle.std.proofs.lemmas.List.Quantifiers.{position-Some}
use Rattle.std.proofs.lemmas.Map.Made.{is_member-Decides}
use Rattle.std.proofs.lemmas.Option.{slice_get-get_or}
use Rattle.vsd_terms.specs.Equality.{term_eq, term_eq-Decides}
use Rattle.vsd_terms.specs.declared.term.Term.{Term}

-- a test for a term passes in a list exactly where the list contains it
pub has_term-Decides : (ts : List Term) (t : Term) → Decides (list_any (term_eq t) ts) (Contains ts t)
has_term-Decides ts t = is_member-Decides term_eq-Decides ts t

-- the place at which a test for a term first passes is a place of the term
pub term_at_position : (ts : List Term) (t : Term) (i : ℕ) → position (term_eq t) ts ≡ Some i → slice_get ts i ≡ Some t
term_at_position [] t i found = absurd cc
term_at_position (x ∷ ts) t i found =
    let at = position-Some (term_eq t) (x ∷ ts) i x found in
    slice_get-get_or (x ∷ ts) i x at.0 ∙ ap Some (sym ((term_eq-Decides t (get_or (x ∷ ts) i x)).0 at.1))
