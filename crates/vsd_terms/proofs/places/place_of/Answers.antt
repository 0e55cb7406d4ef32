use Rattle.std.proofs.Common.{ℕ, Option, None, Some, IfSome, List, sym, ◌≡◌, ◌∙◌}
use Rattle.std.specs.List.{position, slice_get}
use Rattle.vsd_terms.specs.declared.term.Term.{Term}
use Rattle.vsd_terms.specs.Equality.{term_eq}
use Rattle.vsd_terms.proofs.TermLemmas.{has_term-Decides, term_at_position}
use Rattle.vsd_terms.proofs.places.place_of.Goals as goal

found_place : (result : Option ℕ) (ts : List Term) (t : Term) → result ≡ position (term_eq t) ts → IfSome result (λ place. slice_get ts place ≡ Some t)
found_place None ts t is = tt
found_place (Some place) ts t is = term_at_position ts t place (sym is)

pub returns-clause-found : goal.returns-clause-found
returns-clause-found c = found_place c.get_index_of.result c.args.terms.now.keys c.args.t.now c.get_index_of.ensures.index

pub returns-clause-present : goal.returns-clause-present
returns-clause-present c =
    let has = has_term-Decides c.args.terms.now.keys c.args.t.now in
    (λ some. has.0 (sym c.get_index_of.ensures.found ∙ some), λ there. c.get_index_of.ensures.found ∙ has.1 there)
