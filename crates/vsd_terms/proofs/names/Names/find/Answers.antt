use Rattle.std.proofs.Common.{◌≡◌, ℕ, List, Some, slice_get, Contains, sym, subst, ◌∙◌, refl}
use Rattle.std.proofs.lemmas.Bool.{false≢true}
use Rattle.vsd_terms.proofs.KeyLemmas.{name_at_position, has_name-Decides}
use Rattle.vsd_terms.proofs.names.Names.find.Goals as goal

pub returns-in-Some-clause-found : goal.returns-in-Some-clause-found
returns-in-Some-clause-found c =
    let P : List (List ℕ) → Type 0 = λ names. slice_get names c.in-Some.place ≡ Some c.args.name.now in
    subst P c.self.view_is (name_at_position c.self.inside.set.keys c.args.name.now c.in-Some.place (sym c.in-Some.ensures.index))

pub returns-in-Some-clause-present : goal.returns-in-Some-clause-present
returns-in-Some-clause-present c =
    let P : List (List ℕ) → Type 0 = λ names. Contains names c.args.name.now in
    let there = (has_name-Decides c.self.inside.set.keys c.args.name.now).0 (sym c.in-Some.ensures.found) in
    (λ _. subst P c.self.view_is there, λ _. refl)

pub returns-in-None-clause-present : goal.returns-in-None-clause-present
returns-in-None-clause-present c =
    let P : List (List ℕ) → Type 0 = λ names. Contains names c.args.name.now in
    (λ some. absurd (false≢true some), λ there. c.in-None.ensures.found ∙ (has_name-Decides c.self.inside.set.keys c.args.name.now).1 (subst P (sym c.self.view_is) there))
