use Rattle.std.proofs.Common.{◌≡◌, ℕ, ◌<◌, ◌≤◌, List, false, length, nat_eq, get_or, slice_get, MatchOption, Option, Some, None, sym, ap, ◌∙◌, subst, arith}
use Rattle.std.specs.List.{list_any}
use Rattle.std.proofs.lemmas.Grind.{common_steps}
use Rattle.std.proofs.lemmas.Option.{slice_get-get_or}
use Rattle.vsd_interfaces.proofs.PlaceLaws.{absent}
use Rattle.vsd_interfaces.proofs.collected.Collected.place.Goals as goal

none-found : (ns : List ℕ) (n : ℕ) (o : Option ℕ) → o ≡ None → list_any (nat_eq n) ns ≡ false
    → MatchOption o (list_any (nat_eq n) ns ≡ false) (λ place. slice_get ns place ≡ Some n)
none-found ns n o is none =
    subst (λ (r : Option ℕ). MatchOption r (list_any (nat_eq n) ns ≡ false) (λ place. slice_get ns place ≡ Some n)) (sym is) none

pub returns-in_err-place : goal.returns-in_err-place
returns-in_err-place c =
    let ns = c.self.inside.numbers.items in
    let ps = c.self.inside.places.items in
    let n = c.args.number in
    let past : length ps ≤ n = grind (arith, common_steps) in
    let none = absent ns ps c.self.invariant n (λ low _ _. omega (arith, low, past)) in
    none-found c.args.self.now n c.from_residual.result c.from_residual.ensures (sym (ap (list_any (nat_eq n)) c.self.view_is) ∙ none)

pub returns-in_err-there : goal.returns-in_err-there
returns-in_err-there c =
    let ns = c.self.inside.numbers.items in
    let ps = c.self.inside.places.items in
    let n = c.args.number in
    let place : c.in_ok-place.field-0.now ≡ get_or ps n 0 = grind (arith, common_steps) in
    let past : length ns ≤ get_or ps n 0 = grind (arith, common_steps) in
    let none = absent ns ps c.self.invariant n (λ _ within _. omega (arith, within, past)) in
    none-found c.args.self.now n c.from_residual-in_err-there.result c.from_residual-in_err-there.ensures
    (sym (ap (list_any (nat_eq n)) c.self.view_is) ∙ none)

pub returns-then-there-number : goal.returns-then-there-number
returns-then-there-number c =
    let ns = c.self.inside.numbers.items in
    let ps = c.self.inside.places.items in
    let n = c.args.number in
    let there = c.in_ok-there.field-0.now in
    let place : c.in_ok-place.field-0.now ≡ get_or ps n 0 = grind (arith, common_steps) in
    let number : there ≡ get_or ns (get_or ps n 0) 0 = grind (arith, common_steps) in
    sym (ap (list_any (nat_eq n)) c.self.view_is) ∙ absent ns ps c.self.invariant n (λ _ _ same. c.if-there-number.true (number ∙ same))

pub returns : goal.returns
returns c =
    let ns = c.self.inside.numbers.items in
    let n = c.args.number in
    let place = c.in_ok-place.field-0.now in
    let there = c.in_ok-there.field-0.now in
    let within : place < length ns = grind (arith, common_steps) in
    let number : there ≡ get_or ns place 0 = grind (arith, common_steps) in
    ap (λ l. slice_get l place) (sym c.self.view_is) ∙ slice_get-get_or ns place 0 within ∙ ap Some (sym number ∙ c.if-there-number.false)
