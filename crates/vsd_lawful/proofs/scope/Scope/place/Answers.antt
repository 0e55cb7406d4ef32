use Rattle.std.proofs.Common.{◌≤◌, cond, get_or, length, Some, None, sym, ap, ◌∙◌, arith}
use Rattle.std.proofs.lemmas.List.{get_or_default, get_or_past}
use Rattle.vsd_lawful.proofs.IndexLemmas.{place_below-table, not_below}
use Rattle.vsd_lawful.proofs.scope.Scope.place.Goals as goal

pub returns-then-name-self : goal.returns-then-name-self
returns-then-name-self c =
    let ds = c.args.self.now.list.now in
    let ps = c.args.self.now.places.now in
    let past : length ps ≤ c.args.name = omega arith in
    let none = ap (λ b. cond b (Some (length ds)) None) (not_below (length ds)) in
    sym none ∙ place_below-table ds c.args.name (length ds) (sym (get_or_past ps c.args.name (length ds) past) ∙ c.args.self.now.indexed.each c.args.name)

pub returns : goal.returns
returns c =
    let ds = c.args.self.now.list.now in
    let ps = c.args.self.now.places.now in
    c.there.ensures ∙ place_below-table ds c.args.name (get_or ps c.args.name 0) (get_or_default ps c.args.name 0 (length ds) c.if-name-self.false ∙ c.args.self.now.indexed.each c.args.name)
