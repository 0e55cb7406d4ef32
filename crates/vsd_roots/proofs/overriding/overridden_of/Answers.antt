use Rattle.std.proofs.Common.{◌≤◌, List, length, get_or, ap, arith}
use Rattle.std.proofs.lemmas.Option.{slice_get-get_or}
use Rattle.vsd_ast.specs.declared.declarations.Method.{Method}
use Rattle.vsd_roots.proofs.TableLemmas.{listed_below}
use Rattle.vsd_roots.proofs.overriding.overridden_of.Goals as goal

pub returns-then-is_empty : goal.returns-then-is_empty
returns-then-is_empty c =
    let ds = c.args.h.now.decls.now in
    let x = get_or ds c.args.at c.index-h-at.result in
    let here = slice_get-get_or ds c.args.at c.index-h-at.result c.requires.within in
    let none : length x.methods ≤ 0 = omega (arith, ap (λ (l : List Method). length l) (c.is_empty.ensures.0 c.if-is_empty.true)) in
    record { each = λ p m decl is. absurd (omega (arith, listed_below ds c.args.at x 0 here none p m decl is)) }
