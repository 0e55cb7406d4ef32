use Rattle.std.proofs.Common.{◌≡◌, ◌∙◌, ℕ, List, Some, sym, ap, subst, arith}
use Rattle.std.specs.List.{slice_get}
use Rattle.std.proofs.lemmas.Option.{slice_get-get_or, slice_get_within}
use Rattle.vsd_ast.specs.declared.declarations.Method.{Method}
use Rattle.vsd_methods.specs.Firsts.{Adds}
use Rattle.vsd_methods.proofs.NameLaws.{names-more}
use Rattle.vsd_methods.proofs.names.names_of.Goals as goal

pub loop-i-preserved : goal.loop-i-preserved
loop-i-preserved c =
    let methods = c.args.methods.now in
    let m = c.index-methods-i.result in
    let stands : slice_get methods c.loop-i.i ≡ Some m = slice_get-get_or methods c.loop-i.i m c.loop-i-test.true ∙ ap Some (sym c.index-methods-i.is) in
    names-more methods c.loop-i.i m c.loop-i.names c.add_name.new.names stands c.loop-i.invariant (subst (λ (name : List ℕ). Adds c.loop-i.names c.add_name.new.names name) (c.as_slice.ensures ∙ ap (λ (p : Method). p.name) (sym c.index-methods-i.is)) c.in_ok-add_name.ensures)

pub returns : goal.returns
returns c = λ place m is.
    let inside = slice_get_within c.args.methods.now place m is in
    c.loop-i.invariant.each place m (omega (arith, inside, c.loop-i-test.false)) is
