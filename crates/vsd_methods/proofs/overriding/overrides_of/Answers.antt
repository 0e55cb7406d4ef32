use Rattle.std.proofs.Common.{◌≡◌, ℕ, ◌+◌, ◌++◌, ◌∷◌, [], take, Option, sym, ap, ◌∙◌}
use Rattle.std.specs.Option.{option_or}
use Rattle.std.proofs.lemmas.List.{take_more}
use Rattle.vsd_ast.specs.declared.declarations.Override.{Override}
use Rattle.vsd_types.specs.Types.{type_at}
use Rattle.vsd_methods.specs.Givens.{answer_of}
use Rattle.vsd_methods.specs.Methods.{first_given, gives, methods_in}
use Rattle.vsd_methods.specs.declared.overriding.Given.{Given}
use Rattle.vsd_methods.proofs.SearchLaws.{given-push}
use Rattle.vsd_methods.proofs.overriding.overrides_of.Goals as goal

pub loop-o-preserved : goal.loop-o-preserved
loop-o-preserved c i m within =
    let s = c.args.closed.now in
    let t = type_at s.types c.args.t in
    let os = c.as_slice-overrides.result.now in
    let k = c.loop-o.o-index in
    let o = c.o-item.result in
    let f = gives s.decls.list (type_at s.types i) m t in
    let g : Option Given → Option ℕ = λ w. answer_of w i m in
    let given = c.in_ok-given_of.field-0 in
    let seen : take (k + 1) os ≡ take k os ++ o ∷ [] = take_more os k o c.loop-o-test.true ∙ ap (λ (x : Override). take k os ++ x ∷ []) (sym c.o-item.is) in
    let class = c.in-Some.ensures in
    let same = c.in_ok-given_of.ensures t class.arguments (ap methods_in class.declaration ∙ sym c.as_slice-methods.ensures) i m within in
    ap (first_given f) seen ∙ given-push f (take k os) o ∙ ap (λ p. option_or p (f o)) (c.loop-o.invariant i m within) ∙ ap (option_or (first_given g c.loop-o.found)) same ∙ sym (given-push g c.loop-o.found given) ∙ ap (first_given g) (sym c.in_ok-push.ensures.ok)
