use Rattle.std.proofs.Common.{◌≡◌, ◌<◌, IsTrue, length, map, arith, rules, sym, ap, ◌∙◌}
use Rattle.std.proofs.lemmas.Bool.{false≢true}
use Rattle.std.proofs.lemmas.List.{take_more}
use Rattle.std.proofs.Common.{eqb-true, eq-eqb}
use Rattle.vsd_terms.proofs.SubstitutionLemmas.{same_named}
use Rattle.vsd_terms.specs.Substitution.{parameters_of}
use Rattle.vsd_terms.specs.declared.term.Term.TheVariants.{Named, Param, Builtin}
use Rattle.vsd_terms.proofs.PlaceLemmas.{take_more-map, greatest-drop}
use Rattle.vsd_lift.specs.Chain.{envs_of}
use Rattle.vsd_lift.specs.Lift.{lift}
use Rattle.vsd_lift.proofs.Forms.{Builtin-kind, Named-arguments, Named-name, Param-place}
use Rattle.vsd_lift.proofs.LiftLemmas.{lift-Builtin, lift-Named, named_from, param_at_zero, same-Builtin, same-Param}
use Rattle.vsd_lift.proofs.equality_up.+same_up.Goals as goal

pub all_same_up-loop-i-preserved : goal.all_same_up-loop-i-preserved
all_same_up-loop-i-preserved t c =
    let envs = envs_of c.args.decls.now c.args.chain.now in
    let i = c.loop-i.i in
    let xs = c.as_slice-xs.result.now in
    let ys = c.as_slice-ys.result.now in
    let x_in : i < length xs = omega arith in
    let y_in : i < length ys = omega (arith, c.loop-i.invariant.long) in
    let same : c.index-xs-i.result ≡ lift envs c.args.level c.index-ys-i.result = c.same_up.ensures.0 c.if-not-same_up.false in
    let left = take_more xs i c.index-xs-i.result x_in in
    let right = take_more-map (lift envs c.args.level) ys i c.index-ys-i.result y_in c.index-ys-i.is in
    record {
      long = c.loop-i.invariant.long;
      before = cc;
      fit = λ above. (greatest-drop parameters_of ys i _ c.index-ys-i.result y_in c.index-ys-i.is (c.loop-i.invariant.fit above)).1;
    }

pub same_up-returns-in-Builtin-Builtin : goal.same_up-returns-in-Builtin-Builtin
same_up-returns-in-Builtin-Builtin t c =
    let envs = envs_of c.args.decls.now c.args.chain.now in
    let stood = c.resolve-stood.result in
    let x = c.in-Builtin-Builtin.x in
    let y = c.in-Builtin-Builtin.y in
    let lifted : lift envs c.args.level c.args.b.now ≡ Builtin y = sym c.resolve-stood.ensures.same ∙ ap (lift envs stood.level) c.in-Builtin-Builtin.is-1 ∙ lift-Builtin envs stood.level y in
    let tested : (IsTrue c.eq.result → x ≡ y) × (x ≡ y → IsTrue c.eq.result) = search rules in
    (λ h. c.in-Builtin-Builtin.is-0 ∙ ap Builtin (tested.0 h) ∙ sym lifted, λ e. tested.1 (Builtin-kind x y (sym c.in-Builtin-Builtin.is-0 ∙ e ∙ lifted)))

pub same_up-returns-in-Param-Param : goal.same_up-returns-in-Param-Param
same_up-returns-in-Param-Param t c =
    let envs = envs_of c.args.decls.now c.args.chain.now in
    let stood = c.resolve-stood.result in
    let x = c.in-Param-Param.x in
    let y = c.in-Param-Param.y in
    let lifted : lift envs c.args.level c.args.b.now ≡ Param y = sym c.resolve-stood.ensures.same ∙ param_at_zero envs stood.level stood.term.now y c.resolve-stood.ensures.resolved c.in-Param-Param.is-1 in
    (λ h. c.in-Param-Param.is-0 ∙ ap Param (eqb-true x y h) ∙ sym lifted, λ e. eq-eqb x y (Param-place x y (sym c.in-Param-Param.is-0 ∙ e ∙ lifted)))

pub same_up-returns-then-x-y : goal.same_up-returns-then-x-y
same_up-returns-then-x-y t c =
    let envs = envs_of c.args.decls.now c.args.chain.now in
    let stood = c.resolve-stood.result in
    let x = c.in-Named-Named.x in
    let y = c.in-Named-Named.y in
    let lifted : lift envs c.args.level c.args.b.now ≡ Named y (map (lift envs stood.level) c.in-Named-Named.ys) = sym c.resolve-stood.ensures.same ∙ ap (lift envs stood.level) c.in-Named-Named.is-1 ∙ lift-Named envs stood.level y c.in-Named-Named.ys in
    (λ h. c.in-Named-Named.is-0 ∙ same_named x y _ _ c.if-x-y.true (c.all_same_up.ensures.0 h) ∙ sym lifted, λ e. c.all_same_up.ensures.1 (Named-arguments x y _ _ (sym c.in-Named-Named.is-0 ∙ e ∙ lifted)))

pub same_up-returns-else-x-y : goal.same_up-returns-else-x-y
same_up-returns-else-x-y t c =
    let envs = envs_of c.args.decls.now c.args.chain.now in
    let stood = c.resolve-stood.result in
    let x = c.in-Named-Named.x in
    let y = c.in-Named-Named.y in
    let lifted : lift envs c.args.level c.args.b.now ≡ Named y (map (lift envs stood.level) c.in-Named-Named.ys) = sym c.resolve-stood.ensures.same ∙ ap (lift envs stood.level) c.in-Named-Named.is-1 ∙ lift-Named envs stood.level y c.in-Named-Named.ys in
    (λ h. absurd (c.if-x-y.false (eqb-true x y h)), λ e. eq-eqb x y (Named-name x y _ _ (sym c.in-Named-Named.is-0 ∙ e ∙ lifted)))

pub same_up-returns-in_default : goal.same_up-returns-in_default
same_up-returns-in_default t c =
    let envs = envs_of c.args.decls.now c.args.chain.now in
    let stood = c.resolve-stood.result in
    let x = c.in_default.field-0-0 in
    (λ f. absurd (false≢true f), λ e. absurd (c.in_default.not-Builtin-1 x (same-Builtin envs stood.level stood.term.now x c.resolve-stood.ensures.resolved (c.resolve-stood.ensures.same ∙ sym e ∙ c.in_default.is-0))))

pub same_up-returns-in_default-2 : goal.same_up-returns-in_default-2
same_up-returns-in_default-2 t c =
    let envs = envs_of c.args.decls.now c.args.chain.now in
    let stood = c.resolve-stood.result in
    let x = c.in_default.field-0-0 in
    (λ f. absurd (false≢true f), λ e. absurd (c.in_default.not-Param-1 x (same-Param envs stood.level stood.term.now x c.resolve-stood.ensures.resolved (c.resolve-stood.ensures.same ∙ sym e ∙ c.in_default.is-0))))

pub same_up-returns-in_default-3 : goal.same_up-returns-in_default-3
same_up-returns-in_default-3 t c =
    let envs = envs_of c.args.decls.now c.args.chain.now in
    let stood = c.resolve-stood.result in
    (λ f. absurd (false≢true f), λ e. absurd (named_from envs stood.level stood.term.now c.in_default.field-0-0 c.in_default.field-1-0 c.resolve-stood.ensures.resolved (c.resolve-stood.ensures.same ∙ sym e ∙ c.in_default.is-0) c.in_default.not-Named-1))
