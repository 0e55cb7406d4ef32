use Rattle.std.proofs.Common.{◌≡◌, ◌+◌, ◌++◌, [], ◌∷◌, Ok, Err, get_or, take, subst, sym, ap, ◌∙◌, refl}
use Rattle.std.proofs.lemmas.List.{take_all, take_more}
use Rattle.std.proofs.lemmas.List.Folds.{fold_stuck}
use Rattle.std.proofs.lemmas.List.Sums.{fold_more}
use Rattle.std.proofs.lemmas.Result.{err_from_is_err_and}
use Rattle.indexmap.specs.IndexSet.{keys}
use Rattle.vsd_check.specs.Checked.{decls_of}
use Rattle.vsd_types.specs.Closing.{add, add_all, add_to}
use Rattle.vsd_types.specs.Numbers.{AreNumbers}
use Rattle.vsd_types.specs.Types.{IsClosedType}
use Rattle.vsd_types.proofs.AddLemmas.{Extends-twice, add_all-All}
use Rattle.vsd_types.proofs.NumberLemmas.{numbers-extends, numbers-push}
use Rattle.vsd_types.proofs.closing.add_each.Goals as goal

pub returns-in_err-add-clause-refused : goal.returns-in_err-add-clause-refused
returns-in_err-add-clause-refused c =
    let p = err_from_is_err_and c.from_residual.result c.from_residual.ensures.1 in
    let names = (decls_of c.args.checked.now).names in
    let more = c.args.more.now in
    let i = c.loop-t.t-index in
    let t = c.t-item.result in
    let e = c.in_err-add.field-0.0 in
    rw (p.1, p.2) (λ other.
    let here : add_to names (Ok (keys c.loop-t.types)) (get_or more i t) ≡ Err e = ap (add names (keys c.loop-t.types)) (sym c.t-item.is) ∙ c.in_err-add.ensures.refused other in
    sym (fold_stuck (add_to names) (Err e) (λ x. refl) (Ok (keys c.args.types.now)) more i t c.loop-t-test.true (ap (λ r. add_to names r (get_or more i t)) c.loop-t.invariant.added ∙ here)))

pub loop-t-preserved : goal.loop-t-preserved
loop-t-preserved c =
    let more = c.args.more.now in
    let i = c.loop-t.t-index in
    let t = c.t-item.result in
    let names = (decls_of c.args.checked.now).names in
    let types = keys c.loop-t.types in
    let ext = c.in_ok-add.ensures.extends in
    let old = c.loop-t.invariant in
    let seen : take (i + 1) more ≡ take i more ++ t ∷ [] = take_more more i t c.loop-t-test.true ∙ ap (λ x. take i more ++ x ∷ []) (sym c.t-item.is) in
    let kept = subst (λ l. AreNumbers l c.loop-t.numbers (take i more)) (sym ext.1) (numbers-extends types ext.0 c.loop-t.numbers (take i more) old.numbers) in
    let pushed = numbers-push (keys c.add.new.types) c.loop-t.numbers (take i more) _ t kept c.in_ok-add.ensures.place in
    record {
      added = fold_more (add_to names) (Ok (keys c.args.types.now)) more i t c.loop-t-test.true ∙ ap (λ r. add_to names r (get_or more i t)) old.added ∙ ap (add names types) (sym c.t-item.is) ∙ c.in_ok-add.ensures.ok;
      numbers = subst (λ l. AreNumbers (keys c.add.new.types) l (take (i + 1) more)) (sym c.in_ok-push.ensures.ok) (subst (λ l. AreNumbers (keys c.add.new.types) (c.loop-t.numbers ++ c.in_ok-add.field-0 ∷ []) l) (sym seen) pushed);
      few = c.in_ok-add.ensures.few;
      extends = Extends-twice _ _ _ old.extends ext;
    }

pub returns-clause-lawful : goal.returns-clause-lawful
returns-clause-lawful c =
    let d = decls_of c.args.checked.now in
    add_all-All d.names (IsClosedType d.list) (keys c.args.types.now) (keys c.loop-t.types) c.args.more.now c.requires.more c.requires.lawful (ap (add_all d.names (Ok (keys c.args.types.now))) (sym (take_all c.loop-t.t-index c.args.more.now c.loop-t-test.false)) ∙ c.loop-t.invariant.added)
