use Rattle.std.proofs.Common.{◌≡◌, ◌<◌, ◌++◌, [], ◌∷◌, List, length, Some, Contains, Ok, sym, ap, ◌∙◌, refl, arith}
use Rattle.std.specs.List.{slice_get}
use Rattle.std.proofs.lemmas.Option.{slice_get_within, slice_get-get_or}
use Rattle.std.proofs.lemmas.List.{length_push}
use Rattle.std.proofs.lemmas.Bool.{false≢true}
use Rattle.std.proofs.Math.Seq.{get_or-append_seam}
use Rattle.indexmap.specs.IndexSet.{insert_key, keys}
use Rattle.vsd_terms.specs.Equality.{term_eq}
use Rattle.vsd_terms.specs.declared.term.Term.{Term}
use Rattle.vsd_types.proofs.AddLemmas.{add-deep, add-there, add-full, add-new, inserted}
use Rattle.vsd_types.proofs.closing.add.Goals as goal

slice_get-push : (types : List Term) (t : Term) → slice_get (types ++ t ∷ []) (length types) ≡ Some t
slice_get-push types t =
    slice_get-get_or (types ++ t ∷ []) (length types) t (omega (arith, length_push types t)) ∙ ap Some (get_or-append_seam types t [] t)

pub returns-then-branch-clause-refused : goal.returns-then-branch-clause-refused
returns-then-branch-clause-refused c = λ _. add-deep _ _ _ (sym c.in_ok-is_too_deep.ensures ∙ c.if-branch.true)

pub overflow_cast-result : goal.overflow_cast-result
overflow_cast-result c =
    let w : c.in-Some.place < length (keys c.args.types.now) = slice_get_within _ _ _ c.in-Some.ensures.found in
    record { fits = omega (arith, w, c.requires.few) }

pub returns-in-Some-clause-ok : goal.returns-in-Some-clause-ok
returns-in-Some-clause-ok c =
    add-there _ _ _ (sym c.in_ok-is_too_deep.ensures ∙ c.if-branch.false) (c.in-Some.ensures.present.0 refl)

pub returns-then-count-ge-MOST-clause-refused : goal.returns-then-count-ge-MOST-clause-refused
returns-then-count-ge-MOST-clause-refused c =
    λ _. add-full _ _ _ (sym c.in_ok-is_too_deep.ensures ∙ c.if-branch.false) (λ there. false≢true (c.in_default.ensures.present.1 there)) (omega (arith, c.len-count.ensures.len, c.if-count-ge-MOST.true))

pub returns-clause-ok : goal.returns-clause-ok
returns-clause-ok c =
    let fine = sym c.in_ok-is_too_deep.ensures ∙ c.if-branch.false in
    let absent : ¬ Contains (keys c.args.types.now) c.args.t.now = λ there. false≢true (c.in_default.ensures.present.1 there) in
    let grown = c.in-Ok.ensures.keys ∙ ap (insert_key term_eq (keys c.args.types.now)) c.in_ok-copy.ensures ∙ inserted _ _ absent in
    add-new _ _ _ fine absent (omega (arith, c.len-count.ensures.len, c.if-count-ge-MOST.false)) ∙ ap Ok (sym grown)

pub returns-clause-place : goal.returns-clause-place
returns-clause-place c =
    let fine = sym c.in_ok-is_too_deep.ensures ∙ c.if-branch.false in
    let absent : ¬ Contains (keys c.args.types.now) c.args.t.now = λ there. false≢true (c.in_default.ensures.present.1 there) in
    let grown = c.in-Ok.ensures.keys ∙ ap (insert_key term_eq (keys c.args.types.now)) c.in_ok-copy.ensures ∙ inserted _ _ absent in
    ap (λ l. slice_get l c.len-count.result) grown ∙ ap (slice_get (keys c.args.types.now ++ c.args.t.now ∷ [])) c.len-count.ensures.len ∙ slice_get-push (keys c.args.types.now) c.args.t.now
