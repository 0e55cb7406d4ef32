use Rattle.std.proofs.Common.{◌≡◌, ℕ, List, length, get_or, refl, sym, ap, ◌∙◌, subst}
use Rattle.std.specs.List.{slice_get}
use Rattle.std.proofs.lemmas.Bool.{false≢true}
use Rattle.std.proofs.lemmas.Option.{get_or_from_slice_get}
use Rattle.vsd_ast.specs.WellFormed.{IsMethod}
use Rattle.vsd_ast.specs.declared.declarations.Method.{Method}
use Rattle.vsd_lift.proofs.PlaceLemmas.{All-at}
use Rattle.vsd_overrides.specs.Implements.{IsBody}
use Rattle.vsd_overrides.specs.Matched.{IsFirstWith, IsMeant, subst_signature}
use Rattle.vsd_overrides.proofs.MeaningLemmas.{body_only, body_there, first_element}
use Rattle.vsd_overrides.proofs.SignatureLemmas.{greatest-written}
use Rattle.vsd_overrides.proofs.meaning.agreeing.Goals as goal
use Rattle.vsd_overrides.proofs.meaning.agreeing.Goals.{After-index-as_slice-slot}

-- the implementing method that the code reads
body : After-index-as_slice-slot → Method
body c = get_or c.as_slice.result.now c.in-Some.body c.index-as_slice-body.result

body_is : (c : After-index-as_slice-slot) → c.in-Some.ensures.0 ≡ body c
unfolding body
body_is c =
    let place = c.in-Some.body in
    let m = c.in-Some.ensures.0 in
    let there = body_there c.args.decl.now c.args.o.now.body place m c.in-Some.ensures.1 in
    sym (get_or_from_slice_get c.as_slice.result.now place m c.index-as_slice-body.result (ap (λ (l : List Method). slice_get l place) c.as_slice.ensures ∙ there))

-- the owner's method
slot : After-index-as_slice-slot → Method
slot c = (c.in-Some-meant_method.ensures).0

slot_first : (c : After-index-as_slice-slot) → IsFirstWith (IsMeant c.args.o.now c.args.args.now (body c).signature) c.args.interface.now.methods c.in-Some-meant_method.slot (slot c)
unfolding body slot
slot_first c =
    let P : List Method → Type 0 = λ l. IsFirstWith (IsMeant c.args.o.now c.args.args.now (body c).signature) l c.in-Some-meant_method.slot (slot c) in
    subst P c.as_slice-2.ensures (c.in-Some-meant_method.ensures).1

slot_is : (c : After-index-as_slice-slot) → slot c ≡ get_or c.as_slice-3.result.now c.in-Some-meant_method.slot c.index-as_slice-slot.result
slot_is c =
    let place = c.in-Some-meant_method.slot in
    sym (get_or_from_slice_get c.as_slice-3.result.now place (slot c) c.index-as_slice-slot.result (ap (λ (l : List Method). slice_get l place) c.as_slice-3.ensures ∙ (slot_first c).there))

pub is_signature_at-requires-clause-arguments_fit : goal.is_signature_at-requires-clause-arguments_fit
is_signature_at-requires-clause-arguments_fit c =
    let w = c.requires.declared in
    let interface = c.args.interface.now in
    let count = length c.args.args.now in
    let written : IsMethod w.0 (length interface.params) (slot c) = All-at (IsMethod w.0 (length interface.params)) interface.methods c.in-Some-meant_method.slot (slot c) (slot_first c).there w.1.methods in
    let one : IsMethod w.0 count (get_or c.as_slice-3.result.now c.in-Some-meant_method.slot c.index-as_slice-slot.result) = subst (λ (n : ℕ). IsMethod w.0 n (get_or c.as_slice-3.result.now c.in-Some-meant_method.slot c.index-as_slice-slot.result)) (sym c.requires.long) (subst (λ (m : Method). IsMethod w.0 (length interface.params) m) (slot_is c) written) in
    greatest-written w.0 count (get_or c.as_slice-3.result.now c.in-Some-meant_method.slot c.index-as_slice-slot.result).signature.arguments one.signature.arguments

pub returns-then-not-is_signature_at : goal.returns-then-not-is_signature_at
unfolding body
returns-then-not-is_signature_at c t ag =
    let a = (goal.at.returns-then-not-is_signature_at c).After-index-as_slice-slot in
    let args = c.args.args.now in
    let o = c.args.o.now in
    let same : ag.implementing ≡ body a = body_only c.args.decl.now o.body t.body c.in-Some.body ag.implementing c.in-Some.ensures.0 ag.body c.in-Some.ensures.1 ∙ body_is a in
    let P : Method → Type 0 = λ m. IsFirstWith (IsMeant o args m.signature) c.args.interface.now.methods t.slot ag.implemented in
    let methods : ag.implemented ≡ slot a = first_element (IsMeant o args (body a).signature) c.args.interface.now.methods t.slot c.in-Some-meant_method.slot ag.implemented (slot a) (subst P same ag.slot) (slot_first a) in
    let agrees : (body a).signature ≡ subst_signature args (get_or c.as_slice-3.result.now c.in-Some-meant_method.slot c.index-as_slice-slot.result).signature =
    ap (λ (m : Method). m.signature) (sym same) ∙ ag.agrees ∙ ap (λ (m : Method). subst_signature args m.signature) (methods ∙ slot_is a) in
    false≢true (sym c.if-not-is_signature_at.true ∙ c.is_signature_at.ensures.1 agrees)

pub returns : goal.returns
unfolding body
returns c =
    let a = (goal.at.returns c).After-index-as_slice-slot in
    let args = c.args.args.now in
    let place = c.in-Some.body in (
      refl,
      record {
        implementing = body a;
        body = subst (λ (m : Method). IsBody c.args.decl.now c.args.o.now.body place m) (body_is a) c.in-Some.ensures.1;
        implemented = slot a;
        slot = slot_first a;
        agrees = c.is_signature_at.ensures.0 c.if-not-is_signature_at.false ∙ ap (λ (m : Method). subst_signature args m.signature) (sym (slot_is a));
      },
    )
