use Rattle.std.proofs.Common.{List, length, sym, ap, ◌∙◌, subst, inl, inr}
use denote.Ref.{Bor}
use Rattle.std.specs.List.{slice_get}
use Rattle.vsd_terms.specs.declared.term.Term.{Term}
use Rattle.vsd_overrides.specs.Known.{AreNumbered, AreWithin}
use Rattle.vsd_overrides.specs.declared.asked.Question.{Question}
use Rattle.vsd_overrides.specs.declared.numbered.Numbered.{Numbered}
use Rattle.vsd_overrides.proofs.KnownLemmas.{asked-place}
use Rattle.vsd_overrides.proofs.NumberedLemmas.{at-contained, contained-at}
use Rattle.vsd_overrides.proofs.owners.owners_had.Goals as goal

pub find_all-requires-clause-numbered : goal.find_all-requires-clause-numbered
find_all-requires-clause-numbered c =
    let count = length c.args.h.now.decls.now in
    let keys = c.as_slice-2.result.now in
    let within = subst (λ (l : List Question). AreWithin count l) (sym c.as_slice.ensures.keys) c.in_ok-ask_all.ensures.asked in
    let owners = subst (λ (l : List (Bor Term)). AreNumbered count l c.in_ok-all.all.items) (sym c.as_slice-2.ensures.keys)
    (c.in_ok-all.ensures.numbers count within) in
    subst (λ (l : List Numbered). AreNumbered count keys l) (sym c.as_slice-3.ensures.value) owners

pub returns-clause-each : goal.returns-clause-each
returns-clause-each c n x here i o there q class owner = elim (c.in_ok-ask_all.ensures.each n x here i o there q class owner) [
  | inl asks ↦ (
      let asked = asked-place c.ask_all.new.asked.keys q asks in
      let at = ap (λ (l : List Question). slice_get l asked.place) c.as_slice.ensures.keys ∙ asked.there in
      let has = c.in_ok-all.ensures.each asked.question (at-contained c.as_slice.result.now asked.place asked.question at) in
      let place = has.there.0 in
      let found = contained-at c.in_ok-all.all.items has.numbered has.there in
      let stands = ap (λ (l : List Numbered). slice_get l place) c.as_slice-3.ensures.value ∙ found in
      c.in_ok-find_all.ensures.each place has.numbered stands q
      (asked.class ∙ sym (ap (λ (b : Question). b.class) has.is)) (asked.owner ∙ sym (ap (λ (b : Question). b.owner.now) has.is))
      )
  | inr some ↦ c.in_ok-find_all.ensures.before q some
]
