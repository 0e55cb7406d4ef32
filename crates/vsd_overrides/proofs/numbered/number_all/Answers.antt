use Rattle.std.proofs.Common.{◌≡◌, ◌<◌, List, length, Some, refl, sym, ap, ◌∙◌, subst, inl, inr, arith}
use Rattle.std.specs.List.{slice_get}
use Rattle.std.proofs.lemmas.Bool.{cases_lt}
use Rattle.std.proofs.lemmas.Option.{slice_get_read}
use Rattle.vsd_terms.specs.Equality.{term_eq-Decides}
use Rattle.vsd_lift.proofs.PlaceLemmas.{All-at}
use Rattle.vsd_overrides.specs.Known.{AreNumbered, HasQuestion}
use Rattle.vsd_overrides.specs.declared.asked.Question.{Question}
use Rattle.vsd_overrides.specs.declared.numbered.Numbered.{Numbered}
use Rattle.vsd_overrides.proofs.NumberedLemmas.{contained-at, has-here, has-more, numbers-push}
use Rattle.vsd_overrides.proofs.numbered.number_all.Goals as goal

pub loop-i-preserved : goal.loop-i-preserved
loop-i-preserved c =
    let asked = c.args.asked.now in
    let i = c.loop-i.i in
    let k = c.index-asked-i.result in
    let before = c.loop-i.all.items in
    let old = c.loop-i.owners.keys in
    let new = c.insert_full.new.self.keys in
    let stored = c.in_ok-number.ensures.stored in
    let n : Numbered = record { question = k; number = c.in_ok-number.number } in
    let there : slice_get asked i ≡ Some k = slice_get_read asked (length asked) i k refl (omega arith) c.index-asked-i.is in
    record {
      numbers = λ count within.
          subst (λ (l : List Numbered). AreNumbered count new l) (sym c.in_ok-push.ensures.items)
          (numbers-push _ old new _ c.in_ok-number.ensures.keys count before n (c.loop-i.invariant.numbers count within) (record {
            class = All-at (λ (q : Question). q.class < count) asked i k there within;
            owner = stored.0;
            there = stored.1;
            same = sym ((term_eq-Decides k.owner.now stored.0.now).0 stored.2);
          }));
      each = λ p q below here.
          subst (λ (l : List Numbered). HasQuestion l q) (sym c.in_ok-push.ensures.items)
          (elim (cases_lt p i) [
            | inl lt ↦ has-more before n q (c.loop-i.invariant.each p q lt here)
            | inr ge ↦ (
                let last : p ≡ i = omega arith in
                let one : k ≡ q = let both = sym there ∙ sym (ap (slice_get asked) last) ∙ here in cc in
                has-here before n q one
                )
          ]);
    }

pub returns-clause-each : goal.returns-clause-each
returns-clause-each c q holds =
    c.loop-i.invariant.each holds.0 q (omega (arith, holds.1)) (contained-at c.args.asked.now q holds)
