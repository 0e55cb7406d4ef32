use Rattle.std.proofs.Common.{◌≡◌, ◌-◌, ◌<◌, Bool, false, Option, Some, length, get_or, refl, sym, ap, ◌∙◌, inl, inr, arith}
use Rattle.std.specs.HashMap.{get}
use Rattle.std.specs.List.{slice_get}
use Rattle.std.proofs.lemmas.Bool.{cases_lt}
use Rattle.std.proofs.lemmas.Option.{slice_get_read, slice_get_within}
use Rattle.vsd_overrides.specs.Known.{same_question}
use Rattle.vsd_overrides.specs.declared.asked.Question.{Question}
use Rattle.vsd_overrides.specs.declared.numbered.Numbered.{Numbered}
use Rattle.vsd_overrides.proofs.KnownLemmas.{known-put, known-kept, known-here, mark-is}
use Rattle.vsd_overrides.proofs.owners.tell.Goals as goal

pub loop-o-preserved : goal.loop-o-preserved
loop-o-preserved c =
    let asked = c.args.asked.now in
    let had = c.args.had.now in
    let o = c.loop-o.o in
    let n = c.index-asked-o.result in
    let k = n.question in
    let m = n.number - c.args.first in
    let has = get_or had m false in
    let old : Question → Option Bool = get same_question c.loop-o.known in
    let new : Question → Option Bool = get same_question c.insert.new.self in
    let updates = c.in_ok-insert.ensures.updates.0 in
    let there : slice_get asked o ≡ Some n = slice_get_read asked (length asked) o n refl (omega arith) c.index-asked-o.is in
    let near = c.requires.near o n there in
    let inside : m < length had = omega (arith, c.type_inv.had, near.0, near.1) in
    record {
      known = λ ds before tells.
          let mark = mark-is had m inside in
          let tell = tells o n there in
          let known = c.loop-o.invariant.known ds before tells in
          known-put ds old new k has (λ yes_. tell.0 (mark.0 yes_), λ w. mark.1 (tell.1 w)) updates known;
      each = λ p below a here q class owner. elim (cases_lt p o) [
        | inl lt ↦ known-kept old new k has updates q (c.loop-o.invariant.each p lt a here q class owner)
        | inr ge ↦ (
            let last : p ≡ o = omega arith in
            let one : a ≡ n = let both = sym here ∙ ap (slice_get asked) last ∙ there in cc in
            known-here old new k has updates q
            (class ∙ ap (λ (b : Numbered). b.question.class) one) (owner ∙ ap (λ (b : Numbered). b.question.owner.now) one)
            )
      ];
      before = λ q some. known-kept old new k has updates q (c.loop-o.invariant.before q some);
    }

pub returns-clause-each : goal.returns-clause-each
returns-clause-each c o n there q class owner =
    c.loop-o.invariant.each o (omega (arith, slice_get_within c.args.asked.now o n there)) n there q class owner
