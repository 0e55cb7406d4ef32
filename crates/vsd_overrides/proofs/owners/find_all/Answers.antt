use Rattle.std.proofs.Common.{◌≡◌, ◌+◌, ◌-◌, inl, inr, ap, ◌∙◌, arith}
use Rattle.std.specs.List.{slice_get}
use Rattle.std.proofs.lemmas.Bool.{cases_lt}
use Rattle.std.proofs.lemmas.Option.{slice_get_within}
use Rattle.vsd_overrides.proofs.KnownLemmas.{part-at, part-back}
use Rattle.vsd_overrides.proofs.owners.find_all.Goals as goal

pub find-requires-clause-near : goal.find-requires-clause-near
find-requires-clause-near c o a b past below start there =
    let asked = c.args.asked.now in
    let from = c.loop-from.from in
    let f = part-back asked from _ 0 a start in
    let t = part-back asked from _ o b there in
    let zero : from ≡ from + 0 = omega arith in
    c.end_of_owners-to.ensures.near (from + o) a b (omega arith) (omega (arith, t.1)) (ap (slice_get asked) zero ∙ f.0) t.0

pub loop-from-preserved : goal.loop-from-preserved
loop-from-preserved c =
    let asked = c.args.asked.now in
    let from = c.loop-from.from in
    record {
      known = c.in_ok-find.ensures.known;
      each = λ o below a there q class owner. elim (cases_lt o from) [
        | inl lt ↦ c.in_ok-find.ensures.before q (c.loop-from.invariant.each o lt a there q class owner)
        | inr ge ↦ c.in_ok-find.ensures.each (o - from) a (part-at asked from _ o a ge (omega arith) there) q class owner
      ];
      before = λ q some. c.in_ok-find.ensures.before q (c.loop-from.invariant.before q some);
    }

pub returns-clause-each : goal.returns-clause-each
returns-clause-each c o a there q class owner =
    c.loop-from.invariant.each o (omega (arith, slice_get_within c.args.asked.now o a there)) a there q class owner
