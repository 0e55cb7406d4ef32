use Rattle.std.proofs.Common.{◌≡◌, ◌+◌, ◌-◌, List, length, take, drop, get_or, Some, inl, inr, sym, ap, ◌∙◌, subst, arith}
use Rattle.std.specs.List.{slice_get}
use Rattle.std.proofs.lemmas.Bool.{cases_lt}
use Rattle.std.proofs.lemmas.Option.{slice_get-get_or, slice_get_within}
use Rattle.vsd_lift.proofs.PlaceLemmas.{All-at}
use Rattle.vsd_ways.specs.Known.{owners_in, Way}
use Rattle.vsd_ways.specs.Ways.{AreWays}
use Rattle.vsd_overrides.specs.Known.{IsNumbered}
use Rattle.vsd_overrides.specs.declared.numbered.Numbered.{Numbered}
use Rattle.vsd_overrides.proofs.KnownLemmas.{part-at, part-back}
use Rattle.vsd_overrides.proofs.NumberedLemmas.{owner-of}
use Rattle.vsd_overrides.proofs.owners.find.Goals as goal

pub find_class-requires-clause-same : goal.find_class-requires-clause-same
find_class-requires-clause-same c o a b past below start there =
    let asked = c.args.asked.now in
    let from = c.loop-from.from in
    let f = part-back asked from _ 0 a start in
    let t = part-back asked from _ o b there in
    let zero : from ≡ from + 0 = omega arith in
    c.end_of_class-to.ensures.same (from + o) a b (omega arith) (omega (arith, t.1)) (ap (slice_get asked) zero ∙ f.0) t.0

pub find_class-requires-clause-table : goal.find_class-requires-clause-table
find_class-requires-clause-table c =
    let ds = c.args.h.now.decls.now in
    let asked = c.args.asked.now in
    let owners = c.args.owners.now in
    let from = c.loop-from.from in
    let a : Numbered = get_or asked 0 c.index-asked-0.result in
    let start : slice_get asked 0 ≡ Some a = slice_get-get_or asked 0 c.index-asked-0.result c.requires.some in
    let part = owners_in (take (length owners - a.number) (drop a.number owners)) in
    record {
      owners = part;
      ways = subst (λ (t : List (List Way)). AreWays ds part t) (sym c.as_slice.ensures) c.in_ok-table.ensures;
      asks = λ o n here.
          let t = part-back asked from _ o n here in
          let near = c.requires.near (from + o) a n (omega arith) (slice_get_within asked (from + o) n t.0) start t.0 in
          let numbered = All-at (IsNumbered (length ds) owners) asked (from + o) n t.0 c.requires.numbered in
          owner-of (length ds) owners a.number n numbered near;
    }

pub loop-from-preserved : goal.loop-from-preserved
loop-from-preserved c =
    let asked = c.args.asked.now in
    let from = c.loop-from.from in
    record {
      known = c.in_ok-find_class.ensures.known;
      each = λ o below a there q class owner. elim (cases_lt o from) [
        | inl lt ↦ c.in_ok-find_class.ensures.before q (c.loop-from.invariant.each o lt a there q class owner)
        | inr ge ↦ c.in_ok-find_class.ensures.each (o - from) a (part-at asked from _ o a ge (omega arith) there) q class owner
      ];
      before = λ q some. c.in_ok-find_class.ensures.before q (c.loop-from.invariant.before q some);
    }

pub returns-clause-each : goal.returns-clause-each
returns-clause-each c o a there q class owner =
    c.loop-from.invariant.each o (omega (arith, slice_get_within c.args.asked.now o a there)) a there q class owner
