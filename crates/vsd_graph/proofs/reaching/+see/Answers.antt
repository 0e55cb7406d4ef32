use Rattle.std.proofs.Common.{◌≡◌, ℕ, ◌<◌, ◌≤◌, ◌*◌, false, List, [], length, get_or, Contains, refl, sym, ◌∙◌, subst, arith}
use Rattle.std.proofs.lemmas.List.{get_or_read, take_all}
use Rattle.std.proofs.lemmas.List.Elements.{Contains-get_or}
use Rattle.vsd_graph.specs.Graph.{targets}
use Rattle.vsd_graph.specs.Seen.{is_seen, unseen_count}
use Rattle.vsd_graph.proofs.SeenLemmas.{Sees-follow, Marks-next, targets-next}
use Rattle.vsd_graph.proofs.reaching.+see.Goals as goal
use Rattle.vsd_graph.proofs.reaching.+see.Goals.{follow-After-as_slice-next-items}

-- the places that the loop goes over are the targets of the place in hand
items_are : (t : ℕ) (c : follow-After-as_slice-next-items t) → c.as_slice-next-items.result.now ≡ targets c.args.graph.now c.args.at
items_are t c = c.as_slice-next-items.ensures ∙ get_or_read c.args.graph.now c.args.at c.index-graph-at.result c.requires.within c.index-graph-at.is []

step : (t : ℕ) (c : follow-After-as_slice-next-items t) (n : ℕ) → n < length c.as_slice-next-items.result.now → Contains (targets c.args.graph.now c.args.at) (get_or c.as_slice-next-items.result.now n 0)
step t c n within =
    let ts = c.as_slice-next-items.result.now in
    subst (λ (xs : List ℕ). Contains xs (get_or ts n 0)) (items_are t c) (Contains-get_or ts n 0 within)

pub follow-see-requires : goal.follow-see-requires
follow-see-requires t c =
    let next = get_or c.as_slice-next-items.result.now c.loop-next.next-index 0 in
    let there = step t (goal.at.follow-see-requires t c).After-as_slice-next-items c.loop-next.next-index (omega arith) in
    let falls : 2 * unseen_count c.loop-next.seen.items < t = omega (arith, c.decreases, c.loop-next.invariant.marks.fewer) in
    (falls, (c.requires.closed c.args.at next there, (c.requires.closed, c.loop-next.invariant.marks.count ∙ c.requires.count)))

pub follow-loop-next-preserved : goal.follow-loop-next-preserved
follow-loop-next-preserved t c =
    let ts = c.as_slice-next-items.result.now in
    let n = c.loop-next.next-index in
    let within : n < length ts = omega arith in
    let there = step t (goal.at.follow-loop-next-preserved t c).After-as_slice-next-items n within in
    let inv = c.loop-next.invariant in
    record {
      marks = Marks-next c.args.graph.now c.args.seen.now.items c.loop-next.seen.items c.see.new.seen.items c.args.at (get_or ts n 0) there inv.marks c.see.ensures;
      so_far = targets-next ts n (get_or ts n 0) c.loop-next.seen.items c.see.new.seen.items within refl c.see.ensures.marks.kept c.see.ensures.here inv.so_far;
    }

pub follow-returns : goal.follow-returns
follow-returns t c =
    let ts = c.as_slice-next-items.result.now in
    let n = c.loop-next.next-index in
    let past : length ts ≤ n = omega arith in
    let all = take_all n ts past ∙ items_are t (goal.at.follow-returns t c).After-as_slice-next-items in
    record {
      marks = c.loop-next.invariant.marks;
      targets_seen = λ j w. c.loop-next.invariant.so_far j (subst (λ (xs : List ℕ). Contains xs j) (sym all) w);
    }

pub see-returns-then-not-index : goal.see-returns-then-not-index
see-returns-then-not-index t c =
    let old = c.args.seen.now.items in
    let within : c.args.at < length old = omega (arith, c.requires.within, c.requires.count) in
    let not_yet : is_seen old c.args.at ≡ false = sym (get_or_read old c.args.at c.index.result.now within c.index.ensures false) ∙ c.if-not-index.true in
    Sees-follow c.args.graph.now old c.follow.new.seen.items c.args.at within not_yet c.follow.ensures
