use Rattle.std.proofs.Common.{◌≡◌, ℕ, ◌<◌, ◌≤◌, ◌+◌, ◌*◌, suc, map, Contains, get_or, length, [], refl, sym, ap, ◌∙◌, subst, arith, List, not, take}
use Rattle.std.proofs.lemmas.List.{get_or_read, take_all}
use Rattle.std.proofs.lemmas.List.Elements.{Contains-get_or}
use Rattle.std.proofs.lemmas.List.Sums.{count_by-le-length}
use Rattle.vsd_terms.specs.Size.{greatest}
use Rattle.vsd_graph.specs.declared.levels.Mark.{Mark}
use Rattle.vsd_graph.specs.declared.levels.Mark.TheVariants.{Unseen, Open, Level}
use Rattle.vsd_graph.specs.Graph.{targets}
use Rattle.vsd_graph.specs.Marks.{mark_at, is_level, level_at, HasLevel, is_unseen, unseen, pending}
use Rattle.vsd_graph.proofs.MarkLemmas.{AreSound-open, AreSound-level, Extends-trans, Extends-same, Extends-visit, LeadsTo-visit, Walk-push, mark_at-same, unseen-open, pending-level, ord_max-max, done_more, most_more, greatest-few}
use Rattle.vsd_graph.proofs.levels.+settle.Goals as goal
use Rattle.vsd_graph.proofs.levels.+settle.Goals.{visit-After-as_slice-next-items, visit-After-loop-next}

pub settle-visit-requires : goal.settle-visit-requires
settle-visit-requires t c =
    let ms = c.args.marks.now.items in
    let r = c.requires in
    let within : c.args.at < length ms = omega (arith, r.within, r.sound.count) in
    let is : mark_at ms c.args.at ≡ Unseen = sym (get_or_read ms c.args.at c.index.result.now within c.index.ensures Unseen) ∙ c.in-Unseen.is in
    let falls : 2 * unseen ms < t = omega (arith, c.decreases) in
    (falls, (r.within, (r.closed, (r.small, (r.sound, (is, λ i on. let w = r.leads i on in (suc w.0, w.1)))))))

pub settle-returns-in-Open : goal.settle-returns-in-Open
settle-returns-in-Open t c =
    let ms = c.args.marks.now.items in
    let within : c.args.at < length ms = omega (arith, c.requires.within, c.requires.sound.count) in
    (c.args.at, c.requires.leads c.args.at (sym (get_or_read ms c.args.at c.index.result.now within c.index.ensures Unseen) ∙ c.in-Open.is))

pub visit-loop-next-init : goal.visit-loop-next-init
visit-loop-next-init t c =
    let within : c.args.at < length c.args.marks.now.items = omega (arith, c.requires.within, c.requires.sound.count) in
    record {
      open_here = mark_at-same c.args.marks.now.items c.args.at Open within;
      sound = AreSound-open c.args.graph.now c.args.marks.now.items c.args.at within c.requires.sound c.requires.unseen;
      extends = Extends-same _;
      done = λ j w. absurd (omega (arith, w.1));
      most = refl;
    }

-- the places that the loop goes over are the targets of the place in hand
items_are : (t : ℕ) (c : visit-After-as_slice-next-items t) → c.as_slice-next-items.result.now ≡ targets c.args.graph.now c.args.at
items_are t c = c.as_slice-next-items.ensures ∙ get_or_read c.args.graph.now c.args.at c.index-graph-at.result c.requires.within c.index-graph-at.is []

pub visit-settle-requires : goal.visit-settle-requires
visit-settle-requires t c =
    let g = c.args.graph.now in
    let at = c.args.at in
    let ts = c.as_slice-next-items.result.now in
    let within : c.loop-next.next-index < length ts = omega arith in
    let are : ts ≡ targets g at = items_are t (goal.at.visit-settle-requires t c).After-as_slice-next-items in
    let step : Contains (targets g at) (get_or ts c.loop-next.next-index 0) = subst (λ (xs : List ℕ). Contains xs (get_or ts c.loop-next.next-index 0)) are (Contains-get_or ts c.loop-next.next-index 0 within) in
    let seen = unseen-open c.args.marks.now.items at (omega (arith, c.requires.within, c.requires.sound.count)) c.requires.unseen in
    let falls : 2 * unseen c.loop-next.marks.items + 1 < t = omega (arith, c.decreases, c.loop-next.invariant.extends.fewer, seen) in (
      falls,
      (
        c.requires.closed at (get_or ts c.loop-next.next-index 0) step,
        (
          c.requires.closed,
          (
            c.requires.small,
            (
              c.loop-next.invariant.sound,
              λ i on. let w = LeadsTo-visit g c.args.marks.now.items c.loop-next.marks.items at c.requires.leads c.loop-next.invariant.extends i on in (w.0, Walk-push g w.0 i at (get_or ts c.loop-next.next-index 0) w.1 step),
            ),
          ),
        ),
      ),
    )

pub visit-loop-next-preserved : goal.visit-loop-next-preserved
visit-loop-next-preserved t c =
    let e = c.in_ok-level.ensures in
    let inv = c.loop-next.invariant in
    let ts = c.as_slice-next-items.result.now in
    let within : c.loop-next.next-index < length ts = omega arith in
    record {
      open_here = e.extends.kept c.args.at (ap is_unseen inv.open_here) ∙ inv.open_here;
      sound = e.sound;
      extends = Extends-trans _ _ _ inv.extends e.extends;
      done = done_more c.loop-next.marks.items c.settle.new.marks.items ts c.loop-next.next-index (get_or ts c.loop-next.next-index 0) within refl e.extends c.in_ok-level.level e.settled inv.done;
      most = c.max-most.ensures ∙ ord_max-max c.loop-next.most c.in_ok-level.level ∙ most_more c.loop-next.marks.items c.settle.new.marks.items ts c.loop-next.next-index (get_or ts c.loop-next.next-index 0) within refl e.extends c.in_ok-level.level e.settled inv.done c.loop-next.most inv.most;
    }

-- after the loop each target has its level, and the greatest is kept
module _ (g : List (List ℕ)) (ms : List Mark) (at n : ℕ) (ts : List ℕ) (past : length ts ≤ n) (are : ts ≡ targets g at) where
  all_done : ((j : ℕ) → Contains (take n ts) j → HasLevel ms j) → (j : ℕ) → Contains (targets g at) j → HasLevel ms j
  all_done done j w = done j (subst (λ (xs : List ℕ). Contains xs j) (sym (take_all n ts past ∙ are)) w)

  all_most : (most : ℕ) → most ≡ greatest (map (level_at ms) (take n ts)) → most ≡ greatest (map (level_at ms) (targets g at))
  all_most most is = is ∙ ap (λ xs. greatest (map (level_at ms) xs)) (take_all n ts past ∙ are)

pub visit-overflow_add-level : goal.visit-overflow_add-level
visit-overflow_add-level t c =
    let g = c.args.graph.now in
    let ms = c.loop-next.marks.items in
    let at = c.args.at in
    let inv = c.loop-next.invariant in
    let are = items_are t (goal.at.visit-overflow_add-level t c).After-as_slice-next-items in
    let n = c.loop-next.next-index in
    let ts = c.as_slice-next-items.result.now in
    let past : length ts ≤ n = omega arith in
    let bound : greatest (map (level_at ms) (targets g at)) + pending ms ≤ length ms =
    greatest-few (level_at ms) (targets g at) (pending ms) (length ms) (count_by-le-length (λ (m : Mark). not (is_level m)) ms) (λ j w. inv.sound.few j (all_done g ms at n ts past are inv.done j w)) in
    let left = pending-level ms at 0 (omega (arith, c.requires.within, inv.sound.count)) (ap is_level inv.open_here) in
    omega (arith, bound, left, all_most g ms at n ts past are c.loop-next.most inv.most, inv.sound.count, c.requires.small)

pub visit-returns : goal.visit-returns
visit-returns t c =
    let g = c.args.graph.now in
    let ms = c.loop-next.marks.items in
    let at = c.args.at in
    let inv = c.loop-next.invariant in
    let are = items_are t (goal.at.visit-returns t c).After-as_slice-next-items in
    let n = c.loop-next.next-index in
    let ts = c.as_slice-next-items.result.now in
    let past : length ts ≤ n = omega arith in
    let level = c.loop-next.most + 1 in
    let within : at < length ms = omega (arith, c.requires.within, inv.sound.count) in
    let before : at < length c.args.marks.now.items = omega (arith, c.requires.within, c.requires.sound.count) in
    let is : level ≡ suc (greatest (map (level_at ms) (targets g at))) = let m = all_most g ms at n ts past are c.loop-next.most inv.most in omega arith in
    record {
      extends = Extends-visit c.args.marks.now.items ms at level before within c.requires.unseen inv.open_here inv.extends;
      sound = AreSound-level g ms at within inv.sound level inv.open_here (all_done g ms at n ts past are inv.done) is;
      settled = mark_at-same ms at (Level level) within;
    }
