use Rattle.std.proofs.Common.{◌≡◌, ◌<◌, ◌∙◌, ℕ, List, [], length, get_or, sym, subst, arith}
use Rattle.vsd_check.specs.Checked.{depths_of}
use Rattle.vsd_interfaces.specs.Tables.{AreOwn, IsMap}
use Rattle.vsd_slots.proofs.FillLaws.{row-push}
use Rattle.vsd_slots.proofs.NumberLaws.{keeps-after, right-kept, row-kept}
use Rattle.vsd_slots.proofs.OwnLaws.{having-own}
use Rattle.vsd_interfaces.proofs.ReadLaws.{read-at}
use Rattle.vsd_slots.proofs.making.row.Goals as goal

pub number-requires-clause-having : goal.number-requires-clause-having
number-requires-clause-having c =
    let s = c.args.closed.now in
    let t = c.args.t in
    let reached = c.args.parts.now.table.reached in
    let maps = c.args.parts.now.table.maps in
    let own = c.own-own_count.result.now in
    let map = c.as_slice-map.result.now in
    let owned : AreOwn s (get_or reached t []) t own =
    subst (λ (l : List (List ℕ)). AreOwn s (get_or l t []) t own) c.as_slice.ensures c.own-own_count.ensures in
    let inside : t < length maps = omega (arith, c.requires.parts.rows.maps_count, c.requires.class) in
    let read = read-at c.as_slice-2.result.now maps t c.index-as_slice-t.result [] inside c.index-as_slice-t.is c.as_slice-2.ensures in
    let map_is : map ≡ get_or maps t [] = c.as_slice-map.ensures ∙ read in
    let rows = c.requires.parts.rows.each t c.requires.class in
    let mapped = subst (IsMap s t) (sym map_is) rows.1 in
    let distinct = c.count-count.ensures.distinct in
    having-own s t (depths_of c.args.checked.now) distinct c.requires.parts.hierarchy (get_or reached t []) own map c.loop-k.k rows.0
    owned mapped c.loop-k-test.true

pub number-requires-clause-right : goal.number-requires-clause-right
number-requires-clause-right c = right-kept c.args.columns.now c.loop-k.columns c.loop-k.invariant.keeps c.args.closed.now c.args.parts.now.table.maps c.args.rows.now c.requires.right

pub loop-k-preserved : goal.loop-k-preserved
loop-k-preserved c =
    let s = c.args.closed.now in
    let t = c.args.t in
    let map = c.as_slice-map.result.now in
    let k = c.loop-k.k in
    let old = c.loop-k.columns in
    let new = c.number.new.columns in
    let kept = row-kept old new c.in_ok-number.ensures.keeps s t map k c.loop-k.found.items c.loop-k.invariant.row in
    record {
      row = row-push s new t map k c.loop-k.found.items c.push.new.self.items c.in_ok-number.field-0 kept c.in_ok-push.ensures.items c.in_ok-number.ensures.number;
      keeps = keeps-after c.args.columns.now old new c.loop-k.invariant.keeps c.in_ok-number.ensures.keeps;
      kept = c.in_ok-number.ensures.kept;
    }
