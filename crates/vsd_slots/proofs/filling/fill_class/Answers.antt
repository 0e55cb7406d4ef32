use Rattle.std.proofs.Common.{◌≡◌, ◌<◌, ◌∙◌, ℕ, [], List, length, get_or, sym, subst, arith}
use Rattle.vsd_slots.specs.Rows.{IsRow}
use Rattle.vsd_interfaces.specs.Tables.{IsMap}
use Rattle.vsd_interfaces.proofs.ReadLaws.{read-at}
use Rattle.vsd_slots.proofs.NumberLaws.{still-whole}
use Rattle.vsd_slots.proofs.filling.fill_class.Goals as goal
use Rattle.vsd_slots.proofs.filling.fill_class.Goals.{After-as_slice-map}

map_is : (c : After-as_slice-map) → c.as_slice-map.result.now ≡ get_or c.args.parts.now.table.maps c.args.t []
map_is c =
    let t = c.args.t in
    let maps = c.args.parts.now.table.maps in
    let inside : t < length maps = omega (arith, c.requires.parts.rows.maps_count, c.requires.class) in
    c.as_slice-map.ensures ∙ read-at c.as_slice-2.result.now maps t c.index-as_slice-t-2.result [] inside c.index-as_slice-t-2.is c.as_slice-2.ensures

row_is : (c : After-as_slice-map) → c.as_slice-row.result.now ≡ get_or c.fill.new.rows.numbers c.args.t []
row_is c =
    let t = c.args.t in
    let rows = c.fill.new.rows.numbers in
    let inside : t < length rows = omega (arith, c.in_ok-fill.ensures.fills.right.count, c.requires.class) in
    c.as_slice-row.ensures ∙ read-at c.as_slice.result.now rows t c.index-as_slice-t.result [] inside c.index-as_slice-t.is c.as_slice.ensures

pub see_whole-requires-clause-map : goal.see_whole-requires-clause-map
see_whole-requires-clause-map c =
    subst (IsMap c.args.closed.now c.args.t) (sym (map_is (goal.at.see_whole-requires-clause-map c).After-as_slice-map)) (c.requires.parts.rows.each c.args.t c.requires.class).1

pub see_whole-requires-clause-row : goal.see_whole-requires-clause-row
see_whole-requires-clause-row c =
    let s = c.args.closed.now in
    let t = c.args.t in
    let at = (goal.at.see_whole-requires-clause-row c).After-as_slice-map in
    let fills = c.in_ok-fill.ensures.fills in
    let made = fills.right.each t c.requires.class fills.full in
    subst (λ (l : List ℕ). IsRow s c.fill.new.rows.columns t l (length l) c.as_slice-row.result.now) (sym (map_is at)) (subst (IsRow s c.fill.new.rows.columns t (get_or c.args.parts.now.table.maps t []) (length (get_or c.args.parts.now.table.maps t []))) (sym (row_is at)) made)

pub see_whole-requires-clause-whole : goal.see_whole-requires-clause-whole
see_whole-requires-clause-whole c = still-whole c.args.rows.now.columns c.fill.new.rows.columns c.in_ok-fill.ensures.keeps c.args.whole.now.items c.requires.whole
