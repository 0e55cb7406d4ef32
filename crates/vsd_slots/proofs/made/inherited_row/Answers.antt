use Rattle.std.proofs.Common.{◌≡◌, ◌∙◌, ℕ, List, [], length, get_or, Some, refl, sym, subst}
use Rattle.std.proofs.lemmas.Bool.{eqb-true}
use Rattle.vsd_check.specs.Checked.{depths_of}
use Rattle.vsd_interfaces.specs.Tables.{AreOwn}
use Rattle.vsd_slots.specs.Rows.{IsFull, IsRow, IsRowOf}
use Rattle.vsd_slots.proofs.EntryLaws.{base-some}
use Rattle.vsd_slots.proofs.InheritedLaws.{row-inherited}
use Rattle.vsd_slots.proofs.made.inherited_row.Goals as goal

pub returns : goal.returns
returns c =
    let s = c.args.closed.now in
    let t = c.args.t in
    let b = c.in_ok-base.base in
    let reached = c.args.parts.now.table.reached in
    let maps = c.args.parts.now.table.maps in
    let rows = c.args.rows.now in
    let own = c.own.result.now in
    let row = c.in_ok-row.row.now in
    let above = get_or maps b [] in
    let is = base-some s t 0 0 (Some b) c.in_ok-base.ensures.number b refl in
    let owned : AreOwn s (get_or reached t []) t own =
    subst (λ (l : List (List ℕ)). AreOwn s (get_or l t []) t own) c.as_slice.ensures c.own.ensures in
    let empty : length own ≡ 0 = eqb-true (length own) 0 (sym c.is_empty.ensures ∙ c.if-not-is_empty.false) in
    let bare = c.is_bare.ensures c.if-not-is_bare.false in
    let within = c.in_ok-base.ensures.within in
    let mine = c.requires.parts.rows.each t c.requires.class in
    let over = c.requires.parts.rows.each b within in
    let full : IsFull maps b rows = subst (λ (l : List (List ℕ)). IsFull l b rows) c.as_slice-2.ensures c.in_ok-row.ensures.0 in
    let columns = c.args.columns.now in
    let made : IsRowOf s maps columns b row =
    subst (IsRow s columns b above (length above)) (sym c.in_ok-row.ensures.1) (c.requires.right.each b within full) in
    let distinct = c.count-count.ensures.distinct in
    row-inherited s t b is (depths_of c.args.checked.now) distinct c.requires.parts.hierarchy (get_or reached t []) own mine.0
    owned empty columns (get_or maps t []) above row mine.1 over.1 bare made
