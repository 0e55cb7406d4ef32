use Rattle.std.proofs.Common.{Some, sym, subst}
use Rattle.vsd_ast.specs.WellFormed.{AreWellFormed}
use Rattle.vsd_types.specs.Types.{type_at}
use Rattle.vsd_interfaces.specs.Tables.{types_of}
use Rattle.vsd_slots.specs.Missing.{IsLacking}
use Rattle.vsd_slots.proofs.FillLaws.{short-row}
use Rattle.vsd_slots.proofs.SlotLaws.{all-of, first-row, slot-stands, whole-row}
use Rattle.vsd_slots.proofs.missing.see_whole.Goals as goal

pub lacking-requires-clause-short : goal.lacking-requires-clause-short
lacking-requires-clause-short c =
    let well = subst AreWellFormed (sym c.requires.together) c.decls-decls.ensures.well_formed in
    short-row c.args.closed.now c.args.columns.now c.args.t c.args.interfaces.now c.args.row.now c.requires.row well.each

pub returns-in-Some-clause-refused : goal.returns-in-Some-clause-refused
returns-in-Some-clause-refused c =
    let s = c.args.closed.now in
    let t = c.args.t in
    let map = c.args.interfaces.now in
    let row = c.args.row.now in
    let slot = c.in-Some.slot in
    let found : IsLacking s.decls.list (type_at s.types t) c.args.columns.now row (Some slot) = subst (IsLacking s.decls.list (type_at s.types t) c.args.columns.now row) c.in-Some.is c.in_ok-slot.ensures.lacking in
    record {
      listed = c.requires.class;
      before = c.requires.before;
      within = c.requires.within;
      concrete = found.0;
      interfaces = types_of s.types map;
      are = all-of s t map c.requires.map;
      place = slot.place;
      stands = slot-stands s t c.args.columns.now map row c.requires.row slot found.1.0;
      lacks = first-row s t c.args.columns.now map row c.requires.row slot found.1;
    }

pub returns-in-None-clause-ok : goal.returns-in-None-clause-ok
returns-in-None-clause-ok c =
    let s = c.args.closed.now in
    let t = c.args.t in
    let map = c.args.interfaces.now in
    whole-row s t c.args.columns.now map c.args.row.now c.requires.row (all-of s t map c.requires.map) (subst (IsLacking s.decls.list (type_at s.types t) c.args.columns.now c.args.row.now) c.in-None.is c.in_ok-slot.ensures.lacking)
