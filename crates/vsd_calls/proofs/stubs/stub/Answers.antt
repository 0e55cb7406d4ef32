use Rattle.std.proofs.Common.{sym, subst}
use Rattle.vsd_words.specs.declared.cell_word.CellWord.{CellWord}
use Rattle.vsd_table.specs.Seating.{view_of, key_of}
use Rattle.vsd_trails.specs.CallTrails.{stubbing}
use Rattle.vsd_rows.specs.Makes.{Makes}
use Rattle.vsd_calls.specs.CellLooks.{stubbed_of}
use Rattle.vsd_rows.proofs.Leaving.{goes_not}
use Rattle.vsd_calls.proofs.Stubbing.{stubs_not}
use Rattle.vsd_calls.proofs.stubs.stub.Goals as goal

pub stub_row-requires-clause-row : goal.stub_row-requires-clause-row
stub_row-requires-clause-row c = c.requires.in_table c.in-Dispatch.row c.in-Dispatch.is

pub stub_row-requires-clause-named : goal.stub_row-requires-clause-named
stub_row-requires-clause-named c = c.requires.named c.in-Dispatch.row c.in-Dispatch.is

pub returns-in_default-clause-trail : goal.returns-in_default-clause-trail
returns-in_default-clause-trail c = stubs_not (key_of c.args.table.now) c.args.site c.args.h c.args.hand.now.seated c.args.cell c.in_default.not-Dispatch

pub returns-in_default-clause-goes : goal.returns-in_default-clause-goes
returns-in_default-clause-goes c = goes_not (view_of c.args.hand.now.seated)

pub returns-clause-trail : goal.returns-clause-trail
returns-clause-trail c =
    subst (λ (cell : CellWord). Makes c.args.hand.now.seated c.stub_row.new.hand.seated (stubbing (key_of c.args.table.now) c.args.site c.args.h cell) (stubbed_of c.stub_row.result)) (sym c.in-Dispatch.is) c.stub_row.ensures.trail
