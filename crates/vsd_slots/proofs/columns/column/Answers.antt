use Rattle.std.proofs.Common.{List, None, Some, length}
use Rattle.std.proofs.lemmas.Result.{on_ok_weaker}
use Rattle.vsd_types.specs.Types.{type_at}
use Rattle.vsd_slots.specs.Columns.{AreEach, IsColumn}
use Rattle.vsd_slots.specs.Entries.{IsCombined, IsStep}
use Rattle.vsd_slots.specs.declared.entries.Entry.{Entry}
use Rattle.vsd_slots.proofs.ColumnLaws.{passed-steps, stepped-column}
use Rattle.vsd_slots.proofs.RaggedLaws.{gains-weaker}
use Rattle.vsd_slots.proofs.columns.column.Goals as goal

pub returns-then-bare : goal.returns-then-bare
returns-then-bare c =
    let s = c.args.closed.now in
    let t = c.args.t in
    let i = c.args.i in
    let above = c.args.above.now in
    let has = c.args.has in
    let P : List Entry → Type 0 = AreEach (λ m. IsCombined None None has) (length above) above in
    let Q : List Entry → Type 0 = IsColumn s (Some (type_at s.types t)) i in
    let step : (column : List Entry) → P column → Q column = λ column each. stepped-column s t i above column c.requires.above (passed-steps s t i has above column c.requires.above (c.requires.bare c.if-bare.true) c.requires.having each) in
    on_ok_weaker c.passed_on.result (gains-weaker P Q c.args.found.now c.passed_on.new.found step) c.passed_on.ensures

pub returns : goal.returns
returns c =
    let s = c.args.closed.now in
    let t = c.args.t in
    let i = c.args.i in
    let above = c.args.above.now in
    let P : List Entry → Type 0 = AreEach (IsStep s t i) (length above) above in
    let Q : List Entry → Type 0 = IsColumn s (Some (type_at s.types t)) i in
    on_ok_weaker c.stepped.result (gains-weaker P Q c.args.found.now c.stepped.new.found (λ column each. stepped-column s t i above column c.requires.above each)) c.stepped.ensures
