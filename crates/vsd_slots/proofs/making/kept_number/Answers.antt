use Rattle.std.proofs.Common.{List, Option, Some, sym, subst}
use Rattle.vsd_terms.specs.declared.term.Term.{Term}
use Rattle.vsd_types.specs.Types.{type_at}
use Rattle.vsd_slots.specs.Columns.{IsColumn}
use Rattle.vsd_slots.specs.Rows.{IsColumnOf, IsNumber}
use Rattle.vsd_slots.specs.declared.entries.Entry.{Entry}
use Rattle.vsd_slots.proofs.KeptLaws.{kept-more}
use Rattle.vsd_slots.proofs.NumberLaws.{keeps-more, number-new, still-kept}
use Rattle.vsd_slots.proofs.making.kept_number.Goals as goal

pub returns-clause-kept : goal.returns-clause-kept
returns-clause-kept c =
    let s = c.args.closed.now in
    let b = c.args.base in
    let i = c.args.i in
    let old = c.args.columns.now in
    let new = c.add.new.self in
    let list = c.as_slice.result.now in
    let n = c.in_ok-number.number in
    let P : List Entry → Type 0 = IsColumn s (Some (type_at s.types b)) i in
    let above = subst (λ (o : Option Term). IsColumn s o i c.in_ok-above.above) c.requires.base c.in_ok-above.ensures in
    let column : P list = subst P (sym c.as_slice.ensures) above in
    let here : IsColumnOf s new b i n =
    subst (IsNumber P new) (sym c.in_ok-number.ensures.number) (number-new P old new list c.in_ok-number.ensures.list column) in
    let still = still-kept old new (keeps-more old new list c.in_ok-number.ensures.list) s c.args.kept.now c.requires.kept in
    kept-more s new c.args.kept.now c.keep.new.self b i n c.in_ok-keep.ensures here still
