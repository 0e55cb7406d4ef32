use Rattle.std.proofs.Common.{◌≡◌, ℕ, ◌-◌, ◌*◌, ◌^◌, ap, arith}
use Rattle.vsd_rule.specs.Layout.{cast_rows, word_count}
use Rattle.vsd_rule.proofs.Numbering.{cast_row-below}
use Rattle.vsd_table.specs.Seating.{key_of}
use Rattle.vsd_table.proofs.shared.Shared.cast_index.Goals as goal

pub returns-clause-within : goal.returns-clause-within
unfolding cast_rows
returns-clause-within c =
    let table = c.args.self.now in
    let below = cast_row-below (key_of table).sizes c.args.region c.args.row c.requires.region c.requires.row in
    let same : cast_rows table.sizes ≡ cast_rows (key_of table).sizes = ap (λ (n : ℕ). 128 * (2 ^ n - 1)) table.known.6 in
    let number = c.cast_row.ensures.number in
    let from = table.located.6 in
    let all : table.table.shared.table_id.words ≡ word_count table.sizes = table.counted in
    omega arith
