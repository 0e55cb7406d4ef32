use Rattle.std.proofs.Common.{◌≡◌, ◌+◌, ◌<◌, ◌≤◌, get_or, length, arith}
use Rattle.vsd_itable.proofs.FillLaws.{number-below, read_any}
use Rattle.vsd_itable.proofs.numbering.number_of.Goals as goal

pub overflow_add-result : goal.overflow_add-result
overflow_add-result c =
    let s = c.args.closed.now in
    let m = c.args.method in
    let few : length s.types ≤ 1024 = omega (arith, c.count-count.ensures.count, c.count-count.ensures.most) in
    let below = number-below s c.args.numbers.now.methods.items c.args.numbers.now.starts.items m c.requires.numbered c.requires.listed few in
    let inside : m.class < length c.args.numbers.now.starts.items = omega (arith, c.requires.numbered.starts_count, c.requires.listed.class) in
    let read = read_any c.args.numbers.now.starts.items m.class c.index.result.now 0 inside in
    record { fits = omega (arith, below, read, c.index.ensures, c.from.ensures) }

pub returns-clause-few : goal.returns-clause-few
returns-clause-few c =
    let s = c.args.closed.now in
    let m = c.args.method in
    let few : length s.types ≤ 1024 = omega (arith, c.count-count.ensures.count, c.count-count.ensures.most) in
    let below = number-below s c.args.numbers.now.methods.items c.args.numbers.now.starts.items m c.requires.numbered c.requires.listed few in
    let inside : m.class < length c.args.numbers.now.starts.items = omega (arith, c.requires.numbered.starts_count, c.requires.listed.class) in
    let read = read_any c.args.numbers.now.starts.items m.class c.index.result.now 0 inside in
    omega (arith, below, read, c.index.ensures, c.from.ensures)
