use Rattle.std.proofs.Common.{◌≡◌, ◌*◌, length, subst, sym, arith}
use Rattle.vsd_compat.specs.Matrices.{Bits, bits_of}
use Rattle.vsd_compat.specs.Moving.{Adds}
use Rattle.vsd_compat.proofs.Bits.{same_bits, set-adds}
use Rattle.vsd_compat.proofs.matrix.Matrix.set.Goals as goal

pub returns-clause-adds : goal.returns-clause-adds
returns-clause-adds c =
    let m = c.args.self.now in
    let t = c.args.t in
    let u = c.args.u in
    let long : length m.words.items ≡ m.count * m.width = omega (arith, m.long, m.words.ok.0) in
    let adds = set-adds m.width m.count m.words.items m.wide long t u c.requires.first c.requires.second in
    let after = rw (c.from-t.ensures, c.from-u.ensures) at c.put.ensures.after in
    subst (λ (b : Bits). Adds m.count (bits_of m) b (λ i j. (i ≡ t) × (j ≡ u))) (sym (same_bits _ _ _ _ c.put.ensures.moves.width after)) adds
