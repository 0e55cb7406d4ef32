use Rattle.std.proofs.Common.{◌≡◌, ◌<◌, length, subst, refl, arith}
use Rattle.vsd_compat.specs.Matrices.{Bits, bits_of}
use Rattle.vsd_compat.specs.Moving.{Adds}
use Rattle.vsd_compat.proofs.Rules.{listed_interface, number_is_set, variant-right}
use Rattle.vsd_compat.proofs.relation.relate.Goals as goal

pub returns-clause-sound : goal.returns-clause-sound
returns-clause-sound c = λ sound.
    let s = c.args.closed.now in
    let b : Bits = bits_of c.args.matrix.now in
    let new : Bits = bits_of c.set.new.self in
    let t_in : c.args.t < length s.types = omega (arith, c.requires.first, c.requires.count) in
    let u_in : c.args.u < length s.types = omega (arith, c.requires.second, c.requires.count) in
    let one = rw (c.from.ensures, c.from-2.ensures) at c.if-not-is_one_interface.ensures.0 refl in
    let same = (listed_interface s c.args.generics.now c.requires.generics c.args.t c.args.u t_in u_in).0 one in
    let right = variant-right s b c.requires.closed sound c.args.t c.args.u t_in u_in same (c.if-not-are_variant.ensures.0 refl) in
    number_is_set s b sound c.args.t c.args.u t_in u_in right new (subst (λ n. Adds n b new (λ i j. (i ≡ c.args.t) × (j ≡ c.args.u))) c.requires.count c.set.ensures.adds)
