use Rattle.std.proofs.Common.{◌≡◌, length, Some, subst, arith}
use Rattle.vsd_types.specs.Types.{base_of, type_at}
use Rattle.vsd_compat.specs.Compatibility.{by_base}
use Rattle.vsd_compat.specs.Matrices.{Bits, bits_of, IsSet}
use Rattle.vsd_compat.specs.Moving.{Adds}
use Rattle.vsd_compat.proofs.Rules.{absorb-sound, absorbed, base_is, number_of_base, same_some}
use Rattle.vsd_compat.proofs.relation.absorb_base.Goals as goal

pub returns-in-Some-clause-sound : goal.returns-in-Some-clause-sound
returns-in-Some-clause-sound c =
    let s = c.args.closed.now in
    let x = c.in-Some.base in
    let b : Bits = bits_of c.args.matrix.now in
    let new : Bits = bits_of c.absorb.new.self in
    let adds = subst (λ n. Adds n b new (λ i j. (i ≡ c.args.t) × IsSet b x j)) c.requires.count c.absorb.ensures.adds in
    let is = base_is s x (base_of s.decls.list (type_at s.types c.args.t)) c.in-Some.ensures.number in
    absorb-sound s c.requires.distinct b new c.args.t x c.in-Some.ensures.within adds (λ u related. by_base (type_at s.types x) is related)

pub returns-in-Some-clause-settled : goal.returns-in-Some-clause-settled
returns-in-Some-clause-settled c = λ still x x_in is u u_in set.
    let s = c.args.closed.now in
    let b : Bits = bits_of c.args.matrix.now in
    let new : Bits = bits_of c.absorb.new.self in
    let adds = subst (λ n. Adds n b new (λ i j. (i ≡ c.args.t) × IsSet b c.in-Some.base j)) c.requires.count c.absorb.ensures.adds in
    let same : c.in-Some.base ≡ x = same_some (number_of_base s c.requires.distinct (Some c.in-Some.base) (base_of s.decls.list (type_at s.types c.args.t)) x x_in c.in-Some.ensures.number is) in
    let here = subst (λ n. Adds (length s.types) b new (λ i j. (i ≡ c.args.t) × IsSet b n j)) same adds in
    absorbed s c.requires.distinct b new c.args.t x x_in here (omega (arith, c.requires.within, c.requires.count)) (c.absorb.ensures.moves.stays still) u u_in set
