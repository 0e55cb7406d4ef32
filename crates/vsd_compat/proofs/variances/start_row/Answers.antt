use Rattle.std.proofs.Common.{◌≡◌, ◌<◌, IfSome, Some, length, refl, subst, ◌∙◌, arith}
use Rattle.std.specs.List.{slice_get}
use Rattle.std.proofs.lemmas.Option.{get_or_from_slice_get, slice_get_within}
use Rattle.vsd_types.specs.Types.{object, type_at}
use Rattle.vsd_compat.specs.Compatibility.{same, to_object}
use Rattle.vsd_compat.specs.Matrices.{Bits, bits_of}
use Rattle.vsd_compat.specs.Moving.{Adds}
use Rattle.vsd_compat.proofs.Rules.{number_is_set}
use Rattle.vsd_compat.proofs.variances.start_row.Goals as goal

pub returns-in_default-clause-sound : goal.returns-in_default-clause-sound
returns-in_default-clause-sound c = λ sound.
    let s = c.args.closed.now in
    let t = c.args.t in
    let b : Bits = bits_of c.args.matrix.now in
    let new : Bits = bits_of c.set.new.self in
    let t_in : t < length s.types = omega (arith, c.requires.within, c.requires.count) in
    number_is_set s b sound t t t_in t_in (same refl) new (subst (λ n. Adds n b new (λ i j. (i ≡ t) × (j ≡ t))) c.requires.count c.set.ensures.adds)

pub returns-in-Some-clause-sound : goal.returns-in-Some-clause-sound
returns-in-Some-clause-sound c = λ sound.
    let s = c.args.closed.now in
    let t = c.args.t in
    let o = c.in-Some.object in
    let b : Bits = bits_of c.args.matrix.now in
    let mid : Bits = bits_of c.set.new.self in
    let new : Bits = bits_of c.set-in-Some.new.self in
    let t_in : t < length s.types = omega (arith, c.requires.within, c.requires.count) in
    let own = number_is_set s b sound t t t_in t_in (same refl) mid (subst (λ n. Adds n b mid (λ i j. (i ≡ t) × (j ≡ t))) c.requires.count c.set.ensures.adds) in
    let found : slice_get s.types o ≡ Some object = subst (λ x. IfSome x (λ n. slice_get s.types n ≡ Some object)) c.in-Some.is c.requires.object in
    let is : type_at s.types o ≡ object = get_or_from_slice_get s.types o object object found in
    number_is_set s mid own t o t_in (slice_get_within s.types o object found) (to_object is) new (subst (λ n. Adds n mid new (λ i j. (i ≡ t) × (j ≡ o))) (c.set.ensures.moves.count ∙ c.requires.count) c.set-in-Some.ensures.adds)
