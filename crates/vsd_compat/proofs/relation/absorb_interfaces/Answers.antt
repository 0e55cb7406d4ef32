use Rattle.std.proofs.Common.{◌≡◌, ◌<◌, inl, inr, Contains, length, get_or, Some, subst, sym, ap, ◌∙◌, arith}
use Rattle.std.specs.List.{slice_get}
use Rattle.std.proofs.lemmas.Bool.{cases_order}
use Rattle.std.proofs.lemmas.List.Elements.{Contains-get_or}
use Rattle.std.proofs.lemmas.Option.{get_or_from_slice_get, slice_get-get_or}
use Rattle.vsd_types.specs.Types.{named_of, object, type_at}
use Rattle.vsd_types.proofs.NumberLemmas.{numbers-at, numbers-length}
use Rattle.vsd_compat.specs.Compatibility.{by_interface}
use Rattle.vsd_compat.specs.Matrices.{Bits, bits_of, IsSet}
use Rattle.vsd_compat.specs.Moving.{Adds}
use Rattle.vsd_compat.proofs.Moving.{Moves-twice, both_false}
use Rattle.vsd_compat.proofs.Rules.{absorb-sound, absorbed, number_at}
use Rattle.vsd_compat.proofs.relation.absorb_interfaces.Goals as goal

pub loop-interface-preserved : goal.loop-interface-preserved
loop-interface-preserved c =
    let s = c.args.closed.now in
    let t = c.args.t in
    let items = c.named-interface-items.result.now in
    let i = c.loop-interface.interface-index in
    let x = get_or items i 0 in
    let before = c.loop-interface.invariant in
    let b : Bits = bits_of c.loop-interface.matrix in
    let new : Bits = bits_of c.absorb-changed.new.self in
    let count : c.loop-interface.matrix.count ≡ length s.types = before.moves.count ∙ c.requires.count in
    let adds = subst (λ n. Adds n b new (λ i j. (i ≡ t) × IsSet b x j)) count c.absorb-changed.ensures.adds in
    let x_in : x < length s.types = c.named-interface-items.ensures.within i c.loop-interface-test.true in
    let t_in : t < length s.types = omega (arith, c.requires.within, c.requires.count) in
    let named = named_of s.decls.list (type_at s.types t) in
    let long : i < length named = omega (arith, c.loop-interface-test.true, numbers-length s.types items named c.named-interface-items.ensures.numbers) in
    let at = numbers-at s.types items named c.named-interface-items.ensures.numbers i 0 object c.loop-interface-test.true in
    let same : type_at s.types x ≡ get_or named i object = get_or_from_slice_get s.types x (get_or named i object) object at in
    let has : Contains named (type_at s.types x) = subst (Contains named) (sym same) (Contains-get_or named i object long) in
    record {
      moves = Moves-twice _ _ _ _ _ before.moves c.absorb-changed.ensures.moves;
      sound = λ sound. absorb-sound s c.requires.distinct b new t x x_in adds (λ u related. by_interface (type_at s.types x) has related) (before.sound sound);
      absorbed = λ still k below u u_in set.
          let parts = both_false c.loop-interface.changed c.absorb-changed.result still in
          let stays = c.absorb-changed.ensures.moves.stays parts.1 in
          elim (cases_order k i) [
            | inl here ↦ absorbed s c.requires.distinct b new t x x_in adds t_in stays u u_in (subst (λ n. IsSet new (get_or items n 0) u) here set)
            | inr other ↦
                let low : k < i = elim other [ inl less ↦ less | inr more ↦ absurd (omega arith) ] in
                subst (λ a. IsSet a t u) (sym stays) (before.absorbed parts.0 k low u u_in (subst (λ a. IsSet a (get_or items k 0) u) stays set))
          ];
    }

pub returns-clause-settled : goal.returns-clause-settled
returns-clause-settled c = λ still x x_in has u u_in set.
    let s = c.args.closed.now in
    let items = c.named-interface-items.result.now in
    let named = named_of s.decls.list (type_at s.types c.args.t) in
    let before = c.loop-interface.invariant in
    let place : slice_get named has.0 ≡ Some (type_at s.types x) = slice_get-get_or named has.0 (type_at s.types x) has.1 ∙ ap Some has.2 in
    let number = number_at s c.requires.distinct items named c.named-interface-items.ensures.numbers has.0 x x_in place in
    let same : get_or items has.0 0 ≡ x = get_or_from_slice_get items has.0 x 0 number in
    let within : has.0 < c.loop-interface.interface-index = omega (arith, has.1, numbers-length s.types items named c.named-interface-items.ensures.numbers, c.loop-interface-test.false) in
    before.absorbed still has.0 within u u_in (subst (λ n. IsSet (bits_of c.loop-interface.matrix) n u) (sym same) set)
