use Rattle.std.proofs.Common.{◌≡◌, ◌+◌, ◌*◌, ◌/◌, ◌%◌, ◌^◌, ◌<◌, bit_or, get_or, set, refl, subst, sym, ap, arith}
use Rattle.std.proofs.lemmas.List.{get_or_read}
use Rattle.std.proofs.lemmas.List.Elements.{All-set}
use Rattle.std.proofs.lemmas.List.Sums.{sum_by-set}
use Rattle.std.proofs.lemmas.Nat.{le_or_l, or_lt}
use Rattle.vsd_compat.proofs.Bits.{Bit, put-kept}
use Rattle.vsd_compat.proofs.matrix.Matrix.put.Goals as goal

pub returns-clause-moves : goal.returns-clause-moves
returns-clause-moves c =
    let ws = c.args.self.now.words.items in
    let r = c.index-old.result.now in
    let read : r ≡ get_or ws c.args.place 0 = get_or_read ws c.args.place r (omega arith) c.index-old.ensures 0 in
    let same : set ws c.args.place (bit_or (get_or ws c.args.place 0) c.args.bits) ≡ set ws c.args.place (bit_or r c.args.bits) = ap (λ x. set ws c.args.place (bit_or x c.args.bits)) (sym read) in
    let e = sum_by-set (λ x. x) ws c.args.place (bit_or r c.args.bits) r (omega arith) in
    record {
      count = refl;
      width = refl;
      kept = λ t u h. subst (λ l. Bit l (t * c.args.self.now.width + u / 64) (u % 64)) same (put-kept ws c.args.place c.args.bits (omega arith) (t * c.args.self.now.width + u / 64) (u % 64) h);
      stays = λ h. absurd cc;
      grows = λ _. omega (arith, e, le_or_l r c.args.bits, c.if-new-old.false, c.index-old.ensures);
    }

pub invariant_of-self-clause-fits : goal.invariant_of-self-clause-fits
invariant_of-self-clause-fits c =
    All-set (λ word. word < 2 ^ 64) c.args.self.now.words.items c.args.place (bit_or c.index-old.result.now c.args.bits) (or_lt 64 c.index-old.result.now c.args.bits c.type_inv.old.fits c.ranges.bits.fits) c.args.self.now.fits
