use Rattle.std.proofs.Common.{◌≡◌, ◌+◌, ◌*◌, ◌<◌, bit_or, length, get_or, set, subst, sym, ap, ◌∙◌, refl, arith}
use Rattle.std.proofs.lemmas.List.{get_or_read}
use Rattle.std.proofs.lemmas.Nat.{mul-add-lt}
use Rattle.vsd_compat.specs.Matrices.{Bits, bits_of, IsSet}
use Rattle.vsd_compat.specs.Moving.{Adds}
use Rattle.vsd_compat.proofs.Bits.{Bit, absorb-adds, next-kept, next-added, next-only, same_bits}
use Rattle.vsd_compat.proofs.Moving.{Moves-twice}
use Rattle.vsd_compat.proofs.matrix.Matrix.absorb.Goals as goal

pub loop-k-preserved : goal.loop-k-preserved
loop-k-preserved c =
    let m = c.args.self.now in
    let w = m.width in
    let before = c.loop-k.invariant in
    let now = c.loop-k.self.words.items in
    let k = c.loop-k.k in
    let to = c.from.result in
    let from = c.from-2.result in
    let size : length now ≡ c.loop-k.self.count * c.loop-k.self.width = omega (arith, c.loop-k.self.long, c.loop-k.self.words.ok.0) in
    let long : length now ≡ m.count * w = size ∙ ap (λ n. n * c.loop-k.self.width) before.moves.count ∙ ap (λ n. m.count * n) before.moves.width in
    let within : to * w + k < length now = omega (arith, long, mul-add-lt to w k m.count (omega (arith, c.from.ensures, c.requires.to)) c.loop-k-test.true) in
    let from_in : from * w + k < length now = omega (arith, long, mul-add-lt from w k m.count (omega (arith, c.from-2.ensures, c.requires.from)) c.loop-k-test.true) in
    let item : c.index-bits.result.now ≡ get_or now (from * w + k) 0 = get_or_read now _ _ from_in c.index-bits.ensures 0 in
    let next : c.put-moved.new.self.words.items ≡ set now (to * w + k) (bit_or (get_or now (to * w + k) 0) (get_or now (from * w + k) 0)) = c.put-moved.ensures.after ∙ ap (λ x. set now (to * w + k) (bit_or (get_or now (to * w + k) 0) x)) item in
    record {
      moves = Moves-twice _ _ _ _ _ before.moves c.put-moved.ensures.moves;
      kept = λ q b h. subst (λ l. Bit l q b) (sym next) (next-kept m.words.items now w to from k within c.loop-k-test.true before.kept q b h);
      added = λ j b below h. subst (λ l. Bit l (to * w + j) b) (sym next) (next-added m.words.items now w to from k within c.loop-k-test.true before.kept before.added j b below h);
      only = λ q b h. next-only m.words.items now w to from k within c.loop-k-test.true before.only q b (subst (λ l. Bit l q b) next h);
    }

pub returns-clause-adds : goal.returns-clause-adds
returns-clause-adds c =
    let m = c.args.self.now in
    let old : Bits = bits_of m in
    let before = c.loop-k.invariant in
    let new = c.loop-k.self.words.items in
    let to = c.from.result in
    let from = c.from-2.result in
    let long : length m.words.items ≡ m.count * m.width = omega (arith, m.long, m.words.ok.0) in
    let adds = absorb-adds m.width m.count m.words.items m.wide long new to from (omega (arith, c.from.ensures, c.requires.to)) (λ j b below h. before.added j b (omega (arith, below, c.loop-k-test.false)) h) before.only in
    let here = subst (λ n. Adds m.count old (record { width = m.width; words = new }) (λ i j. (i ≡ n) × IsSet old from j)) c.from.ensures adds in
    let there = subst (λ n. Adds m.count old (record { width = m.width; words = new }) (λ i j. (i ≡ c.args.to) × IsSet old n j)) c.from-2.ensures here in
    subst (λ (b : Bits). Adds m.count old b (λ i j. (i ≡ c.args.to) × IsSet old c.args.from j)) (sym (same_bits _ _ _ _ before.moves.width refl)) there
