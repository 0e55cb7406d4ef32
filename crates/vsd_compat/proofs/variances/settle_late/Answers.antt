use Rattle.std.proofs.Common.{◌≡◌, ◌*◌, ◌^◌, ◌≤◌, length, sum, inl, inr, refl, ap, ◌∙◌, arith}
use Rattle.std.proofs.lemmas.Bool.{cases_lt}
use Rattle.std.proofs.lemmas.List.{get_or_past}
use Rattle.vsd_compat.specs.declared.matrix.Matrix.{Matrix}
use Rattle.vsd_compat.proofs.Improving.{Improves-moves, Improves-twice}
use Rattle.vsd_compat.proofs.Sweeping.{words_bounded}
use Rattle.vsd_compat.proofs.variances.settle_late.Goals as goal

pub returns-then-not-sweep-clause-settled : goal.returns-then-not-sweep-clause-settled
returns-then-not-sweep-clause-settled c = c.if-not-sweep.ensures.settled refl

-- the words of a matrix add up to no more than its words can hold
bounded : (m : Matrix) → sum m.words.items ≤ m.count * m.width * 2 ^ 64
bounded m =
    let all = words_bounded m.words.items (λ i. elim (cases_lt i (length m.words.items)) [ inl within ↦ m.fits i 0 within | inr past ↦ omega (arith, get_or_past m.words.items i 0 past) ]) in
    let size : length m.words.items ≡ m.count * m.width = omega (arith, m.long, m.words.ok.0) in
    omega (arith, all, ap (λ n. n * 2 ^ 64) size)

pub sweeps-smaller : goal.sweeps-smaller
sweeps-smaller c =
    let old = c.sweeps.invariant in
    let hurried = c.hurry.ensures in
    let moves = c.if-not-sweep.ensures.moves in
    let new = c.sweep.new.matrix in
    let first = c.args.matrix.now in
    let same : new.count * new.width ≡ first.count * first.width = ap (λ n. n * new.width) (moves.count ∙ hurried.count ∙ old.count) ∙ ap (λ n. first.count * n) (moves.width ∙ hurried.width ∙ old.width) in
    let top : sum new.words.items ≤ first.count * first.width * 2 ^ 64 = omega (arith, bounded new, ap (λ n. n * 2 ^ 64) same) in
    omega (arith, moves.grows refl, hurried.rises, top)

pub sweeps-preserved : goal.sweeps-preserved
sweeps-preserved c =
    let swept = Improves-moves _ _ _ _ c.if-not-sweep.ensures.moves c.if-not-sweep.ensures.sound in
    Improves-twice _ _ _ _ c.sweeps.invariant (Improves-twice _ _ _ _ c.hurry.ensures swept)
