use Rattle.std.proofs.Common.{◌≡◌, ◌≢◌, length, sym, ap, ◌∙◌, arith}
use Rattle.vsd_answers.specs.Numbering.{place_of_pair}
use Rattle.vsd_answers.proofs.Pairs.{with_pair-new, with_pair-old}
use Rattle.vsd_answers.proofs.numbering.number_of.Goals as goal

pub returns-in_ok-push-clause-list : goal.returns-in_ok-push-clause-list
returns-in_ok-push-clause-list c =
    let old = c.args.list.now.items in
    let same : place_of_pair c.deref.result.now c.args.pair ≡ place_of_pair old c.args.pair = ap (λ l. place_of_pair l c.args.pair) c.deref.ensures.value in
    let size : length c.deref.result.now ≡ length old = ap length c.deref.ensures.value in
    let end : place_of_pair old c.args.pair ≡ length old = omega (arith, c.place_of-place.ensures.place, c.len.ensures, c.deref.ensures.len, c.if-place-len.true) in
    c.in_ok-push.ensures.items ∙ sym (with_pair-new old c.args.pair end)

pub returns-else-place-len-clause-list : goal.returns-else-place-len-clause-list
returns-else-place-len-clause-list c =
    let old = c.args.list.now.items in
    let same : place_of_pair c.deref.result.now c.args.pair ≡ place_of_pair old c.args.pair = ap (λ l. place_of_pair l c.args.pair) c.deref.ensures.value in
    let size : length c.deref.result.now ≡ length old = ap length c.deref.ensures.value in
    let before : place_of_pair old c.args.pair ≢ length old = omega (arith, c.place_of-place.ensures.place, c.len.ensures, c.deref.ensures.len, c.if-place-len.false) in
    sym (with_pair-old old c.args.pair before)
