use Rattle.std.proofs.Common.{◌≡◌, ℕ, ◌<◌, false, length, sym, ap, ◌∙◌, arith}
use Rattle.std.proofs.lemmas.List.{get_or_read}
use Rattle.vsd_graph.specs.Seen.{is_seen}
use Rattle.vsd_graph.proofs.SeenLemmas.{comes_back, none_seen}
use Rattle.vsd_graph.proofs.reaching.reaches_itself.Goals as goal

pub returns : goal.returns
returns c =
    let old = c.in_ok-seen.seen.items in
    let new = c.follow.new.seen.items in
    let at = c.args.at in
    let none : (i : ℕ) → is_seen old i ≡ false = λ i. ap (λ xs. is_seen xs i) (c.in_ok-seen.ensures.items_if_clones_equal (λ y e. e)) ∙ none_seen (length c.args.graph.now) i in
    let within : at < length new = omega (arith, c.follow.ensures.marks.count, c.requires.within, c.in_ok-seen.ensures.len) in
    let both = comes_back c.args.graph.now old new at none c.follow.ensures in
    let read = get_or_read new at c.index.result.now within c.index.ensures false in
    (λ h. both.0 (sym read ∙ h), λ r. read ∙ both.1 r)
