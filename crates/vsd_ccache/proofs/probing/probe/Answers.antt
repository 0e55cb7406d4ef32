use Rattle.std.proofs.Common.{sym, ◌∙◌}
use Rattle.vsd_rows.proofs.Makes.{answers}
use Rattle.vsd_ccache.proofs.Looking.{Loaded, probes_row, probed_hit, probed_miss}
use Rattle.vsd_ccache.proofs.probing.probe.Goals as goal

pub returns-then-is_hit-clause-trail : goal.returns-then-is_hit-clause-trail
returns-then-is_hit-clause-trail c =
    let version = c.version-version.result in
    let s = c.source-s.result in
    let w = c.cast_word-w.result in
    let again = c.version_again-again.result in
    let l : Loaded c.args.region c.args.row c.args.hand.now.seated c.version_again-again.new.self version s w again = record {
      one = c.version-version.new.self;
      two = c.source-s.new.self;
      three = c.cast_word-w.new.self;
      first = c.version-version.ensures.step;
      second = c.source-s.ensures.step;
      third = c.cast_word-w.ensures.step;
      fourth = c.version_again-again.ensures.step;
      source_in = c.source-s.ensures.in_range;
      word_in = c.cast_word-w.ensures.in_range;
    } in
    answers (probed_hit c.args.source c.args.target version s w again (sym c.is_hit.ensures ∙ c.if-is_hit.true))
    (probes_row c.args.source c.args.target c.args.region c.args.row c.args.hand.now.seated c.version_again-again.new.self version s w again l)

pub returns-else-is_hit-clause-trail : goal.returns-else-is_hit-clause-trail
returns-else-is_hit-clause-trail c =
    let version = c.version-version.result in
    let s = c.source-s.result in
    let w = c.cast_word-w.result in
    let again = c.version_again-again.result in
    let l : Loaded c.args.region c.args.row c.args.hand.now.seated c.version_again-again.new.self version s w again = record {
      one = c.version-version.new.self;
      two = c.source-s.new.self;
      three = c.cast_word-w.new.self;
      first = c.version-version.ensures.step;
      second = c.source-s.ensures.step;
      third = c.cast_word-w.ensures.step;
      fourth = c.version_again-again.ensures.step;
      source_in = c.source-s.ensures.in_range;
      word_in = c.cast_word-w.ensures.in_range;
    } in
    answers (probed_miss c.args.source c.args.target version s w again (sym c.is_hit.ensures ∙ c.if-is_hit.false))
    (probes_row c.args.source c.args.target c.args.region c.args.row c.args.hand.now.seated c.version_again-again.new.self version s w again l)
