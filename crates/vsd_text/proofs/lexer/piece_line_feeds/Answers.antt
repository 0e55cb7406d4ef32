use Rattle.std.proofs.Common.{sym}
use Rattle.vsd_text.proofs.LineFeeds.{piece_has_no_line_feed}
use Rattle.vsd_text.proofs.lexer.piece_line_feeds.Goals as goal

pub returns-then-not-may_hold_line_feeds : goal.returns-then-not-may_hold_line_feeds
returns-then-not-may_hold_line_feeds c =
    let is_piece = c.requires.is_piece in
    sym (piece_has_no_line_feed c.args.text.now c.args.at is_piece.0 c.args.piece c.in-Some.kind c.requires.in_range is_piece.1 c.in-Some.is
    (λ is_text. let holds = c.may_hold_line_feeds.ensures.1 is_text in cc))
