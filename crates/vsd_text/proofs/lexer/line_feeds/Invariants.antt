use Rattle.std.proofs.Common.{◌≡◌, take}
use Rattle.vsd_text.specs.Tokens.{line_feeds}
use Rattle.vsd_text.proofs.lexer.line_feeds.Given as goal

abbrev pub invariant-loop-byte : goal.invariant-loop-byte
invariant-loop-byte l = l.count ≡ line_feeds (take l.byte-index l.bytes)
