use Rattle.std.proofs.Common.{◌≡◌, ◌+◌, ◌∷◌, drop, get_or, arith}
use Rattle.std.proofs.lemmas.List.{drop_more}
use Rattle.vsd_text.specs.Tokens.{text_len}
use Rattle.vsd_text.proofs.pieces.escape_len.Goals as goal

-- the backslash and the byte that it takes
pub returns-then-at-text-clause-exact : goal.returns-then-at-text-clause-exact
unfolding text_len
returns-then-at-text-clause-exact c =
    let text = c.args.text.now in
    let first : drop c.args.at text ≡ get_or text c.args.at 0 ∷ drop (c.args.at + 1) text = drop_more text c.args.at 0 (omega arith) in
    let second : drop (c.args.at + 1) text ≡ get_or text (c.args.at + 1) 0 ∷ drop (c.args.at + 1 + 1) text = drop_more text (c.args.at + 1) 0 (omega arith) in
    let there : c.args.at + 1 + 1 ≡ c.args.at + 2 = omega arith in
    rw (first, second, c.requires.is_backslash, there) (omega arith)
