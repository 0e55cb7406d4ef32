use Rattle.std.proofs.Common.{◌≡◌, ◌+◌, ◌∙◌, get_or, drop, Ok, sym, ap, subst, arith}
use Rattle.std.proofs.lemmas.Bool.{lt-ltb, cond-true}
use Rattle.std.proofs.lemmas.Result.{err_from_is_err_and}
use Rattle.std.proofs.lemmas.List.Elements.{All-nil}
use Rattle.std.specs.Prelude.{All}
use Rattle.vsd_text.specs.Bytes.{is_of_class}
use Rattle.vsd_text.specs.Tokens.{tokens_of, LiesWithin}
use Rattle.vsd_text.specs.declared.tokens.TokenKind.TheVariants.{Word, Number, Symbol}
use Rattle.vsd_text.proofs.ClassPieces.{letter_piece, digit_piece, symbol_piece, space_piece, space_feeds, line_feed_piece, line_feed_feeds, bad_piece}
use Rattle.vsd_text.proofs.Reached.{Reached, after_piece, after_token, after_gap}
use Rattle.vsd_text.proofs.Steps.{tokens_of-short, tokens_of-at_end, tokens_of-refused, gives_refusal}
use Rattle.vsd_text.proofs.lexer.lex.Goals as goal

pub returns-then-text-gt-TEXT_LIMIT-clause-exact :
    goal.returns-then-text-gt-TEXT_LIMIT-clause-exact
unfolding tokens_of
returns-then-text-gt-TEXT_LIMIT-clause-exact c = cond-true _ _ _ (lt-ltb _ _ c.if-text-gt-TEXT_LIMIT.true)

pub loop-at-init : goal.loop-at-init
loop-at-init c =
    let empty = c.new-tokens.ensures.items in
    let mark = c.mark_len-at.ensures.exact in
    record {
      in_range = c.mark_len-at.ensures.inside;
      short = omega arith;
      few_lines = omega arith;
      same = rw (empty, mark) (tokens_of-short c.args.text.now (omega arith));
      inside = subst (All (LiesWithin c.args.text.now)) (sym empty) (All-nil (LiesWithin c.args.text.now));
      few = rw empty (omega arith);
    }

pub loop-at-preserved-in-Letter : goal.loop-at-preserved-in-Letter
loop-at-preserved-in-Letter c =
    let text = c.args.text.now in
    let at = c.loop-at.at in
    let line = c.loop-at.line in
    let run = c.run_at-piece in
    let found = letter_piece line (get_or text at 0) (drop (at + 1) text) c.in-Letter.ensures ∙ ap Ok (sym run.ensures.exact) in
    after_token text c.loop-at.tokens.items at line c.loop-at.invariant run.result run.ensures.inside found _ (Word, (ap (λ p. p.kind) run.ensures.exact, λ other. cc)) c.in_ok-push_piece-in-Letter.ensures.ok

pub loop-at-preserved-in-Digit : goal.loop-at-preserved-in-Digit
loop-at-preserved-in-Digit c =
    let text = c.args.text.now in
    let at = c.loop-at.at in
    let line = c.loop-at.line in
    let run = c.run_at-piece-in-Digit in
    let found = digit_piece line (get_or text at 0) (drop (at + 1) text) c.in-Digit.ensures ∙ ap Ok (sym run.ensures.exact) in
    after_token text c.loop-at.tokens.items at line c.loop-at.invariant run.result run.ensures.inside found _ (Number, (ap (λ p. p.kind) run.ensures.exact, λ other. cc)) c.in_ok-push_piece-in-Digit.ensures.ok

pub loop-at-preserved-in-Symbol : goal.loop-at-preserved-in-Symbol
loop-at-preserved-in-Symbol c =
    let text = c.args.text.now in
    let at = c.loop-at.at in
    let line = c.loop-at.line in
    let is = c.token-piece.ensures in
    let alone : c.token-piece.result.more ≡ 0 = ap (λ p. p.more) is in
    let there : at + (1 + c.token-piece.result.more) ≡ at + 1 = omega arith in
    let found = symbol_piece line (get_or text at 0) (drop (at + 1) text) c.in-Symbol.ensures ∙ ap Ok (sym is) in
    subst (λ next. Reached text c.push_piece-in-Symbol.new.tokens.items next line) there
    (after_token text c.loop-at.tokens.items at line c.loop-at.invariant c.token-piece.result (omega arith) found _ (Symbol _, (ap (λ p. p.kind) is, λ other. cc)) c.in_ok-push_piece-in-Symbol.ensures.ok)

pub twin_at-piece-requires-clause-is_twin : goal.twin_at-piece-requires-clause-is_twin
unfolding is_of_class
twin_at-piece-requires-clause-is_twin c = c.in-Twin.ensures

pub loop-at-preserved-in-Twin : goal.loop-at-preserved-in-Twin
loop-at-preserved-in-Twin c =
    let twin = c.twin_at-piece in
    after_token c.args.text.now c.loop-at.tokens.items c.loop-at.at c.loop-at.line c.loop-at.invariant twin.result twin.ensures.inside (twin.ensures.exact c.loop-at.line) _ twin.ensures.one_line c.in_ok-push_piece-in-Twin.ensures.ok

pub loop-at-preserved-in-Space : goal.loop-at-preserved-in-Space
loop-at-preserved-in-Space c =
    let text = c.args.text.now in
    let at = c.loop-at.at in
    let line = c.loop-at.line in
    let same_line : line + 0 ≡ line = omega arith in
    subst (Reached text c.loop-at.tokens.items (at + 1)) same_line
    (after_gap text c.loop-at.tokens.items at line c.loop-at.invariant c.loop-at-test.true (space_piece line (get_or text at 0) (drop (at + 1) text) c.in-Space.ensures) 0 (space_feeds (get_or text at 0) c.in-Space.ensures))

pub loop-at-preserved-in-LineFeed : goal.loop-at-preserved-in-LineFeed
loop-at-preserved-in-LineFeed c =
    let text = c.args.text.now in
    let at = c.loop-at.at in
    let line = c.loop-at.line in
    after_gap text c.loop-at.tokens.items at line c.loop-at.invariant c.loop-at-test.true (line_feed_piece line (get_or text at 0) (drop (at + 1) text) c.in-LineFeed.ensures) 1 (line_feed_feeds (get_or text at 0) c.in-LineFeed.ensures)

pub opened_at-requires-clause-opens : goal.opened_at-requires-clause-opens
unfolding is_of_class
opened_at-requires-clause-opens c = c.in-Opening.ensures

pub returns-in_err-piece-in-Opening-clause-exact : goal.returns-in_err-piece-in-Opening-clause-exact
returns-in_err-piece-in-Opening-clause-exact c =
    let refused = c.in_err-piece-in-Opening in
    let passed_on = err_from_is_err_and c.from_residual-in_err-piece-in-Opening.result c.from_residual-in_err-piece-in-Opening.ensures.1 in
    rw (passed_on.1, passed_on.2)
    (gives_refusal (tokens_of c.args.text.now) refused.field-0.0
    (tokens_of-refused c.args.text.now c.loop-at.tokens.items c.loop-at.at c.loop-at.line c.loop-at.invariant.same _ c.loop-at-test.true (sym refused.ensures.exact)))

pub returns-in-Bad-clause-exact : goal.returns-in-Bad-clause-exact
returns-in-Bad-clause-exact c =
    let text = c.args.text.now in
    let at = c.loop-at.at in
    let line = c.loop-at.line in
    tokens_of-refused text c.loop-at.tokens.items at line c.loop-at.invariant.same _ c.loop-at-test.true (bad_piece line (get_or text at 0) (drop (at + 1) text) c.in-Bad.ensures)

pub loop-at-preserved : goal.loop-at-preserved
loop-at-preserved c =
    let opened = c.in_ok-piece-in-Opening in
    after_piece c.args.text.now c.loop-at.tokens.items c.loop-at.at c.loop-at.line c.loop-at.invariant opened.piece opened.ensures.inside (sym opened.ensures.exact) _ _ c.in_ok-push_piece-in-Opening.ensures.ok c.piece_line_feeds-line.ensures

pub returns-clause-exact : goal.returns-clause-exact
returns-clause-exact c =
    tokens_of-at_end c.args.text.now c.loop-at.tokens.items c.loop-at.at c.loop-at.line c.loop-at.invariant.same (omega arith)
