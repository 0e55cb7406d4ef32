-- The place that a cursor stands for.
use Rattle.std.specs.Prelude.{◌≡◌, ℕ, ◌-◌, ◌≤◌, List, length, map, slice_range, slice_get, All}
use Rattle.std.specs.Option.{option_map_or}
use Rattle.vsd_text.specs.declared.tokens.Token.{Token}
use Rattle.vsd_text.specs.Tokens.{LiesWithin}
use Rattle.vsd_grammar.specs.declared.cursor.Cursor.TheInside.{Inside}
use Rattle.vsd_grammar.specs.Input.{Seen, Input, class_of}

-- a token of a text as the grammar sees it
abbrev pub seen_of : List ℕ → Token → Seen
seen_of text token = record { kind = token.kind; bytes = slice_range text token.start token.end; line = token.line }

-- the place at this index, with no nodes counted
abbrev pub start_of : List ℕ → List Token → ℕ → List (List ℕ) → Input
start_of text tokens index names = record { all = map (seen_of text) tokens; at = index; state = record { nodes = 0; names = names } }

-- the most tokens of a text
abbrev pub most_tokens : ℕ
most_tokens = 4194304

-- the line of the end: that of the last token, or 1 without tokens
abbrev pub end_line : List Token → ℕ
end_line tokens = option_map_or (λ t. t.line) (slice_get tokens (length tokens - 1)) 1

-- the line of the token at an index, or that of the end
abbrev pub line_of : List Token → ℕ → ℕ
line_of tokens index = option_map_or (λ t. t.line) (slice_get tokens index) (end_line tokens)

abbrev pub input_of : Inside → Input
input_of c = record { all = map (seen_of c.text.now) c.tokens.now; at = c.at; state = record { nodes = c.nodes; names = c.names } }

-- Each token lies in the text, there are no more than a text may have, the place is one of them or their end, and the
-- class is that of the token at hand.
pub record IsReady (c : Inside) : Type 0 where
  pub within : All (LiesWithin c.text.now) c.tokens.now
  pub few : length c.tokens.now ≤ most_tokens
  pub inside : c.at ≤ length c.tokens.now
  pub known : c.class ≡ class_of (slice_get (map (seen_of c.text.now) c.tokens.now) c.at)
