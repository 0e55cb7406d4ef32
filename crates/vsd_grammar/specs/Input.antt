-- What a reader reads from: a place in a list of tokens, and what was counted up to there.
use Rattle.std.specs.Prelude.{ℕ, ◌==◌, ◌+◌, ◌-◌, Bool, true, false, List, [], length, Option, Some, None, slice_get}
use denote.Enum.Bare.{sameb}
use Rattle.vsd_text.specs.declared.tokens.TokenKind.{TokenKind}
use Rattle.vsd_text.specs.declared.tokens.TokenKind.TheVariants as kind
use Rattle.vsd_grammar.specs.contracts.keyword.Keyword.{the_type}
use Rattle.vsd_grammar.specs.declared.keyword.Keyword.{Keyword}
use Rattle.vsd_grammar.specs.declared.token_class.TokenClass.{TokenClass}
use Rattle.vsd_grammar.specs.declared.token_class.TokenClass.TheVariants as class
use Rattle.vsd_grammar.specs.Words.{keyword_of, begins_with_point}

-- a token as the grammar sees it: its kind, its bytes, and the number of its line, from 1
pub record Seen : Type 0 where
  pub kind : TokenKind
  pub bytes : List ℕ
  pub line : ℕ

-- what a reader counts: the nodes of the written term in hand, and the names that have a number, in its order
pub record State : Type 0 where
  pub nodes : ℕ
  pub names : List (List ℕ)

-- The whole list of tokens, never a rest of it, the index of the token at hand, and the counts so far.
pub record Input : Type 0 where
  pub all : List Seen
  pub at : ℕ
  pub state : State

-- the class of a Word, by whether it begins with a point
abbrev pub word_class : Bool → Keyword → TokenClass
word_class true k = class.Directive k
word_class false k = class.Word k

-- the class of a token of this kind with these bytes
abbrev pub class_by : TokenKind → List ℕ → TokenClass
class_by kind.Word bytes = word_class (begins_with_point bytes) (keyword_of bytes)
class_by kind.Quoted bytes = class.Quoted
class_by kind.Number bytes = class.Number
class_by kind.Text bytes = class.Text
class_by (kind.Symbol b) bytes = class.Symbol b
class_by kind.Colons bytes = class.Colons
class_by kind.Percents bytes = class.Percents

-- the class of the token at hand, and its bytes
abbrev pub class_of : Option Seen → TokenClass
class_of None = class.End
class_of (Some t) = class_by t.kind t.bytes

abbrev pub bytes_of : Option Seen → List ℕ
bytes_of None = []
bytes_of (Some t) = t.bytes

-- its line, and 0 where there is none
abbrev pub line_of : Option Seen → ℕ
line_of None = 0
line_of (Some t) = t.line

unfoldable pub class_at : Input → TokenClass
class_at i = class_of (slice_get i.all i.at)

unfoldable pub bytes_at : Input → List ℕ
bytes_at i = bytes_of (slice_get i.all i.at)

unfoldable pub line_at : Input → ℕ
line_at i = line_of (slice_get i.all i.at)

-- the token at hand: its index, its class, its bytes and its line
pub record Lookahead : Type 0 where
  pub index : ℕ
  pub class : TokenClass
  pub bytes : List ℕ
  pub line : ℕ

abbrev pub lookahead_of : Input → Lookahead
lookahead_of i = record { index = i.at; class = class_at i; bytes = bytes_at i; line = line_at i }

-- the place after the token at hand
abbrev pub next : Input → Input
next i = record i { at = i.at + 1 }

-- how many tokens are left
abbrev pub left : Input → ℕ
left i = length i.all - i.at

abbrev pub is_end : TokenClass → Bool
is_end class.End = true
is_end _ = false

-- the two classes are the same
unfoldable pub same_keyword : Keyword → Keyword → Bool
same_keyword = sameb the_type

abbrev pub same_class : TokenClass → TokenClass → Bool
same_class class.End class.End = true
same_class (class.Word a) (class.Word b) = same_keyword a b
same_class (class.Directive a) (class.Directive b) = same_keyword a b
same_class class.Quoted class.Quoted = true
same_class class.Number class.Number = true
same_class class.Text class.Text = true
same_class (class.Symbol a) (class.Symbol b) = a == b
same_class class.Colons class.Colons = true
same_class class.Percents class.Percents = true
same_class _ _ = false

abbrev pub is_comma : TokenClass → Bool
is_comma = same_class (class.Symbol 44)
