-- What is passed over: tokens whose braces stand in pairs.
use Rattle.std.specs.Prelude.{◌≡◌, ℕ, zero, suc, ◌+◌, ◌≤◌, Bool, true, false, not, ◌&&◌, ◌||◌, if◌then◌else◌, IsTrue, List, [], ◌∷◌, ◌++◌, ◌↔◌}
use Rattle.vsd_grammar.specs.declared.token_class.TokenClass.{TokenClass}
use Rattle.vsd_grammar.specs.declared.token_class.TokenClass.TheVariants as class
use Rattle.vsd_grammar.specs.declared.turn.Turn.{Turn}
use Rattle.vsd_grammar.specs.declared.turn.Turn.TheVariants.{Stop, Pass, Refuse}
use Rattle.vsd_grammar.specs.declared.cause.Cause.TheVariants.{Unexpected}
use Rattle.vsd_grammar.specs.Input.{Input, class_at, next, is_end, same_class}
use Rattle.vsd_grammar.specs.Grammar.{G, Derives}
use Rattle.vsd_grammar.specs.Productions.{scan}

abbrev pub opening : TokenClass
opening = class.Symbol 123

abbrev pub closing : TokenClass
closing = class.Symbol 125

-- ---- what may be passed over, with no word on how its end is found

-- tokens with their braces in pairs: none, a token and then more, or a pair of braces and then more
pub data Paired : Type 0 where
  nothing : Paired
  token : TokenClass → Paired → Paired
  group : Paired → Paired → Paired

abbrev pub spelled : Paired → List TokenClass
spelled nothing = []
spelled (token q more) = q ∷ spelled more
spelled (group inner more) = opening ∷ (spelled inner ++ closing ∷ spelled more)

-- a token that is there, is no brace and isn't `%%`
abbrev pub is_plain : TokenClass → Bool
is_plain q = not (is_end q) && not (same_class opening q) && not (same_class closing q) && not (same_class class.Percents q)

-- each token is plain, and none outside the braces is one at which to stop
abbrev pub ArePlain : (TokenClass → Bool) → Paired → Type 0
ArePlain stops nothing = Unit {0}
ArePlain stops (token q more) = IsTrue (is_plain q) × (stops q ≡ false) × ArePlain stops more
ArePlain stops (group inner more) = ArePlain (λ q. false) inner × ArePlain stops more

-- the tokens from one place to the other have these classes
abbrev pub Spells : List TokenClass → Input → Input → Type 0
Spells [] i j = i ≡ j
Spells (q ∷ qs) i j = (class_at i ≡ q) × Spells qs (next i) j

-- what is passed over ends before a brace that closes what is around it, or before a token at which to stop
abbrev pub ends_at : (TokenClass → Bool) → TokenClass → Bool
ends_at stops q = not (same_class opening q) && (same_class closing q || stops q)

abbrev pub IsSkipped : (TokenClass → Bool) → Input → Input → Type 0
IsSkipped stops i j = (all : Paired) × ArePlain stops all × Spells (spelled all) i j × IsTrue (ends_at stops (class_at j))

-- ---- how it is read: token by token, with a count of the braces that are open

abbrev pub close_turn : ℕ → Turn ℕ
close_turn zero = Stop
close_turn (suc depth) = Pass depth

abbrev pub is_outside : ℕ → Bool
is_outside zero = true
is_outside (suc depth) = false

abbrev pub skip_turn : (TokenClass → Bool) → TokenClass → ℕ → Turn ℕ
skip_turn stops q depth =
    if same_class opening q then Pass (depth + 1)
    else (if same_class closing q then close_turn depth
    else (if is_outside depth && stops q then Stop
    else (if same_class class.Percents q then Refuse Unexpected else Pass depth)))

unfoldable pub skip : (TokenClass → Bool) → G ℕ
skip stops = scan ℕ (skip_turn stops) 0

-- a turn that passes a token goes on with at most so many braces open
abbrev pub passes_at_most : ℕ → Turn ℕ → Type 0
passes_at_most most (Pass depth) = depth ≤ most
passes_at_most most (Refuse cause) = Unit {0}
passes_at_most most Stop = Unit {0}

-- What is passed over is what is in pairs, and nothing else is.
abbrev pub SkipsPairs : Type 0
SkipsPairs = (stops : TokenClass → Bool) (i : Input) (depth : ℕ) (j : Input) → Derives ℕ (skip stops) i depth j ↔ ((depth ≡ 0) × IsSkipped stops i j)
