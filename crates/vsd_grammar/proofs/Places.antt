-- The token at an index, as the grammar sees it.
use Rattle.std.proofs.Common.{◌≡◌, ℕ, List, map, Option, ap, sym, ◌∙◌}
use Rattle.std.specs.List.{slice_get}
use Rattle.std.specs.Option.{option_map}
use Rattle.std.proofs.lemmas.Option.{slice_get-map}
use Rattle.vsd_text.specs.declared.tokens.Token.{Token}
use Rattle.vsd_grammar.specs.declared.cursor.Cursor.TheInside.{Inside}
use Rattle.vsd_grammar.specs.Input.{Input, class_of, bytes_of, line_of, class_at, bytes_at, line_at}
use Rattle.vsd_grammar.specs.Place.{seen_of, input_of, IsReady}

seen_get : (text : List ℕ) (tokens : List Token) (k : ℕ) (t : Option Token) → slice_get tokens k ≡ t → option_map (seen_of text) t ≡ slice_get (map (seen_of text) tokens) k
seen_get text tokens k t e = sym (slice_get-map (seen_of text) tokens k ∙ ap (option_map (seen_of text)) e)

pub class_in_list : (text : List ℕ) (tokens : List Token) (k : ℕ) (t : Option Token) → slice_get tokens k ≡ t
    → class_of (option_map (seen_of text) t) ≡ class_of (slice_get (map (seen_of text) tokens) k)
class_in_list text tokens k t e = ap class_of (seen_get text tokens k t e)

-- the class that a cursor knows is that of its token at hand
pub known_class : (i : Input) (d : Inside) → input_of d ≡ i → IsReady d → d.class ≡ class_at i
unfolding class_at
known_class i d e ready = ready.known ∙ ap (λ j. class_of (slice_get j.all j.at)) e

pub line_from : (i : Input) (d : Inside) (t : Option Token) → input_of d ≡ i → slice_get d.tokens.now d.at ≡ t → line_of (option_map (seen_of d.text.now) t) ≡ line_at i
unfolding line_at
line_from i d t e f = ap line_of (seen_get d.text.now d.tokens.now d.at t f) ∙ ap (λ j. line_of (slice_get j.all j.at)) e

pub bytes_from : (i : Input) (d : Inside) (t : Option Token) → input_of d ≡ i → slice_get d.tokens.now d.at ≡ t → bytes_of (option_map (seen_of d.text.now) t) ≡ bytes_at i
unfolding bytes_at
bytes_from i d t e f = ap bytes_of (seen_get d.text.now d.tokens.now d.at t f) ∙ ap (λ j. bytes_of (slice_get j.all j.at)) e
