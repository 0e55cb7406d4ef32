-- Where the list ends.
use Rattle.std.proofs.Common.{◌≡◌, ℕ, ◌-◌, ◌<◌, ◌≤◌, true, false, Bool, List, length, get_or, Option, Some, None, ap, sym, subst, ◌∙◌, ◌⊎◌, refl, inl, inr, arith}
use Rattle.std.proofs.lemmas.Option.{slice_get_past, slice_get_cases}
use Rattle.std.proofs.lemmas.List.{length-map}
use Rattle.std.specs.List.{slice_get}
use Rattle.vsd_text.specs.declared.tokens.TokenKind.{TokenKind}
use Rattle.vsd_text.specs.declared.tokens.TokenKind.TheVariants as kind
use Rattle.vsd_grammar.specs.declared.keyword.Keyword.{Keyword}
use Rattle.vsd_grammar.specs.Words.{keyword_of, begins_with_point}
use Rattle.vsd_grammar.specs.declared.cursor.Cursor.TheInside.{Inside}
use Rattle.vsd_grammar.specs.Input.{Input, Seen, word_class, class_by, class_of, class_at, is_end, left}
use Rattle.vsd_grammar.specs.Place.{seen_of, input_of}

is_end_past : (i : Input) → length i.all ≤ i.at → is_end (class_at i) ≡ true
unfolding class_at
is_end_past i h = ap (λ t. is_end (class_of t)) (slice_get_past i.all i.at h)

-- no token has the class of the end
no_end : (k : TokenKind) (bytes : List ℕ) → is_end (class_by k bytes) ≡ false
no_end kind.Word bytes = word (begins_with_point bytes) (keyword_of bytes)
  where
    word : (b : Bool) (k : Keyword) → is_end (word_class b k) ≡ false
    word true k = refl
    word false k = refl
no_end kind.Quoted bytes = refl
no_end kind.Number bytes = refl
no_end kind.Text bytes = refl
no_end (kind.Symbol b) bytes = refl
no_end kind.Colons bytes = refl
no_end kind.Percents bytes = refl

is_end_within : (i : Input) → i.at < length i.all → is_end (class_at i) ≡ false
unfolding class_at
is_end_within i h = go (slice_get i.all i.at) refl (slice_get_cases i.all i.at).1
  where
    go : (t : Option Seen) → slice_get i.all i.at ≡ t → ((x : Seen) × (i.at < length i.all) × (slice_get i.all i.at ≡ Some x) × (get_or i.all i.at x ≡ x)) ⊎ ((length i.all ≤ i.at) × (slice_get i.all i.at ≡ None))
        → is_end (class_of (slice_get i.all i.at)) ≡ false
    go (Some t) e w = ap (λ u. is_end (class_of u)) e ∙ no_end t.kind t.bytes
    go None e (inl w) = absurd (cc (w.2))
    go None e (inr w) = absurd (omega arith)

at_end : (d : Inside) → length d.tokens.now ≤ d.at → is_end (class_at (input_of d)) ≡ true
at_end d h = let e = length-map d.tokens.now (seen_of d.text.now) in is_end_past (input_of d) (omega arith)

in_list : (d : Inside) → d.at < length d.tokens.now → is_end (class_at (input_of d)) ≡ false
in_list d h = let e = length-map d.tokens.now (seen_of d.text.now) in is_end_within (input_of d) (omega arith)

pub class_at_end : (i : Input) (d : Inside) → input_of d ≡ i → length d.tokens.now ≤ d.at → is_end (class_at i) ≡ true
class_at_end i d e h = subst (λ j. is_end (class_at j) ≡ true) e (at_end d h)

pub class_in_list : (i : Input) (d : Inside) → input_of d ≡ i → d.at < length d.tokens.now → is_end (class_at i) ≡ false
class_in_list i d e h = subst (λ j. is_end (class_at j) ≡ false) e (in_list d h)

pub left_from : (i : Input) (d : Inside) (n : ℕ) → input_of d ≡ i → n ≡ length d.tokens.now - d.at → n ≡ left i
left_from i d n e h = h ∙ ap (λ m. m - d.at) (sym (length-map d.tokens.now (seen_of d.text.now))) ∙ ap left e

pub index_inside : (i : Input) (d : Inside) → input_of d ≡ i → d.at ≤ length d.tokens.now → d.at ≤ length i.all
index_inside i d e h = subst (λ j. d.at ≤ length j.all) e (subst (λ n. d.at ≤ n) (sym (length-map d.tokens.now (seen_of d.text.now))) h)
