-- The key of a word, found by its slot.
use Rattle.std.proofs.Common.{◌≡◌, ℕ, Bool, true, false, cond, List, [], ◌∷◌, map, get_or, length, Option, Some, None, nat_le, refl, ap, sym, ◌∙◌, ◌<◌, ◌&&◌}
use Rattle.std.specs.List.{slice_get}
use Rattle.std.specs.Option.{option_map}
use Rattle.std.specs.Str.{bytes_eq}
use Rattle.std.proofs.lemmas.Bool.{lt-leb}
use Rattle.std.proofs.lemmas.Slice.Eq.{bytes_eq-Decides}
use Rattle.std.proofs.lemmas.Option.{slice_get-map, same_Some}
use Rattle.vsd_grammar.specs.declared.keyword.Keyword.{Keyword}
use Rattle.vsd_grammar.specs.declared.keyword.Keyword.TheVariants as key
use Rattle.vsd_grammar.specs.declared.keyword.TheConstants.{SLOTS}
use Rattle.vsd_grammar.specs.Input.{same_keyword}
use Rattle.vsd_grammar.specs.Words.{words, lookup, key_by, keyword_of, slot_of}

abbrev all_of : {A : Type 0} → (A → Bool) → List A → Bool
all_of p [] = true
all_of p (x ∷ xs) = p x && all_of p xs

and_parts : (a b : Bool) → (a && b) ≡ true → (a ≡ true) × (b ≡ true)
and_parts true b e = (refl, e)
and_parts false b e = absurd cc

-- a test that each word of a table passes, and this one doesn't: the table has it not
lookup_absent : (p : List ℕ → Bool) (ws : List (List ℕ × Keyword)) (word : List ℕ) → all_of (λ w. p w.0) ws ≡ true → p word ≡ false → lookup ws word ≡ key.Other
lookup_absent p [] word h e = refl
lookup_absent p (w ∷ ws) word h e =
    let parts = and_parts (p w.0) (all_of (λ w. p w.0) ws) h in
    go (bytes_eq w.0 word) refl parts.0 (lookup_absent p ws word parts.1 e)
  where
    go : (b : Bool) → bytes_eq w.0 word ≡ b → p w.0 ≡ true → lookup ws word ≡ key.Other → cond b w.1 (lookup ws word) ≡ key.Other
    go true f q below = let same = (bytes_eq-Decides w.0 word).0 f in absurd (cc (ap p same))
    go false f q below = below

-- the entry of the table that a word's slot names
unfoldable pub slot_entry : List ℕ → Option (List ℕ × Keyword)
slot_entry word = slice_get words (get_or SLOTS (slot_of word) 0)

unfoldable pub is_entry : Option (List ℕ × Keyword) → List ℕ → Bool
is_entry None word = false
is_entry (Some w) word = bytes_eq w.0 word

-- each word of the table is that of its slot
words_have_slots : all_of (λ w. is_entry (slot_entry w.0) w.0) words ≡ true
unfolding words slot_of slot_entry is_entry
words_have_slots = refl

words_are_long : all_of (λ w. nat_le 2 (length w.0)) words ≡ true
unfolding words
words_are_long = refl

words_are_short : all_of (λ w. nat_le (length w.0) 15) words ≡ true
unfolding words
words_are_short = refl

own_keys : map (λ w. lookup words w.0) words ≡ map (λ w. w.1) words
unfolding words
own_keys = refl

pub key_short : (word : List ℕ) → length word < 2 → keyword_of word ≡ key.Other
unfolding keyword_of
key_short word h = lookup_absent (λ w. nat_le 2 (length w)) words word words_are_long (lt-leb 2 (length word) h)

pub key_long : (word : List ℕ) → 15 < length word → keyword_of word ≡ key.Other
unfolding keyword_of
key_long word h = lookup_absent (λ w. nat_le (length w) 15) words word words_are_short (lt-leb (length word) 15 h)

-- an entry of the table has its own key
own_key : (n : ℕ) (w : List ℕ × Keyword) → slice_get words n ≡ Some w → lookup words w.0 ≡ w.1
own_key n w e =
    let all = ap (λ ks. slice_get ks n) own_keys in
    let left = slice_get-map (λ v. lookup words v.0) words n ∙ ap (option_map (λ v. lookup words v.0)) e in
    let right = slice_get-map (λ v. v.1) words n ∙ ap (option_map (λ v. v.1)) e in
    same_Some (lookup words w.0) w.1 (sym left ∙ all ∙ right)

pub key_found : (word : List ℕ) → key_by (slot_entry word) word ≡ keyword_of word
unfolding keyword_of is_entry slot_entry
key_found word = go (slot_entry word) refl
  where
    absent : is_entry (slot_entry word) word ≡ false → key.Other ≡ lookup words word
    absent f = sym (lookup_absent (λ v. is_entry (slot_entry v) v) words word words_have_slots f)

    found : (w : List ℕ × Keyword) → slot_entry word ≡ Some w → (b : Bool) → bytes_eq w.0 word ≡ b → cond b w.1 key.Other ≡ lookup words word
    found w e true f = sym (own_key (get_or SLOTS (slot_of word) 0) w e) ∙ ap (lookup words) ((bytes_eq-Decides w.0 word).0 f)
    found w e false f = absent (ap (λ t. is_entry t word) e ∙ f)

    go : (t : Option (List ℕ × Keyword)) → slot_entry word ≡ t → key_by t word ≡ lookup words word
    go None e = absent (ap (λ t. is_entry t word) e)
    go (Some w) e = found w e (bytes_eq w.0 word) refl

-- ---- no two words have one key

-- the first word of a table that has this key
abbrev word_in : List (List ℕ × Keyword) → Keyword → Option (List ℕ)
word_in [] k = None
word_in (w ∷ ws) k = cond (same_keyword w.1 k) (Some w.0) (word_in ws k)

-- each word is the first that has its key
first_words : map (λ w. word_in words w.1) words ≡ map (λ w. Some w.0) words
unfolding words same_keyword
first_words = refl

-- what holds of each word of a table and its key holds of the word that is looked up
word_of_key : (word : Keyword → Option (List ℕ)) (ws : List (List ℕ × Keyword)) (a : List ℕ) → map (λ w. word w.1) ws ≡ map (λ w. Some w.0) ws
    → (lookup ws a ≡ key.Other → ⊥) → word (lookup ws a) ≡ Some a
word_of_key word [] a all known = absurd (known refl)
word_of_key word (w ∷ ws) a all known =
    let here : word w.1 ≡ Some w.0 = cc in
    let others : map (λ v. word v.1) ws ≡ map (λ v. Some v.0) ws = cc in
    go here (word_of_key word ws a others) (bytes_eq w.0 a) refl known
  where
    go : word w.1 ≡ Some w.0 → ((lookup ws a ≡ key.Other → ⊥) → word (lookup ws a) ≡ Some a) → (b : Bool) → bytes_eq w.0 a ≡ b
        → (cond b w.1 (lookup ws a) ≡ key.Other → ⊥) → word (cond b w.1 (lookup ws a)) ≡ Some a
    go here below true f k = here ∙ ap Some ((bytes_eq-Decides w.0 a).0 f)
    go here below false f k = below k

pub own_words : (a b : List ℕ) → keyword_of a ≡ keyword_of b → (keyword_of a ≡ key.Other → ⊥) → a ≡ b
unfolding keyword_of
own_words a b same known =
    let one = word_of_key (word_in words) words a first_words known in
    let other = word_of_key (word_in words) words b first_words (λ e. known (same ∙ e)) in
    same_Some a b (sym one ∙ ap (word_in words) same ∙ other)
