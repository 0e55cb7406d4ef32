-- The steps of a loop over a list with commas.
use Rattle.std.proofs.Common.{◌≡◌, ℕ, suc, ◌+◌, ◌-◌, ◌<◌, ◌≤◌, Bool, true, false, cond, List, [], ◌∷◌, ◌++◌, length, Option, Some, None, unwrap_or, Ok, Err, refl, ap, sym, ◌∙◌, append_assoc, length-append, arith}
use Rattle.vsd_grammar.specs.declared.token_class.TokenClass.{TokenClass}
use Rattle.vsd_grammar.specs.declared.cause.Cause.{Cause}
use Rattle.vsd_grammar.specs.declared.syntax_error.SyntaxError.{SyntaxError}
use Rattle.vsd_grammar.specs.declared.syntax_error.Stop.{Stop}
use Rattle.vsd_grammar.specs.declared.syntax_error.Stop.TheVariants as stop
use Rattle.vsd_grammar.specs.Input.{Input, class_at, bytes_at, next, is_comma}
use Rattle.vsd_grammar.specs.Grammar.{Outcome, and_then, tested, tried, surplus, after_item, syntax_error, items}
use Rattle.vsd_grammar.specs.Productions.{Reads}
use Rattle.vsd_grammar.proofs.Outcomes.{reads_refused}

-- the outcome with these items before its own
abbrev pub after : {A : Type 0} → List A → Outcome (List A) → Outcome (List A)
after front o = and_then o (λ xs j. Ok (front ++ xs, j))

-- one item, whose first token was tested
abbrev pub one : {A : Type 0} → (TokenClass → List ℕ → Option Cause) → (Input → Outcome A) → Input → Outcome A
one first item i = tested (tried first i) i (item i)

after_nothing : {A : Type 0} (o : Outcome (List A)) → o ≡ after [] o
after_nothing (Ok r) = refl
after_nothing (Err e) = refl

after_both : {A : Type 0} (front : List A) (x : A) (o : Outcome (List A)) → after front (and_then o (λ xs j. Ok (x ∷ xs, j))) ≡ after (front ++ x ∷ []) o
after_both front x (Ok r) = ap (λ xs. Ok (xs, r.1)) (sym (append_assoc front (x ∷ []) r.0))
after_both front x (Err e) = refl

more_items : {A : Type 0} (front : List A) (x : A) (b : Bool) (k : Input) (o : Outcome (List A)) → b ≡ true → after front (after_item x b k o) ≡ after (front ++ x ∷ []) o
more_items front x true k o e = after_both front x o
more_items front x false k o e = absurd cc

no_more_items : {A : Type 0} (front : List A) (x : A) (b : Bool) (k : Input) (o : Outcome (List A)) → b ≡ false → after front (after_item x b k o) ≡ Ok (front ++ x ∷ [], k)
no_more_items front x true k o e = absurd cc
no_more_items front x false k o e = refl

module _ {A : Type 0} (first : TokenClass → List ℕ → Option Cause) (many : Cause) (item : Input → Outcome A) (most : ℕ) where
  -- what is left to read after the items found
  abbrev pub left_after : List A → Input → Outcome (List A)
  left_after found i = after found (items first many item (most - length found) i)

  pub list_begins : (i : Input) → items first many item most i ≡ left_after [] i
  list_begins i = let e : most ≡ most - 0 = omega arith in after_nothing (items first many item most i) ∙ ap (λ n. after [] (items first many item n i)) e

  room_for : (found : List A) (i : Input) → length found < most → left_after found i ≡ after found (items first many item (suc (most - (length found + 1))) i)
  room_for found i h = let e : most - length found ≡ suc (most - (length found + 1)) = omega arith in ap (λ n. after found (items first many item n i)) e

  list_refused : (found : List A) (i : Input) (r : SyntaxError) → length found < most → one first item i ≡ Err r → left_after found i ≡ Err r
  unfolding items
  list_refused found i r h e = room_for found i h ∙ ap (λ o. after found (and_then o (λ x k. after_item x (is_comma (class_at k)) k (items first many item (most - (length found + 1)) (next k))))) e

  read_one : (found : List A) (i : Input) (x : A) (k : Input) → length found < most → one first item i ≡ Ok (x, k)
      → left_after found i ≡ after found (after_item x (is_comma (class_at k)) k (items first many item (most - (length found + 1)) (next k)))
  unfolding items
  read_one found i x k h e = room_for found i h ∙ ap (λ o. after found (and_then o (λ y m. after_item y (is_comma (class_at m)) m (items first many item (most - (length found + 1)) (next m))))) e

  list_ends : (found : List A) (i : Input) (x : A) (k : Input) → length found < most → one first item i ≡ Ok (x, k) → is_comma (class_at k) ≡ false
      → left_after found i ≡ Ok (found ++ x ∷ [], k)
  list_ends found i x k h e f = read_one found i x k h e ∙ no_more_items found x (is_comma (class_at k)) k _ f

  list_goes_on : (found : List A) (i : Input) (x : A) (k : Input) → length found < most → one first item i ≡ Ok (x, k) → is_comma (class_at k) ≡ true
      → left_after found i ≡ left_after (found ++ x ∷ []) (next k)
  list_goes_on found i x k h e f =
      let n : most - length (found ++ x ∷ []) ≡ most - (length found + 1) = omega (arith, length-append found (x ∷ [])) in
      read_one found i x k h e ∙ more_items found x (is_comma (class_at k)) k _ f ∙ ap (λ m. after (found ++ x ∷ []) (items first many item m (next k))) (sym n)

  list_is_full : (found : List A) (i : Input) → most ≤ length found → left_after found i ≡ Err (syntax_error i (surplus (tried first i) many))
  unfolding items
  list_is_full found i h = let e : most - length found ≡ 0 = omega arith in ap (λ n. after found (items first many item n i)) e

  -- the loop's outcome at each of its ends, where it is what was left to read
  pub stops_at_item : (o : Outcome (List A)) (found : List A) (i : Input) (s : Stop) (m n : Input) → o ≡ left_after found i → length found < most
      → Reads (one first item i) (Err s) m → Reads {A = List A} o (Err s) n
  stops_at_item o found i stop.Memory m n e h r = tt
  stops_at_item o found i (stop.Refused w) m n e h r = e ∙ list_refused found i w h r

  pub stops_after_item : (o : Outcome (List A)) (found new : List A) (i : Input) (x : A) (k m : Input) (b : Bool) → o ≡ left_after found i → length found < most
      → Reads (one first item i) (Ok x) k → b ≡ is_comma (class_at k) → b ≡ false → m ≡ cond b (next k) k → new ≡ found ++ x ∷ [] → o ≡ Ok (new, m)
  stops_after_item o found new i x k m true e h r c d f g = absurd cc
  stops_after_item o found new i x k m false e h r c d f g =
      let done : ◌≡◌ {A = Outcome (List A)} (Ok (found ++ x ∷ [], k)) (Ok (new, m)) = cc in
      e ∙ list_ends found i x k h r (sym c) ∙ done

  pub goes_on_after_item : (o : Outcome (List A)) (found new : List A) (i : Input) (x : A) (k m : Input) (b : Bool) → o ≡ left_after found i → length found < most
      → Reads (one first item i) (Ok x) k → b ≡ is_comma (class_at k) → b ≡ true → m ≡ cond b (next k) k → new ≡ found ++ x ∷ [] → o ≡ left_after new m
  goes_on_after_item o found new i x k m false e h r c d f g = absurd cc
  goes_on_after_item o found new i x k m true e h r c d f g =
      e ∙ list_goes_on found i x k h r (sym c) ∙ ap (λ xs. left_after xs (next k)) (sym g) ∙ ap (left_after new) (sym f)

  pub stops_when_full : (o : Outcome (List A)) (found : List A) (i : Input) (q : TokenClass) (b : List ℕ) (c : Option Cause) (d : Cause) (s : Stop) (n : Input) → o ≡ left_after found i → most ≤ length found
      → q ≡ class_at i → b ≡ bytes_at i → c ≡ first q b → d ≡ unwrap_or c many → s ≡ stop.Refused (syntax_error i d) → Reads {A = List A} o (Err s) n
  stops_when_full o found i q bytes c d s n e h a l b f g =
      let both : first q bytes ≡ tried first i = cc in
      let cause : d ≡ surplus (tried first i) many = f ∙ unwrap_or_surplus c ∙ ap (λ u. surplus u many) (b ∙ both) in
      reads_refused o s (syntax_error i d) n g (e ∙ list_is_full found i h ∙ ap (λ w. Err (syntax_error i w)) (sym cause))
    where
      unwrap_or_surplus : (u : Option Cause) → unwrap_or u many ≡ surplus u many
      unwrap_or_surplus None = refl
      unwrap_or_surplus (Some w) = refl
