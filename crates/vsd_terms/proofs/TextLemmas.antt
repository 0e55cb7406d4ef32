-- Texts in brackets, one text at a time.
use Rattle.std.proofs.Common.{◌≡◌, ℕ, ◌≤◌, List, [], ◌∷◌, ◌++◌, length, map, drop, slice_index_or, subst, sym, ap, ◌∙◌, refl, append_assoc}
use Rattle.std.specs.List.{join_with_byte}
use Rattle.std.proofs.lemmas.List.{append-nil, drop_all}
use Rattle.vsd_terms.specs.declared.term.Term.{Term}
use Rattle.vsd_terms.specs.declared.term.Term.TheFolds.{fold-roll-Term}
use Rattle.vsd_terms.specs.declared.term.Term.TheOpen as layer
use Rattle.vsd_terms.specs.declared.term.Term.TheVariants.{Named, rolls-Named}
use Rattle.vsd_terms.specs.Text.{bracketed, text_of, text_step}

-- each text behind a byte: this one before the first, and commas before the others
abbrev pub listed : ℕ → List (List ℕ) → List ℕ
listed before [] = []
listed before (text ∷ texts) = (before ∷ text) ++ listed 44 texts

listed-join : (before : ℕ) (text : List ℕ) (texts : List (List ℕ)) → listed before (text ∷ texts) ≡ before ∷ join_with_byte 44 (text ∷ texts)
listed-join before text [] = ap (λ bytes. before ∷ bytes) (append-nil text)
listed-join before text (next ∷ texts) = ap (λ rest. (before ∷ text) ++ rest) (listed-join 44 next texts)

-- the brackets are the separator before the first text and one byte behind the last
bracketed-listed : (names : List (List ℕ)) (ts : List Term) → ¬ (ts ≡ []) → bracketed (map (text_of names) ts) ≡ listed 60 (map (text_of names) ts) ++ 62 ∷ []
bracketed-listed names [] some = absurd (some refl)
bracketed-listed names (t ∷ ts) some = sym (ap (λ bytes. bytes ++ 62 ∷ []) (listed-join 60 (text_of names t) (map (text_of names) ts)))

-- what is written once each argument is, and the last byte
pub bracketed_end : (names : List (List ℕ)) (ts : List Term) (before k : ℕ) (out old : List ℕ) → ¬ (ts ≡ []) → length ts ≤ k → out ++ listed before (map (text_of names) (drop k ts)) ≡ old ++ listed 60 (map (text_of names) ts) → out ++ 62 ∷ [] ≡ old ++ bracketed (map (text_of names) ts)
bracketed_end names ts before k out old some past written =
    let P : List Term → Type 0 = λ rest. out ++ listed before (map (text_of names) rest) ≡ old ++ listed 60 (map (text_of names) ts) in
    let all : out ++ [] ≡ old ++ listed 60 (map (text_of names) ts) = subst P (drop_all k ts past) written in
    ap (λ bytes. bytes ++ 62 ∷ []) (sym (append-nil out) ∙ all) ∙ append_assoc old (listed 60 (map (text_of names) ts)) (62 ∷ []) ∙ ap (λ bytes. old ++ bytes) (sym (bracketed-listed names ts some))

pub text_of-Named : (names : List (List ℕ)) (name : ℕ) (args : List Term) → text_of names (Named name args) ≡ slice_index_or names name [] ++ bracketed (map (text_of names) args)
text_of-Named names name args = ap (text_of names) (sym (rolls-Named name args)) ∙ fold-roll-Term (List ℕ) (text_step names) (layer.Named name args)
