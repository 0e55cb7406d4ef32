-- Buckets of the names of declarations' methods.
use Rattle.std.proofs.Common.{◌≡◌, ℕ, ◌<◌, inl, inr, List, [], length, get_or, Option, Some, sym, ap, ◌∙◌, subst, arith}
use Rattle.std.proofs.lemmas.Option.{slice_get_cases}
use Rattle.vsd_terms.specs.declared.term.Term.{Term}
use Rattle.vsd_ast.specs.declared.declarations.Decl.{Decl}
use Rattle.vsd_ast.specs.Lookup.{Head, named, parameter, built_in, head_of, place_of}
use Rattle.vsd_types.specs.Types.{declaration_of, declaration_of_head, place_of_head}
use Rattle.vsd_types.proofs.Declared.{declared-place}
use Rattle.vsd_methods.specs.Methods.{methods_in}
use Rattle.vsd_slots.specs.Named.{AreAllBuckets, AreBuckets}

head_declared : (ds : List Decl) (g : Head) (place : ℕ) (x : Decl) → Some place ≡ place_of_head ds g → place < length ds → declaration_of_head ds g ≡ Some (get_or ds place x)
head_declared ds (named name) place x at within =
    let same : place ≡ place_of ds name = cc in
    declared-place ds name x (subst (λ (p : ℕ). p < length ds) same within) ∙ ap (λ (p : ℕ). Some (get_or ds p x)) (sym same)
head_declared ds (parameter p) place x at within = absurd cc
head_declared ds (built_in b) place x at within = absurd cc

-- the buckets at the place of a type's declaration
pub buckets-read : (ds : List Decl) (t : Term) (place : ℕ) (all : List (List ℕ)) → AreAllBuckets ds all → Some place ≡ place_of_head ds (head_of t)
    → place < length ds → AreBuckets (methods_in (declaration_of ds t)) (get_or all place [])
buckets-read ds t place all are at within = elim (slice_get_cases ds place).1 [
  | inl found ↦ (
      let x = found.0 in
      let here : declaration_of ds t ≡ Some x = head_declared ds (head_of t) place x at within ∙ ap Some found.3 in
      subst (λ (o : Option Decl). AreBuckets (methods_in o) (get_or all place [])) (sym here) (are.each place x found.2)
      )
  | inr past ↦ absurd (omega (arith, within, past.0))
]
