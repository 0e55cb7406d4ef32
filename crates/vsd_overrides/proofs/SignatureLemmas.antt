-- Equality of signatures part by part, and what a written signature needs of the arguments.
use Rattle.std.proofs.Common.{◌≡◌, ℕ, suc, ◌≤◌, List, [], ◌∷◌, map, Option, Some, None, All, refl, ap, ◌∙◌, arith}
use Rattle.std.specs.Bool.{Decides}
use Rattle.std.specs.Option.{option_eq}
use Rattle.std.proofs.lemmas.Bool.{false≢true}
use Rattle.vsd_terms.specs.declared.term.Term.{Term}
use Rattle.vsd_terms.specs.Equality.{term_eq, term_eq-Decides}
use Rattle.vsd_terms.specs.Size.{greatest}
use Rattle.vsd_terms.specs.Substitution.{parameters_of}
use Rattle.vsd_ast.specs.WellFormed.{IsWritten}
use Rattle.vsd_ast.specs.declared.declarations.Signature.{Signature}

pub result-Decides : (a b : Option Term) → Decides (option_eq term_eq a b) (a ≡ b)
result-Decides None None = (λ _. refl, λ _. refl)
result-Decides None (Some b) = (λ e. absurd (false≢true e), λ e. absurd cc)
result-Decides (Some a) None = (λ e. absurd (false≢true e), λ e. absurd cc)
result-Decides (Some a) (Some b) = (λ e. ap Some ((term_eq-Decides a b).0 e), λ e. (term_eq-Decides a b).1 (let h = e in cc))

pub signature_same : (s t : Signature) → s.result ≡ t.result → s.arguments ≡ t.arguments → s ≡ t
signature_same s t results arguments =
    let made : Option Term → List Term → Signature = λ r a. record { result = r; arguments = a } in
    ap (λ r. made r s.arguments) results ∙ ap (made t.result) arguments

pub greatest-written : (names count : ℕ) (ts : List Term) → All (IsWritten names count) ts → greatest (map parameters_of ts) ≤ count
greatest-written names count [] all = omega arith
greatest-written names count (t ∷ ts) all =
    let first : IsWritten names count t = all 0 t (omega arith) in
    let rest = greatest-written names count ts (λ k d inside. all (suc k) d (omega arith)) in
    omega (arith, first.bound)
