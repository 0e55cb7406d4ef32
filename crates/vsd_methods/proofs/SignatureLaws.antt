-- The test of signatures decides whether they are one.
use Rattle.std.proofs.Common.{◌≡◌, ℕ, ◌≤◌, Bool, true, ◌&&◌, length, get_or, Option, Some, None, All, IfSome, refl, ap, subst}
use Rattle.std.specs.Bool.{Decides}
use Rattle.std.specs.Cmp.{first_so, second_so}
use Rattle.std.specs.Cmp.Lexicographic.{pointwise, pointwise_decides}
use Rattle.std.specs.Option.{option_eq}
use Rattle.vsd_terms.specs.declared.term.Term.{Term}
use Rattle.vsd_terms.specs.Equality.{term_eq, term_eq-Decides}
use Rattle.vsd_terms.specs.Substitution.{parameters_of}
use Rattle.vsd_ast.specs.declared.declarations.Method.{Method}
use Rattle.vsd_ast.specs.declared.declarations.Signature.{Signature}
use Rattle.vsd_ast.specs.WellFormed.{IsDeclaration, IsSignature, IsWritten}
use Rattle.vsd_ast.specs.declared.declarations.Decl.{Decl}
use Rattle.vsd_methods.specs.Methods.{Fits, same_signature}

both_true : {p q : Bool} → p ≡ true → q ≡ true → (p && q) ≡ true
both_true h k = rw (h, k) refl

result-Decides : (a b : Option Term) → Decides (option_eq term_eq a b) (a ≡ b)
result-Decides None None = (λ _. refl, λ _. refl)
result-Decides None (Some y) = (λ h. absurd cc, λ e. absurd cc)
result-Decides (Some x) None = (λ h. absurd cc, λ e. absurd cc)
result-Decides (Some x) (Some y) = let d = term_eq-Decides x y in (λ h. ap Some (d.0 h), λ e. d.1 cc)

pub signature_parts : (a b : Signature) → a.result ≡ b.result → a.arguments ≡ b.arguments → a ≡ b
signature_parts a b r s = λ i. record { result = r i; arguments = s i }

pub same_signature-Decides : (a b : Signature) → Decides (same_signature a b) (a ≡ b)
same_signature-Decides a b =
    let r = result-Decides a.result b.result in
    let s = pointwise_decides term_eq-Decides a.arguments b.arguments in (
      λ h. signature_parts a b (r.0 (first_so (option_eq term_eq a.result b.result) (pointwise term_eq a.arguments b.arguments) h)) (s.0 (second_so (option_eq term_eq a.result b.result) (pointwise term_eq a.arguments b.arguments) h)),
      λ e. both_true (r.1 (ap (λ (x : Signature). x.result) e)) (s.1 (ap (λ (x : Signature). x.arguments) e)),
    )

-- a written signature fits as many arguments as its declaration takes
result_fits : (names n k : ℕ) (o : Option Term) → n ≡ k → IfSome o (IsWritten names n) → IfSome o (λ t. parameters_of t ≤ k)
result_fits names n k None e written = tt
result_fits names n k (Some t) e written = subst (λ m. parameters_of t ≤ m) e written.bound

pub signature-fits : (names n k : ℕ) (s : Signature) → n ≡ k → IsSignature names n s → Fits k s
signature-fits names n k s e written = record {
  result = result_fits names n k s.result e written.result;
  arguments = λ i d within. subst (λ m. parameters_of (get_or s.arguments i d) ≤ m) e (written.arguments i d within).bound;
}

pub methods-fit : (names k : ℕ) (x : Decl) → length x.params ≡ k → IsDeclaration names x → All (λ (m : Method). Fits k m.signature) x.methods
methods-fit names k x e written = λ i d within. signature-fits names (length x.params) k (get_or x.methods i d).signature e (written.methods i d within).signature
