-- What the reader answers, from what the productions read.
use Rattle.std.proofs.Common.{◌≡◌, ℕ, ◌≤◌, IsTrue, List, length, Ok, Err, refl, ap, sym, subst, ◌∙◌, arith}
use Rattle.std.proofs.lemmas.List.{length-map}
use Rattle.vsd_text.specs.declared.tokens.Token.{Token}
use Rattle.vsd_ast.specs.declared.declarations.Decl.{Decl}
use Rattle.vsd_ast.specs.declared.declarations.Decls.{Decls}
use Rattle.vsd_grammar.specs.declared.cause.Cause.{Cause}
use Rattle.vsd_grammar.specs.declared.syntax_error.SyntaxError.{SyntaxError}
use Rattle.vsd_grammar.specs.Input.{Input}
use Rattle.vsd_grammar.specs.Grammar.{Outcome, run}
use Rattle.vsd_grammar.specs.Place.{line_of, seen_of}
use Rattle.vsd_grammar.proofs.Outcomes.{ok_parts, err_ok}
use Rattle.vsd_grammar.proofs.Soundness.{sound}
use Rattle.vsd_grammar.proofs.Completeness.{complete}
use Rattle.vsd_grammar.proofs.Consequences.{dead, goes_forward}
use Rattle.vsd_grammar.proofs.Refusals.{Holds, holds}
use Rattle.vsd_grammar.proofs.Behaving.{grows}
use Rattle.vsd_decl_syntax.specs.Causes.{is_decl_cause}
use Rattle.vsd_decls.specs.Grammar.{declarations}
use Rattle.vsd_decls.specs.Declarations.{beginning, AreDeclarations, IsFirstRefusal, IsDead, anything, decls_of}
use Rattle.vsd_decls.proofs.Behaving.{declarations_pass}
use Rattle.vsd_decls.proofs.Deciding.{decides_declarations}

abbrev Passing : SyntaxError → Type 0
Passing s = IsTrue (is_decl_cause s.cause)

pub decl_cause : (i : Input) (r : SyntaxError) → run (List Decl) declarations i ≡ Err r → IsTrue (is_decl_cause r.cause)
decl_cause i r e = subst (Holds Passing) e (holds is_decl_cause grows Passing (λ k cause t. t) (λ index k cause t. t) (List Decl) declarations i declarations_pass)

module _ (text : List ℕ) (tokens : List Token) where
  pub are_declarations : (list : List Decl) (j : Input) → run (List Decl) declarations (beginning text tokens) ≡ Ok (list, j) → AreDeclarations text tokens (decls_of j list)
  are_declarations list j e = record { end = j; derived = sound (List Decl) declarations (beginning text tokens) list j e; names = refl; rest = refl }

  -- a reading ends at a token of the text, or at their end
  pub rest_inside : (list : List Decl) (j : Input) → run (List Decl) declarations (beginning text tokens) ≡ Ok (list, j) → j.at ≤ length tokens
  rest_inside list j e =
      let w = (goes_forward (List Decl) declarations (beginning text tokens) list j e).1 in
      let n = length-map tokens (seen_of text) in
      omega (arith, w, n)

  -- whatever is derived is what is read
  read_of : (d : Decls) (a : AreDeclarations text tokens d) → run (List Decl) declarations (beginning text tokens) ≡ Ok (d.list, a.end)
  read_of d a = complete (List Decl) declarations anything (beginning text tokens) d.list a.end (decides_declarations anything) a.derived refl

  same_decls : (d : Decls) (a : AreDeclarations text tokens d) (list : List Decl) (j : Input) → (d.list ≡ list) × (a.end ≡ j) → d ≡ decls_of j list
  same_decls d a list j e = made (sym a.names ∙ ap (λ k. k.state.names) e.1) e.0 (sym a.rest ∙ ap (λ k. k.at) e.1)
    where
      made : {ns ms : List (List ℕ)} {xs ys : List Decl} {m n : ℕ} → ns ≡ ms → xs ≡ ys → m ≡ n → ◌≡◌ {A = Decls} (record { names = ns; list = xs; rest = m }) (record { names = ms; list = ys; rest = n })
      made e f g = cc

  pub only_read : (list : List Decl) (j : Input) → run (List Decl) declarations (beginning text tokens) ≡ Ok (list, j) → (d : Decls) → AreDeclarations text tokens d → d ≡ decls_of j list
  only_read list j e d a = same_decls d a list j (ok_parts d.list list a.end j (sym (read_of d a) ∙ e))

  pub none_derived : (r : SyntaxError) → run (List Decl) declarations (beginning text tokens) ≡ Err r → (d : Decls) → AreDeclarations text tokens d → ⊥
  none_derived r e d a = err_ok r d.list a.end (sym e ∙ read_of d a)

  pub is_dead : IsDead text tokens
  is_dead r e = λ ys x j same d f. dead (List Decl) declarations anything (decides_declarations anything) (beginning text tokens) r ys x j e same d f

  -- a reading that comes to its end is refused nowhere, and one refusal is the first
  pub none_refused : (list : List Decl) (j : Input) → run (List Decl) declarations (beginning text tokens) ≡ Ok (list, j) → (shown : ℕ × Cause) → IsFirstRefusal text tokens shown → ⊥
  none_refused list j e shown f = err_ok f.first list j (sym f.reached ∙ e)

  pub only_refusal : (r : SyntaxError) → run (List Decl) declarations (beginning text tokens) ≡ Err r → (shown : ℕ × Cause) → IsFirstRefusal text tokens shown → ◌≡◌ {A = ℕ × Cause} (line_of tokens r.at, r.cause) shown
  only_refusal r e shown f =
      let same : ◌≡◌ {A = Outcome (List Decl)} (Err r) (Err f.first) = sym e ∙ f.reached in
      let first : r ≡ f.first = cc in
      pair (ap (λ s. line_of tokens s.at) first ∙ sym f.line) (ap (λ s. s.cause) first ∙ sym f.cause)
    where
      pair : {m n : ℕ} {c d : Cause} → m ≡ n → c ≡ d → ◌≡◌ {A = ℕ × Cause} (m, c) (n, d)
      pair e f = cc
