-- Steps on outcomes.
use Rattle.std.proofs.Common.{◌≡◌, Ok, Err, refl, ap, sym, subst}
use Rattle.vsd_grammar.specs.declared.syntax_error.SyntaxError.{SyntaxError}
use Rattle.vsd_grammar.specs.declared.syntax_error.Stop.{Stop}
use Rattle.vsd_grammar.specs.declared.syntax_error.Stop.TheVariants.{Refused}
use Rattle.vsd_grammar.specs.Input.{Input}
use Rattle.vsd_grammar.specs.Grammar.{Outcome, and_then}
use Rattle.vsd_grammar.specs.Productions.{Reads}

pub ok_parts : {A : Type 0} (x y : A) (i j : Input) → ◌≡◌ {A = Outcome A} (Ok (x, i)) (Ok (y, j)) → (x ≡ y) × (i ≡ j)
ok_parts {A} x y i j e = let p : ◌≡◌ {A = A × Input} (x, i) (y, j) = cc in (ap (λ t. t.0) p, ap (λ t. t.1) p)

pub err_ok : {A : Type 0} (r : SyntaxError) (x : A) (i : Input) → ◌≡◌ {A = Outcome A} (Err r) (Ok (x, i)) → ⊥
err_ok r x i e = cc

-- a reading of two parts is a reading of each
pub and_then_ok : {A B : Type 0} (o : Outcome A) (f : A → Input → Outcome B) (y : B) (j : Input) → and_then o f ≡ Ok (y, j)
    → (x : A) × (k : Input) × (o ≡ Ok (x, k)) × (f x k ≡ Ok (y, j))
and_then_ok (Ok r) f y j e = (r.0, r.1, refl, e)
and_then_ok (Err r) f y j e = absurd (err_ok r y j e)

-- a refusal that a call made
pub reads_refused : {A : Type 0} (o : Outcome A) (s : Stop) (r : SyntaxError) (new : Input) → s ≡ Refused r → o ≡ Err r → Reads o (Err s) new
reads_refused o s r new e f = subst (λ t. Reads o (Err t) new) (sym e) f
