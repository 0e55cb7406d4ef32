-- Declarations by their names, as a table has them.
use Rattle.std.proofs.Common.{◌≡◌, ℕ, suc, ◌+◌, ◌≤◌, Bool, true, false, cond, nat_eq, List, [], ◌∷◌, map, refl, sym, ap, ◌∙◌, Option, Some, None, IfSome, All, IsTrue, not, ◌↔◌, arith}
use Rattle.std.specs.List.{slice_get}
use Rattle.std.proofs.lemmas.Bool.{false≢true}
use Rattle.vsd_ast.specs.Lookup.{declared, place_of}
use Rattle.vsd_ast.specs.WellFormed.{IsWritten}
use Rattle.vsd_ast.specs.declared.declarations.Decl.{Decl}
use Rattle.vsd_terms.specs.Size.{greatest}
use Rattle.vsd_terms.specs.Text.{names_of}
use Rattle.vsd_terms.specs.declared.term.Term.{Term}

-- what stands at a name's place is the declaration of the name
pub place_of-get : (ds : List Decl) (name : ℕ) → slice_get ds (place_of ds name) ≡ declared ds name
unfolding declared place_of
place_of-get [] name = refl
place_of-get (y ∷ ds) name = by (nat_eq y.name name) refl (place_of-get ds name)
  where
    by : (same : Bool) → nat_eq y.name name ≡ same → slice_get ds (place_of ds name) ≡ declared ds name → slice_get (y ∷ ds) (place_of (y ∷ ds) name) ≡ declared (y ∷ ds) name
    by true e later =
        let here : place_of (y ∷ ds) name ≡ 0 = ap (λ b. cond b 0 (place_of ds name + 1)) e in
        let this : declared (y ∷ ds) name ≡ Some y = ap (λ b. cond b (Some y) (declared ds name)) e in
        ap (slice_get (y ∷ ds)) here ∙ sym this
    by false e later =
        let here : place_of (y ∷ ds) name ≡ suc (place_of ds name) = ap (λ b. cond b 0 (place_of ds name + 1)) e ∙ omega arith in
        let this : declared (y ∷ ds) name ≡ declared ds name = ap (λ b. cond b (Some y) (declared ds name)) e in
        ap (slice_get (y ∷ ds)) here ∙ later ∙ sym this

pub greatest-named : (names parameters : ℕ) (ts : List Term) → All (IsWritten names parameters) ts → greatest (map names_of ts) ≤ names
greatest-named names parameters [] all = omega arith
greatest-named names parameters (t ∷ ts) all =
    let first : IsWritten names parameters t = all 0 t (omega arith) in
    let rest = greatest-named names parameters ts (λ k d inside. all (suc k) d (omega arith)) in
    omega (arith, first.named)

pub some-named : (names parameters : ℕ) (o : Option Term) → IfSome o (IsWritten names parameters) → IfSome o (λ (t : Term). names_of t ≤ names)
some-named names parameters None written = tt
some-named names parameters (Some t) written = written.named

-- a test turned round passes where the other fails
pub not-decides : (v b : Bool) → v ≡ b → (IsTrue (not v)) ↔ (b ≡ false)
not-decides true b is = (λ f. absurd (false≢true f), λ e. absurd (false≢true (sym e ∙ sym is)))
not-decides false b is = (λ t. sym is, λ e. refl)
