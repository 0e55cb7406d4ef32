-- The test that `==` of terms is: it decides whether two terms are one tree.
use Rattle.std.specs.Prelude.{◌≡◌, Bool, true, false, ◌&&◌, ◌==◌, IsTrue, refl, ◌++◌}
use Rattle.std.specs.Hash.{HashWrites}
use Rattle.std.specs.Hash as fed
use Rattle.std.specs.Bool.{Decides}
use Rattle.std.specs.Cmp.{IsEquivalence, IsPartialEquivalence, decided, partial_equiv_from_equiv, unsigned_Decides, first_so, second_so}
use Rattle.std.proofs.Common.{ap}
use base.Stored.{Gv, gnil, gnum, gcons}
use Rattle.vsd_terms.specs.declared.term.Term.{Term}
use Rattle.vsd_terms.specs.declared.term.Term.TheOpen.{Term-F, Named, Param, Builtin}
use Rattle.vsd_terms.specs.declared.term.Term.TheFolds.{fold-Term}
use Rattle.vsd_terms.specs.contracts.term.Term as contract
use Rattle.vsd_terms.specs.contracts.term.BuiltinHash.TheImpl as hash

both_true : {p q : Bool} → p ≡ true → q ≡ true → (p && q) ≡ true
both_true h k = rw (h, k) refl

-- whether two codes are one
unfoldable pub same_code : Gv → Gv → Bool
same_code gnil gnil = true
same_code (gnum m) (gnum n) = m == n
same_code (gcons a b) (gcons c d) = same_code a c && same_code b d
same_code _ _ = false

pub same_code-Decides : (x y : Gv) → Decides (same_code x y) (x ≡ y)
unfolding same_code
same_code-Decides gnil gnil = (λ _. refl, λ _. refl)
same_code-Decides (gnum m) (gnum n) =
    let d = unsigned_Decides m n in (λ h. ap gnum (d.0 h), λ e. d.1 cc)
same_code-Decides (gcons a b) (gcons c d) =
    let left = same_code-Decides a c in
    let right = same_code-Decides b d in
    (λ h. let p = left.0 (first_so (same_code a c) (same_code b d) h) in let q = right.0 (second_so (same_code a c) (same_code b d) h) in cc, λ e. both_true (left.1 cc) (right.1 cc))
same_code-Decides _ _ = (λ h. absurd cc, λ e. absurd cc)

-- whether two terms are one tree, read off their codes, which tell all terms apart
unfoldable pub term_eq : Term → Term → Bool
term_eq a b = same_code (contract.the_row.coded.code a) (contract.the_row.coded.code b)

pub term_eq-Decides : (a b : Term) → Decides (term_eq a b) (a ≡ b)
unfolding term_eq
term_eq-Decides a b =
    let d = same_code-Decides (contract.the_row.coded.code a) (contract.the_row.coded.code b) in
    (λ h. contract.the_row.coded.inj a b (d.0 h), λ e. d.1 (ap contract.the_row.coded.code e))

pub term_eq_equivalence : IsEquivalence term_eq
term_eq_equivalence = decided term_eq term_eq-Decides

pub term_eq_partial : IsPartialEquivalence term_eq
term_eq_partial = partial_equiv_from_equiv term_eq_equivalence

abbrev pub writes_step : Term-F HashWrites → HashWrites
writes_step (Builtin b) = fed.u8 0 ++ hash.ghosts.hash_input b
writes_step (Param place) = fed.u8 1 ++ fed.u8 place
writes_step (Named name args) = fed.u8 2 ++ fed.u16 name ++ fed.slice (λ writes. writes) args

-- what `hash` of a term feeds a hasher: the variant, and then what it holds
abbrev pub writes_of : Term → HashWrites
writes_of = fold-Term HashWrites writes_step

pub writes_of-term_eq : (a b : Term) → IsTrue (term_eq a b) → writes_of a ≡ writes_of b
writes_of-term_eq a b h = ap writes_of ((term_eq-Decides a b).0 h)
