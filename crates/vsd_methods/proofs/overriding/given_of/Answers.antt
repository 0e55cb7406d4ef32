use Rattle.std.proofs.Common.{◌≡◌, ℕ, List, Contains, Option, Some, IfSome, sym, subst}
use Rattle.std.specs.List.{slice_get}
use Rattle.std.proofs.lemmas.Option.{slice_get_within}
use Rattle.vsd_terms.specs.declared.term.Term.{Term}
use Rattle.vsd_terms.specs.Substitution.{subst_of}
use Rattle.vsd_ast.specs.declared.declarations.Method.{Method}
use Rattle.vsd_types.specs.Types.{type_at}
use Rattle.vsd_methods.specs.Givens.{IsGivenFor}
use Rattle.vsd_methods.proofs.GivenLaws.{gives-listed, gives-unlisted, owner-long}
use Rattle.vsd_methods.proofs.overriding.given_of.Goals as goal

listed_at : (types : List Term) (t : Term) (n : ℕ) (o : Option ℕ) → o ≡ Some n → IfSome o (λ k. slice_get types k ≡ Some t) → slice_get types n ≡ Some t
listed_at types t n o is at = subst (λ (p : Option ℕ). IfSome p (λ k. slice_get types k ≡ Some t)) is at

pub returns-in-None : goal.returns-in-None
returns-in-None c t are methods i m within =
    gives-unlisted c.args.closed.now.decls.list c.args.closed.now.types t c.args.o.now i m within (λ has. c.in_ok-number.ensures.none c.in-None.is (subst (λ (a : List Term). Contains c.args.closed.now.types (subst_of a c.args.o.now.owner)) are has))

pub given_for-requires-clause-listed : goal.given_for-requires-clause-listed
given_for-requires-clause-listed c =
    let owner = subst_of c.args.args.now c.args.o.now.owner in
    slice_get_within c.args.closed.now.types c.in-Some.number owner (listed_at c.args.closed.now.types owner c.in-Some.number _ c.in-Some.is c.in_ok-number.ensures.number)

pub given_for-requires-clause-long : goal.given_for-requires-clause-long
given_for-requires-clause-long c =
    let owner = subst_of c.args.args.now c.args.o.now.owner in
    owner-long c.args.closed.now.types c.args.args.now c.args.o.now c.in-Named.name c.in-Named.owner_args c.in-Some.number c.in-Named.is (listed_at c.args.closed.now.types owner c.in-Some.number _ c.in-Some.is c.in_ok-number.ensures.number)

pub returns-in-Some : goal.returns-in-Some
returns-in-Some c t are methods =
    let ds = c.args.closed.now.decls.list in
    let n = c.in-Some.number in
    let owner = subst_of c.args.args.now c.args.o.now.owner in
    gives-listed c.args.closed.now.types c.args.args.now c.args.o.now c.in-Named.name c.in-Named.owner_args n c.in-Named.is (listed_at c.args.closed.now.types owner n _ c.in-Some.is c.in_ok-number.ensures.number) ds t c.given_for.result c.count-count.ensures.distinct are (subst (λ (ms : List Method). IsGivenFor ds (type_at c.args.closed.now.types n) ms c.args.o.now c.in-Named.owner_args n c.given_for.result) (sym methods) c.given_for.ensures)
