use Rattle.std.proofs.Common.{◌≡◌, ℕ, zero, suc, ◌*◌, Bool, true, false, IsTrue, ◌↔◌, List, length, get_or, refl, sym, ap, ◌∙◌, subst, Some, if◌then◌else◌, IfOk, Result, Ok, Err, arith}
use Rattle.std.specs.List.{slice_get}
use Rattle.std.proofs.lemmas.Bool.{false≢true}
use Rattle.std.proofs.lemmas.Option.{slice_get-get_or, slice_get_within}
use Rattle.vsd_ast.specs.declared.declarations.Decl.{Decl}
use Rattle.vsd_ast.specs.declared.declarations.Method.{Method}
use Rattle.vsd_lift.specs.Chain.{IsChain}
use Rattle.vsd_lift.proofs.ChainLemmas.{chain-unique}
use Rattle.vsd_roots.specs.Bodies.{AbstractBelow, AbstractBody, BaseHasAbstract, HasAbstract}
use Rattle.vsd_roots.specs.declared.place.Place.{Place}
use Rattle.vsd_roots.proofs.AbstractLemmas.{base_has, own_abstract}
use Rattle.vsd_roots.proofs.abstracts.has_abstract.Goals as goal

-- with nothing marked below and nothing abstract of its own, nothing is left
nothing_left : (ds : List Decl) (at : ℕ) (x : Decl) → slice_get ds at ≡ Some x → (BaseHasAbstract ds at → ⊥) → (((i : ℕ) × ((m : Method) × ((slice_get x.methods i ≡ Some m) × (m.is_abstract ≡ true)))) → ⊥) → HasAbstract ds at → ⊥
nothing_left ds at x here base own has = by has.level refl
  where
    by : (n : ℕ) → has.level ≡ n → ⊥
    by zero e = own (own_abstract ds at x has.chain has.body here has.upward (subst (λ (k : ℕ). AbstractBody ds has.chain k has.body) e has.leaves))
    by (suc n) e = base (base_has ds at has.chain n has.body has.upward (subst (λ (k : ℕ). AbstractBody ds has.chain k has.body) e has.leaves))

-- what the scanned levels show is what all do
scanned : (ds : List Decl) (at : ℕ) (chain : List ℕ) (marked : Bool) (limit : ℕ) → IsChain ds at chain → (IsTrue marked ↔ BaseHasAbstract ds at) → limit ≡ (if marked then length chain else 1) → AbstractBelow ds chain (limit * 256) ↔ HasAbstract ds at
scanned ds at chain true limit is marks limited = (
  λ a. record { chain = chain; upward = is; level = a.level; body = a.body; leaves = a.leaves },
  λ has.
      let one = chain-unique ds at has.chain chain has.upward is in
      let leaves = subst (λ (l : List ℕ). AbstractBody ds l has.level has.body) one has.leaves in
      let inside = slice_get_within chain has.level has.body.decl leaves.is_body.stands in
      record { level = has.level; body = has.body; leaves = leaves; below = omega arith },
)
scanned ds at chain false limit is marks limited = (
  λ a. record { chain = chain; upward = is; level = a.level; body = a.body; leaves = a.leaves },
  λ has.
      let one = chain-unique ds at has.chain chain has.upward is in
      let leaves = subst (λ (l : List ℕ). AbstractBody ds l has.level has.body) one has.leaves in
      record { level = has.level; body = has.body; leaves = leaves; below = (let lowest = by_level has.level has.body leaves in omega arith) },
)
  where
    by_level : (n : ℕ) (body : Place) → AbstractBody ds chain n body → n ≡ 0
    by_level zero body leaves = refl
    by_level (suc n) body leaves = absurd (false≢true (marks.1 (base_has ds at chain n body is leaves)))

if_ok : {A E : Type 0} (P Q : A → Type 0) (r : Result A E) → ((x : A) → P x → Q x) → IfOk r P → IfOk r Q
if_ok P Q (Ok x) from has = from x has
if_ok P Q (Err e) from has = tt

pub returns-then-not-declares_abstract : goal.returns-then-not-declares_abstract
returns-then-not-declares_abstract c =
    let ds = c.args.h.now.decls.now in
    let x = get_or ds c.args.at c.index-h-at.result in
    let here = slice_get-get_or ds c.args.at c.index-h-at.result c.requires.within in (
      λ f. absurd (false≢true f),
      λ has. absurd (nothing_left ds c.args.at x here
          (λ base. false≢true (sym c.if-not-base.true ∙ c.is_base_marked-base.ensures.1 base))
          (λ own. false≢true (sym c.if-not-declares_abstract.true ∙ c.declares_abstract.ensures.1 own)) has),
    )

pub has_abstract_below-requires-clause-upward : goal.has_abstract_below-requires-clause-upward
has_abstract_below-requires-clause-upward c =
    let ds = c.args.h.now.decls.now in
    record {
      from = c.args.at;
      within = c.requires.within;
      chained = subst (λ (l : List ℕ). IsChain ds c.args.at l) (sym c.as_slice.ensures.value) c.in_ok-upward.ensures.chain;
    }

pub returns : goal.returns
returns c =
    let ds = c.args.h.now.decls.now in
    let chain = c.as_slice.result.now in
    let marked = c.is_base_marked-base.result in
    let is : IsChain ds c.args.at chain = subst (λ (l : List ℕ). IsChain ds c.args.at l) (sym c.as_slice.ensures.value) c.in_ok-upward.ensures.chain in
    let long : c.len.result ≡ length chain = c.len.ensures ∙ sym c.as_slice.ensures.len in
    let limited : c.levels_to_scan-limit.result ≡ (if marked then length chain else 1) = c.levels_to_scan-limit.ensures ∙ ap (λ (n : ℕ). if marked then n else 1) long in
    let same = scanned ds c.args.at chain marked c.levels_to_scan-limit.result is c.is_base_marked-base.ensures limited in
    if_ok (λ (found : Bool). IsTrue found ↔ AbstractBelow ds chain (c.levels_to_scan-limit.result * 256)) (λ (found : Bool). IsTrue found ↔ HasAbstract ds c.args.at) c.has_abstract_below.result
    (λ found is_found. (λ h. same.0 (is_found.0 h), λ has. is_found.1 (same.1 has))) c.has_abstract_below.ensures
