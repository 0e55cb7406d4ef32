-- Abstract bodies of a class and of its base, and the marks that tell of them.
use Rattle.std.proofs.Common.{◌≡◌, ℕ, suc, ◌+◌, ◌<◌, ◌≤◌, Bool, true, false, IsTrue, ◌↔◌, List, [], ◌∷◌, length, get_or, set, length-set, get_or-set_same, get_or-set_other, refl, sym, ap, ◌∙◌, subst, Some, add-one, inl, inr, arith}
use Rattle.std.specs.List.{slice_get}
use Rattle.std.proofs.lemmas.Bool.{cases_eq, cases_lt}
use Rattle.vsd_ast.specs.declared.declarations.Decl.{Decl}
use Rattle.vsd_ast.specs.declared.declarations.Method.{Method}
use Rattle.vsd_lift.specs.Chain.{IsChain, place_above}
use Rattle.vsd_roots.specs.Bodies.{AbstractBody, BaseHasAbstract, HasAbstract, Marks, MarksBelow}
use Rattle.vsd_roots.specs.Order.{rank}
use Rattle.vsd_roots.specs.declared.place.Place.{Place}

module _ (ds : List Decl) where
  -- without its first declaration a chain is that of the base
  tail_chain : (n b : ℕ) (rest : List ℕ) → IsChain ds n (n ∷ b ∷ rest) → IsChain ds b (b ∷ rest)
  tail_chain n b rest is = record {
    first = refl;
    next = λ level m here.
        let one : level + 1 ≡ suc level = add-one level in
        let lower : slice_get (n ∷ b ∷ rest) (level + 1) ≡ Some m = ap (slice_get (n ∷ b ∷ rest)) one ∙ here in
        let two : (level + 1) + 1 ≡ suc (level + 1) = add-one (level + 1) in
        is.next (level + 1) m lower ∙ ap (slice_get (n ∷ b ∷ rest)) two;
  }

  tail_body : (n : ℕ) (rest : List ℕ) (level : ℕ) (body : Place) → AbstractBody ds (n ∷ rest) (suc level) body → AbstractBody ds rest level body
  tail_body n rest level body leaves = record {
    root = leaves.root;
    is_body = record {
      stands = leaves.is_body.stands;
      rooted = leaves.is_body.rooted;
      nearest = λ l r at rooted. elim (leaves.is_body.nearest (suc l) r at rooted) [ inl lt ↦ inl (omega arith) | inr same ↦ inr (omega (arith, same.0), same.1) ];
    };
    method = leaves.method;
    is_method = leaves.is_method;
    abstract = leaves.abstract;
  }

  -- an abstract body above the lowest class is one of its base
  pub base_has : (at : ℕ) (chain : List ℕ) (level : ℕ) (body : Place) → IsChain ds at chain → AbstractBody ds chain (suc level) body → BaseHasAbstract ds at
  base_has at [] level body is leaves = absurd (let first = is.first in cc)
  base_has at (n ∷ []) level body is leaves = absurd (let stands = leaves.is_body.stands in cc)
  base_has at (n ∷ (b ∷ rest)) level body is leaves =
      let same : n ≡ at = let first = is.first in cc in
      let whole : IsChain ds n (n ∷ b ∷ rest) = subst (λ (k : ℕ). IsChain ds k (n ∷ b ∷ rest)) (sym same) is in
      record {
        base = b;
        extended = ap (λ (k : ℕ). place_above ds (slice_get ds k)) (sym same) ∙ is.next 0 n refl;
        has = record {
          chain = b ∷ rest;
          upward = tail_chain n b rest whole;
          level = level;
          body = body;
          leaves = tail_body n (b ∷ rest) level body leaves;
        };
      }

  -- an abstract body of the lowest class is declared there
  pub own_abstract : (at : ℕ) (x : Decl) (chain : List ℕ) (body : Place) → slice_get ds at ≡ Some x → IsChain ds at chain → AbstractBody ds chain 0 body → (i : ℕ) × ((m : Method) × ((slice_get x.methods i ≡ Some m) × (m.is_abstract ≡ true)))
  own_abstract at x chain body here is leaves =
      let owner = leaves.is_method.owner in
      let decls : body.decl ≡ at = let stands = leaves.is_body.stands in let first = is.first in cc in
      let owners : owner ≡ x = let both = sym leaves.is_method.declared ∙ ap (slice_get ds) decls ∙ here in cc in
      (body.method, (leaves.method, (ap (λ (y : Decl). slice_get y.methods body.method) (sym owners) ∙ leaves.is_method.listed, leaves.abstract)))

  -- ---- marks, one declaration further

  module _ (depths : List ℕ) (marks : List Bool) where
    pub marks-skip : (bound next : ℕ) → ((i : ℕ) → i < length ds → rank depths i < next → rank depths i < bound) → MarksBelow ds depths bound marks → MarksBelow ds depths next marks
    marks-skip bound next none before = record {
      long = before.long;
      each = λ i inside below. before.each i inside (none i inside below);
    }

    pub marks-end : (bound : ℕ) → ((i : ℕ) → i < length ds → rank depths i < bound) → MarksBelow ds depths bound marks → Marks ds marks
    marks-end bound all before = record {
      long = before.long;
      each = λ i inside. before.each i inside (all i inside);
    }

    pub marks-set : (bound next at : ℕ) (mark : Bool) → length ds ≤ 1024 → at < length ds → rank depths at ≡ bound → next ≡ bound + 1 → (IsTrue mark ↔ HasAbstract ds at) → MarksBelow ds depths bound marks → MarksBelow ds depths next (set marks at mark)
    marks-set bound next at mark few inside here one is before = record {
      long = length-set marks at mark ∙ before.long;
      each = λ i i_in below.
          let P : Bool → Type 0 = λ b. IsTrue b ↔ HasAbstract ds i in
          elim (cases_eq i at) [
            | inl same ↦ (
                let read : get_or (set marks at mark) i false ≡ mark = ap (λ (k : ℕ). get_or (set marks at mark) k false) same ∙ get_or-set_same marks at mark false (omega (arith, before.long)) in
                subst P (sym read) (subst (λ (k : ℕ). IsTrue mark ↔ HasAbstract ds k) (sym same) is)
                )
            | inr other ↦ (
                let read : get_or (set marks at mark) i false ≡ get_or marks i false = get_or-set_other marks at i mark false other in
                let lower : rank depths i < bound = elim (cases_lt (rank depths i) bound) [ inl lt ↦ lt | inr ge ↦ absurd (other (omega arith)) ] in
                subst P (sym read) (before.each i i_in lower)
                )
          ];
    }
