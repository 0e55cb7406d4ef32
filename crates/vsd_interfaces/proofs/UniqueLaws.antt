-- The interfaces of a type and the lineage of a class are unique.
use Rattle.std.proofs.Common.{◌≡◌, ◌+◌, Bool, true, false, List, [], ◌∷◌, Option, Some, None, refl, sym, ◌∙◌, arith}
use Rattle.vsd_terms.specs.declared.term.Term.{Term}
use Rattle.vsd_ast.specs.declared.declarations.Decl.{Decl}
use Rattle.vsd_types.specs.Types.{base_of, is_interface_type}
use Rattle.vsd_interfaces.specs.Interfaces.{AreInterfaces}
use Rattle.vsd_interfaces.specs.Lineage.{IsLineage, Level}

module _ (ds : List Decl) where
  interfaces_by : (t : Term) (xs ys : List Term) (b : Bool) → is_interface_type ds t ≡ b → AreInterfaces ds t xs → AreInterfaces ds t ys → xs ≡ ys
  interfaces_by t xs ys false is a b =
      let x = a.class is in
      let y = b.class is in
      x.whole (x.height + y.height) (omega arith) ∙ sym (y.whole (x.height + y.height) (omega arith))
  interfaces_by t xs ys true is a b = a.other is ∙ sym (b.other is)

  pub interfaces-unique : (t : Term) (xs ys : List Term) → AreInterfaces ds t xs → AreInterfaces ds t ys → xs ≡ ys
  interfaces-unique t xs ys a b = interfaces_by t xs ys (is_interface_type ds t) refl a b

  same_level : (a b : Level) → a.type ≡ b.type → a.interfaces ≡ b.interfaces → a ≡ b
  same_level a b t is = λ i. record { type = t i; interfaces = is i }

  pub lineage-unique : (o : Option Term) (xs ys : List Level) → IsLineage ds o xs → IsLineage ds o ys → xs ≡ ys
  lineage-unique None [] [] a b = refl
  lineage-unique None [] (y ∷ ys) a b = absurd b
  lineage-unique None (x ∷ xs) ys a b = absurd a
  lineage-unique (Some t) [] ys a b = absurd a
  lineage-unique (Some t) (x ∷ xs) [] a b = absurd b
  lineage-unique (Some t) (x ∷ xs) (y ∷ ys) a b =
      let first = same_level x y (a.0 ∙ sym b.0) (interfaces-unique t x.interfaces y.interfaces a.1 b.1) in
      let rest = lineage-unique (base_of ds t) xs ys a.2 b.2 in
      λ i. first i ∷ rest i
