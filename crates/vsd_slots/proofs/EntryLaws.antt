-- Entries of classes, from those of the classes above.
use Rattle.std.proofs.Common.{◌≡◌, ℕ, Bool, true, false, if◌then◌else◌, List, [], ◌∷◌, Option, Some, None, refl, sym, ap, ◌∙◌, subst}
use Rattle.std.specs.List.{list_any, slice_get}
use Rattle.std.specs.Option.{option_or, option_to_list}
use Rattle.vsd_terms.specs.declared.term.Term.{Term}
use Rattle.vsd_terms.specs.Equality.{term_eq}
use Rattle.vsd_types.specs.Numbers.{AreNumbers}
use Rattle.vsd_types.specs.TypeList.{TypeList}
use Rattle.vsd_types.specs.Types.{base_of, type_at}
use Rattle.vsd_slots.specs.Entries.{IsCombined, IsEntry, IsHaving, IsOver, IsStep, found_of, method_at, nothing}
use Rattle.vsd_slots.specs.Implementation.{Found, found_in, implementation, nearest}
use Rattle.vsd_interfaces.specs.Lineage.{IsLineage, Level}
use Rattle.vsd_methods.specs.Methods.{naming, overriding}
use Rattle.vsd_slots.specs.declared.entries.ClosedMethod.{ClosedMethod}
use Rattle.vsd_slots.specs.declared.entries.Entry.{Entry}
use Rattle.vsd_interfaces.proofs.NumberLaws.{number-type}

found-or : (types : List Term) (a b : Option ClosedMethod) → found_of types (option_or a b) ≡ option_or (found_of types a) (found_of types b)
found-or types None b = refl
found-or types (Some x) b = refl

found-if : (types : List Term) (has : Bool) (a : Option ClosedMethod) → found_of types (if has then a else None) ≡ (if has then found_of types a else None)
found-if types true a = refl
found-if types false a = refl

found-at : (types : List Term) (t : ℕ) (place : Option ℕ) → found_of types (method_at t place) ≡ found_in (type_at types t) place
found-at types t None = refl
found-at types t (Some m) = refl

pub combined-over : (c : TypeList) (t i m : ℕ) (interfaces : List Term) (own named : Option ℕ) (has : Bool) (above e : Entry) (levels : List Level) → own ≡ overriding c.decls.list (type_at c.types i) m (type_at c.types t) → named ≡ naming c.decls.list (type_at c.types i) m (type_at c.types t) → has ≡ list_any (term_eq (type_at c.types i)) interfaces → IsCombined (method_at t own) (method_at t named) has above e → IsOver c i m levels above → IsOver c i m (record { type = type_at c.types t; interfaces = interfaces } ∷ levels) e
combined-over c t i m interfaces own named has above e levels own_is named_is has_is combined over =
    let types = c.types in
    let T = type_at types t in
    let I = type_at types i in
    let ds = c.decls.list in
    let first : found_of types (method_at t own) ≡ found_in T (overriding ds I m T) = found-at types t own ∙ ap (found_in T) own_is in
    let second : found_of types (method_at t named) ≡ found_in T (naming ds I m T) = found-at types t named ∙ ap (found_in T) named_is in
    let test : (a : Option Found) → (if has then a else None) ≡ (if list_any (term_eq I) interfaces then a else None) = λ a. ap (λ b. if b then a else None) has_is in
    let third : found_of types (if has then method_at t named else None) ≡ (if list_any (term_eq I) interfaces then found_in T (naming ds I m T) else None) = found-if types has (method_at t named) ∙ ap (λ a. if has then a else None) second ∙ test (found_in T (naming ds I m T)) in
    let fifth : found_of types (if has then above.nearest else None) ≡ (if list_any (term_eq I) interfaces then nearest ds I m levels else None) = found-if types has above.nearest ∙ ap (λ a. if has then a else None) over.nearest ∙ test (nearest ds I m levels) in
    let last : found_of types (option_or above.implementation (if has then above.nearest else None)) ≡ option_or (implementation ds I m levels) (if list_any (term_eq I) interfaces then nearest ds I m levels else None) = found-or types above.implementation (if has then above.nearest else None) ∙ ap (λ a. option_or a (found_of types (if has then above.nearest else None))) over.implementation ∙ ap (option_or (implementation ds I m levels)) fifth in
    let tail = option_or above.implementation (if has then above.nearest else None) in
    let middle : found_of types (option_or (if has then method_at t named else None) tail) ≡ option_or (if list_any (term_eq I) interfaces then found_in T (naming ds I m T) else None) (option_or (implementation ds I m levels) (if list_any (term_eq I) interfaces then nearest ds I m levels else None)) = found-or types (if has then method_at t named else None) tail ∙ ap (λ a. option_or a (found_of types tail)) third ∙ ap (option_or (if list_any (term_eq I) interfaces then found_in T (naming ds I m T) else None)) last in
    let rest = option_or (if has then method_at t named else None) tail in
    record {
      implementation = ap (found_of types) combined.implementation ∙ found-or types (method_at t own) rest ∙ ap (λ a. option_or a (found_of types rest)) first ∙ ap (option_or (found_in T (overriding ds I m T))) middle;
      nearest = ap (found_of types) combined.nearest ∙ found-or types (method_at t named) above.nearest ∙ ap (λ a. option_or a (found_of types above.nearest)) second ∙ ap (option_or (found_in T (naming ds I m T))) over.nearest;
    }

-- over no class there is nothing
pub over-none : (c : TypeList) (i m : ℕ) (e : Entry) → e.implementation ≡ None → e.nearest ≡ None → IsOver c i m [] e
over-none c i m e a b = record { implementation = ap (found_of c.types) a; nearest = ap (found_of c.types) b }

no_base : (types : List Term) (b : Option Term) → AreNumbers types [] (option_to_list b) → b ≡ None
no_base types None are = refl
no_base types (Some x) are = absurd cc

one_base : (types : List Term) (n : ℕ) (b : Option Term) → AreNumbers types (n ∷ []) (option_to_list b) → b ≡ Some (type_at types n)
one_base types n None are = absurd cc
one_base types n (Some x) are = let here : slice_get types n ≡ Some x = cc in ap Some (sym (number-type types n x here))

module _ (c : TypeList) (t i m : ℕ) (base : Option ℕ) (numbers : AreNumbers c.types (option_to_list base) (option_to_list (base_of c.decls.list (type_at c.types t)))) where
  pub base-none : base ≡ None → base_of c.decls.list (type_at c.types t) ≡ None
  base-none none = no_base c.types (base_of c.decls.list (type_at c.types t)) (subst (λ (b : Option ℕ). AreNumbers c.types (option_to_list b) (option_to_list (base_of c.decls.list (type_at c.types t)))) none numbers)

  pub base-some : (b : ℕ) → base ≡ Some b → base_of c.decls.list (type_at c.types t) ≡ Some (type_at c.types b)
  base-some b some = one_base c.types b (base_of c.decls.list (type_at c.types t)) (subst (λ (o : Option ℕ). AreNumbers c.types (option_to_list o) (option_to_list (base_of c.decls.list (type_at c.types t)))) some numbers)

module _ (c : TypeList) (t i m : ℕ) where
  -- over a type, from the entry over those above it
  pub entry-step : (above e : Entry) → IsEntry c (base_of c.decls.list (type_at c.types t)) i m above → IsStep c t i m above e → IsEntry c (Some (type_at c.types t)) i m e
  entry-step above e entry step = record {
    levels = record { type = type_at c.types t; interfaces = step.interfaces } ∷ entry.levels;
    lineage = (refl, step.are, entry.lineage);
    over = step.step entry.levels entry.over;
  }

  pub entry-none : (o : Option Term) (e : Entry) → o ≡ None → e ≡ nothing → IsEntry c o i m e
  entry-none o e is same = record {
    levels = [];
    lineage = subst (λ (p : Option Term). IsLineage c.decls.list p []) (sym is) tt;
    over = over-none c i m e (ap (λ (x : Entry). x.implementation) same) (ap (λ (x : Entry). x.nearest) same);
  }

  -- what the class has by its own methods, and whether it has the interface, make a step
  pub step-combined : (own named : Option ℕ) (has : Bool) (above e : Entry) → own ≡ overriding c.decls.list (type_at c.types i) m (type_at c.types t) → named ≡ naming c.decls.list (type_at c.types i) m (type_at c.types t) → IsHaving c t i has → IsCombined (method_at t own) (method_at t named) has above e → IsStep c t i m above e
  step-combined own named has above e own_is named_is having combined = record {
    interfaces = having.interfaces;
    are = having.are;
    step = λ levels over. combined-over c t i m having.interfaces own named has above e levels own_is named_is having.test combined over;
  }
