-- What implements a method of the interface that answers, and what its slot holds, by numbers.
use Rattle.std.proofs.Common.{◌≡◌, ◌<◌, ℕ, inl, inr, All, Contains, IfSome, List, length, get_or, Option, Some, None, refl, sym, ap, ◌∙◌, subst}
use Rattle.std.specs.List.{slice_get}
use Rattle.std.proofs.lemmas.Option.{slice_get-get_or}
use Rattle.vsd_terms.specs.declared.term.Term.{Term}
use Rattle.vsd_ast.specs.declared.declarations.Decl.{Decl}
use Rattle.vsd_ast.specs.Lookup.{Head, head_of}
use Rattle.vsd_ast.specs.WellFormed.{AreWellFormed}
use Rattle.vsd_roots.specs.declared.place.Place.{Place}
use Rattle.vsd_types.specs.Numbers.{IsDistinct}
use Rattle.vsd_types.specs.TypeList.{TypeList}
use Rattle.vsd_types.specs.Types.{declaration_of_head, type_at}
use Rattle.vsd_slots.specs.Entries.{found_of}
use Rattle.vsd_slots.specs.Implementation.{IsImplementation, implementation}
use Rattle.vsd_methods.specs.Methods.{methods_in}
use Rattle.vsd_slots.specs.Refusals.{method_count}
use Rattle.vsd_interfaces.specs.Tables.{IsMap, types_of}
use Rattle.vsd_slots.specs.declared.entries.ClosedMethod.{ClosedMethod}
use Rattle.vsd_slots.proofs.DecidingLaws.{declared-above}
use Rattle.vsd_itable.specs.Bodies.{HasRoot, IsUpward}
use Rattle.vsd_itable.specs.Filling.{IsDeclaredFrom, IsImplementing}
use Rattle.vsd_itable.specs.Places.{IsBodyAt, IsMatchPlace}
use Rattle.vsd_itable.specs.Selection.{IsBodyOf}
use Rattle.vsd_itable.specs.Tables.{IsListed, found_with}
use Rattle.vsd_itable.proofs.BodyLaws.{counted-listed, lineage-upward, none-upward}
use Rattle.vsd_itable.proofs.FoundLaws.{implementation-counted}
use Rattle.vsd_itable.proofs.MatchLaws.{matched}

module _ (c : TypeList) (well : AreWellFormed c.decls) (distinct : IsDistinct c.types) (t j m : ℕ) (ns : List ℕ) (map : IsMap c t ns) (j_in : j < length c.types) where
  -- where no interface answers, nothing implements the method
  pub implementing-none : IsMatchPlace c ns j None → IsImplementing c t j m None
  implementing-none is = record {
    answering = None;
    matches = record { interfaces = types_of c.types ns; all = record { levels = map.levels; lineage = map.lineage; all = map.all }; among = matched c distinct ns j map.within j_in None is };
    implements = refl;
    upward = tt;
  }

  upward-from : (i : Term) (method : Option ClosedMethod) → IsImplementation c.decls.list (type_at c.types t) i m (found_of c.types method) → IfSome method (IsDeclaredFrom c t)
  upward-from i None is = tt
  upward-from i (Some x) is =
      let counted = implementation-counted c.decls.list (length c.decls.names) well.each i m is.levels (found_with c.types x) (sym is.first) in
      let at = declared-above c.decls.list i m is.levels (found_with c.types x) (sym is.first) in
      let there : slice_get is.levels at.1.0 ≡ Some at.0 = slice_get-get_or is.levels at.1.0 at.0 at.1.1 ∙ ap Some at.1.2 in
      record {
        listed = record { class = counted-listed c x.class x.method counted; method = counted };
        upward = subst (IsUpward c.decls.list (type_at c.types t)) at.2 (lineage-upward c.decls.list (type_at c.types t) is.levels is.lineage at.1.0 at.0 there);
      }

  -- what implements the method of the interface that answers
  pub implementing-some : (p : ℕ) (method : Option ClosedMethod) → IsMatchPlace c ns j (Some p) → IsImplementation c.decls.list (type_at c.types t) (type_at c.types (get_or ns p 0)) m (found_of c.types method) → IsImplementing c t j m method
  implementing-some p method is implements = record {
    answering = Some (type_at c.types (get_or ns p 0));
    matches = record { interfaces = types_of c.types ns; all = record { levels = map.levels; lineage = map.lineage; all = map.all }; among = matched c distinct ns j map.within j_in (Some p) is };
    implements = implements;
    upward = upward-from (type_at c.types (get_or ns p 0)) method implements;
  }

  head_counts : (a b : Term) → head_of a ≡ head_of b → method_count c.decls.list a ≡ method_count c.decls.list b
  head_counts a b same = ap (λ (h : Head). length (methods_in (declaration_of_head c.decls.list h))) same

  -- the interface that answers has as many methods
  pub place-counts : (p : ℕ) → IsMatchPlace c ns j (Some p) → (p < length ns) × (method_count c.decls.list (type_at c.types (get_or ns p 0)) ≡ method_count c.decls.list (type_at c.types j))
  place-counts p is = elim is [
    | inl exact ↦ (exact.1.0, ap (λ k. method_count c.decls.list (type_at c.types k)) exact.1.1)
    | inr first ↦ (first.1.0, head_counts (type_at c.types (get_or ns p 0)) (type_at c.types j) first.1.1.generic.generic)
  ]

module _ (c : TypeList) (t : ℕ) (method : ClosedMethod) (upward : IsDeclaredFrom c t method) (root : Place) (rooted : HasRoot c.decls.list root (type_at c.types method.class) method.method) where
  -- the slot of a method that a type declares, or one above it, holds something
  pub body-some : (found : Option ClosedMethod) → IsBodyAt c t root found → (b : ClosedMethod) × (found ≡ Some b) × IsListed c b × IsBodyOf c.decls.list (type_at c.types t) (found_with c.types method) (found_with c.types b)
  body-some None none = absurd (none-upward c.decls.list none upward.upward method.method rooted)
  body-some (Some b) is = (b, refl, is.0, record { root = root; rooted = rooted; holds = is.1 })
