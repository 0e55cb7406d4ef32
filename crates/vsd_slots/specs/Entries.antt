-- What implements a method of an interface in a closed class, by numbers.
use Rattle.std.specs.Prelude.{◌≡◌, ℕ, ◌<◌, Bool, if◌then◌else◌, List, [], ◌∷◌, length, Option, None, slice_index_or}
use Rattle.std.specs.List.{list_any}
use Rattle.std.specs.Option.{option_map, option_or}
use Rattle.vsd_terms.specs.declared.term.Term.{Term}
use Rattle.vsd_terms.specs.Equality.{term_eq}
use Rattle.vsd_ast.specs.Hierarchy.{IsHierarchy}
use Rattle.vsd_types.specs.TypeList.{TypeList}
use Rattle.vsd_types.specs.Types.{type_at}
use Rattle.vsd_methods.specs.Givens.{AreGiven}
use Rattle.vsd_slots.specs.Implementation.{Found, implementation, nearest}
use Rattle.vsd_interfaces.specs.Interfaces.{AreInterfaces}
use Rattle.vsd_interfaces.specs.Lineage.{IsLineage, Level}
use Rattle.vsd_methods.specs.Methods.{naming, overriding}
use Rattle.vsd_interfaces.specs.Tables.{AreRows}
use Rattle.vsd_slots.specs.declared.entries.ClosedMethod.{ClosedMethod}
use Rattle.vsd_slots.specs.declared.entries.Entry.{Entry}
use Rattle.vsd_methods.specs.declared.overriding.Given.{Given}

-- the method of a class, where there is a place
abbrev pub method_at : ℕ → Option ℕ → Option ClosedMethod
method_at t place = option_map (λ (m : ℕ). record { class = t; method = m }) place

-- the class itself with the method's place
abbrev pub found_of : List Term → Option ClosedMethod → Option Found
found_of types found = option_map (λ (m : ClosedMethod). record { class = type_at types m.class; method = m.method }) found

-- the entry over no class
abbrev pub nothing : Entry
nothing = record { implementation = None; nearest = None }

-- the entry of a class, from those of its own methods and the entry of the class above
pub record IsCombined (own named : Option ClosedMethod) (has : Bool) (above e : Entry) : Type 0 where
  pub implementation : e.implementation ≡ option_or own (option_or (if has then named else None) (option_or above.implementation (if has then above.nearest else None)))
  pub nearest : e.nearest ≡ option_or named above.nearest

module _ (c : TypeList) where
  -- the entry for the m-th method of the i-th type, over a class and those above it
  pub record IsOver (i m : ℕ) (levels : List Level) (e : Entry) : Type 0 where
    pub implementation : found_of c.types e.implementation ≡ implementation c.decls.list (type_at c.types i) m levels
    pub nearest : found_of c.types e.nearest ≡ nearest c.decls.list (type_at c.types i) m levels

  -- the entry of a type over those above it; over no type where there is none
  pub record IsEntry (o : Option Term) (i m : ℕ) (e : Entry) : Type 0 where
    pub levels : List Level
    pub lineage : IsLineage c.decls.list o levels
    pub over : IsOver i m levels e

  -- whether the class t has the interface itself
  pub record IsHaving (t i : ℕ) (has : Bool) : Type 0 where
    pub interfaces : List Term
    pub are : AreInterfaces c.decls.list (type_at c.types t) interfaces
    pub test : has ≡ list_any (term_eq (type_at c.types i)) interfaces

  -- the class t has nothing of its own for a method of an interface, neither by override nor by name
  pub record HasNothing (t i m : ℕ) : Type 0 where
    pub overriding : overriding c.decls.list (type_at c.types i) m (type_at c.types t) ≡ None
    pub naming : naming c.decls.list (type_at c.types i) m (type_at c.types t) ≡ None

  -- nor for any other
  abbrev pub IsBare : ℕ → Type 0
  IsBare t = (i m : ℕ) → i < length c.types → HasNothing t i m

  -- the entry of the class t, where that above is the entry over the classes above it
  pub record IsStep (t i m : ℕ) (above e : Entry) : Type 0 where
    pub interfaces : List Term
    pub are : AreInterfaces c.decls.list (type_at c.types t) interfaces
    pub step : (levels : List Level) → IsOver i m levels above → IsOver i m (record { type = type_at c.types t; interfaces = interfaces } ∷ levels) e

  -- the rows of every type, and what the overrides of every type give
  pub record AreParts (depths : List ℕ) (reached maps : List (List ℕ)) (given : List (List (Option Given))) : Type 0 where
    pub hierarchy : IsHierarchy c.decls.list depths
    pub rows : AreRows c depths reached maps
    pub given_count : length given ≡ length c.types
    pub givens : (t : ℕ) → t < length c.types → AreGiven c.decls.list c.types (type_at c.types t) (slice_index_or given t [])
