-- Tables over the types of a closed list, by their numbers.
use Rattle.std.specs.Prelude.{◌≡◌, ℕ, ◌≤◌, ◌<◌, ◌⊎◌, true, false, List, [], ◌∷◌, map, nat_eq, length, All, Option, Some, None, slice_index, slice_set, slice_index_or}
use Rattle.std.specs.List.{flat_map}
use Rattle.std.specs.Option.{option_to_list}
use Rattle.indexmap.specs.IndexSet.{insert_all}
use Rattle.vsd_terms.specs.declared.term.Term.{Term}
use Rattle.vsd_types.specs.Numbers.{AreNumbers}
use Rattle.vsd_types.specs.TypeList.{TypeList}
use Rattle.vsd_types.specs.Types.{base_of, is_interface_type, named_of, type_at}
use Rattle.vsd_interfaces.specs.Interfaces.{firsts, tree}
use Rattle.vsd_interfaces.specs.Lineage.{IsLineage, Level, all_interfaces}
use Rattle.vsd_interfaces.specs.Ranks.{rank_of}

-- the types of these numbers
abbrev pub types_of : List Term → List ℕ → List Term
types_of types ns = map (type_at types) ns

-- an interface, and the numbers that its row has
abbrev pub with_row : List (List ℕ) → ℕ → List ℕ
with_row rows i = i ∷ slice_index_or rows i []

-- the row of a type, where there is one
abbrev pub row_of : List (List ℕ) → Option ℕ → List ℕ
row_of rows None = []
row_of rows (Some t) = slice_index_or rows t []

module _ (c : TypeList) where
  -- the row of a type, made from the rows of the interfaces that it names
  pub record IsReachedFrom (rows : List (List ℕ)) (t : ℕ) (row : List ℕ) : Type 0 where
    pub named : List ℕ
    pub numbers : AreNumbers c.types named (named_of c.decls.list (type_at c.types t))
    pub made : row ≡ insert_all nat_eq [] (flat_map (with_row rows) named)

  -- the interfaces of the type itself; none of an interface
  pub record AreOwn (reached : List ℕ) (t : ℕ) (own : List ℕ) : Type 0 where
    pub class : is_interface_type c.decls.list (type_at c.types t) ≡ false → own ≡ reached
    pub other : is_interface_type c.decls.list (type_at c.types t) ≡ true → own ≡ []

  -- the row of a class with those above it, made from its own interfaces and the row of its base
  pub record IsMapFrom (own : List ℕ) (rows : List (List ℕ)) (t : ℕ) (row : List ℕ) : Type 0 where
    pub base : Option ℕ
    pub numbers : AreNumbers c.types (option_to_list base) (option_to_list (base_of c.decls.list (type_at c.types t)))
    pub made : row ≡ insert_all nat_eq (insert_all nat_eq [] own) (row_of rows base)

  -- the rows once those of one type are filled
  pub record IsFilled (t : ℕ) (reached maps new_reached new_maps : List (List ℕ)) : Type 0 where
    pub row : List ℕ
    pub from : IsReachedFrom reached t row
    pub reached_is : new_reached ≡ slice_set reached t row
    pub own : List ℕ
    pub owned : AreOwn (slice_index_or new_reached t []) t own
    pub map_row : List ℕ
    pub map_from : IsMapFrom own maps t map_row
    pub maps_is : new_maps ≡ slice_set maps t map_row

  -- the numbers of the interfaces of a class and of those above it, nearest class first
  pub record IsMap (t : ℕ) (row : List ℕ) : Type 0 where
    pub within : All (λ i. i < length c.types) row
    pub levels : List Level
    pub lineage : IsLineage c.decls.list (Some (type_at c.types t)) levels
    pub all : types_of c.types row ≡ all_interfaces levels

  module _ (depths : List ℕ) where
    -- the numbers of the interfaces that a type reaches by what it names
    pub record IsReached (t : ℕ) (row : List ℕ) : Type 0 where
      pub within : All (λ i. i < length c.types) row
      pub whole : (k : ℕ) → rank_of c.decls.list depths (type_at c.types t) ≤ k → types_of c.types row ≡ firsts (flat_map (tree c.decls.list k) (named_of c.decls.list (type_at c.types t)))

    -- the rows of the types of less rank than this, and of those of this rank before a number
    pub record AreRowsTo (ranks : List ℕ) (rank at : ℕ) (reached maps : List (List ℕ)) : Type 0 where
      pub reached_count : length reached ≡ length c.types
      pub maps_count : length maps ≡ length c.types
      pub each : (t : ℕ) → t < length c.types → (slice_index ranks t < rank) ⊎ ((slice_index ranks t ≡ rank) × (t < at)) → IsReached t (slice_index_or reached t []) × IsMap t (slice_index_or maps t [])

    -- the rows of every type
    pub record AreRows (reached maps : List (List ℕ)) : Type 0 where
      pub reached_count : length reached ≡ length c.types
      pub maps_count : length maps ≡ length c.types
      pub each : (t : ℕ) → t < length c.types → IsReached t (slice_index_or reached t []) × IsMap t (slice_index_or maps t [])
