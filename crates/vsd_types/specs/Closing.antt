-- Closing a list of types: the walk that makes it, or the first refusal.
use Rattle.std.specs.Prelude.{◌≡◌, ℕ, zero, suc, Bool, ◌||◌, nat_eq, nat_lt, if◌then◌else◌, List, [], ◌∷◌, ◌++◌, map, filter, fold, length, Option, Some, None, Result, Ok, Err, slice_get}
use Rattle.std.specs.List.{list_any}
use Rattle.vsd_terms.specs.declared.term.Term.{Term}
use Rattle.vsd_terms.specs.declared.term.Term.TheVariants.{Named}
use Rattle.vsd_terms.specs.Equality.{term_eq}
use Rattle.vsd_terms.specs.Size.{levels_of}
use Rattle.vsd_terms.specs.Text.{text_of}
use Rattle.vsd_ast.specs.declared.declarations.Decl.{Decl}
use Rattle.vsd_ast.specs.declared.declarations.Decls.{Decls}
use Rattle.vsd_types.specs.declared.error.CloseError.{CloseError}
use Rattle.vsd_types.specs.declared.error.CloseError.TheVariants.{TooDeep, TooManyTypes}
use Rattle.vsd_types.specs.Types.{children}

-- the most types that are listed
abbrev pub most_types : ℕ
most_types = 1024

-- the types of the declarations without parameters, in order
abbrev pub plain_types : List Decl → List Term
plain_types ds = map (λ (x : Decl). Named x.name []) (filter (λ (x : Decl). nat_eq (length x.params) 0) ds)

module _ (names : List (List ℕ)) where
  -- more than 16 levels, or more than 1,024 bytes when printed
  abbrev pub is_too_deep : Term → Bool
  is_too_deep t = nat_lt 16 (levels_of t) || nat_lt 1024 (length (text_of names t))

  -- the list once a type is added, at the end and only if it is not there yet
  unfoldable pub add : List Term → Term → Result (List Term) CloseError
  add types t = if is_too_deep t then Err TooDeep else (if list_any (term_eq t) types then Ok types else (if nat_lt (length types) most_types then Ok (types ++ t ∷ []) else Err TooManyTypes))

  abbrev pub add_to : Result (List Term) CloseError → Term → Result (List Term) CloseError
  add_to (Err e) t = Err e
  add_to (Ok types) t = add types t

  -- each type added in turn, up to the first refusal
  abbrev pub add_all : Result (List Term) CloseError → List Term → Result (List Term) CloseError
  add_all so_far ts = fold add_to so_far ts

-- the types of the first list keep their places in the second
abbrev pub Extends : List Term → List Term → Type 0
Extends old new = (rest : List Term) × (new ≡ old ++ rest)

abbrev pub children_at : List Decl → Option Term → List Term
children_at ds None = []
children_at ds (Some t) = children ds t

module _ (d : Decls) where
  -- what the type at a place leads to is added
  abbrev pub follow : Result (List Term) CloseError → ℕ → Result (List Term) CloseError
  follow (Err e) place = Err e
  follow (Ok types) place = add_all d.names (Ok types) (children_at d.list (slice_get types place))

  -- the list from which the walk starts: the types of the declarations without parameters, then the roots
  abbrev pub starts : List Term → Result (List Term) CloseError
  starts roots = add_all d.names (Ok []) (plain_types d.list ++ roots)

  -- the list once the types before this place have been followed
  unfoldable pub walked : List Term → ℕ → Result (List Term) CloseError
  walked roots zero = starts roots
  walked roots (suc place) = follow (walked roots place) place

  -- The closed list of these roots. Only so many types are listed, so each has been followed.
  unfoldable pub closing : List Term → Result (List Term) CloseError
  closing roots = walked roots most_types
