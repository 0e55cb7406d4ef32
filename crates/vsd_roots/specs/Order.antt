-- Methods in the order of the depths of their declarations, those of one declaration from the last to the first.
use Rattle.std.specs.Prelude.{◌≡◌, ℕ, ◌+◌, ◌-◌, ◌*◌, ◌<◌, ◌≤◌, Bool, nat_eq, List, length, Option, IfSome, IsSomeAnd, slice_index}
use Rattle.std.specs.Cmp.Lexicographic.{pointwise}
use denote.Ref.{Bor}
use Rattle.vsd_ast.specs.declared.declarations.Decl.{Decl}
use Rattle.vsd_ast.specs.declared.declarations.Method.{Method}
use Rattle.vsd_roots.specs.Methods.{IsMethod, entry}
use Rattle.vsd_roots.specs.declared.place.Place.{Place}

-- by depth, and then by place, of at most 1,024 declarations
abbrev pub rank : List ℕ → ℕ → ℕ
rank depths i = 1024 * slice_index depths i + i

-- the first of at most 256 methods of one declaration comes last
abbrev pub method_rank : List ℕ → Place → ℕ
method_rank depths p = rank depths p.decl * 256 + (255 - p.method)

-- of the methods with this name below a rank, the one of the greatest rank; none where there is none
pub record IsLatest (ds : List Decl) (depths : List ℕ) (name : List ℕ) (bound : ℕ) (answer : Option Place) : Type 0 where
  pub is : IfSome answer (λ q. (m : Method) × (IsMethod ds q m × ((m.name ≡ name) × (method_rank depths q < bound))))
  pub latest : (r : Place) (m : Method) → IsMethod ds r m → m.name ≡ name → method_rank depths r < bound → IsSomeAnd answer (λ q. method_rank depths r ≤ method_rank depths q)

-- the method of its name that comes last before it
pub record IsLink (ds : List Decl) (depths : List ℕ) (p : Place) (before : Option Place) : Type 0 where
  pub method : Method
  pub is_method : IsMethod ds p method
  pub latest : IsLatest ds depths method.name (method_rank depths p) before

-- the last method of its name among those of the declarations that are less deep than its own
pub record IsShallower (ds : List Decl) (depths : List ℕ) (p : Place) (before : Option Place) : Type 0 where
  pub method : Method
  pub is_method : IsMethod ds p method
  pub latest : IsLatest ds depths method.name (1024 * slice_index depths p.decl * 256) before

-- the last method of its name among those of the declarations before its own
pub record IsEarlier (ds : List Decl) (depths : List ℕ) (p : Place) (before : Option Place) : Type 0 where
  pub method : Method
  pub is_method : IsMethod ds p method
  pub latest : IsLatest ds depths method.name (rank depths p.decl * 256) before

-- what `==` of borrowed names computes
abbrev pub same_name : Bor (List ℕ) → Bor (List ℕ) → Bool
same_name a b = pointwise nat_eq a.now b.now

-- what is found at each name is the latest method of that name below a rank
pub record AreLatest (ds : List Decl) (depths : List ℕ) (bound : ℕ) (find : Bor (List ℕ) → Option Place) : Type 0 where
  pub each : (q : Bor (List ℕ)) → IsLatest ds depths q.now bound (find q)

-- a table that is filled for the declarations below a rank
pub record TabulatesBelow {A : Type 0} (ds : List Decl) (depths : List ℕ) (bound : ℕ) (Relates : Place → A → Type 0) (table : List (List A)) : Type 0 where
  pub rows : length table ≡ length ds
  pub each : (p : Place) (m : Method) → IsMethod ds p m → rank depths p.decl < bound → IsSomeAnd (entry table p) (Relates p)
