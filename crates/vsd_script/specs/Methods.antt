-- Methods that a site may name.
use Rattle.std.specs.Prelude.{ℕ, ◌+◌, ◌-◌, ◌==◌, if◌then◌else◌, List, [], ◌∷◌, Option, Some, None}
use Rattle.std.specs.Str.{bytes_eq}
use Rattle.vsd_terms.specs.declared.term.Term.{Term}
use Rattle.vsd_ast.specs.declared.declarations.Decl.{Decl}
use Rattle.vsd_ast.specs.declared.declarations.Method.{Method}
use Rattle.vsd_ast.specs.Lookup.{Head, named, parameter, built_in, head_of, declared}
use Rattle.vsd_lanes.specs.Setting.{numbered}

-- the place of the n-th method of this name, where the places of the list begin with this one
unfoldable pub nth_from : ℕ → ℕ → List Method → List ℕ → Option ℕ
nth_from place n [] name = None
nth_from place n (m ∷ ms) name =
    if bytes_eq m.name name then (if n == 1 then Some place else nth_from (place + 1) (n - 1) ms name) else nth_from (place + 1) n ms name

-- the slot of the n-th method of this name that an interface declares
abbrev pub slot_by : Option Decl → List ℕ → ℕ → Option ℕ
slot_by None name n = None
slot_by (Some x) name n = if x.is_interface then numbered (nth_from 0 n x.methods name) else None

abbrev pub slot_head : List Decl → Head → List ℕ → ℕ → Option ℕ
slot_head ds (named number) name n = slot_by (declared ds number) name n
slot_head ds (parameter place) name n = None
slot_head ds (built_in b) name n = None

abbrev pub slot_of : List Decl → Term → List ℕ → ℕ → Option ℕ
slot_of ds t name n = slot_head ds (head_of t) name n
