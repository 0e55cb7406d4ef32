-- The texts of methods.
use Rattle.std.specs.Prelude.{ℕ, ◌+◌, nat_eq, if◌then◌else◌, List, [], ◌++◌, codes, decimal, take, count_by, bytes_eq, Option, Some, None, slice_get}
use Rattle.vsd_terms.specs.declared.term.Term.{Term}
use Rattle.vsd_terms.specs.Text.{text_of}
use Rattle.vsd_ast.specs.declared.declarations.Decl.{Decl}
use Rattle.vsd_ast.specs.declared.declarations.Method.{Method}
use Rattle.vsd_types.specs.Types.{declaration_of}
use Rattle.vsd_methods.specs.Methods.{methods_in}

-- how many of the methods before this place have this name
abbrev pub namesakes : List Method → List ℕ → ℕ → ℕ
namesakes methods name place = count_by (λ (p : Method). bytes_eq p.name name) (take place methods)

-- nothing after the first method of a name, `#k` after the k-th
abbrev pub mark : ℕ → List ℕ
mark earlier = if nat_eq earlier 0 then [] else codes "#" ++ decimal (earlier + 1)

abbrev pub name_at : List Method → ℕ → Option Method → List ℕ
name_at methods place None = []
name_at methods place (Some m) = m.name ++ mark (namesakes methods m.name place)

-- the name of a method of a type, and `#k` where it is the k-th of that name in its declaration and k is at least 2
abbrev pub name_text : List Decl → Term → ℕ → List ℕ
name_text ds t place = name_at (methods_in (declaration_of ds t)) place (slice_get (methods_in (declaration_of ds t)) place)

-- the type, `::`, and the method's name
abbrev pub method_text : List (List ℕ) → List Decl → Term → ℕ → List ℕ
method_text names ds t place = text_of names t ++ codes "::" ++ name_text ds t place
