-- What selection comes to, in other words.
use Rattle.std.specs.Prelude.{◌≡◌, ◌↔◌, ℕ, ◌<◌, true, false, List, ◌++◌, Contains, Option, Some, None, slice_get}
use Rattle.vsd_terms.specs.declared.term.Term.{Term}
use Rattle.vsd_ast.specs.declared.declarations.Decl.{Decl}
use Rattle.vsd_ast.specs.declared.declarations.Decls.{Decls}
use Rattle.vsd_ast.specs.declared.declarations.Method.{Method}
use Rattle.vsd_ast.specs.Hierarchy.{IsHierarchy}
use Rattle.vsd_check.specs.Conditions.{AreLawful}
use Rattle.vsd_types.specs.Numbers.{IsDistinct}
use Rattle.vsd_types.specs.Types.{base_of, declaration_of, is_interface_type}
use Rattle.vsd_interfaces.specs.Interfaces.{AreInterfaces, firsts}
use Rattle.vsd_interfaces.specs.Reached.{Reaches}
use Rattle.vsd_methods.specs.Methods.{methods_in}
use Rattle.vsd_slots.specs.Implementation.{Found, IsImplementation}
use Rattle.vsd_slots.specs.Refusals.{AreAll, is_concrete, method_count}
use Rattle.vsd_itable.specs.Bodies.{IsUpward}
use Rattle.vsd_itable.specs.Matching.{IsMatch, Suits}
use Rattle.vsd_itable.specs.Selection.{IsSelection}

-- a call selects one thing
abbrev pub SelectsOne : Type 0
SelectsOne = (ds : List Decl) (t j : Term) (m : ℕ) (a b : Option Found) → IsSelection ds t j m a → IsSelection ds t j m b → a ≡ b

-- what is selected is declared by the object's type or one above it
abbrev pub IsDeclaredUpward : Type 0
IsDeclaredUpward = (ds : List Decl) (t j : Term) (m : ℕ) (f : Found) → IsSelection ds t j m (Some f) → IsUpward ds t f.class × (f.method < method_count ds f.class)

-- an interface that the class or one above it has answers for itself, whatever variant stands nearer
abbrev pub ExactAnswers : Type 0
ExactAnswers = (ds : List Decl) (t j : Term) (interfaces : List Term) (found : Option Term) → AreAll ds t interfaces → Contains interfaces j → IsMatch ds t j found → found ≡ Some j

-- an interface that neither the class nor one above it has, and for which none of theirs may answer, is missing
abbrev pub IsMissingUnanswered : Type 0
IsMissingUnanswered = (ds : List Decl) (t j : Term) (m : ℕ) (interfaces : List Term) (found : Option Found) → AreAll ds t interfaces → (Contains interfaces j → ⊥) → ((i : Term) → Contains interfaces i → Suits ds j i → ⊥) → IsSelection ds t j m found → found ≡ None

-- a slot whose interface is answered for, and whose method is implemented there, isn't missing
abbrev pub IsSelectedWhereImplemented : Type 0
IsSelectedWhereImplemented = (ds : List Decl) (t j i : Term) (m : ℕ) (f : Found) (found : Option Found) → IsMatch ds t j (Some i) → IsImplementation ds t i m (Some f) → IsSelection ds t j m found → (b : Found) × (found ≡ Some b)

-- what is selected in a class that isn't abstract isn't abstract, where declarations are lawful
abbrev pub NoneAbstract : Type 0
NoneAbstract = (d : Decls) (depths : List ℕ) → AreLawful d → IsHierarchy d.list depths → (t j : Term) (m : ℕ) (f : Found) (x : Method) → is_concrete d.list t ≡ true → IsSelection d.list t j m (Some f) → slice_get (methods_in (declaration_of d.list f.class)) f.method ≡ Some x → x.is_abstract ≡ false

-- the interfaces of a class and of those above it are those that one of these classes reaches by naming and requiring, each once
abbrev pub ListsUpward : Type 0
ListsUpward = (ds : List Decl) (t : Term) (interfaces : List Term) → AreAll ds t interfaces → IsDistinct interfaces × ((i : Term) → Contains interfaces i ↔ ((u : Term) × IsUpward ds t u × (is_interface_type ds u ≡ false) × ((n : ℕ) × Reaches ds n u i)))

-- nearest first: the class's own, then those of its base and of what is above that, each where it first stands
abbrev pub NearestComeFirst : Type 0
NearestComeFirst = (ds : List Decl) (t b : Term) (own over interfaces : List Term) → AreInterfaces ds t own → base_of ds t ≡ Some b → AreAll ds b over → AreAll ds t interfaces → interfaces ≡ firsts (own ++ over)
