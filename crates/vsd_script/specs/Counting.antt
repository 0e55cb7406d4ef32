-- Which method of an interface a site names, in other words than the search for it.
use Rattle.std.specs.Prelude.{◌≡◌, ◌↔◌, ◌⊎◌, ℕ, suc, ◌+◌, true, false, if◌then◌else◌, List, [], ◌∷◌, ◌++◌, length, Some}
use Rattle.std.specs.Str.{bytes_eq}
use Rattle.vsd_terms.specs.declared.term.Term.{Term}
use Rattle.vsd_ast.specs.declared.declarations.Decl.{Decl}
use Rattle.vsd_ast.specs.declared.declarations.Method.{Method}
use Rattle.vsd_ast.specs.Lookup.{named, head_of, declared}
use Rattle.vsd_grammar.specs.declared.token_class.TokenClass.TheVariants as class
use Rattle.vsd_grammar.specs.Input.{Input, class_at, bytes_at, next, same_class}
use Rattle.vsd_grammar.specs.Grammar.{Derives}
use Rattle.vsd_grammar.specs.Productions.{digits_from}
use Rattle.vsd_script.specs.Methods.{nth_from}
use Rattle.vsd_script.specs.Productions.{slot}

-- how many of these methods have this name
abbrev pub how_many : List ℕ → List Method → ℕ
how_many name [] = 0
how_many name (m ∷ ms) = if bytes_eq m.name name then suc (how_many name ms) else how_many name ms

-- At this place of the methods stands the n-th that has this name: it has it, and one fewer than n before it have it.
pub record IsNth (n : ℕ) (name : List ℕ) (methods : List Method) (place : ℕ) : Type 0 where
  pub before : List Method
  pub here : Method
  pub after : List Method
  pub whole : methods ≡ before ++ here ∷ after
  pub at : place ≡ length before
  pub named : here.name ≡ name
  pub count : n ≡ suc (how_many name before)

-- The search for the n-th method of a name finds that, and nothing where there is none.
abbrev pub FindsNth : Type 0
FindsNth = (n : ℕ) (methods : List Method) (name : List ℕ) (place : ℕ) → (nth_from 0 n methods name ≡ Some place) ↔ IsNth n name methods place

-- Which of the methods of its name is meant stands after the name: nothing for the first, or a `#` and its number.
abbrev pub IsCounted : ℕ → Input → Input → Type 0
IsCounted n k j = ((same_class (class.Symbol 35) (class_at k) ≡ false) × (n ≡ 1) × (k ≡ j))
    ⊎ ((same_class (class.Symbol 35) (class_at k) ≡ true) × (digits_from 0 (bytes_at (next k)) ≡ Some n) × (next (next k) ≡ j))

-- From the place i to the place j the n-th method of a name is written, and it has this slot in the term's interface.
pub record IsWrittenSlot (ds : List Decl) (t : Term) (i : Input) (slot : ℕ) (j : Input) : Type 0 where
  pub number : ℕ
  pub head : head_of t ≡ named number
  pub interface : Decl
  pub found : declared ds number ≡ Some interface
  pub is_interface : interface.is_interface ≡ true
  pub n : ℕ
  pub counted : IsCounted n (next i) j
  pub nth : IsNth n (bytes_at i) interface.methods slot

-- The slot of a site is that of the method that is written.
abbrev pub SlotsAreWritten : Type 0
SlotsAreWritten = (ds : List Decl) (t : Term) (i : Input) (n : ℕ) (j : Input) → Derives ℕ (slot ds t) i n j → IsWrittenSlot ds t i n j
