-- What the sites of a script name.
use Rattle.std.specs.Prelude.{◌≡◌, ℕ, ◌<◌, true, List, length, Some, slice_get}
use Rattle.vsd_terms.specs.declared.term.Term.{Term}
use Rattle.vsd_ast.specs.declared.declarations.Decl.{Decl}
use Rattle.vsd_ast.specs.declared.scripts.Site.{Site}
use Rattle.vsd_ast.specs.Lookup.{named, head_of, declared}

-- the term is of a declared interface that has a method at this place
pub record HasSlot (ds : List Decl) (t : Term) (slot : ℕ) : Type 0 where
  pub number : ℕ
  pub head : head_of t ≡ named number
  pub interface : Decl
  pub found : declared ds number ≡ Some interface
  pub is_interface : interface.is_interface ≡ true
  pub within : slot < length interface.methods

-- the site's root is of an interface, and its slot is that of one of the interface's methods
pub record NamesMethod (ds : List Decl) (roots : List Term) (site : Site) : Type 0 where
  pub term : Term
  pub root : slice_get roots site.root ≡ Some term
  pub slot : HasSlot ds term site.slot
