-- What a script asks of the tables that answer it.
use Rattle.std.specs.Prelude.{◌≡◌, ℕ, ◌<◌, List, Some, slice_get}
use Rattle.vsd_terms.specs.declared.term.Term.{Term}
use Rattle.vsd_ast.specs.declared.declarations.Decl.{Decl}
use Rattle.vsd_ast.specs.declared.scripts.Script.{Script}
use Rattle.vsd_ast.specs.declared.scripts.Site.{Site}
use Rattle.vsd_answers.specs.Numbering.{site_pairs, site_tokens_of, tokens_of}
use Rattle.vsd_slots.specs.Refusals.{method_count}
use Rattle.vsd_types.specs.Numbers.{AreNumbers}
use Rattle.vsd_itable.specs.Value.{Value}

-- each site's slot is one of the methods of its interface
abbrev pub NameSlots : List Decl → Script → Type 0
NameSlots ds s = (number : ℕ) (site : Site) (t : Term) → slice_get s.sites number ≡ Some site → slice_get s.roots site.root ≡ Some t
    → site.slot < method_count ds t

-- the tables have these numbers of the roots' types, and the tokens of the sites with these
pub record AreTabled (v : Value) (s : Script) (types sites : List ℕ) : Type 0 where
  pub numbers : AreNumbers v.closed.types types s.roots
  pub tokens : v.tokens ≡ tokens_of (site_pairs s.sites types)
  pub site_tokens : sites ≡ site_tokens_of (site_pairs s.sites types)
