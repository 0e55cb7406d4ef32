-- A class of a chain, and the interfaces that it names.
use Rattle.std.proofs.Common.{◌≡◌, ℕ, ◌<◌, List, length, get_or, Some}
use Rattle.std.specs.List.{slice_get}
use Rattle.std.proofs.lemmas.Option.{slice_get-get_or}
use Rattle.vsd_terms.specs.Substitution.{parameters_of}
use Rattle.vsd_ast.specs.declared.declarations.Decl.{Decl}
use Rattle.vsd_ast.specs.declared.declarations.Located.{Located}
use Rattle.vsd_lift.specs.Chain.{envs_of}
use Rattle.vsd_lift.specs.Lift.{Fits, IsLadder}
use Rattle.vsd_lift.specs.Settled.{IsSettled}
use Rattle.vsd_lift.proofs.ChainLemmas.{chain-declared, chain-ladder, chain-room}
use Rattle.vsd_ways.specs.Leads.{IsUpward}
use Rattle.vsd_ways.proofs.SettledLemmas.{IsNamedBy, named_by}

module _ (ds : List Decl) (places depths chain : List ℕ) (settled : IsSettled ds places depths) (up : IsUpward ds chain) where
  pub upward_ladder : IsLadder ds chain
  upward_ladder = chain-ladder ds places depths up.from chain settled up.within up.chained

  -- the class at a level is there
  pub class_at : (level : ℕ) → level < length chain → (x : Decl) × (slice_get ds (get_or chain level 0) ≡ Some x)
  class_at level inside = chain-declared ds places depths up.from chain settled up.within up.chained level (get_or chain level 0) (slice_get-get_or chain level 0 inside)

  -- an interface that the class at a level names
  pub record NamesAt (level n : ℕ) (x : Decl) (t : Located) : Type 0 where
    pub by : IsNamedBy ds places depths n x t.term
    pub fits : Fits (envs_of ds chain) level t.term

  pub names_at : (level n : ℕ) (x : Decl) (i : ℕ) (t : Located) → slice_get chain level ≡ Some n → slice_get ds n ≡ Some x → slice_get x.interfaces i ≡ Some t → NamesAt level n x t
  names_at level n x i t stands here there =
      let by = named_by ds places depths n x i t settled here there in
      record { by = by; fits = chain-room ds places depths up.from chain settled up.within up.chained level n x (parameters_of t.term) stands here by.bound }
