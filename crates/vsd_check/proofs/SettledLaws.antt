-- What passes that show nothing tell.
use Rattle.std.proofs.Common.{◌≡◌, ℕ, ◌<◌, Bool, true, false, ◌||◌, List, [], ◌∷◌, get_or, Some, None, inl, inr, refl, sym, ap, ◌∙◌, arith, Contains}
use Rattle.std.specs.List.{slice_get}
use Rattle.std.specs.Bool.{Decides}
use Rattle.std.proofs.lemmas.Bool.{cases_order, false≢true}
use Rattle.std.proofs.lemmas.Option.{slice_get-get_or}
use Rattle.vsd_ast.specs.Hierarchy.{above, AreDepths, IsHierarchy}
use Rattle.vsd_ast.specs.Lookup.{head_of}
use Rattle.vsd_ast.specs.WellFormed.{AreWellFormed}
use Rattle.vsd_ast.specs.declared.declarations.Decl.{Decl}
use Rattle.vsd_ast.specs.declared.declarations.Decls.{Decls}
use Rattle.vsd_ast.specs.declared.declarations.Located.{Located}
use Rattle.vsd_ast.specs.declared.declarations.Override.{Override}
use Rattle.vsd_graph.specs.Graph.{IsCyclic}
use Rattle.vsd_hierarchy.specs.Cycles.{graph_of}
use Rattle.vsd_hierarchy.specs.Kinds.{HasBadBase, IsNoInterface}
use Rattle.vsd_hierarchy.proofs.CycleLemmas.{cycle_shows}
use Rattle.vsd_hierarchy.proofs.HierarchyLemmas.{is_lawful_where}
use Rattle.vsd_hierarchy.proofs.PlacedLemmas.{IsHierarchy-none}
use Rattle.vsd_lawful.proofs.TypeLemmas.{any_named-Decides, is_miscounted-Decides, is_unknown-Decides, one_named-Decides}
use Rattle.vsd_lawful.specs.Tests.{any_named, is_miscounted, is_unknown}
use Rattle.vsd_lawful.specs.Types.{IsMiscounted, IsUnknown, Names, override_terms}
use Rattle.vsd_overrides.specs.Targets.{AreLawfulOwners, ImplementsNothing}
use Rattle.vsd_check.specs.Conditions.{Shows, ShowsIn, NoneIn, IsEarliest, AreLawful}
use Rattle.vsd_check.specs.Earliest.{IsFirst}
use Rattle.vsd_check.specs.Refusals.{pass_of}
use Rattle.vsd_check.specs.declared.refusal.Cause.{Cause}
use Rattle.vsd_check.specs.declared.refusal.Cause.TheVariants.{Twice, UnknownType, Arity, Cycle, BadBase, BadInterface, VarianceMisplaced, VariantClass, OverridesFinal, AbstractInConcrete, OverrideUnknown, OverrideTwice}
use Rattle.vsd_check.specs.declared.refusal.Shown.{Shown}

module _ (d : Decls) where
  pub none_in : (pass : ℕ) → IsFirst (ShowsIn d pass) None → NoneIn d pass
  none_in pass h s w = h.first s w

  silent : (c : Cause) → NoneIn d (pass_of c) → (line : ℕ) → ¬ Shows d c line
  silent c none line w = none (record { line = line; cause = c }) (refl, w)

  good_base : NoneIn d 2 → (i : ℕ) (x : Decl) → slice_get d.list i ≡ Some x → ¬ HasBadBase d.list x
  good_base none i x here bad = silent BadBase none x.line (record { place = i; element = x; there = here; shows = (bad, refl) })

  good_interfaces : NoneIn d 2 → (i : ℕ) (x : Decl) → slice_get d.list i ≡ Some x → (l : Located) → Contains x.interfaces l → ¬ IsNoInterface d.list (head_of l.term)
  good_interfaces none i x here l among bad =
      let there : slice_get x.interfaces among.0 ≡ Some l = slice_get-get_or x.interfaces among.0 l among.1 ∙ ap Some among.2 in
      silent BadInterface none l.line (record { place = i; element = x; there = here; shows = record { place = among.0; element = l; there = there; shows = (bad, refl) } })

  -- no walk upward comes back
  pub not_cyclic : NoneIn d 2 → IsCyclic (graph_of d.list above) → ⊥
  not_cyclic none cyclic =
      let shown = cycle_shows d.list (good_base none) (good_interfaces none) cyclic in
      silent Cycle none shown.0 shown.1

  pub settled : AreWellFormed d → NoneIn d 1 → NoneIn d 2 → (depths : List ℕ) → AreDepths d.list depths → IsHierarchy d.list depths
  settled well first second depths are =
      IsHierarchy-none d well (silent Twice first) (silent UnknownType first) (silent Arity first) (silent BadBase second) (silent BadInterface second) depths are

  -- what shows first in a pass after passes that show nothing is the earliest
  pub earliest_in : (pass : ℕ) (s : Shown) → IsFirst (ShowsIn d pass) (Some s) → ((earlier : ℕ) → earlier < pass → NoneIn d earlier) → IsEarliest d s
  earliest_in pass s h before = record {
    shows = h.shows.1;
    earliest = λ t w. elim (cases_order (pass_of s.cause) (pass_of t.cause)) [
      | inl same ↦ inr (same, h.first t (sym same ∙ h.shows.0, w))
      | inr other ↦ elim other [
        | inl less ↦ inl less
        | inr more ↦ absurd (before (pass_of t.cause) (omega (arith, h.shows.0)) t (refl, w))
      ]
    ];
  }

  pass_some : (c : Cause) → 0 < pass_of c
  pass_some Twice = omega arith
  pass_some UnknownType = omega arith
  pass_some Arity = omega arith
  pass_some Cycle = omega arith
  pass_some BadBase = omega arith
  pass_some BadInterface = omega arith
  pass_some VarianceMisplaced = omega arith
  pass_some VariantClass = omega arith
  pass_some OverridesFinal = omega arith
  pass_some AbstractInConcrete = omega arith
  pass_some OverrideUnknown = omega arith
  pass_some OverrideTwice = omega arith

  pub none_before_first : (earlier : ℕ) → earlier < 1 → NoneIn d earlier
  none_before_first earlier less s w = omega (arith, pass_some s.cause, w.0)

  pub none_before_second : NoneIn d 1 → (earlier : ℕ) → earlier < 2 → NoneIn d earlier
  none_before_second first earlier less s w =
      let is : pass_of s.cause ≡ 1 = omega (arith, pass_some s.cause, w.0) in first s (is, w.1)

  -- where no pass shows anything, the declarations are lawful
  pub lawful_by_passes : NoneIn d 1 → NoneIn d 2 → NoneIn d 3 → AreLawful d
  lawful_by_passes first second third c line shows = by c line shows
    where
      by : (c : Cause) (line : ℕ) → ¬ Shows d c line
      by Twice line w = silent Twice first line w
      by UnknownType line w = silent UnknownType first line w
      by Arity line w = silent Arity first line w
      by VariantClass line w = silent VariantClass first line w
      by Cycle line w = silent Cycle second line w
      by BadBase line w = silent BadBase second line w
      by BadInterface line w = silent BadInterface second line w
      by VarianceMisplaced line w = silent VarianceMisplaced third line w
      by OverridesFinal line w = silent OverridesFinal third line w
      by AbstractInConcrete line w = silent AbstractInConcrete third line w
      by OverrideUnknown line w = silent OverrideUnknown third line w
      by OverrideTwice line w = silent OverrideTwice third line w

  -- what the owner of an override names the override names
  owner_named : (test : ℕ × ℕ → Bool) (P : ℕ × ℕ → Type 0) → ((type : ℕ × ℕ) → Decides (test type) (P type)) → (o : Override) → Names P (o.owner ∷ []) → Names P (override_terms o)
  owner_named test P each o w = (any_named-Decides test P each (override_terms o)).0 (either (any_named test o.owner) _ ((one_named-Decides test P each o.owner).1 w))
    where
      either : (a b : Bool) → a ≡ true → (a || b) ≡ true
      either true b e = refl
      either false b e = absurd (false≢true e)

  -- the owners of overrides name types that are there, with as many arguments as they take
  pub lawful_owners : NoneIn d 1 → AreLawfulOwners d.list
  lawful_owners none i e inside j f within =
      let x = get_or d.list i e in
      let o = get_or x.overrides j f in
      let here : slice_get d.list i ≡ Some x = slice_get-get_or d.list i e inside in
      let there : slice_get x.overrides j ≡ Some o = slice_get-get_or x.overrides j f within in
      is_lawful_where d.list o.owner
      (λ names. silent UnknownType none o.line (record { place = i; element = x; there = here; shows = inr (inr (inr (record { place = j; element = o; there = there; shows = (owner_named (is_unknown d.list) (IsUnknown d.list) (is_unknown-Decides d.list) o names, refl) }))) }))
      (λ names. silent Arity none o.line (record { place = i; element = x; there = here; shows = inr (inr (inr (record { place = j; element = o; there = there; shows = (owner_named (is_miscounted d.list) (IsMiscounted d.list) (is_miscounted-Decides d.list) o names, refl) }))) }))

  -- an override of lawful declarations implements something
  pub lawful_target : AreLawful d → (n : ℕ) (x : Decl) (i : ℕ) (o : Override) → slice_get d.list n ≡ Some x → slice_get x.overrides i ≡ Some o → ¬ ImplementsNothing d.list n x o
  lawful_target lawful n x i o here there none =
      lawful OverrideUnknown o.line (record { place = n; element = x; there = here; shows = record { place = i; element = o; there = there; shows = (none, refl) } })
