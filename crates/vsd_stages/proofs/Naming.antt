-- What the script's reader says of roots and sites is what closing and building ask.
use Rattle.std.proofs.Common.{◌≡◌, ℕ, ◌<◌, List, ◌++◌, All, Contains, length, Some, sym, ap, subst, ◌∙◌}
use Rattle.std.specs.List.{slice_get}
use Rattle.std.proofs.Math.Seq.{drop-append_seam}
use Rattle.std.proofs.lemmas.List.Elements.{All-drop, All-weaker}
use Rattle.std.proofs.lemmas.Option.{get_or_from_slice_get, slice_get_within}
use Rattle.vsd_terms.specs.declared.term.Term.{Term}
use Rattle.vsd_ast.specs.declared.declarations.Decl.{Decl}
use Rattle.vsd_ast.specs.declared.scripts.Script.{Script}
use Rattle.vsd_ast.specs.declared.scripts.Site.{Site}
use Rattle.vsd_lanes.specs.Types.{IsRoot}
use Rattle.vsd_script.specs.Formed.{HasSlot, NamesMethod}
use Rattle.vsd_methods.specs.Methods.{methods_in}
use Rattle.vsd_slots.specs.Refusals.{method_count}
use Rattle.vsd_types.specs.Types.{IsClosedType, declaration_of_head}
use Rattle.vsd_stages.specs.Rooted.{NameSlots}

module _ (ds : List Decl) where
  pub closed_roots : (roots : List Term) → All (IsRoot ds) roots → All (IsClosedType ds) roots
  closed_roots = All-weaker (IsRoot ds) (IsClosedType ds) (λ t root. record { closed = root.closed; lawful = root.lawful })

  slot_counted : (t : Term) (slot : ℕ) → HasSlot ds t slot → slot < method_count ds t
  slot_counted t slot has =
      let count : method_count ds t ≡ length has.interface.methods =
      ap (λ h. length (methods_in (declaration_of_head ds h))) has.head ∙ ap (λ o. length (methods_in o)) has.found in
      subst (λ n. slot < n) (sym count) has.within

  pub name_slots : (s : Script) → All (NamesMethod ds s.roots) s.sites → NameSlots ds s
  name_slots s names number site t is root =
      let named : NamesMethod ds s.roots site =
      subst (NamesMethod ds s.roots) (get_or_from_slice_get s.sites number site site is) (names number site (slice_get_within s.sites number site is)) in
      let both : Some named.term ≡ Some t = sym named.root ∙ root in
      let same : named.term ≡ t = cc in
      subst (λ x. site.slot < method_count ds x) same (slot_counted named.term site.slot named.slot)

-- what closing starts with is listed, so the roots are
pub listed_roots : (types start roots : List Term) → All (Contains types) (start ++ roots) → All (Contains types) roots
listed_roots types start roots listed =
    subst (All (Contains types)) (drop-append_seam start roots) (All-drop (Contains types) (length start) (start ++ roots) listed)
