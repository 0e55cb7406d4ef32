use Rattle.std.proofs.Common.{◌≡◌, ◌<◌, ℕ, List, length, get_or, sym, ap, ◌∙◌, Some}
use Rattle.std.specs.List.{slice_get}
use Rattle.std.specs.Option.{option_map}
use Rattle.std.proofs.lemmas.Option.{slice_get-get_or, slice_get_within}
use Rattle.vsd_ast.specs.Lookup.{place_of}
use Rattle.vsd_ast.specs.WellFormed.{IsDeclaration}
use Rattle.vsd_ast.specs.declared.declarations.Decl.{Decl}
use Rattle.vsd_lift.specs.Chain.{base_name, place_above}
use Rattle.vsd_lift.specs.Settled.{IsSettled}
use Rattle.vsd_lift.proofs.ChainLemmas.{base_name-within, extends}
use Rattle.vsd_lift.proofs.PlaceLemmas.{All-at}
use Rattle.vsd_lift.proofs.upward.extended.Goals as goal

-- a declaration, and the name of its base: its table entry is the number of the declaration above
record Named (ds : List Decl) (places depths : List ℕ) (at name : ℕ) : Type 0 where
  within : name < length places
  above : Some (get_or places name 0) ≡ place_above ds (slice_get ds at)
  there : get_or places name 0 < length ds
  lower : get_or depths (get_or places name 0) 0 < get_or depths at 0

named_at : (ds : List Decl) (places depths : List ℕ) (at name : ℕ) (x : Decl) → IsSettled ds places depths → slice_get ds at ≡ Some x → base_name x.base ≡ Some name → Named ds places depths at name
named_at ds places depths at name x settled here is =
    let within = base_name-within (length places) name x (All-at (IsDeclaration (length places)) ds at x here settled.each) is in
    let place = settled.numbered name within in
    let above : place_above ds (Some x) ≡ Some (get_or places name 0) = ap (option_map (place_of ds)) is ∙ ap Some (sym place) in
    let step = extends ds depths settled.hierarchy at (get_or places name 0) x here above in
    record {
      within = within;
      above = sym (ap (place_above ds) here ∙ above);
      there = slice_get_within ds (get_or places name 0) step.upper step.is_upper;
      lower = step.deeper;
    }

pub bounds-h-name : goal.bounds-h-name
bounds-h-name c =
    let ds = c.args.h.now.decls.now in
    let x = get_or ds c.args.at c.index-h-at.result in
    let here : slice_get ds c.args.at ≡ Some x = slice_get-get_or ds c.args.at c.index-h-at.result c.requires.within in
    (named_at ds c.args.h.now.places.now c.args.h.now.depths.now c.args.at c.in-Some.name x c.requires.settled here (sym c.in-Some.ensures)).within

pub returns-in-Some-clause-above : goal.returns-in-Some-clause-above
returns-in-Some-clause-above c =
    let ds = c.args.h.now.decls.now in
    let x = get_or ds c.args.at c.index-h-at.result in
    let here : slice_get ds c.args.at ≡ Some x = slice_get-get_or ds c.args.at c.index-h-at.result c.requires.within in
    (named_at ds c.args.h.now.places.now c.args.h.now.depths.now c.args.at c.in-Some.name x c.requires.settled here (sym c.in-Some.ensures)).above

pub returns-in-Some-clause-within : goal.returns-in-Some-clause-within
returns-in-Some-clause-within c =
    let ds = c.args.h.now.decls.now in
    let x = get_or ds c.args.at c.index-h-at.result in
    let here : slice_get ds c.args.at ≡ Some x = slice_get-get_or ds c.args.at c.index-h-at.result c.requires.within in
    (named_at ds c.args.h.now.places.now c.args.h.now.depths.now c.args.at c.in-Some.name x c.requires.settled here (sym c.in-Some.ensures)).there

pub returns-in-Some-clause-lower : goal.returns-in-Some-clause-lower
returns-in-Some-clause-lower c =
    let ds = c.args.h.now.decls.now in
    let x = get_or ds c.args.at c.index-h-at.result in
    let here : slice_get ds c.args.at ≡ Some x = slice_get-get_or ds c.args.at c.index-h-at.result c.requires.within in
    (named_at ds c.args.h.now.places.now c.args.h.now.depths.now c.args.at c.in-Some.name x c.requires.settled here (sym c.in-Some.ensures)).lower

pub returns-in-None-clause-above : goal.returns-in-None-clause-above
returns-in-None-clause-above c =
    let ds = c.args.h.now.decls.now in
    let here = slice_get-get_or ds c.args.at c.index-h-at.result c.requires.within in
    sym (ap (place_above ds) here ∙ ap (option_map (place_of ds)) (sym c.in-None.ensures))
