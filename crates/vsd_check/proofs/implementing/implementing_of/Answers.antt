use Rattle.std.proofs.Common.{◌≡◌, ℕ, ◌<◌, List, [], length, get_or, Option, Some, refl, sym, ◌∙◌, subst, arith}
use Rattle.std.specs.List.{slice_get}
use Rattle.std.proofs.lemmas.List.{get_or_default}
use Rattle.std.proofs.lemmas.Option.{slice_get_read, slice_get_within}
use Rattle.vsd_ast.specs.declared.declarations.Decl.{Decl}
use Rattle.vsd_least.specs.Least.{IsLeast, AtSome}
use Rattle.vsd_least.proofs.LeastLaws.{IsLeast-next, IsLeast-end}
use Rattle.vsd_overrides.specs.Conditions.{ShowsRepeatedOverride, ShowsUnknownOverride}
use Rattle.vsd_overrides.specs.Targets.{AreTargets, TabulatesTargets}
use Rattle.vsd_overrides.specs.declared.target.Target.{Target}
use Rattle.vsd_check.proofs.implementing.implementing_of.Goals as goal

-- the row that the code reads is that of the declaration
read_row : (ds : List Decl) (targets : List (List (Option Target))) (i : ℕ) (x : Decl) (row r : List (Option Target)) → TabulatesTargets ds targets → slice_get ds i ≡ Some x → row ≡ r → r ≡ get_or targets i r → AreTargets ds i x row
read_row ds targets i x row r are here is reads =
    let none : List (Option Target) = [] in
    let inside : i < length targets = omega (arith, slice_get_within ds i x here, are.rows) in
    subst (AreTargets ds i x) (sym (is ∙ reads ∙ get_or_default targets i r none inside)) (are.each i x here)

pub unknown_override-unknown_here-requires : goal.unknown_override-unknown_here-requires
unknown_override-unknown_here-requires c =
    let ds = c.args.list.now in
    let i = c.loop-place.place in
    let here = slice_get_read ds (length ds) i c.index-list-place.result refl (omega arith) c.index-list-place.is in
    read_row ds c.args.targets.now i c.index-list-place.result c.as_slice-row.result.now c.index-targets-place.result c.requires.targets here c.as_slice-row.ensures c.index-targets-place.is

pub repeated_override-requires : goal.repeated_override-requires
repeated_override-requires c =
    let ds = c.args.list.now in
    let i = c.loop-place.place in
    let here = slice_get_read ds (length ds) i c.index-list-place.result refl (omega arith) c.index-list-place.is in
    read_row ds c.args.targets.now i c.index-list-place.result c.as_slice-row.result.now c.index-targets-place.result c.requires.targets here c.as_slice-row.ensures c.index-targets-place.is

pub loop-place-preserved : goal.loop-place-preserved
loop-place-preserved c =
    let ds = c.args.list.now in
    let i = c.loop-place.place in
    let x = c.index-list-place.result in
    let there : slice_get ds i ≡ Some x = slice_get_read ds (length ds) i x refl (omega arith) c.index-list-place.is in
    let inv = c.loop-place.invariant in
    record {
      unknown = IsLeast-next ds (ShowsUnknownOverride ds) i x c.loop-place.found.unknown c.unknown_override-unknown_here.result c.earlier-unknown.result c.earlier-unknown.ensures there inv.unknown c.unknown_override-unknown_here.ensures;
      repeated = IsLeast-next ds (ShowsRepeatedOverride ds) i x c.loop-place.found.repeated c.in_ok-repeated_here.repeated_here c.earlier-repeated.result c.earlier-repeated.ensures there inv.repeated c.in_ok-repeated_here.ensures;
    }

pub returns-clause-unknown : goal.returns-clause-unknown
returns-clause-unknown c =
    let ds = c.args.list.now in
    subst (λ (xs : List Decl). IsLeast (AtSome xs (ShowsUnknownOverride xs)) c.loop-place.found.unknown) c.requires.scope
    (IsLeast-end ds (ShowsUnknownOverride ds) c.loop-place.place c.loop-place.found.unknown (omega arith) c.loop-place.invariant.unknown)

pub returns-clause-repeated : goal.returns-clause-repeated
returns-clause-repeated c =
    let ds = c.args.list.now in
    subst (λ (xs : List Decl). IsLeast (AtSome xs (ShowsRepeatedOverride xs)) c.loop-place.found.repeated) c.requires.scope
    (IsLeast-end ds (ShowsRepeatedOverride ds) c.loop-place.place c.loop-place.found.repeated (omega arith) c.loop-place.invariant.repeated)
