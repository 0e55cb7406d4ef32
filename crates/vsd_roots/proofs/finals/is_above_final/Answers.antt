use Rattle.std.proofs.Common.{sym, ap, ◌∙◌, Option, Some, None}
use Rattle.std.proofs.lemmas.Bool.{false≢true}
use Rattle.vsd_ast.specs.declared.declarations.Method.{Method}
use Rattle.vsd_roots.specs.Methods.{entry}
use Rattle.vsd_roots.specs.Slots.{IsOverridden, Overrides}
use Rattle.vsd_roots.specs.declared.place.Place.{Place}
use Rattle.vsd_roots.proofs.RootLaws.{overrides_only, overrides_or_starts}
use Rattle.vsd_roots.proofs.TableLemmas.{entry_has, same_method, some_entry}
use Rattle.vsd_roots.proofs.finals.is_above_final.Goals as goal

pub entry_of-requires : goal.entry_of-requires
entry_of-requires c = let is = c.requires.is in some_entry _ _ (c.requires.overridden.each c.args.at is.0 is.1)

pub method_of-requires : goal.method_of-requires
method_of-requires c =
    let ds = c.args.decls.now in
    let is = c.requires.is in
    let over : Overrides ds c.args.at c.in-Some.above = entry_has (entry c.args.overridden.now c.args.at) (Some c.in-Some.above) (IsOverridden ds c.args.at) c.in-Some.ensures (c.requires.overridden.each c.args.at is.0 is.1) in
    (over.nearest.matches.other, over.nearest.matches.is_other)

pub returns-in-Some : goal.returns-in-Some
returns-in-Some c =
    let ds = c.args.decls.now in
    let is = c.requires.is in
    let above = c.in-Some.above in
    let over : Overrides ds c.args.at above = entry_has (entry c.args.overridden.now c.args.at) (Some above) (IsOverridden ds c.args.at) c.in-Some.ensures (c.requires.overridden.each c.args.at is.0 is.1) in (
      λ final. record { above = above; overrides = over; other = c.method_of.result.now; is_other = c.method_of.ensures; final = final },
      λ o.
          let places = overrides_only ds c.args.at o.above above o.overrides over in
          let one = same_method ds o.above above o.other c.method_of.result.now (ap (λ (p : Place). p.decl) places) (ap (λ (p : Place). p.method) places) o.is_other c.method_of.ensures in
          ap (λ (m : Method). m.is_final) (sym one) ∙ o.final,
    )

pub returns-in-None : goal.returns-in-None
returns-in-None c =
    let ds = c.args.decls.now in
    let is = c.requires.is in
    let none : Option Place = None in
    let starts = entry_has (entry c.args.overridden.now c.args.at) none (IsOverridden ds c.args.at) c.in-None.ensures (c.requires.overridden.each c.args.at is.0 is.1) in
    (λ f. absurd (false≢true f), λ o. absurd (overrides_or_starts ds c.args.at o.above o.overrides starts))
