use Rattle.std.proofs.Common.{◌≡◌, ◌<◌, length, sym, ap, ◌∙◌, arith}
use Rattle.std.specs.List.{slice_get}
use Rattle.std.proofs.lemmas.Option.{slice_get-get_or}
use Rattle.vsd_lawful.proofs.IndexLemmas.{place_from-Some, place_from-None}
use Rattle.vsd_lawful.proofs.scope.Scope.declared.Goals as goal

pub bounds-self-place : goal.bounds-self-place
bounds-self-place c =
    let at = place_from-Some 0 c.args.self.now.list.now c.args.name c.in-Some.place (sym c.in-Some.ensures) in
    omega (arith, at.is, at.within)

pub returns-in-Some : goal.returns-in-Some
returns-in-Some c =
    let ds = c.args.self.now.list.now in
    let at = place_from-Some 0 ds c.args.name c.in-Some.place (sym c.in-Some.ensures) in
    let here : at.offset ≡ c.in-Some.place = omega (arith, at.is) in
    let within : c.in-Some.place < length ds = omega (arith, at.is, at.within) in
    sym (slice_get-get_or ds c.in-Some.place c.index-self-place.result within) ∙ ap (slice_get ds) (sym here) ∙ at.there ∙ sym at.first_one

pub returns-in-None : goal.returns-in-None
returns-in-None c = sym (place_from-None 0 c.args.self.now.list.now c.args.name (sym c.in-None.ensures))
