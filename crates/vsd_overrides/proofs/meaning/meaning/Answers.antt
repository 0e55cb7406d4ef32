use Rattle.std.proofs.Common.{◌≡◌, ℕ, ◌<◌, length, get_or, sym, ◌∙◌, subst}
use Rattle.std.proofs.lemmas.Bool.{false≢true}
use Rattle.std.proofs.lemmas.Option.{slice_get_within}
use Rattle.vsd_ast.specs.Lookup.{place_of}
use Rattle.vsd_ast.specs.declared.declarations.Decl.{Decl}
use Rattle.vsd_ways.proofs.SettledLemmas.{target}
use Rattle.vsd_overrides.specs.Implements.{Agrees, Means}
use Rattle.vsd_overrides.specs.Targets.{MeansNothing}
use Rattle.vsd_overrides.specs.declared.target.Target.{Target}
use Rattle.vsd_overrides.proofs.MeaningLemmas.{match_map, means_agrees, read_owner}
use Rattle.vsd_overrides.proofs.meaning.meaning.Goals as goal

pub bounds-h-place : goal.bounds-h-place
bounds-h-place c =
    let h = c.args.h.now in
    let w = target h.decls.now h.places.now h.depths.now c.args.o.now.owner c.in-Named.name c.in-Named.args c.requires.settled c.in-Named.is c.requires.written.owner.written.named c.requires.lawful in
    subst (λ (n : ℕ). n < length h.decls.now) (sym w.place) (slice_get_within h.decls.now (place_of h.decls.now c.in-Named.name) w.declaration w.declared_at)

pub returns-then-not-interface : goal.returns-then-not-interface
returns-then-not-interface c t m =
    let h = c.args.h.now in
    let read = read_owner h.decls.now h.places.now h.depths.now c.args.o.now.owner c.in-Named.name c.in-Named.args c.index-h-place.result c.requires.settled c.in-Named.is c.requires.written.owner.written.named c.requires.lawful in
    let interface = get_or h.decls.now (get_or h.places.now c.in-Named.name 0) c.index-h-place.result in
    false≢true (sym c.if-not-interface.true ∙ (means_agrees h.decls.now c.args.decl.now c.args.o.now t c.in-Named.name c.in-Named.args interface c.in-Named.is read.declared m).1)

pub agreeing-requires-clause-declared : goal.agreeing-requires-clause-declared
agreeing-requires-clause-declared c =
    let h = c.args.h.now in
    let read = read_owner h.decls.now h.places.now h.depths.now c.args.o.now.owner c.in-Named.name c.in-Named.args c.index-h-place.result c.requires.settled c.in-Named.is c.requires.written.owner.written.named c.requires.lawful in
    (length h.places.now, read.written)

pub agreeing-requires-clause-long : goal.agreeing-requires-clause-long
agreeing-requires-clause-long c =
    let h = c.args.h.now in
    (read_owner h.decls.now h.places.now h.depths.now c.args.o.now.owner c.in-Named.name c.in-Named.args c.index-h-place.result c.requires.settled c.in-Named.is c.requires.written.owner.written.named c.requires.lawful).long

pub returns : goal.returns
returns c =
    let h = c.args.h.now in
    let ds = h.decls.now in
    let x = c.args.decl.now in
    let o = c.args.o.now in
    let name = c.in-Named.name in
    let args = c.in-Named.args in
    let interface : Decl = get_or ds (get_or h.places.now name 0) c.index-h-place.result in
    let read = read_owner ds h.places.now h.depths.now o.owner name args c.index-h-place.result c.requires.settled c.in-Named.is c.requires.written.owner.written.named c.requires.lawful in
    match_map ((t : Target) → ¬ Agrees x o args interface t) (MeansNothing ds x o) (λ t. (t.interface ≡ get_or h.places.now name 0) × Agrees x o args interface t) (Means ds x o) c.agreeing.result
    (λ none t m. none t (means_agrees ds x o t name args interface c.in-Named.is read.declared m).0)
    (λ t w. record {
      class = c.if-decl.false;
      name = name;
      args = args;
      owner = c.in-Named.is;
      place = w.0 ∙ read.place;
      interface = interface;
      declared = read.declared;
      kind = c.if-not-interface.false;
      methods = w.1;
    })
    c.agreeing.ensures
