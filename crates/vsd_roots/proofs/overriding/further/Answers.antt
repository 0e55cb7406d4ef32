use Rattle.std.proofs.Common.{ℕ, ◌<◌, List, Option, Some, None, arith}
use Rattle.vsd_ast.specs.declared.declarations.Decl.{Decl}
use Rattle.vsd_roots.specs.Levels.{ranks_from}
use Rattle.vsd_roots.specs.Order.{IsEarlier, IsLink}
use Rattle.vsd_roots.specs.declared.place.Place.{Place}
use Rattle.vsd_roots.proofs.MatchLemmas.{nearest_earlier, nearest_later}
use Rattle.vsd_roots.proofs.TableLemmas.{entry_has, method_within}
use Rattle.vsd_roots.proofs.overriding.further.Goals as goal

link_below : (ds : List Decl) (depths : List ℕ) (q : Place) (before : Option Place) → IsLink ds depths q before → ranks_from depths before < ranks_from depths (Some q)
link_below ds depths q None link = omega arith
link_below ds depths q (Some r) link = let is = link.latest.is in omega (arith, is.1.1.1)

earlier_below : (ds : List Decl) (depths : List ℕ) (q : Place) (before : Option Place) → IsEarlier ds depths q before → ranks_from depths before < ranks_from depths (Some q)
earlier_below ds depths q None link = omega arith
earlier_below ds depths q (Some r) link = let is = link.latest.is in omega (arith, is.1.1.1)

pub bounds-levels-at : goal.bounds-levels-at
bounds-levels-at c =
    let h = c.args.h.now in
    let is = c.requires.start.latest.is in
    let w = method_within h.decls.now h.places.now h.depths.now c.args.at is.0 c.requires.settled is.1.0 in
    omega (arith, w.declared, c.requires.levels.long)

pub returns-then-levels-at-gt0-clause-start : goal.returns-then-levels-at-gt0-clause-start
returns-then-levels-at-gt0-clause-start c =
    let h = c.args.h.now in
    let is = c.requires.start.latest.is in
    let link = entry_has _ c.entry_of.result (IsLink h.decls.now h.depths.now c.args.at) c.entry_of.ensures (c.requires.links.each c.args.at is.0 is.1.0) in
    nearest_later h.decls.now h.places.now h.depths.now c.args.chain.now c.requires.settled c.requires.upward c.args.method.now c.args.at c.entry_of.result c.requires.start link c.requires.other

pub returns-clause-start : goal.returns-clause-start
returns-clause-start c =
    let h = c.args.h.now in
    let is = c.requires.start.latest.is in
    let link = entry_has _ c.entry_of-2.result (IsEarlier h.decls.now h.depths.now c.args.at) c.entry_of-2.ensures (c.requires.earlier.each c.args.at is.0 is.1.0) in
    nearest_earlier h.decls.now h.places.now h.depths.now c.args.chain.now c.requires.settled c.requires.upward c.args.method.now c.args.at c.entry_of-2.result c.requires.start link
    (λ level stands above. omega (arith, above, c.requires.levels.each level c.args.at.decl stands, c.if-levels-at-gt0.false))
