use Rattle.std.proofs.Common.{◌≡◌, ℕ, ◌<◌, List, Option, Some, sym, ◌∙◌, subst}
use Rattle.std.proofs.lemmas.Bool.{false≢true}
use Rattle.vsd_ast.specs.declared.declarations.Decl.{Decl}
use Rattle.vsd_ast.specs.declared.declarations.Method.{Method}
use Rattle.vsd_roots.specs.Levels.{IsStart, ranks_from}
use Rattle.vsd_roots.specs.declared.place.Place.{Place}
use Rattle.vsd_roots.proofs.MatchLemmas.{nearest_here, nearest_none}
use Rattle.vsd_roots.proofs.overriding.nearest.Goals as goal

-- the start, where it is a method
start_at : (ds : List Decl) (depths chain : List ℕ) (m : Method) (o : Option Place) (q : Place) → o ≡ Some q → IsStart ds depths chain m o → IsStart ds depths chain m (Some q)
start_at ds depths chain m o q is start = subst (λ (p : Option Place). IsStart ds depths chain m p) is start

pub is_match-requires-clause-named : goal.is_match-requires-clause-named
is_match-requires-clause-named c =
    let h = c.args.h.now in
    let start = start_at h.decls.now h.depths.now c.args.chain.now c.args.method.now c.loop-next.next c.in-Some.at c.in-Some.is c.loop-next.invariant in
    let is = start.latest.is in
    (is.0, (is.1.0, is.1.1.0))

pub returns-then-is_match : goal.returns-then-is_match
returns-then-is_match c =
    let h = c.args.h.now in
    let start = start_at h.decls.now h.depths.now c.args.chain.now c.args.method.now c.loop-next.next c.in-Some.at c.in-Some.is c.loop-next.invariant in
    let found = c.is_match.ensures.0 c.if-is_match.true in
    nearest_here h.decls.now h.places.now h.depths.now c.args.chain.now c.requires.settled c.requires.upward c.args.method.now c.in-Some.at found.0 start found.1

pub further-next-requires-clause-start : goal.further-next-requires-clause-start
further-next-requires-clause-start c =
    let h = c.args.h.now in
    start_at h.decls.now h.depths.now c.args.chain.now c.args.method.now c.loop-next.next c.in-Some.at c.in-Some.is c.loop-next.invariant

pub further-next-requires-clause-other : goal.further-next-requires-clause-other
further-next-requires-clause-other c = λ level matches. false≢true (sym c.if-is_match.false ∙ c.is_match.ensures.1 (level, matches))

pub loop-next-smaller : goal.loop-next-smaller
loop-next-smaller c =
    let h = c.args.h.now in
    subst (λ (o : Option Place). ranks_from h.depths.now c.further-next.result < ranks_from h.depths.now o) (sym c.in-Some.is) c.further-next.ensures.lower

pub returns : goal.returns
returns c =
    let h = c.args.h.now in
    nearest_none h.decls.now h.places.now h.depths.now c.args.chain.now c.requires.settled c.requires.upward c.args.method.now (subst (λ (o : Option Place). IsStart h.decls.now h.depths.now c.args.chain.now c.args.method.now o) c.in_default.is c.loop-next.invariant)
