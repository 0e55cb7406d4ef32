use Rattle.std.proofs.Common.{ℕ, zero, ◌<◌, List, length, get_or, ap, ◌∙◌, sym, arith}
use Rattle.std.specs.List.{slice_get}
use Rattle.std.proofs.lemmas.Option.{slice_get-get_or, slice_get_within}
use Rattle.vsd_ast.specs.declared.declarations.Decl.{Decl}
use Rattle.vsd_ast.specs.declared.declarations.Located.{Located}
use Rattle.vsd_lift.specs.Settled.{IsSettled}
use Rattle.vsd_ways.specs.Leads.{IsUpward}
use Rattle.vsd_ways.proofs.ClassLemmas.{class_at, names_at, upward_ladder}
use Rattle.vsd_overrides.proofs.asked.names_at.Goals as goal

-- the number at a level is that of a declaration
number_within : (ds : List Decl) (places depths chain : List ℕ) (level : ℕ) → IsSettled ds places depths → IsUpward ds chain → level < length chain → get_or chain level 0 < length ds
number_within ds places depths chain level settled up inside =
    let x = class_at ds places depths chain settled up level inside in
    slice_get_within ds (get_or chain level 0) x.0 x.1

pub bounds-h-chain : goal.bounds-h-chain
bounds-h-chain c =
    let h = c.args.h.now in
    number_within h.decls.now h.places.now h.depths.now c.args.chain.now c.args.level c.requires.settled c.requires.upward c.requires.within

pub offset_bounds-h-chain : goal.offset_bounds-h-chain
offset_bounds-h-chain c =
    let h = c.args.h.now in
    let inside = number_within h.decls.now h.places.now h.depths.now c.args.chain.now c.args.level c.requires.settled c.requires.upward c.requires.within in
    omega (arith, inside, c.requires.settled.few)

pub same_up-requires-clause-ladder : goal.same_up-requires-clause-ladder
same_up-requires-clause-ladder c =
    let h = c.args.h.now in
    upward_ladder h.decls.now h.places.now h.depths.now c.args.chain.now c.requires.settled c.requires.upward

pub same_up-requires-clause-fits : goal.same_up-requires-clause-fits
same_up-requires-clause-fits c =
    let h = c.args.h.now in
    let ds = h.decls.now in
    let chain = c.args.chain.now in
    let level = c.args.level in
    let n = get_or chain level 0 in
    let x : Decl = get_or ds n c.index-h-chain.result in
    let interfaces = c.as_slice-interfaces.result.now in
    let i = c.loop-i.i in
    let t : Located = get_or interfaces i c.index-interfaces-i.result in
    let inside = number_within ds h.places.now h.depths.now chain level c.requires.settled c.requires.upward c.requires.within in
    (names_at ds h.places.now h.depths.now chain c.requires.settled c.requires.upward level n x i t
    (slice_get-get_or chain level 0 c.requires.within)
    (slice_get-get_or ds n c.index-h-chain.result inside)
    (ap (λ (l : List Located). slice_get l i) (sym c.as_slice-interfaces.ensures) ∙ slice_get-get_or interfaces i c.index-interfaces-i.result (omega arith))).fits

pub returns-then-same_up : goal.returns-then-same_up
returns-then-same_up c yes_ =
    let h = c.args.h.now in
    let ds = h.decls.now in
    let chain = c.args.chain.now in
    let level = c.args.level in
    let n = get_or chain level 0 in
    let x : Decl = get_or ds n c.index-h-chain.result in
    let interfaces = c.as_slice-interfaces.result.now in
    let i = c.loop-i.i in
    let t : Located = get_or interfaces i c.index-interfaces-i.result in
    let inside = number_within ds h.places.now h.depths.now chain level c.requires.settled c.requires.upward c.requires.within in
    record {
      level = level;
      number = n;
      stands = slice_get-get_or chain level 0 c.requires.within;
      class = x;
      declared = slice_get-get_or ds n c.index-h-chain.result inside;
      named = record {
        place = i;
        element = t;
        there = ap (λ (l : List Located). slice_get l i) (sym c.as_slice-interfaces.ensures) ∙ slice_get-get_or interfaces i c.index-interfaces-i.result (omega arith);
        has = (zero, sym (c.same_up.ensures.0 c.if-same_up.true));
      };
    }
