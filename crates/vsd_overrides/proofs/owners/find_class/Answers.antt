use Rattle.std.proofs.Common.{◌≡◌, ◌-◌, ℕ, List, get_or, Some, sym, subst, arith}
use Rattle.std.specs.HashMap.{get}
use Rattle.std.specs.List.{slice_get}
use Rattle.std.proofs.lemmas.Option.{slice_get-get_or, slice_get_within}
use Rattle.vsd_ast.specs.declared.declarations.Decl.{Decl}
use Rattle.vsd_lift.specs.Chain.{IsChain}
use Rattle.vsd_ways.proofs.KnownLemmas.{OnOk_map}
use Rattle.vsd_overrides.specs.Known.{AreKnown, TellsOf, same_question}
use Rattle.vsd_overrides.specs.declared.numbered.Numbered.{Numbered}
use Rattle.vsd_overrides.proofs.KnownLemmas.{has_on}
use Rattle.vsd_overrides.proofs.owners.find_class.Goals as goal

pub chain-requires-clause-within : goal.chain-requires-clause-within
chain-requires-clause-within c =
    let asked = c.args.asked.now in
    let a : Numbered = get_or asked 0 c.index-asked-0.result in
    let there : slice_get asked 0 ≡ Some a = slice_get-get_or asked 0 c.index-asked-0.result c.requires.some in
    (c.requires.table.asks 0 a there).class

pub wanted-marks-requires : goal.wanted-marks-requires
wanted-marks-requires c = record { near = λ o n there. (c.requires.table.asks o n there).near }

pub has_interfaces-had-requires-clause-upward : goal.has_interfaces-had-requires-clause-upward
has_interfaces-had-requires-clause-upward c =
    let ds = c.args.h.now.decls.now in
    let asked = c.args.asked.now in
    let a : Numbered = get_or asked 0 c.index-asked-0.result in
    let there : slice_get asked 0 ≡ Some a = slice_get-get_or asked 0 c.index-asked-0.result c.requires.some in
    record {
      from = a.question.class;
      within = (c.requires.table.asks 0 a there).class;
      chained = subst (λ (l : List ℕ). IsChain ds a.question.class l) (sym c.as_slice.ensures.value) c.in_ok-upward.ensures.chain;
    }

pub tell-requires : goal.tell-requires
tell-requires c = record { near = λ o n there. (c.requires.table.asks o n there).near }

pub returns-clause-known : goal.returns-clause-known
returns-clause-known c =
    let ds = c.args.h.now.decls.now in
    let asked = c.args.asked.now in
    let first = c.args.first in
    let a : Numbered = get_or asked 0 c.index-asked-0.result in
    let had = c.has_interfaces-had.result in
    let old = get same_question c.args.known.now in
    let new = get same_question c.tell.new.known in
    let start : slice_get asked 0 ≡ Some a = slice_get-get_or asked 0 c.index-asked-0.result c.requires.some in
    let chain = c.as_slice.result.now in
    let made = c.in_ok-upward.ensures.chain in
    let up : IsChain ds a.question.class chain =
    subst (λ (l : List ℕ). IsChain ds a.question.class l) (sym c.as_slice.ensures.value) made in
    let table = c.requires.table in
    let tells : TellsOf ds asked first had = λ o n there.
    let asks = table.asks o n there in
    let mark = c.wanted-marks.ensures o n there in
    let has = c.has_interfaces-had.ensures table.owners table.ways (n.number - first) n.question.owner.now mark asks.there in
    let inside = slice_get_within asked o n there in
    let class : a.question.class ≡ n.question.class = sym (c.requires.same o a n (omega arith) inside start there) in
    let on = has_on ds chain n.question.class n.question.owner.now (subst (λ (m : ℕ). IsChain ds m chain) class up) in
    (λ m. on.0 (has.0 m), λ w. has.1 (on.1 w)) in
    OnOk_map
    ((ds : List Decl) → AreKnown ds old → TellsOf ds asked first had → AreKnown ds new)
    (AreKnown ds new)
    c.tell.result
    (λ known. known ds c.requires.known tells)
    c.tell.ensures.known
