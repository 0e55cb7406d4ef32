use Rattle.std.proofs.Common.{◌≡◌, suc, ◌++◌, ◌+◌, List, take, drop, get_or, false, sym, ap, subst, ◌∙◌, arith}
use Rattle.vsd_lanes.specs.declared.tree.Live.{Live}
use Rattle.std.specs.List.{remove}
use Rattle.vsd_lanes.proofs.LiveLemmas.{without_here, without_later, without_none}
use Rattle.vsd_lanes.proofs.meaning.give_up.Goals as goal

pub returns-then-as_slice-place : goal.returns-then-as_slice-place
returns-then-as_slice-place c =
    let live = c.args.live.now in
    let i = c.loop-place.place in
    let v = c.args.variable in
    let same = c.as_slice.ensures ∙ c.loop-place.invariant.0 in
    let here = without_here live i v (record { variable = 0; concrete = false }) (omega arith) (subst (λ (l : List Live). (get_or l i (record { variable = 0; concrete = false })).variable ≡ v) same c.if-as_slice-place.true) in
    let n : suc i ≡ i + 1 = omega arith in
    let out : c.remove.new.self ≡ take i live ++ drop (i + 1) live = c.remove.ensures.rest ∙ ap (λ l. remove l i) c.loop-place.invariant.0 ∙ ap (λ k. take i live ++ drop k live) n in
    out ∙ ap (λ l. take i live ++ l) (sym here) ∙ sym c.loop-place.invariant.1

pub loop-place-preserved : goal.loop-place-preserved
loop-place-preserved c =
    let live = c.args.live.now in
    let i = c.loop-place.place in
    let v = c.args.variable in
    let same = c.as_slice.ensures ∙ c.loop-place.invariant.0 in
    let later = without_later live i v (record { variable = 0; concrete = false }) (omega arith)
    (subst (λ (l : List Live). (get_or l i (record { variable = 0; concrete = false })).variable ≡ v → ⊥) same c.if-as_slice-place.false) in
    (c.loop-place.invariant.0, c.loop-place.invariant.1 ∙ later)

pub returns : goal.returns
returns c =
    let live = c.args.live.now in
    c.loop-place.invariant.0 ∙ sym (c.loop-place.invariant.1 ∙ without_none live c.loop-place.place c.args.variable (omega arith))
