use Rattle.std.proofs.Common.{◌++◌, ◌∷◌, [], ℕ, List, take, ap, sym, ◌∙◌, arith}
use Rattle.std.specs.Global.{Vec}
use Rattle.vsd_terms.specs.Keys.{names_in}
use Rattle.vsd_terms.proofs.PlaceLemmas.{take_more-map}
use Rattle.vsd_lanes.proofs.variables.Variables.names.Goals as goal

pub loop-key-preserved : goal.loop-key-preserved
loop-key-preserved c =
    let keys = c.as_slice-key-items.result.now in
    let i = c.loop-key.key-index in
    let x = c.key-item.result in
    let one = c.in_ok-from_slice.ensures ∙ c.as_slice.ensures.value in
    c.in_ok-push.ensures.ok ∙ ap (λ (l : List (List ℕ)). l ++ c.in_ok-from_slice.field-0 ∷ []) c.loop-key.invariant ∙ ap (λ (n : List ℕ). take i (names_in keys) ++ n ∷ []) one
    ∙ sym (take_more-map (λ (key : Vec ℕ). key.items) keys i x (omega arith) c.key-item.is)
