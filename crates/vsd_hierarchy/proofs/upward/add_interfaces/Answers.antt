use Rattle.std.proofs.Common.{◌≡◌, ◌<◌, ◌+◌, ◌++◌, [], ◌∷◌, length, take, append_assoc, sym, ap, ◌∙◌, arith}
use Rattle.std.proofs.lemmas.List.{take_more, map-append}
use Rattle.std.proofs.lemmas.List.Elements.{filter_map-append}
use Rattle.vsd_ast.specs.Lookup.{head_of}
use Rattle.vsd_ast.specs.declared.declarations.Located.{Located}
use Rattle.vsd_hierarchy.specs.Cycles.{places_of, place_named, interface_terms}
use Rattle.vsd_hierarchy.proofs.upward.add_interfaces.Goals as goal

pub loop-interface-preserved : goal.loop-interface-preserved
loop-interface-preserved c =
    let ds = c.args.scope.now.list.now in
    let old = c.args.places.now in
    let xs = c.args.interfaces.now in
    let i = c.loop-interface.interface-index in
    let x = c.interface-item.result in
    let within : i < length xs = omega arith in
    let before = interface_terms (take i xs) in
    let more : interface_terms (take (i + 1) xs) ≡ before ++ x.term ∷ [] =
    ap interface_terms (take_more xs i x within ∙ ap (λ y. take i xs ++ y ∷ []) (sym c.interface-item.is)) ∙ map-append (λ (l : Located). l.term) (take i xs) (x ∷ []) in
    let joined : places_of ds (interface_terms (take (i + 1) xs)) ≡ places_of ds before ++ places_of ds (x.term ∷ []) =
    ap (places_of ds) more ∙ filter_map-append (λ t. place_named ds (head_of t)) before (x.term ∷ []) in
    c.in_ok-add.ensures ∙ ap (λ ps. ps ++ places_of ds (x.term ∷ [])) c.loop-interface.invariant ∙ append_assoc old (places_of ds before) (places_of ds (x.term ∷ [])) ∙ ap (λ ps. old ++ ps) (sym joined)
