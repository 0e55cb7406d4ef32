use Rattle.std.proofs.Common.{◌≡◌, ◌<◌, ◌+◌, ◌++◌, [], ◌∷◌, cond, filter, length, take, append_assoc, sym, ap, ◌∙◌, arith}
use Rattle.std.proofs.lemmas.List.{take_more, map-append}
use Rattle.std.proofs.lemmas.List.Elements.{filter-append, filter_map-append}
use Rattle.vsd_ast.specs.Lookup.{head_of}
use Rattle.vsd_ast.specs.declared.declarations.Located.{Located}
use Rattle.vsd_hierarchy.specs.Cycles.{places_of, place_named, interface_terms, named_by, is_interface, required}
use Rattle.vsd_hierarchy.proofs.upward.add_required.Goals as goal

pub loop-interface-preserved : goal.loop-interface-preserved
loop-interface-preserved c =
    let ds = c.args.scope.now.list.now in
    let old = c.args.places.now in
    let xs = c.args.interfaces.now in
    let i = c.loop-interface.interface-index in
    let x = c.interface-item.result in
    let within : i < length xs = omega arith in
    let before = required ds (take i xs) in
    let here = cond (is_interface (named_by ds (head_of x.term))) (x.term ∷ []) [] in
    let more : interface_terms (take (i + 1) xs) ≡ interface_terms (take i xs) ++ x.term ∷ [] =
    ap interface_terms (take_more xs i x within ∙ ap (λ y. take i xs ++ y ∷ []) (sym c.interface-item.is)) ∙ map-append (λ (l : Located). l.term) (take i xs) (x ∷ []) in
    let kept : required ds (take (i + 1) xs) ≡ before ++ here =
    ap (filter (λ t. is_interface (named_by ds (head_of t)))) more ∙ filter-append (λ t. is_interface (named_by ds (head_of t))) (interface_terms (take i xs)) (x.term ∷ []) in
    let joined : places_of ds (required ds (take (i + 1) xs)) ≡ places_of ds before ++ places_of ds here =
    ap (places_of ds) kept ∙ filter_map-append (λ t. place_named ds (head_of t)) before here in
    let added : c.add_if.new.places ≡ c.loop-interface.places ++ places_of ds here =
    c.in_ok-add_if.ensures ∙ ap (λ wanted. c.loop-interface.places ++ places_of ds (cond wanted (x.term ∷ []) [])) c.is_interface-wanted.ensures in
    added ∙ ap (λ ps. ps ++ places_of ds here) c.loop-interface.invariant ∙ append_assoc old (places_of ds before) (places_of ds here) ∙ ap (λ ps. old ++ ps) (sym joined)
