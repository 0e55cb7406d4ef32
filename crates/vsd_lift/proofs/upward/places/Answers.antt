use Rattle.std.proofs.Common.{◌≡◌, ◌+◌, ◌-◌, ◌<◌, length, get_or, replicate, arith, rules, ap, ◌∙◌, length-set}
use Rattle.std.proofs.lemmas.List.{get_or-replicate, get_or_default, length-replicate}
use Rattle.std.proofs.lemmas.List.Elements.{All-get_or}
use Rattle.vsd_ast.specs.declared.declarations.Decl.{Decl}
use Rattle.vsd_lift.proofs.PlaceLemmas.{places_end, places_step}
use Rattle.vsd_lift.proofs.upward.places.Goals as goal

pub loop-i-init : goal.loop-i-init
loop-i-init c =
    let n = length c.args.decls.now in
    let filled : c.in_ok-made.made.items ≡ replicate c.args.names n = c.in_ok-made.ensures.items_if_clones_equal (search rules) in
    let count : length c.in_ok-made.made.items ≡ c.args.names = ap length filled ∙ length-replicate c.args.names n in
    record {
      count = count;
      places = λ name inside. ap (λ l. get_or l name 0) filled ∙ get_or-replicate c.args.names name n 0 (omega arith) ∙ places_end c.args.decls.now name;
    }

pub loop-i-preserved : goal.loop-i-preserved
loop-i-preserved c =
    let ds = c.args.decls.now in
    let made = c.loop-i.made.items in
    let i = c.loop-i.i - 1 in
    let within : i < length ds = omega arith in
    let x = get_or ds i c.index-decls-i.result in
    let named : x.name < c.args.names = All-get_or (λ (y : Decl). y.name < c.args.names) ds i c.index-decls-i.result within c.requires.named in
    let one : i + 1 ≡ c.loop-i.i = omega arith in
    let room : x.name < length made = omega (arith, c.loop-i.invariant.count) in
    record {
      count = length-set made x.name i ∙ c.loop-i.invariant.count;
      places = λ name inside. places_step ds i x made within (get_or_default ds i c.index-decls-i.result x within) room (λ n h. rw one (c.loop-i.invariant.places n h)) name (omega (arith, length-set made x.name i));
    }
