use Rattle.std.proofs.Common.{◌≡◌, [], ◌++◌, ◌∙◌}
use contract.BorrowLft.{⊑_refl, ⊑_meet, ⊑_static}
use Rattle.vsd_rule.specs.Lists.{key_with}
use Rattle.vsd_table.specs.Seating.{key_of}
use Rattle.vsd_table.proofs.Laid.{ok_then, key_is}
use Rattle.vsd_table.proofs.Opened.{opened_ok}
use Rattle.vsd_table.proofs.opening.layout.Goals as goal

pub of-world-requires : goal.of-world-requires
of-world-requires g c κs within =
    let κ = κs.1.0 in
    let lives = g.row.R.lives in
    let slice = ⊑_meet κ κ [] (⊑_refl κ) (⊑_static κ) in
    ⊑_meet κ (lives ++ []) _ (⊑_meet κ lives [] within (⊑_static κ))
    (⊑_meet κ (κ ++ lives) _ (⊑_meet κ κ lives (⊑_refl κ) within) (⊑_meet κ (κ ++ []) _ slice (⊑_meet κ (κ ++ []) [] slice (⊑_static κ))))

pub returns-clause-key : goal.returns-clause-key
returns-clause-key g c =
    let facts = c.of-world.ensures in
    let types = g.R.Resolver.types c.args.resolver.now in
    let sel = g.R.Resolver.sel c.args.resolver.now in
    let cmp = g.R.Resolver.cmp c.args.resolver.now in
    ok_then c.lay_out.result (λ made. key_of made.0 ≡ record { sizes = c.args.sizes; world = c.of-world.result }) (λ made. key_of made.0 ≡ key_with c.args.sizes types c.args.sites.now c.args.hosts.now sel cmp)
    (λ made is. is ∙ key_is c.args.sizes c.of-world.result types c.args.sites.now c.args.hosts.now sel cmp facts.0 facts.1 facts.2 facts.3 facts.4) c.lay_out.ensures.key

pub returns-clause-opened : goal.returns-clause-opened
returns-clause-opened g c = opened_ok c.lay_out.result
