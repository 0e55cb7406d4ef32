use Rattle.std.proofs.Common.{◌≡◌, ℕ, List, length, map, sym, subst, ◌⊎◌, ◌↔◌}
use Rattle.vsd_terms.specs.declared.term.Term.{Term}
use Rattle.vsd_terms.specs.Substitution.{subst_of}
use Rattle.vsd_ways.specs.Known.{MeetsFor}
use Rattle.vsd_ways.proofs.KnownLemmas.{OnOk_map}
use Rattle.vsd_ways.proofs.requiring.add_through.Goals as goal

pub returns-then-are_own : goal.returns-then-are_own
returns-then-are_own c =
    let old = c.args.ways.now in
    let new = c.add_all.new.ways in
    let wanted = c.args.wanted.now in
    let patterns = c.args.patterns.now in
    OnOk_map
    ((o : ℕ) (args : List Term) → MeetsFor new o args ↔ (MeetsFor old o args ⊎ MeetsFor wanted o args))
    ((o : ℕ) (args : List Term) → length args ≡ c.args.parameters → MeetsFor new o args ↔ (MeetsFor old o args ⊎ MeetsFor wanted o (map (subst_of args) patterns)))
    c.add_all.result
    (λ exact o args long.
    subst (λ (l : List Term). MeetsFor new o args ↔ (MeetsFor old o args ⊎ MeetsFor wanted o l)) (sym (c.are_own.ensures c.if-are_own.true args long)) (exact o args))
    c.add_all.ensures
