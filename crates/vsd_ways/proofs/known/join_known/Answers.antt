use Rattle.std.proofs.Common.{◌≡◌, Bool, List, Option, Some, sym, subst, ◌⊎◌, ◌↔◌}
use Rattle.std.specs.Global.{Vec}
use Rattle.std.specs.Map.{lookup}
use Rattle.vsd_terms.specs.declared.term.Term.{Term}
use Rattle.vsd_ways.specs.Known.{same_known, ways_in, IsMarked, Meets, MeetsFor}
use Rattle.vsd_ways.proofs.WaysLemmas.{joined_adds}
use Rattle.vsd_ways.proofs.known.join_known.Goals as goal

pub returns-in-Some-clause-there : goal.returns-in-Some-clause-there
returns-in-Some-clause-there c yes_ o args =
    let known = c.args.known.now in
    let marks = c.args.marks.now in
    let old = c.args.ways.now.entries in
    let w = c.join.new.there in
    let found : lookup (λ (key : Vec (Option Term)). same_known known key.items) old ≡ Some c.in-Some.there.now = sym c.in-Some.ensures.value in
    let P : List (Vec (Option Term) × List Bool) → Type 0 = λ new. MeetsFor (ways_in new) o args ↔ (MeetsFor (ways_in old) o args ⊎ (IsMarked marks o × Meets known args)) in
    subst P (sym (c.get_mut.follows.holds w).0) (joined_adds known marks old c.in-Some.there.now w found c.join.ensures o args)
