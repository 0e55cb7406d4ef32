use Rattle.std.specs.Option.{option_to_list}
use Rattle.vsd_types.specs.Types.{args_of, base_of, named_of, type_at}
use Rattle.vsd_types.proofs.NumberLemmas.{numbers-rest, numbers-within}
use Rattle.vsd_types.proofs.closed.Closed.args.Goals as goal

pub returns-clause-numbers : goal.returns-clause-numbers
returns-clause-numbers c =
    let s = c.args.self.now in
    let t = type_at s.types c.args.t in
    let e = c.entry-entry.result.now in
    let is = c.entry-entry.ensures in
    numbers-rest s.types c.as_slice.result.now (option_to_list (base_of s.decls.list t)) (named_of s.decls.list t) (args_of t) e.bases e.interfaces is.bases is.interfaces (rw (← c.as_slice.ensures) at is.children)

pub returns-clause-within : goal.returns-clause-within
returns-clause-within c = numbers-within c.args.self.now.types _ _ (returns-clause-numbers c)
