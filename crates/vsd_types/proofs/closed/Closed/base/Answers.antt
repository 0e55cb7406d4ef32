use Rattle.std.proofs.Common.{◌++◌, refl, arith}
use Rattle.std.specs.Option.{option_to_list}
use Rattle.std.proofs.lemmas.List.{length-append}
use Rattle.vsd_types.specs.Types.{args_of, base_of, named_of, type_at}
use Rattle.vsd_types.proofs.BaseLemmas.{no_base, count-None, count-Some}
use Rattle.vsd_types.proofs.NumberLemmas.{numbers-length, numbers-within}
use Rattle.vsd_types.proofs.closed.Closed.base.Goals as goal

pub returns-then-entry-eq0-clause-none : goal.returns-then-entry-eq0-clause-none
returns-then-entry-eq0-clause-none c =
    let ds = c.args.self.now.decls.list in
    let t = type_at c.args.self.now.types c.args.t in
    let both = no_base ds t c.entry-entry.ensures.type in
    (λ _. both.0 (count-None (base_of ds t) _ c.entry-entry.ensures.bases c.if-entry-eq0.true), λ _. refl)

pub returns-clause-none : goal.returns-clause-none
returns-clause-none c =
    let ds = c.args.self.now.decls.list in
    let t = type_at c.args.self.now.types c.args.t in
    let both = no_base ds t c.entry-entry.ensures.type in
    let some = count-Some (base_of ds t) _ c.entry-entry.ensures.bases c.if-entry-eq0.false in
    (λ e. absurd cc, λ which. let none = both.1 which in absurd cc)

pub returns-clause-within : goal.returns-clause-within
returns-clause-within c =
    let s = c.args.self.now in
    let t = type_at s.types c.args.t in
    let is = c.entry-entry.ensures in
    let long = numbers-length s.types _ _ is.children in
    let parts = length-append (option_to_list (base_of s.decls.list t)) (named_of s.decls.list t) in
    let all = length-append (option_to_list (base_of s.decls.list t) ++ named_of s.decls.list t) (args_of t) in
    rw c.as_slice.ensures (numbers-within s.types _ _ is.children 0 (omega (arith, long, parts, all, is.bases, c.if-entry-eq0.false)))
