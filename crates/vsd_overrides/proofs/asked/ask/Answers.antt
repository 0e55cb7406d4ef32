use Rattle.std.proofs.Common.{Bool, true, length, refl, sym, ◌∙◌, subst, inl, inr, IsSome, IsTrue, List}
use Rattle.std.specs.HashMap.{get}
use Rattle.std.specs.List.{list_any}
use Rattle.std.specs.Map.{lookup}
use Rattle.vsd_overrides.specs.Known.{AreWithin, same_question}
use Rattle.vsd_overrides.specs.declared.asked.Question.{Question}
use Rattle.vsd_overrides.proofs.KnownLemmas.{as-same, has_on, known-put, known-kept, known-here, more-within}
use Rattle.vsd_overrides.proofs.asked.ask.Goals as goal

pub names-requires-clause-upward : goal.names-requires-clause-upward
names-requires-clause-upward c = record { from = c.args.question.class; within = c.requires.within; chained = c.requires.chained }

pub returns-then-contains_key-clause-here : goal.returns-then-contains_key-clause-here
returns-then-contains_key-clause-here c q class owner =
    inr (as-same (λ (same : Question → Bool). IsSome (lookup same c.args.known.now.entries)) c.args.question q class owner
    (sym c.contains_key.ensures ∙ c.if-contains_key.true))

pub returns-then-contains-clause-here : goal.returns-then-contains-clause-here
returns-then-contains-clause-here c q class owner =
    inl (as-same (λ (same : Question → Bool). IsTrue (list_any same c.args.asked.now.keys)) c.args.question q class owner
    (sym c.contains.ensures ∙ c.if-contains.true))

pub returns-then-names-clause-known : goal.returns-then-names-clause-known
returns-then-names-clause-known c =
    let ds = c.args.h.now.decls.now in
    let q = c.args.question in
    let on = has_on ds c.args.chain.now q.class q.owner.now c.requires.chained in
    known-put ds (get same_question c.args.known.now) (get same_question c.insert.new.self) q true
    (λ yes_. on.0 (c.names.ensures c.if-names.true), λ w. refl)
    c.in_ok-insert.ensures.updates.0 c.requires.known

pub returns-then-names-clause-here : goal.returns-then-names-clause-here
returns-then-names-clause-here c q class owner =
    let old = get same_question c.args.known.now in
    let new = get same_question c.insert.new.self in
    inr (known-here old new c.args.question true c.in_ok-insert.ensures.updates.0 q class owner)

pub returns-then-names-clause-before : goal.returns-then-names-clause-before
returns-then-names-clause-before c q either =
    let old = get same_question c.args.known.now in
    let new = get same_question c.insert.new.self in
    elim either [
      | inl asks ↦ inl asks
      | inr some ↦ inr (known-kept old new c.args.question true c.in_ok-insert.ensures.updates.0 q some)
    ]

pub returns-clause-asked : goal.returns-clause-asked
returns-clause-asked c =
    let count = length c.args.h.now.decls.now in
    subst (λ (keys : List Question). AreWithin count keys) (sym c.in_ok-insert-2.ensures.keys)
    (more-within count c.args.asked.now.keys c.args.question c.requires.asked c.requires.within)
