use Rattle.std.proofs.Common.{◌≡◌, ℕ, ◌+◌, Contains, [], ◌++◌, length, take, drop, sym, ap, subst, ◌∙◌, arith, append-nil}
use Rattle.std.proofs.lemmas.List.{drop_all}
use Rattle.vsd_ast.specs.Scripts.{MayFollow}
use Rattle.vsd_ast.specs.declared.scripts.Op.TheVariants.{Load}
use Rattle.vsd_answers.specs.Answers.{answers_after, world}
use Rattle.vsd_answers.proofs.Lanes.{AreKept, answers_at, can_answer_at, keeps_at}
use Rattle.vsd_answers.proofs.answering.answer_lane.Goals as goal

pub answer-requires : goal.answer-requires
answer-requires g c =
    can_answer_at c.args.hosts.now c.args.types.now c.args.tokens.now (length c.args.lane.now.names) c.as_slice-op-items.result.now c.loop-op.op-index (Load 0 0)
    c.loop-op.held c.loop-op-test.true c.loop-op.invariant.kept (g.R.Resolver.types c.args.resolver.now) (g.R.Resolver.tokens c.args.resolver.now)
    c.requires.hosts c.requires.types c.requires.tokens

none_in_empty : (v : ℕ) → Contains [] v → ⊥
none_in_empty v none = let no = none.1 in omega (arith, no)

pub loop-op-init : goal.loop-op-init
loop-op-init g c =
    let ops = c.args.lane.now.ops in
    let lawful : MayFollow (length c.args.types.now) (length c.args.tokens.now) (length c.args.hosts.now) (length c.args.lane.now.names) [] c.as_slice-op-items.result.now =
    subst (λ l. MayFollow (length c.args.types.now) (length c.args.tokens.now) (length c.args.hosts.now) (length c.args.lane.now.names) [] l) (sym c.as_slice-op-items.ensures) c.requires.lane.ops in
    let size : length c.as_mut_slice-held.result.now ≡ length c.args.lane.now.names = ap length c.as_mut_slice-held.ensures.value ∙ omega (arith, c.in_ok-kept.ensures.len, c.len.ensures) in
    record {
      kept = record { live = []; lawful = lawful; size = size; kept = λ v none. elim (none_in_empty v none) [ ] };
      answers = ap (λ l. l ++ answers_after c.args.hosts.now c.args.types.now (world (g.R.Resolver.types c.args.resolver.now) (g.R.Resolver.tokens c.args.resolver.now) (g.R.Resolver.sel c.args.resolver.now) (g.R.Resolver.cmp c.args.resolver.now)) c.args.tokens.now [] c.as_slice-op-items.result.now) c.in_ok-answers.ensures.items;
    }

pub loop-op-preserved : goal.loop-op-preserved
loop-op-preserved g c =
    let ops = c.as_slice-op-items.result.now in
    let i = c.loop-op.op-index in
    record {
      kept =
          subst (λ held. AreKept (length c.args.tokens.now) (length c.args.hosts.now) c.args.types.now (take (i + 1) ops) (drop (i + 1) ops) held (length c.args.lane.now.names)) (sym c.in_ok-answer.ensures.held)
          (keeps_at c.args.hosts.now c.args.types.now c.args.tokens.now (length c.args.lane.now.names) ops i (Load 0 0) c.loop-op.held c.loop-op-test.true c.loop-op.invariant.kept);
      answers =
          answers_at c.args.hosts.now c.args.types.now c.args.tokens.now (length c.args.lane.now.names) ops i (Load 0 0) c.loop-op.held c.loop-op-test.true c.loop-op.invariant.kept
          (world (g.R.Resolver.types c.args.resolver.now) (g.R.Resolver.tokens c.args.resolver.now) (g.R.Resolver.sel c.args.resolver.now) (g.R.Resolver.cmp c.args.resolver.now))
          c.loop-op.answers.items c.answer.new.answers.items _ c.loop-op.invariant.answers c.in_ok-answer.ensures.answers;
    }

pub returns : goal.returns
returns g c =
    let w = world (g.R.Resolver.types c.args.resolver.now) (g.R.Resolver.tokens c.args.resolver.now) (g.R.Resolver.sel c.args.resolver.now) (g.R.Resolver.cmp c.args.resolver.now) in
    let ops = c.as_slice-op-items.result.now in
    let i = c.loop-op.op-index in
    let none : answers_after c.args.hosts.now c.args.types.now w c.args.tokens.now (take i ops) (drop i ops) ≡ [] =
    ap (λ left. answers_after c.args.hosts.now c.args.types.now w c.args.tokens.now (take i ops) left) (drop_all i ops c.loop-op-test.false) in
    sym (append-nil c.loop-op.answers.items) ∙ (ap (λ l. c.loop-op.answers.items ++ l) (sym none) ∙ (c.loop-op.invariant.answers ∙ ap (λ l. answers_after c.args.hosts.now c.args.types.now w c.args.tokens.now [] l) c.as_slice-op-items.ensures))
