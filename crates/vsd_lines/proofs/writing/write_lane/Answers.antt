use Rattle.std.proofs.Common.{◌≡◌, ◌≤◌, ℕ, ◌+◌, [], List, ◌++◌, length, drop, get_or, decimal, refl, sym, ap, subst, ◌∙◌, arith, append_assoc, append-nil}
use Rattle.std.proofs.lemmas.List.{drop_all}
use Rattle.vsd_ast.specs.Scripts.{MayFollow}
use Rattle.vsd_ast.specs.declared.scripts.Op.TheVariants.{Load}
use Rattle.vsd_lines.specs.Lines.{AreAnswers, asks, host_names, lane_text, op_text, site_names, text_at}
use Rattle.vsd_lines.specs.Moving.{Carries, CutShort}
use Rattle.vsd_lines.proofs.Lanes.{answer_at, answers_next, asks_within, comes_next, text_here, writable_at}
use Rattle.vsd_lines.proofs.AfterErrors.{at_failed, at_memory}
use Rattle.vsd_lines.proofs.Moves.{carries_line, carries_more, carries_nothing, cut_more, front_at}
use Rattle.vsd_lines.proofs.writing.write_lane.Goals as goal

pub add_line-requires-clause-names : goal.add_line-requires-clause-names
add_line-requires-clause-names g c =
    writable_at c.as_slice-op-items.result.now c.loop-op.op-index (Load 0 0) c.loop-op-test.true (length c.args.script.now.roots) (length c.args.script.now.sites)
    (length c.args.lane.now.names) (length c.args.slot_texts.now) c.args.script.now.hosts c.args.site_tokens.now c.args.lane.now.names refl
    c.requires.tokens_count c.requires.tokens_in c.loop-op.invariant.come

pub add_line-requires-clause-answer : goal.add_line-requires-clause-answer
add_line-requires-clause-answer g c =
    answer_at c.as_slice-op-items.result.now c.loop-op.op-index (Load 0 0) c.loop-op-test.true (length c.args.method_texts.now) c.args.answers.now c.loop-op.at c.loop-op.invariant.answers

pub loop-op-init : goal.loop-op-init
loop-op-init g c =
    let come : MayFollow (length c.args.script.now.roots) (length c.args.script.now.sites) (length c.args.script.now.hosts) (length c.args.lane.now.names) [] c.as_slice-op-items.result.now =
    subst (λ l. MayFollow (length c.args.script.now.roots) (length c.args.script.now.sites) (length c.args.script.now.hosts) (length c.args.lane.now.names) [] l) (sym c.as_slice-op-items.ensures) c.requires.lane.ops in
    record {
      come = record { live = []; follow = come };
      answers = subst (λ l. AreAnswers (length c.args.method_texts.now) l c.args.answers.now) (sym c.as_slice-op-items.ensures) c.requires.answers;
      within = omega arith;
      done = [];
      carries = carries_nothing (g.K.Sink.taken c.args.sink.now) (g.K.Sink.has_room c.args.sink.now) c.args.page.now.items;
      whole = refl;
      no_fault = refl;
    }

pub loop-op-preserved : goal.loop-op-preserved
loop-op-preserved g c =
    let script = c.args.script.now in
    let items = c.as_slice-op-items.result.now in
    let i = c.loop-op.op-index in
    let op = get_or items i (Load 0 0) in
    let at = c.loop-op.at in
    let answers = c.args.answers.now in
    let digits = c.as_bytes-digits.result.now in
    let old = c.loop-op.invariant in
    let n = c.in_ok-at.field-0 in
    let used : n ≡ asks op = c.in_ok-at.ensures.asks in
    let text : List ℕ → List ℕ = λ (left : List ℕ). lane_text (site_names script) (host_names script) c.args.site_tokens.now (text_at c.args.method_texts.now) (text_at c.args.slot_texts.now) digits c.args.lane.now.names (drop (i + 1) items) left in
    let line = op_text (site_names script) (host_names script) c.args.site_tokens.now (text_at c.args.method_texts.now) (text_at c.args.slot_texts.now) digits c.args.lane.now.names op (get_or answers at 0) in
    let carried = carries_line _ _ _ _ _ _ old.done old.carries c.add_line.new.page.items line c.in_ok-at.ensures.line in
    let turned = carries_more _ _ _ _ _ _ (old.done ++ line) carried _ _ c.turn.new.page.items [] c.in_ok-turn.ensures.carries in
    let here = text_here items i (Load 0 0) c.loop-op-test.true (site_names script) (host_names script) c.args.site_tokens.now (text_at c.args.method_texts.now) (text_at c.args.slot_texts.now) digits c.args.lane.now.names answers at in
    let next = answers_next items i (Load 0 0) c.loop-op-test.true (length c.args.method_texts.now) answers at old.answers in
    let said = answer_at items i (Load 0 0) c.loop-op-test.true (length c.args.method_texts.now) answers at old.answers in
    record {
      come =
          comes_next items i (Load 0 0) c.loop-op-test.true (length script.roots) (length script.sites) (length c.args.lane.now.names) (length c.args.slot_texts.now)
          script.hosts c.args.site_tokens.now c.args.lane.now.names old.come;
      answers = subst (λ k. AreAnswers (length c.args.method_texts.now) (drop (i + 1) items) (drop (at + k) answers)) (sym used) next;
      within = subst (λ k. at + k ≤ length answers) (sym used) (asks_within (length c.args.method_texts.now) op answers at old.within said);
      done = (old.done ++ line) ++ [];
      carries = turned;
      whole =
          ap (λ k. ((old.done ++ line) ++ []) ++ text (drop (at + k) answers)) used
          ∙ (ap (λ l. l ++ text (drop (at + asks op) answers)) (append-nil (old.done ++ line))
          ∙ (append_assoc old.done line (text (drop (at + asks op) answers)) ∙ (ap (λ l. old.done ++ l) (sym here) ∙ old.whole)));
      no_fault = c.in_ok-turn.ensures.no_fault ∙ old.no_fault;
    }

pub returns-in_err-at-clause-part : goal.returns-in_err-at-clause-part
returns-in_err-at-clause-part g c =
    let script = c.args.script.now in
    let text = lane_text (site_names script) (host_names script) c.args.site_tokens.now (text_at c.args.method_texts.now) (text_at c.args.slot_texts.now) in
    let names = c.args.lane.now.names in
    let answers = c.args.answers.now in
    let same : text c.as_bytes-digits.result.now names c.as_slice-op-items.result.now answers ≡ text (decimal c.args.number) names c.args.lane.now.ops answers =
    ap (λ digits. text digits names c.as_slice-op-items.result.now answers) (c.as_bytes-digits.ensures.value ∙ c.format.ensures.text)
    ∙ ap (λ ops. text (decimal c.args.number) names ops answers) c.as_slice-op-items.ensures in
    let front = front_at _ _ _ _ _ _ _ c.loop-op.invariant.carries _ (text (decimal c.args.number) names c.args.lane.now.ops answers) (c.loop-op.invariant.whole ∙ same) in
    at_memory _ _ c.from_residual.result c.from_residual.ensures.1 front

pub returns-in_err-turn-clause-part : goal.returns-in_err-turn-clause-part
returns-in_err-turn-clause-part g c =
    let script = c.args.script.now in
    let text = lane_text (site_names script) (host_names script) c.args.site_tokens.now (text_at c.args.method_texts.now) (text_at c.args.slot_texts.now) in
    let names = c.args.lane.now.names in
    let answers = c.args.answers.now in
    let items = c.as_slice-op-items.result.now in
    let digits = c.as_bytes-digits.result.now in
    let i = c.loop-op.op-index in
    let at = c.loop-op.at in
    let op = get_or items i (Load 0 0) in
    let line = op_text (site_names script) (host_names script) c.args.site_tokens.now (text_at c.args.method_texts.now) (text_at c.args.slot_texts.now) digits names op (get_or answers at 0) in
    let more = text digits names (drop (i + 1) items) (drop (at + asks op) answers) in
    let same : text digits names items answers ≡ text (decimal c.args.number) names c.args.lane.now.ops answers =
    ap (λ digits. text digits names items answers) (c.as_bytes-digits.ensures.value ∙ c.format.ensures.text)
    ∙ ap (λ ops. text (decimal c.args.number) names ops answers) c.as_slice-op-items.ensures in
    let here = text_here items i (Load 0 0) c.loop-op-test.true (site_names script) (host_names script) c.args.site_tokens.now (text_at c.args.method_texts.now) (text_at c.args.slot_texts.now) digits names answers at in
    let cut : CutShort (g.K.Sink.taken c.loop-op.sink) (g.K.Sink.taken c.turn.new.sink) (g.K.Sink.has_room c.loop-op.sink) (c.loop-op.page.items ++ line) =
    subst (λ page. CutShort (g.K.Sink.taken c.loop-op.sink) (g.K.Sink.taken c.turn.new.sink) (g.K.Sink.has_room c.loop-op.sink) page) c.in_ok-at.ensures.line c.in_err-turn.ensures.cut in
    let all : c.loop-op.invariant.done ++ (line ++ more) ≡ text (decimal c.args.number) names c.args.lane.now.ops answers =
    ap (λ l. c.loop-op.invariant.done ++ l) (sym here) ∙ (c.loop-op.invariant.whole ∙ same) in
    at_failed _ _ c.from_residual-in_err-turn.result c.from_residual-in_err-turn.ensures.1
    (cut_more _ _ _ _ _ _ c.loop-op.invariant.done c.loop-op.invariant.carries _ line more (text (decimal c.args.number) names c.args.lane.now.ops answers) cut all)

pub returns-clause-carries : goal.returns-clause-carries
returns-clause-carries g c =
    let script = c.args.script.now in
    let text = lane_text (site_names script) (host_names script) c.args.site_tokens.now (text_at c.args.method_texts.now) (text_at c.args.slot_texts.now) in
    let names = c.args.lane.now.names in
    let answers = c.args.answers.now in
    let items = c.as_slice-op-items.result.now in
    let digits = c.as_bytes-digits.result.now in
    let done = c.loop-op.invariant.done in
    let none : text digits names (drop c.loop-op.op-index items) (drop c.loop-op.at answers) ≡ [] =
    ap (λ left. text digits names left (drop c.loop-op.at answers)) (drop_all c.loop-op.op-index items c.loop-op-test.false) in
    let same : text digits names items answers ≡ text (decimal c.args.number) names c.args.lane.now.ops answers =
    ap (λ digits. text digits names items answers) (c.as_bytes-digits.ensures.value ∙ c.format.ensures.text)
    ∙ ap (λ ops. text (decimal c.args.number) names ops answers) c.as_slice-op-items.ensures in
    let all : done ≡ text (decimal c.args.number) names c.args.lane.now.ops answers =
    sym (append-nil done) ∙ (ap (λ l. done ++ l) (sym none) ∙ (c.loop-op.invariant.whole ∙ same)) in
    subst (λ said. Carries (g.K.Sink.taken c.args.sink.now) (g.K.Sink.taken c.loop-op.sink) (g.K.Sink.has_room c.args.sink.now) (g.K.Sink.has_room c.loop-op.sink) c.args.page.now.items c.loop-op.page.items said)
    all c.loop-op.invariant.carries
