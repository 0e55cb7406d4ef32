use Rattle.std.proofs.Common.{◌≡◌, ◌<◌, ◌+◌, ◌-◌, [], ◌++◌, length, map, drop, get_or, decimal, sym, ap, subst, ◌∙◌, arith, append_assoc}
use Rattle.std.proofs.lemmas.List.{get_or-map, length-map}
use Rattle.vsd_lines.specs.Lines.{host_names, lane_text, lanes_text, site_names, text_at, text_of}
use Rattle.vsd_lines.proofs.AfterErrors.{at_failed, at_same}
use Rattle.vsd_lines.proofs.Lanes.{lane_next, lanes_done}
use Rattle.vsd_lines.proofs.Moves.{carries_more, cut_more, finished, front_more, unfinished}
use Rattle.vsd_lines.proofs.writing.write_lines.Goals as goal

pub loop-number-preserved : goal.loop-number-preserved
loop-number-preserved g c =
    let script = c.args.script.now in
    let methods = text_at c.args.method_texts.now in
    let slots = text_at c.args.slot_texts.now in
    let lanes = c.as_slice-lanes.result.now in
    let n = c.loop-number.number in
    let old = c.loop-number.invariant in
    let lane = c.index-lanes-number.result in
    let said = c.as_slice-said.result.now in
    let within : n < length c.args.answers.now = omega (arith, c.loop-number-test.true, ap length c.as_slice-lanes.ensures, c.requires.lanes_count, length-map c.args.answers.now (λ v. v.items)) in
    let says : said ≡ get_or (map (λ v. v.items) c.args.answers.now) n [] =
    c.as_slice-said.ensures.value
    ∙ (ap (λ v. v.items) c.index-answers-number.is ∙ sym (get_or-map (λ v. v.items) c.args.answers.now n c.index-answers-number.result [] within)) in
    let piece = lane_text (site_names script) (host_names script) c.args.site_tokens.now methods slots (decimal n) lane.names lane.ops said in
    record {
      done = old.done ++ piece;
      carries = carries_more _ _ _ _ _ _ old.done old.carries _ _ c.write_lane.new.page.items piece c.in_ok-write_lane.ensures.carries;
      whole =
          append_assoc old.done piece _
          ∙ lane_next (site_names script) (host_names script) c.args.site_tokens.now methods slots lanes (map (λ v. v.items) c.args.answers.now) n lane said old.done _ c.loop-number-test.true c.index-lanes-number.is says old.whole;
      no_fault = c.in_ok-write_lane.ensures.no_fault ∙ old.no_fault;
    }

pub returns-in_err-write_lane-clause-part : goal.returns-in_err-write_lane-clause-part
returns-in_err-write_lane-clause-part g c =
    let script = c.args.script.now in
    let methods = text_at c.args.method_texts.now in
    let slots = text_at c.args.slot_texts.now in
    let answers = map (λ v. v.items) c.args.answers.now in
    let lanes = c.as_slice-lanes.result.now in
    let n = c.loop-number.number in
    let old = c.loop-number.invariant in
    let lane = c.index-lanes-number.result in
    let said = c.as_slice-said.result.now in
    let within : n < length c.args.answers.now = omega (arith, c.loop-number-test.true, ap length c.as_slice-lanes.ensures, c.requires.lanes_count, length-map c.args.answers.now (λ v. v.items)) in
    let says : said ≡ get_or answers n [] =
    c.as_slice-said.ensures.value
    ∙ (ap (λ v. v.items) c.index-answers-number.is ∙ sym (get_or-map (λ v. v.items) c.args.answers.now n c.index-answers-number.result [] within)) in
    let piece = lane_text (site_names script) (host_names script) c.args.site_tokens.now methods slots (decimal n) lane.names lane.ops said in
    let more = lanes_text (site_names script) (host_names script) c.args.site_tokens.now methods slots (n + 1) (drop (n + 1) lanes) (drop (n + 1) answers) in
    let text = text_of script c.args.site_tokens.now methods slots answers in
    let all : old.done ++ (piece ++ more) ≡ text =
    lane_next (site_names script) (host_names script) c.args.site_tokens.now methods slots lanes answers n lane said old.done _ c.loop-number-test.true c.index-lanes-number.is says old.whole
    ∙ ap (λ l. lanes_text (site_names script) (host_names script) c.args.site_tokens.now methods slots 0 l answers) c.as_slice-lanes.ensures in
    at_same _ _ _ _ c.from_residual-in_err-write_lane.result c.in_err-write_lane.field-0.0 c.from_residual-in_err-write_lane.ensures.1
    (λ cut. cut_more _ _ _ _ _ _ old.done old.carries _ piece more text cut all)
    (λ front. front_more _ _ _ _ _ _ old.done old.carries _ piece more text front all)
    c.in_err-write_lane.ensures.part

pub returns-in_err-finish-clause-part : goal.returns-in_err-finish-clause-part
returns-in_err-finish-clause-part g c =
    let script = c.args.script.now in
    let methods = text_at c.args.method_texts.now in
    let slots = text_at c.args.slot_texts.now in
    let answers = map (λ v. v.items) c.args.answers.now in
    let old = c.loop-number.invariant in
    let all : old.done ≡ text_of script c.args.site_tokens.now methods slots answers =
    lanes_done (site_names script) (host_names script) c.args.site_tokens.now methods slots c.as_slice-lanes.result.now answers c.loop-number.number old.done _ c.loop-number-test.false old.whole
    ∙ ap (λ l. lanes_text (site_names script) (host_names script) c.args.site_tokens.now methods slots 0 l answers) c.as_slice-lanes.ensures in
    at_failed _ _ c.from_residual-in_err-finish.result c.from_residual-in_err-finish.ensures.1
    (unfinished _ _ _ _ _ _ _ _ old.carries c.in_err-finish.ensures.cut all)

pub returns-clause-room_left : goal.returns-clause-room_left
returns-clause-room_left g c = λ size room.
    let script = c.args.script.now in
    let methods = text_at c.args.method_texts.now in
    let slots = text_at c.args.slot_texts.now in
    let answers = map (λ v. v.items) c.args.answers.now in
    let old = c.loop-number.invariant in
    let all : old.done ≡ text_of script c.args.site_tokens.now methods slots answers =
    lanes_done (site_names script) (host_names script) c.args.site_tokens.now methods slots c.as_slice-lanes.result.now answers c.loop-number.number old.done _ c.loop-number-test.false old.whole
    ∙ ap (λ l. lanes_text (site_names script) (host_names script) c.args.site_tokens.now methods slots 0 l answers) c.as_slice-lanes.ensures in
    subst (λ said. g.K.Sink.has_room c.finish.new.sink (size - length said)) all
    (finished _ _ _ _ _ (g.K.Sink.has_room c.finish.new.sink) _ _ _ old.carries c.in_ok-finish.ensures.carries c.in_ok-finish.ensures.empty size room)
