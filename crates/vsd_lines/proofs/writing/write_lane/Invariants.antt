use Rattle.std.proofs.Common.{◌≡◌, ◌≤◌, ℕ, List, ◌++◌, length, drop}
use Rattle.vsd_lines.specs.Lines.{AreAnswers, host_names, lane_text, site_names, text_at}
use Rattle.vsd_lines.specs.Moving.{Carries}
use Rattle.vsd_lines.proofs.Lanes.{MayCome}
use Rattle.vsd_lines.proofs.writing.write_lane.Given as goal

abbrev pub invariant-loop-op : goal.invariant-loop-op
invariant-loop-op g l = record {
  come : MayCome (length l.script.roots) (length l.script.sites) (length l.script.hosts) (length l.lane.names) (drop l.op-index l.op-items);
  answers : AreAnswers (length l.method_texts) (drop l.op-index l.op-items) (drop l.at l.answers);
  within : l.at ≤ length l.answers;
  done : List ℕ;
  carries : Carries (g.K.Sink.taken l.initial.sink) (g.K.Sink.taken l.sink) (g.K.Sink.has_room l.initial.sink) (g.K.Sink.has_room l.sink) l.initial.page.items l.page.items done;
  whole : done ++ lane_text (site_names l.script) (host_names l.script) l.site_tokens (text_at l.method_texts) (text_at l.slot_texts) l.digits l.lane.names (drop l.op-index l.op-items) (drop l.at l.answers)
      ≡ lane_text (site_names l.script) (host_names l.script) l.site_tokens (text_at l.method_texts) (text_at l.slot_texts) l.digits l.lane.names l.op-items l.answers;
  no_fault : g.K.Sink.faults l.sink ≡ g.K.Sink.faults l.initial.sink;
}
