use Rattle.std.proofs.Common.{◌≡◌, ℕ, List, [], ◌++◌, map, drop}
use Rattle.vsd_lines.specs.Lines.{host_names, lanes_text, site_names, text_at}
use Rattle.vsd_lines.specs.Moving.{Carries}
use Rattle.vsd_lines.proofs.writing.write_lines.Given as goal

abbrev pub invariant-loop-number : goal.invariant-loop-number
invariant-loop-number g l = record {
  done : List ℕ;
  carries : Carries (g.K.Sink.taken l.initial.sink) (g.K.Sink.taken l.sink) (g.K.Sink.has_room l.initial.sink) (g.K.Sink.has_room l.sink) [] l.page.items done;
  whole : done ++ lanes_text (site_names l.script) (host_names l.script) l.site_tokens (text_at l.method_texts) (text_at l.slot_texts) l.number (drop l.number l.lanes) (drop l.number (map (λ lane. lane.items) l.answers))
      ≡ lanes_text (site_names l.script) (host_names l.script) l.site_tokens (text_at l.method_texts) (text_at l.slot_texts) 0 l.lanes (map (λ lane. lane.items) l.answers);
  no_fault : g.K.Sink.faults l.sink ≡ g.K.Sink.faults l.initial.sink;
}
