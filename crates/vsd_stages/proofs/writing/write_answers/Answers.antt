use Rattle.vsd_stages.specs.Settling.{bytes_of}
use Rattle.vsd_stages.proofs.writing.write_answers.Goals as goal

pub returns-clause-part : goal.returns-clause-part
unfolding bytes_of
returns-clause-part g c =
    rw (c.deref.ensures.value, c.deref-2.ensures.value, c.deref-3.ensures.value, c.deref-4.ensures.value) at c.write_lines.ensures.part
