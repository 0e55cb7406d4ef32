use Rattle.vsd_lines.specs.Lines.{host_names, site_names}
use Rattle.vsd_lines.proofs.Agreeing.{same_lanes}
use Rattle.vsd_lines.proofs.laws.text_law.Goals as goal

pub returns : goal.returns
returns c = λ script tokens method other_method slot other_slot answers same.
    same_lanes (site_names script) (host_names script) tokens method other_method slot other_slot 0 script.lanes answers same
