-- What the first probe of a look makes of the look.
use Rattle.std.specs.Prelude.{[], ◌∷◌}
use Rattle.vsd_words.specs.declared.handle.Handle.{Handle}
use Rattle.vsd_table.specs.declared.seated.Seated.{Seated}
use Rattle.vsd_trails.specs.declared.casting.Find.TheVariants as find
use Rattle.vsd_trails.specs.CastTrails.{probing, finding_cast}
use Rattle.vsd_rows.specs.Makes.{Makes, Leads}
use Rattle.vsd_ccache.specs.declared.finding.First.{First}
use Rattle.vsd_ccache.specs.declared.finding.First.TheVariants as first

-- at a hit the look is whole; after a miss it is, once the other seven rows are probed
abbrev pub BeginsLook : Seated → Seated → Handle → Handle → First → Type 0
BeginsLook old new source target (first.Hit answer) = Makes old new (finding_cast source target) (find.Hit answer)
BeginsLook old new source target (first.Miss m) = Leads old (finding_cast source target) new (probing source target m.region m.home 7 1 (m.version ∷ []))
