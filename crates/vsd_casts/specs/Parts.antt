-- The part of a cast that follows a first probe that missed, and what it asks of the pair.
use Rattle.std.specs.Prelude.{◌<◌, [], ◌∷◌, Result}
use Rattle.vsd_words.specs.declared.handle.Handle.{Handle}
use Rattle.vsd_words.specs.Handle.{HandleInRange}
use Rattle.vsd_rule.specs.declared.key.Key.{Key}
use Rattle.vsd_rule.specs.Layout.{handle_rows}
use Rattle.vsd_table.specs.declared.seated.Seated.{Seated}
use Rattle.vsd_trails.specs.declared.answers.CastAnswer.{CastAnswer}
use Rattle.vsd_trails.specs.declared.answers.Unloaded.{Unloaded}
use Rattle.vsd_trails.specs.declared.casting.Find.{Find}
use Rattle.vsd_trails.specs.CastTrails.{probing, casting_by}
use Rattle.vsd_rows.specs.Makes.{Makes}
use Rattle.vsd_ccache.specs.declared.finding.FirstMiss.{FirstMiss}

-- two handles of the table's rows, of which each names something
pub record ArePair (k : Key) (source target : Handle) : Type 0 where
  pub source_in_range : HandleInRange source
  pub source_row : source.row < handle_rows k.sizes
  pub some_source : 0 < source.generation
  pub target_in_range : HandleInRange target
  pub target_row : target.row < handle_rows k.sizes
  pub some_target : 0 < target.generation

-- the other probes were made, and then what a cast makes of what they found
pub record EndsLook (old new : Seated) (k : Key) (source target : Handle) (m : FirstMiss) (answer : Result CastAnswer Unloaded) : Type 0 where
  pub now : Seated
  pub found : Find
  pub looks : Makes old now (probing source target m.region m.home 7 1 (m.version ∷ [])) found
  pub goes : Makes now new (casting_by k source target found) answer
