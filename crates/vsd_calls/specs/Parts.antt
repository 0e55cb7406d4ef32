-- A call from its look at the bucket on.
use Rattle.std.specs.Prelude.{ℕ, Option, Result}
use Rattle.vsd_words.specs.declared.handle.Handle.{Handle}
use Rattle.vsd_words.specs.declared.cell_word.CellWord.{CellWord}
use Rattle.vsd_rule.specs.declared.key.Key.{Key}
use Rattle.vsd_rule.specs.Lists.{site_token}
use Rattle.vsd_trails.specs.declared.answers.Answer.{Answer}
use Rattle.vsd_trails.specs.declared.answers.Unloaded.{Unloaded}
use Rattle.vsd_trails.specs.Programs.{Program, bind}
use Rattle.vsd_trails.specs.CallTrails.{finding, resolving_by}

abbrev pub resolving : Key → ℕ → Handle → CellWord → Option Handle → Program (Result Answer Unloaded)
resolving k site h cell expected = bind (finding k (site_token k site) h) (resolving_by k site h cell expected)
