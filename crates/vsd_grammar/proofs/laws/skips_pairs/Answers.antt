use Rattle.vsd_grammar.proofs.Pairs.{skip_sound, skip_complete}
use Rattle.vsd_grammar.proofs.laws.skips_pairs.Goals as goal

pub returns : goal.returns
returns c = λ stops i depth j. (skip_sound stops i depth j, skip_complete stops i depth j)
