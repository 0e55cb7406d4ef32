use Rattle.std.proofs.Common.{refl}
use Rattle.vsd_grammar.specs.Words.{keyword_of, words}
use Rattle.vsd_grammar.proofs.Keys.{own_words}
use Rattle.vsd_grammar.proofs.laws.words_have_keys.Goals as goal

pub returns-clause-each : goal.returns-clause-each
unfolding keyword_of words
returns-clause-each c = refl

pub returns-clause-own : goal.returns-clause-own
returns-clause-own c = own_words
