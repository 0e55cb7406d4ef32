use Rattle.vsd_grammar.proofs.Deciding.{decides_name, decides_numbered_name, decides_plain_words, decides_spelled_number, decides_skip}
use Rattle.vsd_grammar.proofs.laws.names_are_decided.Goals as goal

pub returns-clause-names : goal.returns-clause-names
returns-clause-names c = decides_name

pub returns-clause-numbered : goal.returns-clause-numbered
returns-clause-numbered c = decides_numbered_name

pub returns-clause-words : goal.returns-clause-words
returns-clause-words c = decides_plain_words

pub returns-clause-numbers : goal.returns-clause-numbers
returns-clause-numbers c = decides_spelled_number

pub returns-clause-skipped : goal.returns-clause-skipped
returns-clause-skipped c = decides_skip
