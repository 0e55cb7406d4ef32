use Rattle.vsd_trails.proofs.Words.{handle_read, cell_read, handle_word_read, cast_read, bucket_read}
use Rattle.vsd_trails.proofs.laws.reads_back.Goals as goal

pub returns-clause-handle : goal.returns-clause-handle
returns-clause-handle c = handle_read

pub returns-clause-cell : goal.returns-clause-cell
returns-clause-cell c = cell_read

pub returns-clause-handle_word : goal.returns-clause-handle_word
returns-clause-handle_word c = handle_word_read

pub returns-clause-cast : goal.returns-clause-cast
returns-clause-cast c = cast_read

pub returns-clause-bucket : goal.returns-clause-bucket
returns-clause-bucket c = bucket_read
