-- The answers: each clause is a lemma.
use Rattle.x5_model_typed_laws.proofs.Back.{fits_is_written, written_is_spelled, written_reads_back, one_is_written}
use Rattle.x5_model_typed_laws.proofs.written_reads_back.Goals as goal

pub returns-clause-written : goal.returns-clause-written
returns-clause-written c = fits_is_written

pub returns-clause-spelled : goal.returns-clause-spelled
returns-clause-spelled c = written_is_spelled

pub returns-clause-back : goal.returns-clause-back
returns-clause-back c = written_reads_back

pub returns-clause-one : goal.returns-clause-one
returns-clause-one c = one_is_written
