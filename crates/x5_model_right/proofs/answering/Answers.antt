-- A read or compare answered from a context of the agent's own is right, by the lemma on what its entries tell; so is
-- one from a copy, by the lemma on what the copy's one source tells.
use Rattle.x5_model_right.proofs.Copying.{reads_copy_right}
use Rattle.x5_model_right.proofs.Reading.{reads_right}
use Rattle.x5_model_right.proofs.answering.Goals as goal

pub returns-clause-own : goal.returns-clause-own
returns-clause-own c = reads_right

pub returns-clause-copied : goal.returns-clause-copied
returns-clause-copied c = reads_copy_right
