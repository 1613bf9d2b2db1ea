-- The answer to the goal that the tactics leave.
use Rattle.x5_model_tree.proofs.Stored.{reference_stored}
use Rattle.x5_model_tree.proofs.described_names_are_stored.Goals as goal

pub returns-clause-references : goal.returns-clause-references
returns-clause-references c = reference_stored
