-- The answers are the lemmas.
use Rattle.x5_model_within.proofs.Files.{files_are_utf8}
use Rattle.x5_model_within.proofs.Scripts.{scripts_bounded}
use Rattle.x5_model_within.proofs.reading.Goals as goal

pub returns-clause-files : goal.returns-clause-files
returns-clause-files c = files_are_utf8

pub returns-clause-scripts : goal.returns-clause-scripts
returns-clause-scripts c = scripts_bounded
