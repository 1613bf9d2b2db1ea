-- Each clause is its theorem.
use Rattle.x5_model_shadowing.proofs.Around.{world_is_around}
use Rattle.x5_model_shadowing.proofs.Files.{files_have_utf8}
use Rattle.x5_model_shadowing.proofs.worlds_are_around.Goals as goal

pub returns-clause-around : goal.returns-clause-around
returns-clause-around c = world_is_around

pub returns-clause-files : goal.returns-clause-files
returns-clause-files c = files_have_utf8
