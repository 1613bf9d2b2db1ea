-- Each clause is its theorem.
use Rattle.x5_refresh.proofs.Stages.{blocks_are_courses}
use Rattle.x5_refresh.proofs.Sources.{supplies_are_facts}
use Rattle.x5_refresh.proofs.courses.coursing.Goals as goal

pub returns-clause-blocks : goal.returns-clause-blocks
returns-clause-blocks c = blocks_are_courses

pub returns-clause-supplies : goal.returns-clause-supplies
returns-clause-supplies c = supplies_are_facts
