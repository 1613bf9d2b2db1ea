use Rattle.x5_model_pages.proofs.pages_are_cut.Goals as goal
use Rattle.x5_model_pages.proofs.Cut.{pages_are_a_prefix, pages_are_all}

pub returns-clause-prefix : goal.returns-clause-prefix
returns-clause-prefix c = pages_are_a_prefix

pub returns-clause-whole : goal.returns-clause-whole
returns-clause-whole c = pages_are_all
