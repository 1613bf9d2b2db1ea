-- Each message in the journal of a request is placed, beginning with the user's own, names keep within a given number
-- of RDNs, and so no trace is long.
use Rattle.x5_model_theory.proofs.Carrying.{journals_are_placed, opening_is_placed, names_stay_within}
use Rattle.x5_model_theory.proofs.Carrying.{no_journal_is_long}
use Rattle.x5_model_theory.proofs.journeys.Goals as goal

pub returns-clause-placed : goal.returns-clause-placed
returns-clause-placed c = journals_are_placed

pub returns-clause-opening : goal.returns-clause-opening
returns-clause-opening c = opening_is_placed

pub returns-clause-within : goal.returns-clause-within
returns-clause-within c = names_stay_within

pub returns-clause-short : goal.returns-clause-short
returns-clause-short c = no_journal_is_long
