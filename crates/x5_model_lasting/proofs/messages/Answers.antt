-- What is found in journal lines is found still where lines are added: who was heard, asked in vain, cleared, passed or
-- taken, and what is lost or blocks a reference; a lemma for each.
use Rattle.x5_model_lasting.proofs.Lines.{heard_stays, some_line_stays, vain_stays, cleared_stays, passed_stays}
use Rattle.x5_model_lasting.proofs.Lines.{taken_stays, untried_stays, lost_stays, blocked_stays}
use Rattle.x5_model_lasting.proofs.messages.Goals as goal

pub returns-clause-heard : goal.returns-clause-heard
returns-clause-heard c = heard_stays

pub returns-clause-vain : goal.returns-clause-vain
returns-clause-vain c = vain_stays

pub returns-clause-cleared : goal.returns-clause-cleared
returns-clause-cleared c = cleared_stays

pub returns-clause-passed : goal.returns-clause-passed
returns-clause-passed c = passed_stays

pub returns-clause-taken : goal.returns-clause-taken
returns-clause-taken c = taken_stays

pub returns-clause-untried : goal.returns-clause-untried
returns-clause-untried c = untried_stays

pub returns-clause-lost : goal.returns-clause-lost
returns-clause-lost c = lost_stays

pub returns-clause-blocked : goal.returns-clause-blocked
returns-clause-blocked c = blocked_stays

pub returns-clause-line : goal.returns-clause-line
returns-clause-line c = some_line_stays
