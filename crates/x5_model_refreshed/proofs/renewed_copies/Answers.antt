-- Each clause is its theorem.
use Rattle.x5_model_refreshed.proofs.Placing.{own_are_mastered, copies_are_consumed, consumers_have_copies, copies_have_places}
use Rattle.x5_model_refreshed.proofs.Renewal.{copy_is_renewed, other_copies_stay, consumer_is_renewed, others_hold_on}
use Rattle.x5_model_refreshed.proofs.renewed_copies.Goals as goal

pub returns-clause-own : goal.returns-clause-own
returns-clause-own c = own_are_mastered

pub returns-clause-copies : goal.returns-clause-copies
returns-clause-copies c = copies_are_consumed

pub returns-clause-have : goal.returns-clause-have
returns-clause-have c = consumers_have_copies

pub returns-clause-places : goal.returns-clause-places
returns-clause-places c = copies_have_places

pub returns-clause-copy : goal.returns-clause-copy
returns-clause-copy c = copy_is_renewed

pub returns-clause-stay : goal.returns-clause-stay
returns-clause-stay c = other_copies_stay

pub returns-clause-consumer : goal.returns-clause-consumer
returns-clause-consumer c = consumer_is_renewed

pub returns-clause-others : goal.returns-clause-others
returns-clause-others c = others_hold_on
