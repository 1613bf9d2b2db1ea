-- An agent holds each context that it masters with its part of the tree, and the order of its entries is nothing to
-- what it refuses or accepts.
use Rattle.x5_model_updates.proofs.Sorting.{holds_its_contexts, own_ground_held, order_refuses, order_accepts}
use Rattle.x5_model_updates.proofs.own_grounds.Goals as goal

pub returns-clause-holds : goal.returns-clause-holds
returns-clause-holds c = holds_its_contexts

pub returns-clause-ground : goal.returns-clause-ground
returns-clause-ground c = own_ground_held

pub returns-clause-refuses : goal.returns-clause-refuses
returns-clause-refuses c = order_refuses

pub returns-clause-accepts : goal.returns-clause-accepts
returns-clause-accepts c = order_accepts
