-- The index is the tree's.
use Rattle.x5_holdings.proofs.held.begun.Goals as goal

pub returns-clause-posted : goal.returns-clause-posted
returns-clause-posted c = c.in_ok-tree.ensures.posted
