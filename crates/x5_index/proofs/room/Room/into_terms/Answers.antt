-- What stands in order is there once.
use Rattle.x5_index.proofs.Terms.{once_in_order}
use Rattle.x5_index.proofs.room.Room.into_terms.Goals as goal

pub returns-clause-once : goal.returns-clause-once
returns-clause-once c = once_in_order c.self.inside.terms.items c.self.invariant
