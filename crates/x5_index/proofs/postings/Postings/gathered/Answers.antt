-- What is in order is there once.
use Rattle.x5_index.proofs.Gathering.{once_ascending}
use Rattle.x5_index.proofs.postings.Postings.gathered.Goals as goal

pub of-requires : goal.of-requires
of-requires c = once_ascending c.self.inside.postings.items c.self.invariant
