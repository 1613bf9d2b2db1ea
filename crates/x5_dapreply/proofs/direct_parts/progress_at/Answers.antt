-- The octets that stand first say the phase.
use Rattle.x5_dapreply.proofs.LeafSpelling.{start_at, done_at}
use Rattle.x5_dapreply.proofs.direct_parts.progress_at.Goals as goal

pub returns-in-Some : goal.returns-in-Some
returns-in-Some c = start_at c.args.octets.now c.in-Some.rest.now c.in-Some.ensures

pub returns-in-Some-after : goal.returns-in-Some-after
returns-in-Some-after c = done_at c.args.octets.now c.in-Some-after.rest.now c.in-Some-after.ensures
