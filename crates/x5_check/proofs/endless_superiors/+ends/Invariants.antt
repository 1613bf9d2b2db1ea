-- The recursion along the chain of superiors terminates: the hops that are left decrease with each superior.
use Rattle.x5_check.proofs.endless_superiors.+ends.Given as goal

abbrev pub decreases-ends : goal.decreases-ends
decreases-ends l = l.hops
