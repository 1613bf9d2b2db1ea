-- The recursion along the chain of suppliers terminates: the hops that are left decrease with each supplier.
use Rattle.x5_check.proofs.false_agreement.+is_supplied_within.Given as goal

abbrev pub decreases-is_supplied_within : goal.decreases-is_supplied_within
decreases-is_supplied_within l = l.hops
