-- The place found so far, if any, is that of the first context whose prefix is a prefix of the entry's name, longer
-- than its own context's prefix, and of no more RDNs than were tried.
use Rattle.x5_model_tree.specs.Masters.{mastered}
use Rattle.x5_check.specs.Parts.{IsPlace, is_longer_within}
use Rattle.x5_check.proofs.longer_pin.first_longer.Given as goal

abbrev pub invariant-loop-count : goal.invariant-loop-count
invariant-loop-count l =
    IsPlace (is_longer_within l.count l.context l.entry) (mastered l.known) l.found
