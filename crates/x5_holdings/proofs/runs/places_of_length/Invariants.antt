-- What was found so far, and what is to be found of the rest.
use Rattle.std.proofs.Common.{length, ◌-◌, ◌≡◌, ◌≤◌, ◌++◌, drop}
use Rattle.x5_holdings.specs.Runs.{long_places}
use Rattle.x5_holdings.proofs.runs.places_of_length.Given as goal

abbrev pub invariant-loop-next : goal.invariant-loop-next
invariant-loop-next l = (l.next ≤ length l.rows) ×
    (l.places.items ++ long_places l.count (drop l.next l.rows) ≡ long_places l.count l.rows)

abbrev pub decreases-loop-next : goal.decreases-loop-next
decreases-loop-next l = length l.rows - l.next
