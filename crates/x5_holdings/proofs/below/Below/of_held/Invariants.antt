-- So far there are the rows and the places of the references of the members before.
use Rattle.std.proofs.Common.{◌≡◌, map, take}
use Rattle.x5_holdings.specs.Rows.{numbered}
use Rattle.x5_holdings.specs.Spots.{spots_in, pins_in}
use Rattle.x5_holdings.proofs.below.Below.of_held.Given as goal

abbrev pub invariant-loop-list : goal.invariant-loop-list
invariant-loop-list l = record {
  rows : l.rows.items ≡ numbered (pins_in (map (λ c. c.subordinate) (take l.list l.contexts)));
  spots : l.spots.items ≡ spots_in 0 (map (λ c. c.subordinate) (take l.list l.contexts));
}
