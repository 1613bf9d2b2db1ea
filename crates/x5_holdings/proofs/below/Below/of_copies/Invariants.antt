-- So far there are the rows and the places of the references of the members before.
use Rattle.std.proofs.Common.{◌≡◌, map, take}
use Rattle.x5_holdings.specs.Rows.{numbered}
use Rattle.x5_holdings.specs.Spots.{spots_in, pins_in}
use Rattle.x5_holdings.specs.State.{brought_references}
use Rattle.x5_holdings.proofs.below.Below.of_copies.Given as goal

abbrev pub invariant-loop-list : goal.invariant-loop-list
invariant-loop-list l = record {
  rows : l.rows.items ≡ numbered (pins_in (map (λ c. brought_references c.refreshed) (take l.list l.copies)));
  spots : l.spots.items ≡ spots_in 0 (map (λ c. brought_references c.refreshed) (take l.list l.copies));
}
