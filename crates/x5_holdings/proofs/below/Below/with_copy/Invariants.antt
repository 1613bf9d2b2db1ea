-- So far there are the rows and the places of the references of the members before, where the replaced one has its new ones.
use Rattle.std.proofs.Common.{◌≡◌, map, take, slice_set}
use Rattle.x5_holdings.specs.Rows.{numbered}
use Rattle.x5_holdings.specs.Spots.{spots_in, pins_in}
use Rattle.x5_holdings.specs.State.{brought_references}
use Rattle.x5_holdings.proofs.below.Below.with_copy.Given as goal

abbrev pub invariant-loop-list : goal.invariant-loop-list
invariant-loop-list l = record {
  rows : l.rows.items ≡ numbered (pins_in (map (λ x. x) (take l.list
      (slice_set (map (λ c. brought_references c.refreshed) l.copies) l.place l.references))));
  spots : l.spots.items ≡ spots_in 0 (map (λ x. x) (take l.list
      (slice_set (map (λ c. brought_references c.refreshed) l.copies) l.place l.references)));
}
