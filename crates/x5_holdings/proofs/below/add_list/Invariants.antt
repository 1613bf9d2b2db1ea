-- So far there are the rows and the places of the references before.
use Rattle.std.proofs.Common.{◌≡◌, List, ◌++◌, map, take}
use Rattle.x5_model.specs.Keys.{Key}
use Rattle.x5_model.specs.Values.{key_of}
use Rattle.x5_holdings.specs.Rows.{numbered}
use Rattle.x5_holdings.specs.Spots.{spots_from}
use Rattle.x5_holdings.proofs.below.add_list.Given as goal

abbrev pub invariant-loop-member : goal.invariant-loop-member
invariant-loop-member l = record {
  rows : (keys : List Key) → l.fn.rows.items ≡ numbered keys → l.rows.items ≡ numbered
      (keys ++ map (λ k. key_of k.pin) (take l.member l.references));
  spots : l.spots.items ≡ l.fn.spots.items ++ spots_from l.list 0 (take l.member l.references);
}
