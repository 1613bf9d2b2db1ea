-- So far there are the rows of the members before.
use Rattle.std.proofs.Common.{◌≡◌, map, take}
use Rattle.x5_model.specs.Values.{key_of}
use Rattle.x5_holdings.specs.Rows.{numbered}
use Rattle.x5_holdings.proofs.pins.entries_of_nssrs.Given as goal

abbrev pub invariant-loop-nssr : goal.invariant-loop-nssr
invariant-loop-nssr l = l.rows.items ≡ numbered (map (λ k. key_of k.at) (take l.nssr-index l.nssrs))
