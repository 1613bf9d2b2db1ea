-- So far there are the rows of the members before.
use Rattle.std.proofs.Common.{◌≡◌, map, take}
use Rattle.x5_model.specs.Values.{key_of}
use Rattle.x5_holdings.specs.Rows.{numbered}
use Rattle.x5_holdings.proofs.tables.prefixes_of_copies.Given as goal

abbrev pub invariant-loop-copy : goal.invariant-loop-copy
invariant-loop-copy l = l.rows.items ≡ numbered (map (λ k. key_of k.prefix) (take l.copy-index l.copies))
