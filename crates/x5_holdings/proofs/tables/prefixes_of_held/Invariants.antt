-- So far there are the rows of the members before.
use Rattle.std.proofs.Common.{◌≡◌, map, take}
use Rattle.x5_model.specs.Values.{key_of}
use Rattle.x5_holdings.specs.Rows.{numbered}
use Rattle.x5_holdings.proofs.tables.prefixes_of_held.Given as goal

abbrev pub invariant-loop-held : goal.invariant-loop-held
invariant-loop-held l = l.rows.items ≡ numbered (map (λ k. key_of k.prefix) (take l.held-index l.contexts))
