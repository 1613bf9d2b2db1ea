-- So far there are the rows of the members before.
use Rattle.std.proofs.Common.{◌≡◌, map, take}
use Rattle.x5_model.specs.Values.{key_of}
use Rattle.x5_holdings.specs.Rows.{numbered}
use Rattle.x5_holdings.proofs.pins.pins_of_references.Given as goal

abbrev pub invariant-loop-reference : goal.invariant-loop-reference
invariant-loop-reference l = l.rows.items ≡ numbered (map (λ k. key_of k.pin) (take l.reference-index l.references))
