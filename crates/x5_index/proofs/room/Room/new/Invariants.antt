-- What is there and what is still to come are all terms.
use Rattle.std.proofs.Common.{◌≡◌, ◌++◌, drop}
use Rattle.std.specs.List.{flat_map}
use Rattle.x5_index.specs.Index.{terms_in}
use Rattle.x5_index.proofs.room.Room.new.Given as goal

abbrev pub invariant-loop-attribute : goal.invariant-loop-attribute
invariant-loop-attribute l =
    l.terms.items ++ flat_map terms_in (drop l.attribute-index l.attribute-items) ≡ flat_map terms_in l.attribute-items
