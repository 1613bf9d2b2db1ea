-- While the parts of a substrings item are brought to normal form: adding the pieces that are left to the parts so far
-- gives the parts of all pieces, or nothing where a piece isn't of the kind.
use Rattle.std.proofs.Common.{◌≡◌, drop}
use Rattle.x5_model.specs.Assertions.{parts_behind, parts_of}
use Rattle.x5_model.specs.Types.{kind_of}
use Rattle.x5_match.proofs.filter.parts_from.Given as goal

abbrev pub invariant-loop-piece : goal.invariant-loop-piece
invariant-loop-piece l = parts_behind (kind_of l.kind) l.parts (drop l.piece-index l.pieces) ≡ parts_of (kind_of l.kind) l.pieces
