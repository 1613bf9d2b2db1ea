-- While the parts are found one after another: whether the parts that are left stand in order in the text that is left
-- is whether all parts stand in order in the whole text.
use Rattle.std.proofs.Common.{◌≡◌, drop}
use Rattle.x5_model.specs.Truth.{in_order}
use Rattle.x5_match.proofs.matching.are_in_order.Given as goal

abbrev pub invariant-loop-part : goal.invariant-loop-part
invariant-loop-part l = in_order (drop l.part-index l.parts) l.last l.rest ≡ in_order l.parts l.last l.text
