-- A copy of an entry is equal to it.
use Rattle.std.proofs.Common.{◌∙◌}
use Rattle.x5_dispber.proofs.written.copies.Goals as goal

pub returns : goal.returns
returns c = c.from_vec.ensures ∙ c.in_ok-from_clones.ensures.items_if_clones_equal (λ x y e. e)
