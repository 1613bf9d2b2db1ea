-- The place that a number says.
use Rattle.std.specs.Prelude.{ℕ, pos}
use Rattle.x5_model_typed.specs.Nodes.{Node, Number}

abbrev pub place_of : Node → ℕ
place_of (Number (pos k)) = k
place_of n = 1
