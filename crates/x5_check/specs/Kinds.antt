-- Of which kind a reference is.
use Rattle.std.specs.Prelude.{Bool, true, false}
use Rattle.x5_model_tree.specs.Consistent.{FileReference, ToBelow, ToAnywhere}

abbrev pub is_anywhere : FileReference → Bool
is_anywhere (ToBelow k) = false
is_anywhere (ToAnywhere k) = true
