-- What stands behind a first part: an arc behind another, a pair behind another.
use Rattle.std.specs.Prelude.{ℕ, List, ◌∷◌}
use Rattle.std.specs.Fmt.{decimal}
use Rattle.x5_model.specs.Values.{Text}
use Rattle.x5_model_text.specs.TypeText.{dot}
use Rattle.x5_model_text.specs.NameText.{plus, text_of_pair}

abbrev pub dot_and_arc : ℕ → Text
dot_and_arc n = dot ∷ decimal n

abbrev pub plus_and_pair : ℕ × Text → Text
plus_and_pair p = plus ∷ text_of_pair p
