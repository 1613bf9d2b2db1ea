-- What the code's truth stands for.
use Rattle.x5_model.specs.Truth as model
use Rattle.x5_match.specs.declared.truth.Truth.{Truth}
use Rattle.x5_match.specs.declared.truth.Truth.TheVariants.{False, Undefined, True}

abbrev pub truth_view : Truth → model.Truth
truth_view False = model.False
truth_view Undefined = model.Undefined
truth_view True = model.True
