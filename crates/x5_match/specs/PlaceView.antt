-- What the place of a part stands for.
use Rattle.x5_model.specs.Filters as model
use Rattle.x5_match.specs.declared.filter.PiecePlace.{PiecePlace}
use Rattle.x5_match.specs.declared.filter.PiecePlace.TheVariants.{Initial, Any, Last}

abbrev pub place_view : PiecePlace → model.PiecePlace
place_view Initial = model.Initial
place_view Any = model.Any
place_view Last = model.Last
