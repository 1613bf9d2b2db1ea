-- What an attribute type stands for.
use Rattle.std.specs.Prelude.{ℕ, Option, None, Some}
use Rattle.x5_model.specs.Values as model
use Rattle.x5_syntax.specs.declared.kinds.TypeRef.{TypeRef}
use Rattle.x5_syntax.specs.declared.kinds.TypeRef.TheVariants.{Known, Unknown}

abbrev pub type_view : TypeRef → model.TypeRef
type_view (Known number) = model.Known number
type_view (Unknown arcs) = model.Unknown arcs

-- the number of a type of the table
abbrev pub number_of : model.TypeRef → Option ℕ
number_of (model.Known number) = Some number
number_of (model.Unknown arcs) = None
