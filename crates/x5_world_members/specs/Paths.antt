-- The path of a place in a file.
use Rattle.std.specs.Prelude.{[]}
use Rattle.x5_model.specs.Values.{Text}
use Rattle.x5_model_world.specs.Reading.{at, nth}
use Rattle.x5_world_members.specs.declared.place.Place.{Place, Whole, Member', Item'}

abbrev pub path_of : Place → Text
path_of Whole = []
path_of (Member' p object name) = at (path_of object) name.now
path_of (Item' p list place) = nth (path_of list) place
