-- Worlds that files describe (docs/FORMATS.md, world file): their texts are UTF-8, since reading takes no others.
use Rattle.std.specs.Prelude.{◌≡◌, true, Ok}
use Rattle.serde_json.specs.Data.{Data}
use Rattle.x5_model_world.specs.WorldFile.{File, file_of}
use Rattle.x5_model_limits.specs.Described.{world_is_utf8}

-- 6. So all that is proved of worlds within the limits holds of whatever is read from a file.
abbrev pub FilesAreUtf8 : Type 0
FilesAreUtf8 = (d : Data) (f : File) → file_of d ≡ Ok f → world_is_utf8 f.world ≡ true
