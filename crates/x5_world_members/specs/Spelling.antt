-- Names that are the same, spelling and all.
use Rattle.std.specs.Prelude.{Bool, ◌&&◌, not}
use Rattle.x5_model.specs.Values.{Name, name_above}
use Rattle.x5_model.specs.Words.{is_empty}
use Rattle.x5_model_tree.specs.Described.{same_spelling}

-- what stands above the name's last RDN is spelled as the other name is
abbrev pub is_spelled_above : Name → Name → Bool
is_spelled_above above n = not (is_empty n) && same_spelling above (name_above n)
