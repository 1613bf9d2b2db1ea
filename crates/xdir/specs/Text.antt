-- What is printed of a world file or a script that isn't taken (docs/FORMATS.md, output).
use Rattle.std.specs.Prelude.{ℕ, List, [], ◌∷◌, codes}
use Rattle.std.specs.Fmt.{decimal}
use Rattle.std.specs.List.{concat}
use Rattle.x5_model_script.specs.Words as words
use Rattle.x5_model_world.specs.Reading.{Breach, BadShape, BadName, OverLimit, RepeatedAgent, UnknownAgent}

abbrev pub not_json_text : List ℕ
not_json_text = codes "refused world notJson\n"

-- the line of what is wrong in a world file, by its path
abbrev pub at_path_text : List ℕ → List ℕ → List ℕ
at_path_text word path = concat (codes "refused world " ∷ word ∷ codes " " ∷ path ∷ codes "\n" ∷ [])

abbrev pub refused_world_text : Breach → List ℕ
refused_world_text (BadShape path) = at_path_text (codes "badShape") path
refused_world_text (BadName path) = at_path_text (codes "badName") path
refused_world_text (OverLimit path limit) =
    concat (codes "refused world overLimit " ∷ path ∷ codes " " ∷ decimal limit ∷ codes "\n" ∷ [])
refused_world_text (RepeatedAgent path) = at_path_text (codes "repeatedAgent") path
refused_world_text (UnknownAgent path) = at_path_text (codes "unknownAgent") path

-- the line of a script's line with this number, by its fault
abbrev pub at_column_text : ℕ → List ℕ → ℕ → List ℕ
at_column_text number word column =
    concat (codes "refused line " ∷ decimal number ∷ codes " " ∷ word ∷ codes " " ∷ decimal column ∷ codes "\n" ∷ [])

abbrev pub refused_line_text : ℕ → words.Fault → List ℕ
refused_line_text number words.Long = concat (codes "refused line " ∷ decimal number ∷ codes " long\n" ∷ [])
refused_line_text number (words.BadWord column) = at_column_text number (codes "word") column
refused_line_text number (words.BadName column) = at_column_text number (codes "name") column
refused_line_text number (words.BadFilter column) = at_column_text number (codes "filter") column
refused_line_text number (words.BadHex column) = at_column_text number (codes "hex") column
