-- A script: what each of its lines asks for, or its first line that is refused (docs/FORMATS.md, script). The grammar
-- is this project's own.
use Rattle.std.specs.Prelude.{ℕ, ◌+◌, Bool, false, not, ◌&&◌, ◌==◌, nat_lt, if◌then◌else◌, List, [], ◌∷◌, Result, Ok}
use Rattle.std.specs.Prelude.{Err}
use Rattle.std.specs.List.{slice_split}
use Rattle.x5_model.specs.Values.{Text}
use Rattle.x5_model_run.specs.Run.{Blank, Asks, Changes, Drops, Updates, Hands}
use Rattle.x5_model_script.specs.Words.{Fault, Long, ◌>>=◌}
use Rattle.x5_model_script.specs.Lines.{Asked, Runs, Delivers, line_of}
use Rattle.x5_model_tree.specs.Described.{most_lost_replies}

abbrev pub most_lines : ℕ
most_lines = 100000

-- a line ends at a line feed or at the end of the file; a last line feed begins no line
abbrev pub is_line_feed : ℕ → Bool
is_line_feed b = b == 10

abbrev pub without_last_empty : List Text → List Text
without_last_empty [] = []
without_last_empty ([] ∷ []) = []
without_last_empty ((b ∷ bs) ∷ []) = (b ∷ bs) ∷ []
without_last_empty (line ∷ next ∷ lines) = line ∷ without_last_empty (next ∷ lines)

abbrev pub lines_of : Text → List Text
lines_of octets = without_last_empty (slice_split is_line_feed octets)

-- a line behind so many others; one line too many is as one that is too long, whatever it holds
abbrev pub line_at : List Text → ℕ → Text → Result Asked Fault
line_at names before line = if nat_lt before most_lines then line_of names line else Err Long

-- a reply is to be lost
abbrev pub loses_reply : Asked → Bool
loses_reply (Runs (Drops reply number)) = reply
loses_reply (Runs Blank) = false
loses_reply (Runs (Asks to request)) = false
loses_reply (Runs (Changes outage)) = false
loses_reply (Runs (Updates number pushes total)) = false
loses_reply (Runs (Hands via to count brings)) = false
loses_reply (Delivers dsp to octets) = false

-- what is asked for behind so many lost replies; one too many is as a line that is too long
abbrev pub within_losses : ℕ → Asked → Result Asked Fault
within_losses lost asked = if loses_reply asked && not (nat_lt lost most_lost_replies) then Err Long else Ok asked

abbrev pub line_behind : List Text → ℕ → ℕ → Text → Result Asked Fault
line_behind names before lost line = line_at names before line >>= within_losses lost

-- the lost replies with those of what is asked for
abbrev pub lost_with : ℕ → Asked → ℕ
lost_with lost asked = if loses_reply asked then lost + 1 else lost

abbrev pub lost_behind : ℕ → Result Asked Fault → ℕ
lost_behind lost (Ok asked) = lost_with lost asked
lost_behind lost (Err fault) = lost

-- what a line asks for and the lines behind it do, or the first fault with the number of its line
abbrev pub with_others : ℕ → Result Asked Fault → Result (List Asked) (ℕ × Fault) → Result (List Asked) (ℕ × Fault)
with_others number (Err fault) others = Err (number, fault)
with_others number (Ok asked) (Ok more) = Ok (asked ∷ more)
with_others number (Ok asked) (Err fault) = Err fault

-- lines behind so many others and so many lost replies
abbrev pub lines_from : List Text → ℕ → ℕ → List Text → Result (List Asked) (ℕ × Fault)
lines_from names before lost [] = Ok []
lines_from names before lost (line ∷ lines) =
    with_others (before + 1) (line_behind names before lost line)
    (lines_from names (before + 1) (lost_behind lost (line_behind names before lost line)) lines)

-- what the lines ask for, in their order; or the number of the first that is refused, from 1, and its fault. The world
-- loses so many replies by itself.
abbrev pub script_of : List Text → ℕ → Text → Result (List Asked) (ℕ × Fault)
script_of names lost octets = lines_from names 0 lost (lines_of octets)
