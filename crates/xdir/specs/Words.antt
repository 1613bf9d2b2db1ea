-- For which forms of words no file is read.
use Rattle.std.specs.Prelude.{Bool, true, false}
use Rattle.x5_words.specs.Forms.{Form, Run, Check, Tree, GenRun, GenWorld, GenScript, Show}

-- what is read is made of a number
abbrev pub is_made : Form → Bool
is_made (Run names summary) = false
is_made (Check name) = false
is_made (Tree names) = false
is_made (GenRun number) = true
is_made (GenWorld number) = true
is_made (GenScript number) = true
is_made (Show name) = false
