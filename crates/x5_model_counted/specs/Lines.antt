-- The summary of a run, told by two texts (docs/FORMATS.md, output): its script, and the output that it has where no
-- summary is asked for. It is the output's first line, that on knowledge, and a line of counts, each of which is how
-- many lines begin with a word. All of it is this project's own.
use Rattle.std.specs.Prelude.{ℕ, nat_eq, [], ◌++◌, length, codes}
use Rattle.std.specs.List.{filter, starts_with}
use Rattle.x5_model.specs.Values.{Text}
use Rattle.x5_model.specs.Words.{in_option, first_of}
use Rattle.x5_model_output.specs.Summary.{Counts, capped_counts, summary_line}
use Rattle.x5_model_script.specs.Script.{lines_of}

-- how many lines of a text begin with the word
abbrev pub lines_with : Text → Text → ℕ
lines_with word text = length (filter (λ line. starts_with nat_eq line word) (lines_of text))

-- requests are lines of the script, and all else is lines of the output
abbrev pub counts_in : Text → Text → Counts
counts_in script output =
    record {
      requests = lines_with (codes "at") script;
      entries = lines_with (codes "entry") output;
      subs = lines_with (codes "sub") output;
      errors = lines_with (codes "error") output;
      referrals = lines_with (codes "referral") output;
      unexplored = lines_with (codes "unexplored") output;
      accepted = lines_with (codes "accepted") output;
      refreshed = lines_with (codes "refreshed") output;
    }

-- a text's first line, with its line feed
abbrev pub first_line : Text → Text
first_line text = in_option [] (λ line. line ++ codes "\n") (first_of (lines_of text))

-- what is printed in place of the output
abbrev pub summary_of : Text → Text → Text
summary_of script output = first_line output ++ summary_line (capped_counts (counts_in script output))
