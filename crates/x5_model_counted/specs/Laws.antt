-- A summary that is counted block by block is the one that the texts of the script and the output tell: statements,
-- which this crate's functions name.
use Rattle.std.specs.Prelude.{◌≡◌, ℕ, Bool, true, false, not, List, map, length, codes, IsTrue, Ok, ⊤}
use Rattle.std.specs.List.{list_any, filter}
use Rattle.x5_know.specs.Moments.{Start, moment_text}
use Rattle.x5_model.specs.Values.{Text}
use Rattle.x5_model_output.specs.Output.{Names, names_of, run_text}
use Rattle.x5_model_output.specs.Summary.{counts_of, summary_text}
use Rattle.x5_model_run.specs.History.{Did}
use Rattle.x5_model_run.specs.Run.{Command, Asks, Block, Judge, IsRun}
use Rattle.x5_model_script.specs.Lines.{Asked, Runs, Delivers}
use Rattle.x5_model_script.specs.Script.{is_line_feed, script_of}
use Rattle.x5_model_tree.specs.Described.{IsDescribed}
use Rattle.x5_model_tree.specs.World.{World}
use Rattle.x5_model_counted.specs.Lines.{lines_with, counts_in, summary_of}

-- ---- texts of one line

abbrev pub is_one_line : Text → Bool
is_one_line t = not (list_any is_line_feed t)

-- Agents' names and moments have no line feed. All else that is printed has none, since values are printed with
-- escapes.
pub record AreOneLine (names : Names) : Type 0 where
  pub agents : (a : ℕ) → IsTrue (is_one_line (names.agent a))
  pub moments : (m : ℕ) → IsTrue (is_one_line (names.moment m))

-- So it is over every described world, whose moments are dates and times.
abbrev pub DescribedAreOneLine : Type 0
DescribedAreOneLine = (w : World) (start : Start) → IsDescribed w → AreOneLine (names_of w (moment_text start))

-- ---- requests

abbrev pub is_request : Command → Bool
is_request (Asks to r) = true
is_request other = false

abbrev pub asks : Asked → Bool
asks (Runs c) = is_request c
asks (Delivers dsp to octets) = false

-- The requests of a script that is taken are its lines that begin with `at`.
abbrev pub RequestsAreLines : Type 0
RequestsAreLines = (names : List Text) (lost : ℕ) (script : Text) (asked : List Asked)
    → script_of names lost script ≡ Ok asked
    → length (filter asks asked) ≡ lines_with (codes "at") script

-- ---- runs

-- Nothing is said of messages and replies: every run is one of this judge.
abbrev pub Whatever : Judge
Whatever p to m j reply = ⊤

-- What is counted of a run's blocks is how many lines of each kind its output has, and the requests.
abbrev pub OutputIsCounted : Judge → Type 0
OutputIsCounted judge = (w : World) (moment : ℕ → Text) (commands : List Command) (blocks : List Block)
    (past : List Did) → AreOneLine (names_of w moment) → IsRun judge w commands blocks past
    → (script : Text) → length (filter is_request commands) ≡ lines_with (codes "at") script
    → counts_of blocks ≡ counts_in script (run_text w moment commands blocks)

-- The theorem: a run over a described world, of what a script's lines ask for (a command is a request just where its
-- line asks one), has as the summary of its blocks the one that the texts of script and output tell.
abbrev pub SummaryIsOfTexts : Judge → Type 0
SummaryIsOfTexts judge = (w : World) (start : Start) (commands : List Command) (blocks : List Block) (past : List Did)
    → IsDescribed w → IsRun judge w commands blocks past
    → (names : List Text) (lost : ℕ) (script : Text) (asked : List Asked) → script_of names lost script ≡ Ok asked
    → map is_request commands ≡ map asks asked
    → summary_text w (moment_text start) blocks ≡ summary_of script (run_text w (moment_text start) commands blocks)
