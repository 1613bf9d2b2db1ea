-- What lines with pages do and print (docs/FORMATS.md, script and output). A line that starts pages asks an agent as any
-- request, without a size, where its number can be used; all others are to the agents as a comment.
use Rattle.std.specs.Prelude.{◌≡◌, ℕ, ◌+◌, Bool, true, false, List, [], ◌∷◌, ◌++◌, codes}
use Rattle.std.specs.List.{concat}
use Rattle.x5_model.specs.Words.{in_option}
use Rattle.x5_model.specs.Values.{Text}
use Rattle.x5_model.specs.Requests.{Request}
use Rattle.x5_model.specs.Answers.{Reply, Answered}
use Rattle.x5_model_tree.specs.World.{World}
use Rattle.x5_model_tree.specs.Consistent.{first_breach}
use Rattle.x5_model_run.specs.History.{Did}
use Rattle.x5_model_run.specs.Run.{Command, Asks, Blank, Block, Replies, Judge, IsRun}
use Rattle.x5_model_output.specs.Output.{Names, names_of, number_line, journal_text, answer_lines, reply_lines, block_text}
use Rattle.x5_model_output.specs.Output.{knowledge_line}
use Rattle.x5_model_pages.specs.Pages.{Table, Fault, Unknown, Taken, Full, Page, is_paged, kept_at, start_fault}
use Rattle.x5_model_pages.specs.Pages.{without, page_of, started, passed}

pub data Line : Type 0 where
  Plain : Command → Line
  -- number, agent, size, request
  Start : ℕ → ℕ → ℕ → Request → Line
  Next : ℕ → Line
  Close : ℕ → Line

-- ---- what a line is to the agents

abbrev pub command_of : Table → Line → Command
command_of t (Plain c) = c
command_of t (Start id to size r) = in_option (Asks to r) (λ f. Blank) (start_fault id t)
command_of t (Next id) = Blank
command_of t (Close id) = Blank

-- ---- what it leaves on the user's side

abbrev pub after_reply : ℕ → ℕ → Reply → Table → Table
after_reply id size (Answered a) t = by (is_paged a)
  where
    by : Bool → Table
    by true = started id size a t
    by false = t
after_reply id size reply t = t

abbrev pub after_start : ℕ → ℕ → Block → Table → Table
after_start id size (Replies j reply) t = after_reply id size reply t
after_start id size other t = t

abbrev pub after_line : Line → Block → Table → Table
after_line (Plain c) b t = t
after_line (Start id to size r) b t = in_option (after_start id size b t) (λ f. t) (start_fault id t)
after_line (Next id) b t = in_option t (λ k. passed k t) (kept_at id t)
after_line (Close id) b t = without id t

-- ---- what it prints

abbrev pub fault_word : Fault → Text
fault_word Unknown = codes "unknown"
fault_word Taken = codes "taken"
fault_word Full = codes "full"

abbrev pub refused_text : ℕ → Fault → Text
refused_text n f = number_line n ++ concat (codes "error page " ∷ fault_word f ∷ codes "\n" ∷ [])

abbrev pub more_line : Bool → Text
more_line true = codes "more\n"
more_line false = codes "last\n"

abbrev pub page_lines : Names → Page → Text
page_lines names p = answer_lines names p.part ++ more_line p.more

abbrev pub start_lines : Names → ℕ → Reply → Text
start_lines names size (Answered a) = by (is_paged a)
  where
    by : Bool → Text
    by true = page_lines names (page_of size a)
    by false = reply_lines names (Answered a)
start_lines names size reply = reply_lines names reply

abbrev pub start_text : Names → ℕ → ℕ → Block → Text
start_text names n size (Replies j reply) =
    concat (number_line n ∷ journal_text names j ∷ start_lines names size reply ∷ [])
start_text names n size other = []

abbrev pub line_text : Names → ℕ → Table → Line → Block → Text
line_text names n t (Plain c) b = block_text names n c b
line_text names n t (Start id to size r) b = in_option (start_text names n size b) (refused_text n) (start_fault id t)
line_text names n t (Next id) b =
    in_option (refused_text n Unknown) (λ k. number_line n ++ page_lines names (page_of k.size k.left)) (kept_at id t)
line_text names n t (Close id) b =
    in_option (refused_text n Unknown) (λ k. number_line n ++ codes "set\n") (kept_at id t)

-- ---- a whole script

abbrev pub commands_of : Table → List Line → List Block → List Command
commands_of t [] bs = []
commands_of t (l ∷ ls) [] = command_of t l ∷ commands_of t ls []
commands_of t (l ∷ ls) (b ∷ bs) = command_of t l ∷ commands_of (after_line l b t) ls bs

abbrev pub lines_text : Names → ℕ → Table → List Line → List Block → Text
lines_text names n t [] bs = []
lines_text names n t (l ∷ ls) [] = []
lines_text names n t (l ∷ ls) (b ∷ bs) = line_text names n t l b ++ lines_text names (n + 1) (after_line l b t) ls bs

-- The headline of a run with pages: what the agents are asked, as the pages before leave it, is a run, and these octets
-- are the line on knowledge and what each line prints.
pub record PrintsPaged (judge : Judge) (w : World) (moment : ℕ → Text) (lines : List Line) (octets : Text) : Type 0 where
  pub blocks : List Block
  pub past : List Did
  pub runs : IsRun judge w (commands_of [] lines blocks) blocks past
  pub octets_are : octets ≡ knowledge_line (names_of w moment) (first_breach w)
      ++ lines_text (names_of w moment) 1 [] lines blocks
