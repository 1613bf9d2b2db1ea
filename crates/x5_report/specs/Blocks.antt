-- What a block prints: what the definitions print of a command's block, in a world whose agents have these names.
use Rattle.std.specs.Prelude.{◌≡◌, ℕ, Bool, ◌&&◌, true, List, [], ◌∷◌, ◌++◌, map, reverse, codes}
use Rattle.std.specs.List.{concat, flat_map}
use Rattle.x5_model.specs.Values.{Text}
use Rattle.x5_model_run.specs.Journal as model
use Rattle.x5_model_run.specs.Refresh as refresh
use Rattle.x5_model_run.specs.Run as run
use Rattle.x5_model_output.specs.Output as print
use Rattle.x5_model_output.specs.Plain.{plain_block_text}
use Rattle.x5_ops.specs.AgentNames.{agent_of}
use Rattle.x5_ops.specs.AnswerViews.{reply_view}
use Rattle.x5_ops.specs.JournalViews.{messages_view, fate_view, protocol_view}
use Rattle.x5_ops.specs.declared.journal.Fate.{Fate}
use Rattle.x5_ops.specs.declared.journal.Journal.{Journal}
use Rattle.x5_typed.specs.Breaches.{breach_view}
use Rattle.x5_know.specs.Moments.{Start}
use Rattle.x5_report.specs.Spelled as spelled
use Rattle.x5_report.specs.Views.{is_known, journal_known, reply_known}
use Rattle.x5_ops.specs.RefreshViews.{shadows_view, refreshed_view}
use Rattle.x5_report.specs.declared.report.LineOutcome.{LineOutcome}
use Rattle.x5_report.specs.declared.report.LineOutcome.TheVariants.{Set, Answered, Plain, Refreshed, NotConsistent}
use Rattle.x5_report.specs.declared.report.LineOutcome.TheVariants.{Handed, Rejected}

-- the block, each agent by the text that its name is there
abbrev pub block_text : Start → ℕ → Journal → LineOutcome → Text
block_text start line j Set = print.number_line line ++ codes "set\n"
block_text start line j (Answered reply) =
    concat (print.number_line line ∷ spelled.journal_text j ∷ spelled.reply_text start reply ∷ [])
block_text start line j (Plain reply) = print.number_line line ++ spelled.plain_reply_text start reply
block_text start line j (Refreshed number f heard) =
    concat (print.number_line line ∷ flat_map spelled.shadow_text j.lines ∷ spelled.refreshed_text start number f heard
    ∷ [])
block_text start line j NotConsistent =
    concat (print.number_line line ∷ flat_map spelled.shadow_text j.lines ∷ codes "error shadow inconsistent\n" ∷ [])
block_text start line j (Handed dsp count reply) = print.number_line line ++ spelled.handed_text start dsp count j reply
block_text start line j (Rejected dsp to count fate breach) =
    print.number_line line ++ spelled.rejected_text dsp to count fate breach

-- all who are named are agents of the world
abbrev pub outcome_known : List (List ℕ) → LineOutcome → Bool
outcome_known names (Answered reply) = reply_known names reply
outcome_known names (Plain reply) = reply_known names reply
outcome_known names (Handed dsp count reply) = reply_known names reply
outcome_known names (Rejected dsp to count fate breach) = is_known names to
outcome_known names other = true

abbrev pub block_known : List (List ℕ) → Journal → LineOutcome → Bool
block_known names j outcome = journal_known names j && outcome_known names outcome

-- the journal is that of the definitions: the same messages are printed, and the same agents accepted the update
abbrev pub IsJournal : List (List ℕ) → Journal → model.Journal → Type 0
IsJournal names j m = (map model.printed_line (reverse m.lines) ≡ messages_view names j.lines)
    × (reverse m.accepted ≡ map (agent_of names) j.accepted)

-- octets on their way to the agent of the name
abbrev pub raw_of : List (List ℕ) → Bool → List ℕ → ℕ → Fate → run.Raw
raw_of names dsp to count fate = record {
  protocol = protocol_view dsp;
  receiver = agent_of names to;
  count = count;
  fate = fate_view fate;
}

-- The text is that of the block, with these names and moments. Of a request it is so for every journal that the code's
-- stands for, and so of a message that octets brought; of a refresh for every block of these messages and this outcome.
-- A plain reply's is that of the one tree.
abbrev pub IsBlockText : print.Names → List (List ℕ) → ℕ → Journal → LineOutcome → Text → Type 0
IsBlockText printing names line j Set text =
    (command : run.Command) → text ≡ print.block_text printing line command run.Set
IsBlockText printing names line j (Answered reply) text =
    (command : run.Command) (m : model.Journal) → IsJournal names j m → text
    ≡ print.block_text printing line command (run.Replies m (reply_view names reply))
IsBlockText printing names line j (Plain reply) text = text ≡ plain_block_text printing line (reply_view names reply)
IsBlockText printing names line j (Refreshed number f heard) text =
    (command : run.Command) (b : refresh.RefreshBlock) → print.number_of command ≡ number → b.lines
    ≡ shadows_view names j.lines → b.outcome ≡ refreshed_view heard number f →
    text ≡ print.block_text printing line command (run.Refreshing b)
IsBlockText printing names line j NotConsistent text =
    (command : run.Command) (b : refresh.RefreshBlock) → b.lines ≡ shadows_view names j.lines → b.outcome
    ≡ refresh.NotConsistent →
    text ≡ print.block_text printing line command (run.Refreshing b)
IsBlockText printing names line j (Handed dsp count reply) text =
    (command : run.Command) (m : model.Journal) → IsJournal names j m → text
    ≡ print.block_text printing line command (run.Handed (protocol_view dsp) count m (reply_view names reply))
IsBlockText printing names line j (Rejected dsp to count fate breach) text =
    (command : run.Command) → text
    ≡ print.block_text printing line command (run.Rejected (raw_of names dsp to count fate) (breach_view breach))
