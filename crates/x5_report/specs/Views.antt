-- Who is named in journals and replies, and the names and moments that the definitions print with.
use Rattle.std.specs.Prelude.{ℕ, Bool, true, ◌&&◌, List, [], slice_get}
use Rattle.std.specs.List.{list_any, list_all}
use Rattle.x5_model.specs.Words.{in_option, same_octets}
use Rattle.x5_model_output.specs.Output.{Names}
use Rattle.x5_ops.specs.declared.journal.Line.{Line}
use Rattle.x5_ops.specs.declared.journal.Line.TheVariants.{Msg, Dis, Raw}
use Rattle.x5_ops.specs.declared.journal.Journal.{Journal}
use Rattle.x5_ops.specs.declared.references.Reference.{Reference}
use Rattle.x5_ops.specs.declared.references.TraceItem.{TraceItem}
use Rattle.x5_ops.specs.declared.answers.Source.{Source}
use Rattle.x5_ops.specs.declared.answers.Outcome.{Outcome}
use Rattle.x5_ops.specs.declared.answers.Answer.{Answer}
use Rattle.x5_ops.specs.declared.answers.Answer.TheVariants as answers
use Rattle.x5_ops.specs.declared.answers.DirError.{DirError}
use Rattle.x5_ops.specs.declared.answers.DirError.TheVariants as errors
use Rattle.x5_ops.specs.declared.answers.Reply.{Reply}
use Rattle.x5_ops.specs.declared.answers.Reply.TheVariants.{Done, Failed, Refer}
use Rattle.x5_know.specs.Moments.{Start, moment_text}

-- ---- names and moments

-- the names of agents by their places, and moments by the start
abbrev pub names_with : List (List ℕ) → Start → Names
names_with names start = record { agent = λ a. in_option [] (λ n. n) (slice_get names a); moment = moment_text start }

-- ---- who is named

-- an agent has the name
abbrev pub is_known : List (List ℕ) → List ℕ → Bool
is_known names agent = list_any (λ n. same_octets n agent) names

abbrev pub line_known : List (List ℕ) → Line → Bool
line_known names (Msg from to operation progress t target fate) =
    in_option true (is_known names) from && is_known names to
line_known names (Dis from to operation agreement fate) = is_known names from && is_known names to
line_known names (Raw to dsp count fate) = is_known names to

abbrev pub journal_known : List (List ℕ) → Journal → Bool
journal_known names j = list_all (line_known names) j.lines && list_all (is_known names) j.accepted

abbrev pub reference_known : List (List ℕ) → Reference → Bool
reference_known names r = list_all (λ a. is_known names a.agent) r.agents

abbrev pub item_known : List (List ℕ) → TraceItem → Bool
item_known names i = is_known names i.agent

abbrev pub source_known : List (List ℕ) → Source → Bool
source_known names s = is_known names s.agent

abbrev pub sources_known : List (List ℕ) → List Source → Outcome → Bool
sources_known names sources o = list_all (source_known names) sources && list_all (reference_known names) o.unexplored

abbrev pub answer_known : List (List ℕ) → Answer → Bool
answer_known names (answers.Entry entry source) = source_known names source
answer_known names (answers.Match matched copy source) = source_known names source
answer_known names (answers.Listed subs sources outcome) = sources_known names sources outcome
answer_known names (answers.Found entries sources outcome) = sources_known names sources outcome
answer_known names answers.Changed = true

abbrev pub error_known : List (List ℕ) → DirError → Bool
error_known names (errors.Name matched) = true
error_known names (errors.Attribute problem kind) = true
error_known names (errors.Update problem) = true
error_known names (errors.Service problem reference item) =
    in_option true (reference_known names) reference && in_option true (item_known names) item

abbrev pub reply_known : List (List ℕ) → Reply → Bool
reply_known names (Done answer) = answer_known names answer
reply_known names (Failed error) = error_known names error
reply_known names (Refer reference) = reference_known names reference
