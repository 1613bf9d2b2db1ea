-- What answers stand for, given the names of the world's agents.
use Rattle.std.specs.Prelude.{ℕ, List, map}
use Rattle.std.specs.Option.{option_map}
use Rattle.x5_model.specs.Answers as model
use Rattle.x5_syntax.specs.TypeView.{type_view}
use Rattle.x5_syntax.specs.ValueView.{value_view}
use Rattle.x5_ops.specs.AgentNames.{agent_of}
use Rattle.x5_ops.specs.ReferenceViews.{reference_view, item_view}
use Rattle.x5_ops.specs.declared.requests.Attribute.{Attribute}
use Rattle.x5_ops.specs.declared.answers.Source.{Source}
use Rattle.x5_ops.specs.declared.answers.Outcome.{Outcome}
use Rattle.x5_ops.specs.declared.answers.EntryInfo.{EntryInfo}
use Rattle.x5_ops.specs.declared.answers.Sub.{Sub}
use Rattle.x5_ops.specs.declared.answers.Answer.{Answer}
use Rattle.x5_ops.specs.declared.answers.Answer.TheVariants as answers
use Rattle.x5_ops.specs.declared.answers.DirError.{DirError}
use Rattle.x5_ops.specs.declared.answers.DirError.TheVariants as errors
use Rattle.x5_ops.specs.declared.answers.Reply.{Reply}
use Rattle.x5_ops.specs.declared.answers.Reply.TheVariants.{Done, Failed, Refer}

abbrev pub shown_view : Attribute → model.Shown
shown_view a = record { kind = type_view a.kind; values = map value_view a.values }

abbrev pub info_view : EntryInfo → model.EntryInfo
info_view e = record { name = e.name; copy = e.copy; attributes = map shown_view e.attributes }

abbrev pub sub_view : Sub → model.Sub
sub_view s = record { rdn = s.rdn; copy = s.copy }

abbrev pub source_view : List (List ℕ) → Source → model.Source
source_view names s = record { context = s.context; agent = agent_of names s.agent; moment = s.moment }

abbrev pub outcome_view : List (List ℕ) → Outcome → model.Outcome
outcome_view names o = record { limited = o.limited; unexplored = map (reference_view names) o.unexplored }

abbrev pub answer_view : List (List ℕ) → Answer → model.Answer
answer_view names (answers.Entry entry source) = model.EntryFound (info_view entry) (source_view names source)
answer_view names (answers.Match matched copy source) = model.Matched matched copy (source_view names source)
answer_view names (answers.Listed subs sources outcome) =
    model.Listed (map sub_view subs) (map (source_view names) sources) (outcome_view names outcome)
answer_view names (answers.Found entries sources outcome) =
    model.Found (map info_view entries) (map (source_view names) sources) (outcome_view names outcome)
answer_view names answers.Changed = model.Changed

abbrev pub error_view : List (List ℕ) → DirError → model.DirError
error_view names (errors.Name matched) = model.NoSuchObject matched
error_view names (errors.Attribute problem kind) = model.AttributeProblem problem (type_view kind)
error_view names (errors.Update problem) = model.UpdateProblem problem
error_view names (errors.Service problem reference item) =
    model.ServiceProblem problem (option_map (reference_view names) reference) (option_map (item_view names) item)

abbrev pub reply_view : List (List ℕ) → Reply → model.Reply
reply_view names (Done answer) = model.Answered (answer_view names answer)
reply_view names (Failed error) = model.Failed (error_view names error)
reply_view names (Refer reference) = model.Referred (reference_view names reference)
