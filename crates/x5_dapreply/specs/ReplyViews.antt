-- What the code's replies tell: as messages carry them, agents by their names.
use Rattle.std.specs.Prelude.{ℕ, List, [], ◌∷◌, map}
use Rattle.std.specs.Option.{option_map}
use Rattle.x5_model_messages.specs.Replies as replies
use Rattle.x5_model_messages.specs.Terms.{number_in}
use Rattle.x5_model_typed.specs.Nodes.{Node, parts}
use Rattle.x5_syntax.specs.TypeView.{type_view}
use Rattle.x5_ops.specs.ReferenceViews.{progress_view, kind_view}
use Rattle.x5_ops.specs.AnswerViews.{info_view, sub_view}
use Rattle.x5_ops.specs.declared.references.TraceItem.{TraceItem}
use Rattle.x5_ops.specs.declared.references.AccessPoint.{AccessPoint}
use Rattle.x5_ops.specs.declared.references.Reference.{Reference}
use Rattle.x5_ops.specs.declared.answers.Source.{Source}
use Rattle.x5_ops.specs.declared.answers.Outcome.{Outcome}
use Rattle.x5_ops.specs.declared.answers.Answer.{Answer}
use Rattle.x5_ops.specs.declared.answers.Answer.TheVariants as answers
use Rattle.x5_ops.specs.declared.answers.DirError.{DirError}
use Rattle.x5_ops.specs.declared.answers.DirError.TheVariants as errors
use Rattle.x5_ops.specs.declared.answers.Reply.{Reply}
use Rattle.x5_ops.specs.declared.answers.Reply.TheVariants.{Done, Failed, Refer}

abbrev pub told_access : AccessPoint → replies.Access
told_access a = record { agent = a.agent; copy = a.copy }

abbrev pub told_reference : Reference → replies.Reference
told_reference r = record {
  target = r.target;
  progress = progress_view r.progress;
  kind = kind_view r.kind;
  agents = map told_access r.agents;
  exclusions = r.exclusions;
  tried = r.tried;
}

abbrev pub told_item : TraceItem → replies.TraceItem
told_item i = record { agent = i.agent; target = i.target; progress = progress_view i.progress; wide = i.wide }

abbrev pub told_source : Source → replies.Source
told_source s = record { context = s.context; agent = s.agent; moment = s.moment }

abbrev pub told_outcome : Outcome → replies.Outcome
told_outcome o = record { limited = o.limited; unexplored = map told_reference o.unexplored }

abbrev pub told_answer : Answer → replies.Answer
told_answer (answers.Entry entry source) = replies.Entry (info_view entry) (told_source source)
told_answer (answers.Match matched copy source) = replies.Match matched copy (told_source source)
told_answer (answers.Listed subs sources outcome) =
    replies.Listed (map sub_view subs) (map told_source sources) (told_outcome outcome)
told_answer (answers.Found entries sources outcome) =
    replies.Found (map info_view entries) (map told_source sources) (told_outcome outcome)
told_answer answers.Changed = replies.Changed

abbrev pub told_error : DirError → replies.Reply
told_error (errors.Name matched) = replies.NoSuchObject matched
told_error (errors.Attribute problem kind) = replies.AttributeProblem problem (type_view kind)
told_error (errors.Update problem) = replies.UpdateProblem problem
told_error (errors.Service problem reference item) =
    replies.ServiceProblem problem (option_map told_reference reference) (option_map told_item item)

-- a result is that of the operation with the code
abbrev pub told_reply : ℕ → Reply → replies.Reply
told_reply operation (Done answer) = replies.Answered operation (told_answer answer)
told_reply operation (Failed error) = told_error error
told_reply operation (Refer reference) = replies.Referred (told_reference reference)

-- ---- read, a result is kept without the code of its operation

abbrev pub unnumbered : replies.Reply → replies.Reply
unnumbered (replies.Answered code answer) = replies.Answered 0 answer
unnumbered reply = reply

abbrev pub heard : Reply → replies.Reply
heard reply = told_reply 0 reply

-- the result that a node says behind the code of its operation
abbrev pub result_said : Node → replies.Reply
result_said n = by (parts n)
  where
    by : List Node → replies.Reply
    by (code ∷ result ∷ []) = replies.Answered 0 (replies.answer_in (replies.or_zero (number_in code)) result)
    by other = replies.UpdateProblem 0

abbrev pub heard_in : Node → ℕ × replies.Reply
heard_in n = let r = replies.reply_in n in (r.0, unnumbered r.1)
