-- Messages and replies within the limits of messages, with agents by their numbers (X.511, sections 7, 10 and 12;
-- X.518, section 10). That agents have names, and that no item of a trace comes twice, is a matter of these names.
use Rattle.std.specs.Prelude.{◌≤◌, length}
use Rattle.x5_model.specs.References.{Reference, TraceItem, Chained}
use Rattle.x5_model.specs.Answers.{Source, Outcome, Answer, EntryFound, Matched, Listed, Found, Changed, DirError}
use Rattle.x5_model.specs.Answers.{NoSuchObject, AttributeProblem, UpdateProblem, ServiceProblem, Reply, Answered}
use Rattle.x5_model.specs.Answers.{Failed, Referred}
use Rattle.x5_model_typed.specs.Rules.{most_items}
use Rattle.x5_model_fitting.specs.Names.{Each, RdnWithin, NameWithin}
use Rattle.x5_model_fitting.specs.Terms.{TypeWithin}
use Rattle.x5_model_fitting.specs.Requests.{CountWithin, IfThere, RequestWithin}
use Rattle.x5_model_fitting.specs.Chained.{ProgressWithin}
use Rattle.x5_model_fitting.specs.Replies.{InfoWithin, SubWithin, ProblemWithin}

-- A continuation reference (X.518, section 10.9).
pub record BoundedReference (r : Reference) : Type 0 where
  pub target : NameWithin r.target
  pub progress : ProgressWithin r.progress
  pub exclusions : Each RdnWithin r.exclusions

-- An item of trace information (X.518, section 10.6).
pub record BoundedItem (i : TraceItem) : Type 0 where
  pub target : NameWithin i.target
  pub progress : ProgressWithin i.progress

-- A message between agents (X.518, section 10.3): 128 items in its trace at most.
pub record BoundedMessage (m : Chained) : Type 0 where
  pub target : NameWithin m.target
  pub progress : ProgressWithin m.progress
  pub exclusions : Each RdnWithin m.exclusions
  pub few : length m.trace ≤ most_items
  pub items : Each BoundedItem m.trace
  pub request : RequestWithin m.request

-- ---- replies

-- A source: the moment has four octets.
pub record BoundedSource (s : Source) : Type 0 where
  pub context : NameWithin s.context
  pub moment : IfThere CountWithin s.moment

-- The parts that nobody looked into (X.511, section 10.1.3).
abbrev pub BoundedOutcome : Outcome → Type 0
BoundedOutcome o = Each BoundedReference o.unexplored

abbrev pub BoundedAnswer : Answer → Type 0
BoundedAnswer (EntryFound info source) = InfoWithin info × BoundedSource source
BoundedAnswer (Matched equal copy source) = BoundedSource source
BoundedAnswer (Listed subs sources outcome) = Each SubWithin subs × Each BoundedSource sources × BoundedOutcome outcome
BoundedAnswer (Found infos sources outcome) =
    Each InfoWithin infos × Each BoundedSource sources × BoundedOutcome outcome
BoundedAnswer Changed = Unit {0}

-- An error (X.511, section 12), with the reference and the item that it tells.
abbrev pub BoundedError : DirError → Type 0
BoundedError (NoSuchObject matched) = NameWithin matched
BoundedError (AttributeProblem problem type) = ProblemWithin 6 problem × TypeWithin type
BoundedError (UpdateProblem problem) = ProblemWithin 7 problem
BoundedError (ServiceProblem problem reference item) =
    ProblemWithin 12 problem × IfThere BoundedReference reference × IfThere BoundedItem item

abbrev pub BoundedReply : Reply → Type 0
BoundedReply (Answered answer) = BoundedAnswer answer
BoundedReply (Failed x) = BoundedError x
BoundedReply (Referred reference) = BoundedReference reference
