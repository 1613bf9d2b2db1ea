-- Replies within the limits of messages (X.511, sections 7, 10 and 12; X.518, section 10). Agents go by their names.
use Rattle.std.specs.Prelude.{◌≡◌, ℕ, ◌≤◌, true, false, List, [], ◌∷◌}
use Rattle.x5_model.specs.Words.{is_empty}
use Rattle.x5_model.specs.Members.{In}
use Rattle.x5_model.specs.Answers.{Shown, EntryInfo, Sub}
use Rattle.x5_model_typed.specs.Leaves.{is_agent_name}
use Rattle.x5_model_messages.specs.Replies.{Access, Reference, Source, Outcome, Answer, Entry, Match}
use Rattle.x5_model_messages.specs.Replies.{Listed, Found, Changed}
use Rattle.x5_model_messages.specs.Replies.{Reply, Answered, NoSuchObject, AttributeProblem, UpdateProblem}
use Rattle.x5_model_messages.specs.Replies.{ServiceProblem, Referred}
use Rattle.x5_model_fitting.specs.Names.{Each, RdnWithin, NameWithin}
use Rattle.x5_model_fitting.specs.Terms.{TypeWithin, ValueWithin}
use Rattle.x5_model_fitting.specs.Requests.{CountWithin, IfThere}
use Rattle.x5_model_fitting.specs.Chained.{ProgressWithin, ItemWithin}

-- A continuation reference (X.518, section 10.9).
abbrev pub AccessWithin : Access → Type 0
AccessWithin a = is_agent_name a.agent ≡ true

pub record ReferenceWithin (r : Reference) : Type 0 where
  pub target : NameWithin r.target
  pub progress : ProgressWithin r.progress
  pub agents : Each AccessWithin r.agents
  pub exclusions : Each RdnWithin r.exclusions

-- A source: the moment has four octets.
pub record SourceWithin (s : Source) : Type 0 where
  pub context : NameWithin s.context
  pub agent : is_agent_name s.agent ≡ true
  pub moment : IfThere CountWithin s.moment

-- What is shown of an entry (X.511, section 7.7): of each attribute one value at least.
pub record ShownWithin (a : Shown) : Type 0 where
  pub type : TypeWithin a.kind
  pub some : is_empty a.values ≡ false
  pub values : Each ValueWithin a.values

pub record InfoWithin (e : EntryInfo) : Type 0 where
  pub name : NameWithin e.name
  pub attributes : Each ShownWithin e.attributes

abbrev pub SubWithin : Sub → Type 0
SubWithin s = RdnWithin s.rdn

-- The parts that nobody looked into (X.511, section 10.1.3).
abbrev pub OutcomeWithin : Outcome → Type 0
OutcomeWithin o = Each ReferenceWithin o.unexplored

abbrev pub AnswerWithin : Answer → Type 0
AnswerWithin (Entry entry source) = InfoWithin entry × SourceWithin source
AnswerWithin (Match matched copy source) = SourceWithin source
AnswerWithin (Listed subs sources outcome) = Each SubWithin subs × Each SourceWithin sources × OutcomeWithin outcome
AnswerWithin (Found entries sources outcome) =
    Each InfoWithin entries × Each SourceWithin sources × OutcomeWithin outcome
AnswerWithin Changed = Unit {0}

-- the codes of the operations that are answered so
abbrev pub answered_by : Answer → List ℕ
answered_by (Entry entry source) = 1 ∷ []
answered_by (Match matched copy source) = 2 ∷ []
answered_by (Listed subs sources outcome) = 4 ∷ []
answered_by (Found entries sources outcome) = 5 ∷ []
answered_by Changed = 6 ∷ 7 ∷ 8 ∷ 9 ∷ []

-- problems by their numbers, of which there are so many
abbrev pub ProblemWithin : ℕ → ℕ → Type 0
ProblemWithin most problem = (1 ≤ problem) × (problem ≤ most)

-- A reply: a result of the operation, an error (X.511, section 12) or a referral.
abbrev pub ReplyWithin : Reply → Type 0
ReplyWithin (Answered code answer) = In code (answered_by answer) × AnswerWithin answer
ReplyWithin (NoSuchObject matched) = NameWithin matched
ReplyWithin (AttributeProblem problem type) = ProblemWithin 6 problem × TypeWithin type
ReplyWithin (UpdateProblem problem) = ProblemWithin 7 problem
ReplyWithin (ServiceProblem problem reference item) =
    ProblemWithin 12 problem × IfThere ReferenceWithin reference × IfThere ItemWithin item
ReplyWithin (Referred reference) = ReferenceWithin reference
