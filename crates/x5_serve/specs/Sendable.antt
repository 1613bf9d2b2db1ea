-- What may be carried from agent to agent as octets, and read back as it was sent (X.518, sections 10 and 20; X.690):
-- messages and replies within the limits of messages, that give agents their names, and no item of a trace twice.
use Rattle.std.specs.Prelude.{◌≡◌, ℕ, Bool, true, false, ◌&&◌, ◌==◌, nat_le, List, length}
use Rattle.std.specs.List.{list_all}
use Rattle.x5_model.specs.Words.{distinct}
use Rattle.x5_model.specs.Answers as model
use Rattle.x5_model_tree.specs.Described.{is_agent_name}
use Rattle.x5_model_run.specs.Journal.{Journal}
use Rattle.x5_model_run.specs.Chain.{Scene}
use Rattle.x5_model_serve.specs.Serving.{Hand, is_looped, is_too_long}
use Rattle.x5_model_fitting.specs.Requests.{RequestWithin}
use Rattle.x5_model_known.specs.Holding.{HoldAgents, AreThemselves}
use Rattle.x5_model_known.specs.Replying.{reply_agents}
use Rattle.x5_model_limits.specs.Holding.{HoldBounded}
use Rattle.x5_model_limits.specs.Messages.{BoundedMessage, BoundedReply}
use Rattle.x5_model_limits.specs.Doing.{BoundedJournal}
use Rattle.x5_ops.specs.ReferenceViews.{chained_view}
use Rattle.x5_ops.specs.AnswerViews.{reply_view}
use Rattle.x5_ops.specs.declared.references.Chained.{Chained}
use Rattle.x5_ops.specs.declared.answers.Reply.{Reply}
use Rattle.x5_trace.specs.Items.{same_named}
use Rattle.x5_serve.specs.declared.network.Carried.{Carried}
use Rattle.x5_serve.specs.declared.network.Carried.TheVariants as carried

-- A message may be sent that is within the limits, whose trace has no item twice, and names agents as they may be
-- named. They need not be agents of the network, since a user may hand over any message.
pub record MayBeSent (names : List (List ℕ)) (m : Chained) : Type 0 where
  pub bounded : BoundedMessage (chained_view names m)
  pub apart : distinct same_named m.trace ≡ true
  pub plain : list_all (λ i. is_agent_name i.agent) m.trace ≡ true

-- so is what a receiver takes
abbrev pub IsTaken : List (List ℕ) → Carried → Type 0
IsTaken names carried.Undelivered = Unit {0}
IsTaken names carried.Spent = Unit {0}
IsTaken names (carried.Unheard taken) = MayBeSent names taken
IsTaken names (carried.Taken taken) = MayBeSent names taken

-- an answer to the operation of this code (X.511, sections 9 to 11: read, compare, list, search, and the four updates)
abbrev pub is_answer_to : ℕ → model.Answer → Bool
is_answer_to operation (model.EntryFound info source) = operation == 1
is_answer_to operation (model.Matched equal copy source) = operation == 2
is_answer_to operation (model.Listed subs sources outcome) = operation == 4
is_answer_to operation (model.Found infos sources outcome) = operation == 5
is_answer_to operation model.Changed = nat_le 6 operation && nat_le operation 9

-- errors and referrals reply to every operation
abbrev pub replies_to : ℕ → model.Reply → Bool
replies_to operation (model.Answered a) = is_answer_to operation a
replies_to operation (model.Failed x) = true
replies_to operation (model.Referred r) = true

-- A reply to an operation may be sent back that is within the limits, names agents of the network alone, and answers
-- that operation.
pub record MayBeReplied (names : List (List ℕ)) (operation : ℕ) (y : Reply) : Type 0 where
  pub bounded : BoundedReply (reply_view names y)
  pub agents : reply_agents (length names) (reply_view names y) ≡ true
  pub answers : replies_to operation (reply_view names y) ≡ true

-- A message that an agent has may be passed on: it is no loop, and its trace has room for the agent's item.
pub record MayBePassedOn (k : Hand) : Type 0 where
  pub unlooped : is_looped k ≡ false
  pub short : is_too_long k ≡ false

-- A network of so many agents keeps to the limits: what each agent holds is its own, names agents of the network alone,
-- and is within the limits of messages; so is what the user asked, and each message that was sent.
pub record KeepsLimits (n : ℕ) (s : Scene) (j : Journal) : Type 0 where
  pub names : HoldAgents n s
  pub whose : AreThemselves n s
  pub holds : HoldBounded n s
  pub request : RequestWithin s.message.request
  pub journal : BoundedJournal n j
