-- At every line of a run over consistent knowledge, whose requests are within the limits of messages, what agents hold
-- and keep of changes can be sent, and each message of a refresh is within the limits (X.525, sections 7 and 9 to 12).
use Rattle.std.specs.Prelude.{◌≡◌, ℕ, ◌+◌, Bool, true, List, length}
use Rattle.std.specs.declared.option.Option.{Option}
use Rattle.std.specs.declared.option.Option.TheVariants.{None}
use Rattle.x5_model.specs.Keys.{Key}
use Rattle.x5_model.specs.Members.{In}
use Rattle.x5_model.specs.Values.{Text}
use Rattle.x5_model_tree.specs.World.{Agreement, World, names_of_agents}
use Rattle.x5_model_run.specs.History.{Did, Point, moment_of, knowledge_at, tree_of_moment, as_of, acked, copy_as_of}
use Rattle.x5_model_run.specs.History.{holdings_at}
use Rattle.x5_model_run.specs.Refresh.{supplied}
use Rattle.x5_model_run.specs.Run.{Command, Block, Judge, IsRun}
use Rattle.x5_model_refreshed.specs.Logs.{log_at}
use Rattle.x5_model_refreshed.specs.Replaying.{IsLed}
use Rattle.x5_model_typed.specs.Layouts.{Surroundings}
use Rattle.x5_model_messages.specs.Shadows.{Done, Failed}
use Rattle.x5_model_fitting.specs.Names.{Each}
use Rattle.x5_model_fitting.specs.Replies.{ProblemWithin}
use Rattle.x5_model_fitting.specs.Requests.{CountWithin, IfThere}
use Rattle.x5_model_limits.specs.Described.{world_is_utf8, BoundedPast}
use Rattle.x5_model_within.specs.Runs.{BoundedCommand}
use Rattle.x5_model_shadowed.specs.Sending.{SendableEntry}
use Rattle.x5_model_shadowed.specs.Within.{operations, ShadowWithin}
use Rattle.x5_model_shadowing.specs.Files.{nssrs_are_utf8}
use Rattle.x5_model_shadowing.specs.Holding.{SendableContext, SendableHoldings, SendableLog}
use Rattle.x5_model_shadowing.specs.Messages.{IsAround, first_message, last_message}

-- a line of a run over consistent knowledge, in a world whose texts are UTF-8, whose accepted updates are within the
-- limits, and whose moment four octets count
pub record IsBoundedLine (p : Point) : Type 0 where
  pub led : IsLed p
  pub texts : world_is_utf8 p.described ≡ true
  pub references : nssrs_are_utf8 p.described ≡ true
  pub accepted : BoundedPast p.past
  pub counted : CountWithin (moment_of p)

-- 1. So is the next line of a run whose requests are within the limits, however its blocks are judged.
abbrev pub RunsAreBounded : Judge → Type 0
RunsAreBounded judge =
    (n : ℕ) (w : World) (commands : List Command) (blocks : List Block) (past : List Did)
    → IsRun judge w commands blocks past → Each (BoundedCommand n) commands → CountWithin (length commands + 1)
    → world_is_utf8 w ≡ true → nssrs_are_utf8 w ≡ true → IsLed (record { described = w; past = past })
    → IsBoundedLine (record { described = w; past = past })

-- 2. The entries of the one tree can be sent, as of every moment.
abbrev pub TreesSendable : Type 0
TreesSendable = (p : Point) (m : ℕ) → IsBoundedLine p → Each SendableEntry (tree_of_moment p m).entries

-- 3. So can what agents hold, as masters or as copies,
abbrev pub HeldSendable : Type 0
HeldSendable =
    (p : Point) (a : ℕ) → IsBoundedLine p → SendableHoldings (length p.described.agents) (holdings_at p a)

-- what a copy by an agreement has as of a moment, which is what its supplier sends,
abbrev pub CopiesSendable : Type 0
CopiesSendable =
    (p : Point) (g : Agreement) (m : Option ℕ) → IsBoundedLine p → In g (knowledge_at p).agreements
    → SendableContext (length p.described.agents) (copy_as_of p g m)

-- and the changes that they keep.
abbrev pub LogsSendable : Type 0
LogsSendable = (p : Point) (a : ℕ) (pin : Key) → IsBoundedLine p → SendableLog (log_at p a pin)

-- 4. Four octets count the moments of copies, those of which suppliers know, and the stamps.
pub record MomentsCounted (p : Point) : Type 0 where
  pub copies : (number : ℕ) → IfThere CountWithin (as_of p number)
  pub acked : (number : ℕ) → IfThere CountWithin (acked p number)
  pub supplied : (g : Agreement) → IfThere CountWithin (supplied p g)

abbrev pub LineIsCounted : Type 0
LineIsCounted = (p : Point) → IsBoundedLine p → MomentsCounted p

-- 5. So each message of a refresh by an agreement is within the limits: the first, the last with what it brings, the
-- result of either, and a problem with the moments that the consumer and the supplier have.
pub record MessagesWithin (w : Surroundings) (p : Point) (names : List Text) (g : Agreement) : Type 0 where
  pub first : (pushes total : Bool) → ShadowWithin w (first_message p pushes total g)
  pub last : (total : Bool) (from : Option ℕ) (stamp : ℕ) → CountWithin stamp
      → ShadowWithin w (last_message p names total g from stamp)
  pub done : (operation : ℕ) → In operation operations → ShadowWithin w (Done operation)
  pub problem : (problem : ℕ) → ProblemWithin 11 problem → ShadowWithin w (Failed problem None None)
  pub missed : (problem : ℕ) → ProblemWithin 11 problem
      → ShadowWithin w (Failed problem (as_of p g.number) (acked p g.number))

abbrev pub RefreshesWithin : Type 0
RefreshesWithin =
    (w : Surroundings) (p : Point) (g : Agreement)
    → IsAround w (names_of_agents p.described) → IsBoundedLine p → In g (knowledge_at p).agreements
    → MessagesWithin w p (names_of_agents p.described) g
