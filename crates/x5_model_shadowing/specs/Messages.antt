-- The messages of a refresh (X.525, sections 9 to 12), as they are carried in a world with these agents: what can be
-- sent of what agents hold is within the limits of messages of shadowing.
use Rattle.std.specs.Prelude.{ℕ, Bool, true, false, nat_lt, List, length, map}
use Rattle.std.specs.declared.option.Option.{Option}
use Rattle.std.specs.declared.option.Option.TheVariants.{None, Some}
use Rattle.x5_model.specs.Values.{Text, key_of}
use Rattle.x5_model_tree.specs.World.{Specific, Nssr, Agreement, World, names_of_agents}
use Rattle.x5_model_tree.specs.Described.{IsDescribed}
use Rattle.x5_model_run.specs.Holdings.{Held}
use Rattle.x5_model_run.specs.History.{Point, as_of, acked, copy_as_of}
use Rattle.x5_know.specs.Moments.{Start, moment_count, moment_of, moment_text}
use Rattle.x5_know.specs.Names.{has_name}
use Rattle.x5_model_typed.specs.Layouts.{Surroundings}
use Rattle.x5_model_typed.specs.Leaves.{where_so}
use Rattle.x5_model_messages.specs.Shadows.{Known, NonSpecific, Refresh, Nothing, Total, Steps, Shadow, Request}
use Rattle.x5_model_messages.specs.Shadows.{Coordinate, Update}
use Rattle.x5_model_refreshed.specs.Steps.{Step}
use Rattle.x5_model_refreshed.specs.Logs.{log_at, steps_later}
use Rattle.x5_model_fitting.specs.Names.{Each}
use Rattle.x5_model_fitting.specs.Requests.{CountWithin}
use Rattle.x5_model_shadowed.specs.Agents.{AreAgents, name_at}
use Rattle.x5_model_shadowed.specs.Sending.{SendableStep, carried_step}
use Rattle.x5_model_shadowed.specs.Within.{KnownWithin, NonSpecificWithin, MomentWithin, RefreshWithin}
use Rattle.x5_model_shadowing.specs.Holding.{SendableSpecific, SendableNssr, SendableContext}

-- ---- the world around

-- What messages are written with has these agents, and every moment that four octets count has a date and time.
pub record IsAround (w : Surroundings) (names : List Text) : Type 0 where
  pub agents : AreAgents w names
  pub times : (m : ℕ) → CountWithin m → MomentWithin w m

-- a world's start and agents
abbrev pub around : Start → List Text → Surroundings
around start names = record {
  moment = moment_of start;
  time = λ m. where_so (nat_lt m moment_count) (moment_text start m);
  is_agent = has_name names;
}

-- 1. So it is of every world that a file describes.
abbrev pub WorldIsAround : Type 0
WorldIsAround =
    (start : Start) (w : World) → IsDescribed w
    → IsAround (around start (names_of_agents w)) (names_of_agents w)

-- ---- what is sent, as messages carry it: agents by their names

abbrev pub carried_known : List Text → Specific → Known
carried_known names k = record {
  pin = k.pin;
  master = name_at names k.access.master;
  shadows = map (name_at names) k.access.shadows;
}

abbrev pub carried_other : List Text → Nssr → NonSpecific
carried_other names n = record { at = n.at; agents = map (name_at names) n.agents }

-- a context, by a total refresh
abbrev pub total_of : List Text → Held → Refresh
total_of names c = Total c.entries (map (carried_known names) c.subordinate) (map (carried_other names) c.nssrs)

-- changes, by an incremental one
abbrev pub steps_of : List Step → Refresh
steps_of steps = Steps (map carried_step steps)

-- 2. What can be sent is within the limits: a reference,
abbrev pub KnownIsWithin : Type 0
KnownIsWithin =
    (w : Surroundings) (names : List Text) (k : Specific) → AreAgents w names → SendableSpecific (length names) k
    → KnownWithin w (carried_known names k)

abbrev pub OtherIsWithin : Type 0
OtherIsWithin =
    (w : Surroundings) (names : List Text) (n : Nssr) → AreAgents w names → SendableNssr (length names) n
    → NonSpecificWithin w (carried_other names n)

-- a total refresh,
abbrev pub TotalIsWithin : Type 0
TotalIsWithin =
    (w : Surroundings) (names : List Text) (c : Held) → AreAgents w names → SendableContext (length names) c
    → RefreshWithin w (total_of names c)

-- and an incremental one.
abbrev pub StepsAreWithin : Type 0
StepsAreWithin = (w : Surroundings) (steps : List Step) → Each SendableStep steps → RefreshWithin w (steps_of steps)

-- ---- the messages of a refresh by an agreement, at a line

-- in a push the supplier tells the consumer, in a pull the consumer asks (X.525, section 11.1)
abbrev pub first_message : Point → Bool → Bool → Agreement → Shadow
first_message p true total g = Coordinate g.number (acked p g.number) total
first_message p false total g = Request g.number (as_of p g.number) total

-- what the supplier sends as of a moment: all that it has, or its changes since the last moment
abbrev pub refresh_of : Point → List Text → Bool → Agreement → Option ℕ → ℕ → Refresh
refresh_of p names true g last stamp = total_of names (copy_as_of p g (Some stamp))
refresh_of p names false g None stamp = Nothing
refresh_of p names false g (Some m) stamp = steps_of (steps_later m (log_at p g.supplier (key_of g.context)))

abbrev pub last_message : Point → List Text → Bool → Agreement → Option ℕ → ℕ → Shadow
last_message p names total g last stamp = Update g.number stamp (refresh_of p names total g last stamp)
