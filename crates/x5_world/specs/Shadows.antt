-- What the receivers of a refresh's messages have (X.525, sections 11.1 to 11.3): what is read in the octets that these
-- go by.
use Rattle.std.specs.Prelude.{◌≡◌, ℕ, List, if◌then◌else◌, ⊤}
use Rattle.std.specs.declared.option.Option.{Option}
use Rattle.std.specs.declared.option.Option.TheVariants.{None, Some}
use Rattle.x5_model_tree.specs.World.{Agreement}
use Rattle.x5_know.specs.Moments as moments
use Rattle.x5_model_fitting.specs.Replies.{ProblemWithin}
use Rattle.x5_model_shadowed.specs.Within.{RefreshWithin}
use Rattle.x5_ops.specs.declared.journal.Refreshed.{Refreshed}
use Rattle.x5_ops.specs.declared.journal.Refreshed.TheVariants.{Total, Incremental, Nothing, Lost, Failed}
use Rattle.x5_types.specs.FormView.{world}
use Rattle.x5_refresh.specs.declared.brought.Brought.{Brought}
use Rattle.x5_refresh.specs.declared.course.Start.{Start}
use Rattle.x5_refresh.specs.declared.course.Start.TheVariants.{Ended, GoesOn}
use Rattle.x5_shadow_wire.specs.Carried.{IsSame, bringing}
use Rattle.x5_shadow_wire.specs.declared.asked.Asked.{Asked}
use Rattle.x5_shadow_wire.specs.declared.replied.Problem.{Problem}
use Rattle.x5_world.specs.declared.shadows.Arrived.{Arrived}
use Rattle.x5_world.specs.declared.refreshing.Supplied.{Supplied}
use Rattle.x5_world.specs.declared.refreshing.Supplied.TheVariants.{Sent, Refused}
use Rattle.x5_world.specs.declared.refreshing.Way.{Way}

-- by this agreement, and by what was read: in a push the moment that the supplier knows to be taken, in a pull that of
-- the consumer's copy
abbrev pub heard_by : Way → Agreement → Asked → Way
heard_by by g read =
    if by.push then record by { agreement = g; total = read.total; acked = read.last }
    else record by { agreement = g; total = read.total; own = read.last }

-- a result, or a problem
abbrev pub start_of : Option Problem → Start
start_of None = GoesOn
start_of (Some p) = Ended (Failed p.number p.held p.given)

-- a problem is one of X.525, section 12
abbrev pub IsProblemIn : Refreshed → Type 0
IsProblemIn (Failed problem held given) = ProblemWithin 11 problem
IsProblemIn (Total m n) = ⊤
IsProblemIn (Incremental m n) = ⊤
IsProblemIn (Nothing m) = ⊤
IsProblemIn Lost = ⊤

abbrev pub IsProblem : Start → Type 0
IsProblem (Ended became) = IsProblemIn became
IsProblem GoesOn = ⊤

-- it brings what is within the limits of messages, with agents of these names
abbrev pub IsSendable : moments.Start → List (List ℕ) → Supplied → Type 0
IsSendable start names (Sent stamp brought) = RefreshWithin (world start names) (bringing names brought)
IsSendable start names (Refused problem) = ⊤

-- What the consumer reads is what the supplier sends by the agreement; to which context a reference belongs aside.
pub record IsArrived (g : Agreement) (sent : Supplied) (read : Arrived) : Type 0 where
  pub stamp : ℕ
  pub brought : Brought
  pub sent_is : sent ≡ Sent stamp brought
  pub agreement : read.agreement ≡ g
  pub stamped : read.stamp ≡ stamp
  pub same : IsSame read.brought brought
