-- Each line of a script is taken: reading gives it an agent that has a name, and a request within the limits of
-- messages.
use Rattle.std.proofs.Common.{ℕ, All, List, [], ◌∷◌, map}
use Rattle.std.proofs.lemmas.Bool.{ltb-true}
use Rattle.std.proofs.lemmas.List.Elements.{All-nil, All-cons, All-head, All-tail}
use Rattle.x5_model_within.specs.Scripts.{BoundedAsked}
use Rattle.x5_script.specs.Views.{command_view}
use Rattle.x5_script.specs.declared.command.Command.{Command}
use Rattle.x5_script.specs.declared.command.Command.TheVariants.{Nothing, Ask, Outage, Refresh, Deliver, Lose}
use Rattle.xdir.specs.Taken.{IsTaken}

-- one line
taken : (agents : ℕ) (c : Command) → BoundedAsked agents (command_view c) → IsTaken agents c
taken agents Nothing bounded = tt
taken agents (Ask to request) bounded = (ltb-true to agents bounded.0, bounded.1)
taken agents (Outage change) bounded = tt
taken agents (Refresh id push total) bounded = tt
taken agents (Deliver dsp to octets) bounded = ltb-true to agents bounded
taken agents (Lose reply k) bounded = tt

-- all of them
pub all_taken : (agents : ℕ) (cs : List Command) → All (BoundedAsked agents) (map command_view cs)
    → All (IsTaken agents) cs
all_taken agents [] bounded = All-nil (IsTaken agents)
all_taken agents (c ∷ cs) bounded =
    let rest = map command_view cs in
    All-cons (IsTaken agents) c cs
    (taken agents c (All-head (BoundedAsked agents) (command_view c) rest bounded))
    (all_taken agents cs (All-tail (BoundedAsked agents) (command_view c) rest bounded))
