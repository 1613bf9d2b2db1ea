-- The lines of a script as the commands of a run, and the network that it finds and leaves.
use Rattle.std.specs.Prelude.{◌≡◌, ℕ, ◌<◌, List, [], ◌∷◌, length, ⊤}
use Rattle.std.specs.declared.result.Result.{Result}
use Rattle.x5_know.specs.declared.described.Described.{Described}
use Rattle.x5_know.specs.WorldView.{world_view}
use Rattle.x5_model.specs.References.{Chained}
use Rattle.x5_model_fitting.specs.Requests.{RequestWithin}
use Rattle.x5_model_run.specs.History.{Did, Point}
use Rattle.x5_model_run.specs.Run as run
use Rattle.x5_model_script.specs.Lines.{Asked, Delivers}
use Rattle.x5_model_script.specs.Lines as lines
use Rattle.x5_model_tree.specs.World.{World}
use Rattle.x5_model_octets.specs.Breaches.{Breach}
use Rattle.x5_ops.specs.JournalViews.{protocol_view}
use Rattle.x5_ops.specs.RequestViews.{request_view}
use Rattle.x5_script.specs.declared.command.Command.{Command}
use Rattle.x5_script.specs.declared.command.Command.TheVariants.{Nothing, Ask, Outage, Refresh, Deliver, Lose}
use Rattle.x5_world.specs.Delivered.{Comes}
use Rattle.x5_world.specs.State.{Net, StandsAt, HasRoom}

-- a line of a run over this world, behind lines that did this
abbrev pub point : World → List Did → Point
point w past = record { described = w; past = past }

-- the network before the first line
pub record IsBegun (d : Described) (n : Net) : Type 0 where
  pub stands : StandsAt n (point (world_view d) [])
  pub room : HasRoom n 0

-- The command of a run that a line asks for, where agents have these names. Octets that are handed to an agent are one
-- by what they come to, as a message of a user or of another agent (X.519, section 7: DAP and DSP).
abbrev pub IsCommand : List (List ℕ) → Asked → run.Command → Type 0
IsCommand names (lines.Runs c) command = command ≡ c
IsCommand names (Delivers dsp to octets) command =
    (e : Result Chained Breach) × Comes names (protocol_view dsp) octets e
    × (command ≡ run.Hands (protocol_view dsp) to (length octets) e)

-- those of several lines, one for each
abbrev pub AreCommands : List (List ℕ) → List Asked → List run.Command → Type 0
AreCommands names [] [] = ⊤
AreCommands names (a ∷ asked) (c ∷ commands) = IsCommand names a c × AreCommands names asked commands
AreCommands names asked commands = ⊥

-- requests and octets go to an agent of so many, and a request is within the limits of messages
abbrev pub IsTaken : ℕ → Command → Type 0
IsTaken agents Nothing = ⊤
IsTaken agents (Ask to request) = (to < agents) × RequestWithin (request_view request)
IsTaken agents (Outage change) = ⊤
IsTaken agents (Refresh id push total) = ⊤
IsTaken agents (Deliver dsp to octets) = to < agents
IsTaken agents (Lose reply k) = ⊤
