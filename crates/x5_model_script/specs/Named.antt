-- The agents that a line names: places among all names.
use Rattle.std.specs.Prelude.{ℕ, ◌<◌, All, IfOk, List, [], ◌∷◌, length}
use Rattle.x5_model.specs.Values.{Text}
use Rattle.x5_model_run.specs.Network.{Outage, Down, Up, Cut, Join, Refuse, Willing}
use Rattle.x5_model_run.specs.Run.{Command, Blank, Asks, Changes, Drops, Updates, Hands}
use Rattle.x5_model_script.specs.Lines.{Asked, Runs, Delivers}
use Rattle.x5_model_script.specs.Script.{script_of}

abbrev pub agents_between : Outage → List ℕ
agents_between (Down a) = a ∷ []
agents_between (Up a) = a ∷ []
agents_between (Cut a b) = a ∷ b ∷ []
agents_between (Join a b) = a ∷ b ∷ []
agents_between (Refuse a) = a ∷ []
agents_between (Willing a) = a ∷ []

abbrev pub agents_in : Command → List ℕ
agents_in Blank = []
agents_in (Asks to request) = to ∷ []
agents_in (Changes change) = agents_between change
agents_in (Drops reply k) = []
agents_in (Updates id pushes total) = []
agents_in (Hands via to count brings) = to ∷ []

abbrev pub agents_of : Asked → List ℕ
agents_of (Runs command) = agents_in command
agents_of (Delivers dsp to octets) = to ∷ []

-- each has a name
abbrev pub AreNamed : List Text → Asked → Type 0
AreNamed names asked = All (λ a. a < length names) (agents_of asked)

-- Whatever a script asks for, the agents that it names have names.
abbrev pub ScriptsNameAgents : Type 0
ScriptsNameAgents =
    (names : List Text) (lost : ℕ) (octets : Text) → IfOk (script_of names lost octets) (All (AreNamed names))
