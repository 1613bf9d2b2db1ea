-- Scripts: whatever their lines ask for is within the limits of messages, since reading refuses all else.
use Rattle.std.specs.Prelude.{◌≡◌, ℕ, nat_lt, true, All, IfOk, List, length}
use Rattle.x5_model.specs.Values.{Text}
use Rattle.x5_model_script.specs.Lines.{Asked, Runs, Delivers}
use Rattle.x5_model_script.specs.Script.{script_of}
use Rattle.x5_model_within.specs.Runs.{BoundedCommand}

-- octets that are delivered to an agent say for themselves what they spell
abbrev pub BoundedAsked : ℕ → Asked → Type 0
BoundedAsked n (Runs command) = BoundedCommand n command
BoundedAsked n (Delivers dsp to octets) = nat_lt to n ≡ true

-- 5. So it is of a script in a world whose agents have these names.
abbrev pub ScriptsBounded : Type 0
ScriptsBounded =
    (names : List Text) (lost : ℕ) (octets : Text)
    → IfOk (script_of names lost octets) (All (BoundedAsked (length names)))
