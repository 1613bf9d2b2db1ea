-- Which files are asked for, by the form of words and how it ends: each one once at most, and the world's before the
-- script's. The name that was asked for last stands in front.
use Rattle.std.specs.Prelude.{◌≡◌, ◌⊎◌, ℕ, List, ◌∷◌, Option, ⊤}
use Rattle.x5_port.specs.Outside.{File}
use Rattle.x5_words.specs.Forms.{FileNames, Form, Run, Check, Tree, GenRun, GenWorld, GenScript, Show}
use Rattle.xdir.specs.Run.{TakesWorld}
use Rattle.xdir.specs.declared.top.Status.{Status}
use Rattle.xdir.specs.declared.top.Status.TheVariants.{Done, Refused, Usage, ReadFault, WriteFault, NoMemory}
use Rattle.xdir.specs.declared.top.Status.TheVariants.{Inconsistent, TooLong}

-- this file is asked for, once; where memory ran out it may be that none was
abbrev pub AsksOne : Status → List ℕ → List (List ℕ) → List (List ℕ) → Type 0
AsksOne status name old new = (new ≡ name ∷ old) ⊎ (status ≡ NoMemory) × (new ≡ old)

-- it may end so before the script is asked for
abbrev pub StopsEarly : Status → Type 0
StopsEarly Done = ⊥
StopsEarly Inconsistent = ⊥
StopsEarly Usage = ⊥
StopsEarly Refused = ⊤
StopsEarly ReadFault = ⊤
StopsEarly WriteFault = ⊤
StopsEarly NoMemory = ⊤
StopsEarly TooLong = ⊤

-- The world file is asked for, once, and then, where it is taken, the script, once; or it ends before the script is, or
-- (where memory ran out) before any is.
abbrev pub AsksBoth : Status → Option (List File) → FileNames → List (List ℕ) → List (List ℕ) → Type 0
AsksBoth status told names old new =
    (new ≡ names.script ∷ names.world ∷ old) × TakesWorld told names.world
    ⊎ (StopsEarly status × (new ≡ names.world ∷ old) ⊎ (status ≡ NoMemory) × (new ≡ old))

-- a form that makes its file asks for none
abbrev pub AsksForm : Form → Status → Option (List File) → List (List ℕ) → List (List ℕ) → Type 0
AsksForm (Run names summary) status told old new = AsksBoth status told names old new
AsksForm (Check name) status told old new = AsksOne status name old new
AsksForm (Tree names) status told old new = AsksBoth status told names old new
AsksForm (GenRun number) status told old new = new ≡ old
AsksForm (GenWorld number) status told old new = new ≡ old
AsksForm (GenScript number) status told old new = new ≡ old
AsksForm (Show name) status told old new = AsksOne status name old new
