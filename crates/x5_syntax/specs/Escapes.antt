-- What reading a text with escapes gives.
use Rattle.std.specs.Prelude.{◌≡◌, ℕ, ◌+◌, List, [], ◌∷◌, length, Result, Ok, Err}
use Rattle.x5_model.specs.Values.{Text}
use Rattle.x5_model_text.specs.ValueText.{joined}
use Rattle.x5_syntax.specs.declared.escapes.EscapeFault.{EscapeFault}
use Rattle.x5_syntax.specs.declared.escapes.EscapeFault.TheVariants.{Bad, NoMemory}

abbrev pub IsFault : EscapeFault → Result Text ℕ → Type 0
IsFault (Bad place) read = read ≡ Err place
IsFault NoMemory read = Unit {0}

abbrev pub Resolves : Result (List ℕ) EscapeFault → Result Text ℕ → Type 0
Resolves (Ok octets) read = read ≡ Ok octets
Resolves (Err fault) read = IsFault fault read

-- what is read was added to what was there
abbrev pub Adds : {A : Type 0} → List ℕ → List ℕ → Result A EscapeFault → Result Text ℕ → Type 0
Adds old new (Ok x) read = joined (Ok old) read ≡ Ok new
Adds old new (Err fault) read = IsFault fault read

-- how far the parts of a cut text go, with an octet between them and one more
abbrev pub span : List Text → ℕ
span [] = 0
span (t ∷ ts) = length t + 1 + span ts
