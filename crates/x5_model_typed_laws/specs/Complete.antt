-- Reading by type decides what elements are: of every table of types.
use Rattle.std.specs.Prelude.{◌≡◌, ◌⊎◌, List}
use Rattle.std.specs.declared.result.Result.TheVariants.{Ok, Err}
use Rattle.x5_model_typed.specs.Trees.{Tree}
use Rattle.x5_model_typed.specs.Nodes.{Node}
use Rattle.x5_model_typed.specs.Forms.{Alternative, Layout}
use Rattle.x5_model_octets.specs.Breaches.{Breach}
use Rattle.x5_model_typed.specs.Judged.{judged}
use Rattle.x5_model_typed.specs.Typed.{IsOf}

-- Wherever an element is a value of a type, it is judged to be that value.
abbrev pub IsJudged : Type 0
IsJudged = (layout : Layout) (types : List Alternative) (t : Tree) (n : Node) → IsOf layout types t n
    → judged layout types t ≡ Ok n

-- An element is a value of a type, and judged to be it, or it is none, and judged to have a breach.
abbrev pub JudgedDecides : Type 0
JudgedDecides = (layout : Layout) (types : List Alternative) (t : Tree)
    → ((n : Node) × (judged layout types t ≡ Ok n) × IsOf layout types t n)
    ⊎ ((b : Breach) × (judged layout types t ≡ Err b) × ((n : Node) → ¬ (IsOf layout types t n)))
