-- Members of a content of which some were read.
use Rattle.std.specs.Prelude.{◌≡◌, ℕ, ◌+◌, List, length}
use Rattle.x5_ber.specs.Reading.{Stands}
use Rattle.x5_model_typed.specs.Trees.{Trees, LieAll}
use Rattle.x5_model_typed.specs.Forms.{Layout}
use Rattle.x5_model_typed.specs.Judged.{State, judged_all}

-- Of members that begin at the start, those that stand at the place are left, and judging them from where reading
-- stands now is judging all from where it began.
pub record Ahead (layout : Layout) (bytes : List ℕ) (depth start : ℕ) (ts : Trees) (octets : List ℕ) (begun : State)
    (place : ℕ) (now : State) : Type 0 where
  pub others : Trees
  pub rest : List ℕ
  pub lie : LieAll depth place others rest
  pub stand : Stands bytes place rest
  pub ends : place + length rest ≡ start + length octets
  pub same : judged_all layout begun ts ≡ judged_all layout now others
