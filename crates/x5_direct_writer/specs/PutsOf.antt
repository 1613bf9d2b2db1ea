-- What is written of values of types stands before the octets that were there, or a value has nothing that can: the same in
-- all surroundings, since nothing in these types depends on them.
use Rattle.std.specs.Prelude.{◌≡◌, ℕ, ◌-◌, true, List, ◌++◌, length}
use Rattle.std.specs.declared.result.Result.{Result}
use Rattle.x5_model_octets.specs.Elements.{canonical, canonical_all, identifier, identifier_octets, shortest_length}
use Rattle.x5_model_typed.specs.Named.{Named}
use Rattle.x5_model_typed.specs.Nodes.{Node, row}
use Rattle.x5_model_typed.specs.Layouts.{Surroundings, layout}
use Rattle.x5_model_typed.specs.Written.{written, written_members}
use Rattle.x5_writer.specs.Puts.{Puts}
use Rattle.x5_writer.specs.declared.fault.WriteFault.{WriteFault}

-- The element of a value of the type.
abbrev pub PutsOf : {Y : Type 0} → Named → Node → List ℕ → List ℕ → Result Y WriteFault → Type 0
PutsOf form n old new result = (w : Surroundings) → Puts canonical (written (layout w) (layout w form) n) old new result

-- The elements of values of the type, one after the other.
abbrev pub PutsEach : {Y : Type 0} → Named → List Node → List ℕ → List ℕ → Result Y WriteFault → Type 0
PutsEach form ns old new result =
    (w : Surroundings) → Puts canonical_all (written_members (layout w) (layout w form) (row ns)) old new result

-- The header of a constructed element stands before all octets, of which all but so many are its content.
abbrev pub Encloses : ℕ → ℕ → ℕ → List ℕ → List ℕ → Type 0
Encloses class tag behind old new =
    new ≡ identifier_octets (identifier true class tag) ++ (shortest_length (length old - behind) ++ old)
