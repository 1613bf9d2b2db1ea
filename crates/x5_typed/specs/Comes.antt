-- What reading octets as a value of a type comes to. They are read twice: first as an element, whatever its type, and
-- nothing behind it; then by the type.
use Rattle.std.specs.Prelude.{◌≡◌, ℕ, List, ◌∷◌, ◌++◌, length}
use Rattle.std.specs.declared.result.Result.{Result}
use Rattle.std.specs.declared.result.Result.TheVariants.{Err}
use Rattle.x5_model_octets.specs.Faults.{Fault, BadTag, FirstFault, outermost}
use Rattle.x5_model_typed.specs.Trees.{Tree, Lies}
use Rattle.x5_model_typed.specs.Nodes.{Node}
use Rattle.x5_model_typed.specs.Named.{Named}
use Rattle.x5_model_typed.specs.Forms.{Layout}
use Rattle.x5_model_octets.specs.Breaches.{Breach, Ber}
use Rattle.x5_model_typed.specs.Judged.{judged}
use Rattle.x5_types.specs.FormView.{table}

pub data Comes (layout : Layout) (form : Named) (octets : List ℕ) : Result Node Breach → Type 0 where
  -- the first fault of the element (X.690)
  faulty : (fault : Fault) → FirstFault octets outermost 0 fault → Comes layout form octets (Err (Ber fault))
  -- an octet behind the one whole element
  more : (tree : Tree) (first rest : List ℕ) (o : ℕ) → Lies 1 0 tree first → octets ≡ first ++ (o ∷ rest)
      → Comes layout form octets (Err (Ber (BadTag (length first))))
  -- what the one element is judged to be
  whole : (tree : Tree) → Lies 1 0 tree octets → Comes layout form octets (judged layout (layout form) tree)

-- In messages of users and between agents, whose types depend on nothing else.
abbrev pub ComesTo : Named → List ℕ → Result Node Breach → Type 0
ComesTo form octets e = Comes table form octets e
