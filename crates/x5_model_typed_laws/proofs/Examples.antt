-- A message that fits its type: the read of /C=NL that x5_model_typed computes the octets of.
use Rattle.std.proofs.Common.{refl, [], ◌∷◌}
use Rattle.std.specs.Prelude.{pos, false, codes}
use Rattle.std.specs.declared.option.Option.TheVariants.{None}
use Rattle.x5_model_typed.specs.Nodes.{Node, Flag, Oid, Text, Chosen, Many, whole, row}
use Rattle.x5_model_typed.specs.Named.{DapRequest, Argument, Read, Name, Agent}
use Rattle.x5_model_typed.specs.Typed as typed
use Rattle.x5_model_typed.specs.Layouts.{Surroundings, layout, all_attributes, no_controls}
use Rattle.x5_model_typed_laws.specs.Fits as fits
use Rattle.x5_model_typed_laws.specs.Fits.{Fits}

abbrev nowhere : Surroundings
nowhere = record { moment = λ t. None; time = λ m. None; is_agent = λ n. false }

abbrev pair_node : Node
pair_node = Many (row (Oid (2 ∷ 5 ∷ 4 ∷ 6 ∷ []) ∷ Text (codes "NL") ∷ []))

abbrev name_node : Node
name_node = Many (row (Many (row (pair_node ∷ [])) ∷ []))

-- an agent that isn't a copy: the default is left out
agent_fits : Fits (layout nowhere) (layout nowhere Agent) (Many (row (Text (codes "Alpha") ∷ Flag false ∷ [])))
agent_fits =
    fits.made _ refl refl refl
    (fits.sequence
    (fits.given refl (fits.whole _ _ refl refl refl refl refl) typed.required
    (fits.left_out (Flag false) refl refl fits.over))) refl

name_fits : Fits (layout nowhere) (layout nowhere Name) name_node
name_fits =
    fits.made _ refl refl refl
    (fits.members (fits.more
    (fits.made _ refl refl refl
    (fits.members (fits.more
    (fits.made _ refl refl refl
    (fits.sequence
    (fits.given refl (fits.whole _ _ refl refl refl refl refl) typed.required
    (fits.given refl (fits.whole _ _ refl refl refl refl refl) typed.required fits.over))) refl)
    fits.none)) refl)
    fits.none)) refl

read_fits : Fits (layout nowhere) (layout nowhere DapRequest)
    (Chosen 1 (Many (row (whole 1 ∷ whole 1 ∷ Many (row (name_node ∷ all_attributes ∷ no_controls ∷ [])) ∷ []))))
read_fits =
    fits.chosen_made _ 1 refl
    (fits.sequence
    (fits.given refl (fits.whole _ _ refl refl refl refl refl) typed.required
    (fits.given refl (fits.whole _ _ refl refl refl refl refl) (typed.named (pos 1) (Argument Read) refl refl)
    (fits.given refl
    (fits.made _ refl refl refl
    (fits.set
    (fits.present refl name_fits typed.required
    (fits.absent all_attributes refl refl (fits.absent no_controls refl refl fits.all)))) refl)
    typed.required fits.over)))) refl
