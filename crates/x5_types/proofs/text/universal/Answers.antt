-- The leaf of the definition, by the text of all characters.
use Rattle.std.proofs.Common.{◌≡◌, List, ℕ, String, Global, ap, sym, ◌∙◌, string_bytes}
use Rattle.std.specs.Option.{option_map}
use Rattle.std.specs.declared.option.Option.{Option}
use Rattle.std.specs.declared.option.Option.TheVariants.{None, Some}
use Rattle.x5_types.specs.Cells.{encoded}
use Rattle.x5_model_typed.specs.Leaves as leaves
use Rattle.x5_model_typed.specs.Nodes as nodes
use Rattle.x5_types.proofs.Cells.{universal_of}
use Rattle.x5_types.proofs.text.universal.Goals as goal

pub returns-in_default : goal.returns-in_default
returns-in_default c =
    let none : None ≡ encoded (leaves.cells c.args.octets.now) =
    sym (ap (λ (o : Option (String Global)). option_map string_bytes o) c.in_default.is) ∙ c.in_ok-text.ensures in
    sym (universal_of c.args.octets.now None none)

pub returns : goal.returns
returns c =
    let some : Some (string_bytes c.in-Some.text) ≡ encoded (leaves.cells c.args.octets.now) =
    sym (ap (λ (o : Option (String Global)). option_map string_bytes o) c.in-Some.is) ∙ c.in_ok-text.ensures in
    c.kept.ensures ∙ sym (universal_of c.args.octets.now (Some (string_bytes c.in-Some.text)) some)
