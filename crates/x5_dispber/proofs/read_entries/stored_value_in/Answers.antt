-- The value is of the type, so it has a normal form.
use Rattle.std.proofs.Common.{◌≡◌, ℕ, List, true, ap, ap₂, sym, subst, ◌∙◌}
use Rattle.std.specs.declared.option.Option.{Option}
use Rattle.std.specs.declared.option.Option.TheVariants.{None, Some}
use Rattle.x5_model.specs.Values.{Value, StoredValue}
use Rattle.x5_model_typed.specs.Rules as rules
use Rattle.x5_types.specs.NodeView.{node_view}
use Rattle.x5_dispber.proofs.Parts.{none_there, one_there}
use Rattle.x5_dispber.proofs.read_entries.stored_value_in.Goals as goal

abbrev with_normal : Value → List ℕ → StoredValue
with_normal v n = record { value = v; normal = n }

pub unreachable-requires : goal.unreachable-requires
unreachable-requires c =
    none_there (rules.is_of_type c.args.kind (node_view c.args.node.now)) (rules.normal_in c.args.kind (node_view c.args.node.now))
    c.requires.1 (sym c.in_default.is ∙ c.in_ok-normal.ensures)

pub returns : goal.returns
returns c =
    ap₂ with_normal c.in_ok-value.ensures
    (one_there (rules.is_of_type c.args.kind (node_view c.args.node.now)) (rules.normal_in c.args.kind (node_view c.args.node.now))
    c.in-Some.normal (sym c.in-Some.is ∙ c.in_ok-normal.ensures))
