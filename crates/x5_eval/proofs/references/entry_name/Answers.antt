-- The node is that of the entry, whose name this is.
use Rattle.std.proofs.Common.{◌≡◌, None, Some, sym, subst, ◌∙◌}
use Rattle.std.specs.Option.{option_map}
use Rattle.x5_model.specs.Entries.{Named}
use Rattle.x5_model.specs.Values.{key_of}
use Rattle.x5_model_tree.specs.Tree.{entry_at}
use Rattle.x5_dse.specs.Linked.{Nodes, entries_of}
use Rattle.x5_dse.proofs.Callers.{found_live}
use Rattle.x5_eval.proofs.Answered.{name_found, no_name}
use Rattle.x5_eval.proofs.references.entry_name.Goals as goal

pub returns-in_default : goal.returns-in_default
returns-in_default c =
    subst (λ (n : Nodes). None ≡ option_map (λ (e : Named). e.name) (entry_at (entries_of n.nodes) (key_of c.args.at.now))) c.tree-tree.ensures.nodes
    (no_name c.tree-tree.result.now.nodes (key_of c.args.at.now) (sym c.in_default.is ∙ c.find.ensures))

pub entry-requires : goal.entry-requires
entry-requires c =
    found_live c.tree-tree.result.now.nodes (key_of c.args.at.now) c.in-Some.node (sym c.in-Some.is ∙ c.find.ensures)

pub name-requires : goal.name-requires
name-requires c =
    found_live c.tree-tree.result.now.nodes (key_of c.args.at.now) c.in-Some.node (sym c.in-Some.is ∙ c.find.ensures)

pub returns : goal.returns
returns c =
    subst (λ (n : Nodes). Some c.in_ok-name.field-0 ≡ option_map (λ (e : Named). e.name) (entry_at (entries_of n.nodes) (key_of c.args.at.now))) c.tree-tree.ensures.nodes
    (name_found c.tree-tree.result.now.nodes (key_of c.args.at.now) c.in-Some.node c.in_ok-name.field-0 c.entry.ensures.numbered
    (sym c.in-Some.is ∙ c.find.ensures) c.in_ok-name.ensures)
