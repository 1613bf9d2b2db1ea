-- The node of the name is that of an entry of the context.
use Rattle.std.proofs.Common.{ap, ◌∙◌}
use Rattle.std.specs.Option.{is_some, option_map}
use Rattle.x5_model.specs.Values.{key_of}
use Rattle.x5_model_tree.specs.Tree.{is_there}
use Rattle.x5_model_run.specs.Holdings.{Held}
use Rattle.x5_dse.specs.Linked.{id_of, node_at}
use Rattle.x5_eval.proofs.Numbered.{found_there}
use Rattle.x5_eval.proofs.numbers.has_entry.Goals as goal

pub returns-in-Some : goal.returns-in-Some
returns-in-Some c =
    c.is_some.ensures ∙ ap is_some c.find.ensures
    ∙ (λ i. is_some (option_map id_of (node_at (c.tree.ensures.nodes i).nodes (key_of c.args.name.now))))
    ∙ found_there c.in-Some.held.now.nodes.nodes (key_of c.args.name.now)
    ∙ ap (λ (k : Held). is_there k.entries (key_of c.args.name.now)) c.in-Some.ensures.view
