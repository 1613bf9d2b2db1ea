-- What a script's lines ask for is what is told of; or its first line is refused.
use Rattle.std.proofs.Common.{◌≡◌, ◌≤◌, ℕ, List, length, map, sym, ap, subst, ◌∙◌, Ok, Err}
use Rattle.std.proofs.lemmas.List.{length-map}
use Rattle.x5_know.specs.WorldView.{world_view}
use Rattle.x5_load.specs.Views.{file_view}
use Rattle.x5_model_script.specs.Script.{script_of}
use Rattle.x5_script.specs.Views.{command_view, ReadsScript}
use Rattle.x5_script.specs.declared.command.Command.{Command}
use Rattle.xdir.specs.Run.{lost_in}
use Rattle.x5_model_tree.specs.World.{names_of_agents}
use Rattle.xdir.proofs.Few.{few}
use Rattle.xdir.proofs.TreeEnds.{tells_script, refuses_line}
use Rattle.xdir.proofs.tree.tree_octets.Goals as goal

pub tree_commands-requires-clause-few : goal.tree_commands-requires-clause-few
tree_commands-requires-clause-few g c =
    let f = few c.world.inside.0.1.0 (length c.as_slice-lost.result.now) c.args.script.now (map command_view c.in-Ok.commands.items)
    c.in-Ok.ensures in
    subst (λ (cs : List Command). length cs ≤ 100000) (sym c.deref.ensures.value)
    (subst (λ (n : ℕ). n ≤ 100000) (length-map c.in-Ok.commands.items command_view) f)

pub returns-in-Ok-clause-writes : goal.returns-in-Ok-clause-writes
returns-in-Ok-clause-writes g c =
    let w = world_view c.args.world.now in
    let script = c.args.script.now in
    tells_script (file_view c.args.world.now) script (map command_view c.deref.result.now)
    (subst (λ (cs : List Command). script_of (names_of_agents w) (lost_in w) script ≡ Ok (map command_view cs)) (sym c.deref.ensures.value)
    (subst (λ (n : ℕ). script_of (names_of_agents w) n script ≡ Ok (map command_view c.in-Ok.commands.items))
    (ap length c.as_slice-lost.ensures ∙ (λ i. length (c.world.view_is i).network.lost_replies))
    (subst (λ (names : List (List ℕ)). script_of names (length c.as_slice-lost.result.now) script
    ≡ Ok (map command_view c.in-Ok.commands.items)) ((λ i. (c.world.view_is i).names) ∙ c.requires.named) c.in-Ok.ensures)))
    c.tree_commands.result (g.K.Sink.octets c.args.out.now) (g.K.Sink.octets c.tree_commands.new.out)
    (g.K.Sink.fault_count c.args.out.now) (g.K.Sink.fault_count c.tree_commands.new.out) c.tree_commands.ensures.writes

pub returns-in-Err-clause-writes : goal.returns-in-Err-clause-writes
returns-in-Err-clause-writes g c =
    let w = world_view c.args.world.now in
    let script = c.args.script.now in
    refuses_line (file_view c.args.world.now) script c.in-Err.refusal
    (subst (λ (n : ℕ). ReadsScript (Err c.in-Err.refusal) (names_of_agents w) n script)
    (ap length c.as_slice-lost.ensures ∙ (λ i. length (c.world.view_is i).network.lost_replies))
    (subst (λ (names : List (List ℕ)). ReadsScript (Err c.in-Err.refusal) names (length c.as_slice-lost.result.now) script)
    ((λ i. (c.world.view_is i).names) ∙ c.requires.named) c.in-Err.ensures))
    c.refuse_script.result (g.K.Sink.octets c.args.out.now) (g.K.Sink.octets c.refuse_script.new.out)
    (g.K.Sink.fault_count c.args.out.now) (g.K.Sink.fault_count c.refuse_script.new.out) c.refuse_script.ensures
