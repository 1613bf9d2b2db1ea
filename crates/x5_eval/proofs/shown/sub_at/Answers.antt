-- The last RDN of the node's name is that of its entry.
use Rattle.std.proofs.Common.{ap, ◌∙◌}
use Rattle.x5_model.specs.Values.{Rdn}
use Rattle.x5_dse.specs.Linked.{node_with}
use Rattle.x5_eval.proofs.Showing.{sub_at_node}
use Rattle.x5_eval.proofs.shown.sub_at.Goals as goal

pub returns : goal.returns
returns c =
    ap (λ (r : Rdn). record { rdn = r; copy = c.args.copy }) c.in_ok-clone.ensures.cases
    ∙ sub_at_node (node_with c.args.tree.now.nodes c.args.node) c.args.copy c.in_ok-name.name c.in-Some.rdn.now c.in_ok-name.ensures c.in-Some.ensures
