-- The master stands before the others.
use Rattle.std.proofs.Common.{ℕ, true, false, List, drop, subst}
use Rattle.x5_model_messages.specs.Shadows.{agent_node}
use Rattle.x5_model_typed.specs.Named as named
use Rattle.x5_types.specs.FormView.{world}
use Rattle.x5_direct.specs.Here.{EachHere}
use Rattle.x5_direct.proofs.Heads.{rest_here}
use Rattle.x5_direct.proofs.Here.{each_more_here}
use Rattle.x5_dispber.specs.ShadowViews.{agent_name}
use Rattle.x5_dispber.proofs.DirectParts.{agent_nodes}
use Rattle.x5_dispber.proofs.direct_references.access_at.Goals as goal

pub returns : goal.returns
returns c =
    let names = c.args.names.now in
    let w = world c.args.start.now names in
    let octets = c.args.octets.now in
    let size = c.in_ok-master.size in
    let copies = agent_nodes names true c.in_ok-shadows.shadows in
    let others : EachHere w 1 named.WorldAgent copies (drop size octets) =
    subst (λ (l : List ℕ). EachHere w 1 named.WorldAgent copies l) (rest_here octets size) c.in_ok-shadows.ensures in
    each_more_here w 1 named.WorldAgent (agent_node false (agent_name names c.in_ok-master.master)) copies octets
    (drop size octets) c.in_ok-master.ensures.reads others
