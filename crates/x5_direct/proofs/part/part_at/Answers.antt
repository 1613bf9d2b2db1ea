-- The first octets are few, and spell the value.
use Rattle.std.proofs.Common.{ℕ, List, sym, subst}
use Rattle.x5_types.specs.FormView.{named_view}
use Rattle.x5_types.specs.NodeView.{node_view}
use Rattle.x5_direct.specs.Spelled.{Spelled}
use Rattle.x5_direct.proofs.Heads.{rest_here}
use Rattle.x5_direct.proofs.Carried.{part_spelled}
use Rattle.x5_direct.proofs.part.part_at.Goals as goal

pub returns-clause-is : goal.returns-clause-is
returns-clause-is c =
    let form = named_view c.args.form in
    let octets = c.args.octets.now in
    let n = node_view c.in_ok-node.node in
    let taken = c.in_ok-taken.taken in
    subst (λ (l : List ℕ). Spelled 48 form n octets l) (sym (rest_here octets taken))
    (part_spelled form n taken octets c.in_ok-taken.ensures.few c.in_ok-node.ensures)
