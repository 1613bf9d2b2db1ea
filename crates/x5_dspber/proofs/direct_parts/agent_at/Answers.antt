-- The content is the agent's name.
use Rattle.std.proofs.Common.{List, ℕ, sym, subst}
use Rattle.x5_model_typed.specs.Named as named
use Rattle.x5_model_typed.specs.Nodes as nodes
use Rattle.x5_direct.specs.Spelled.{Spelled}
use Rattle.x5_dspber.proofs.DirectParts.{agent_spelled}
use Rattle.x5_dspber.proofs.direct_parts.agent_at.Goals as goal

pub returns-clause-is : goal.returns-clause-is
returns-clause-is c =
    subst (λ (t : List ℕ). Spelled 0 named.AgentName (nodes.Text t) c.args.octets.now c.in_ok-content.rest.now)
    (sym c.in-Some.ensures.0)
    (agent_spelled c.in_ok-content.content.now c.args.octets.now c.in_ok-content.rest.now c.in_ok-content.ensures.opens
    c.in-Some.ensures.1)
