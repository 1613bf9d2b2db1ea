-- The content is the text.
use Rattle.std.proofs.Common.{List, ℕ, sym, subst}
use Rattle.x5_model_typed.specs.Named as named
use Rattle.x5_model_typed.specs.Nodes as nodes
use Rattle.x5_direct.specs.Spelled.{Spelled}
use Rattle.x5_direct.proofs.Naming.{text_spelled}
use Rattle.x5_direct.proofs.names.text_at.Goals as goal

pub returns-clause-is : goal.returns-clause-is
returns-clause-is c =
    subst (λ (t : List ℕ). Spelled 0 named.Value (nodes.Text t) c.args.octets.now c.in_ok-content.rest.now)
    (sym c.in-Some.ensures.0)
    (text_spelled c.in_ok-content.content.now c.args.octets.now c.in_ok-content.rest.now c.in_ok-content.ensures.opens
    c.in-Some.ensures.1)
