-- A source has the context, the agent, and the moment of a copy as its components.
use Rattle.std.proofs.Common.{◌≡◌, refl}
use Rattle.x5_model_messages.specs.Replies as replies
use Rattle.x5_model_messages.specs.Terms as terms
use Rattle.x5_model_typed.specs.Layouts.{Surroundings, layout}
use Rattle.x5_model_typed.specs.Named as named
use Rattle.x5_model_typed.specs.Nodes.{Text}
use Rattle.x5_model_typed.specs.Written.{one_before, written}
use Rattle.x5_direct_writer.proofs.Putting.{around}
use Rattle.x5_dapreply.specs.Found.{moment_elements}

pub source_is : (w : Surroundings) (s : replies.Source)
    → written (layout w) (layout w named.Source) (replies.source_node s)
    ≡ around 0 16 (one_before (written (layout w) (layout w named.Name) (terms.name_node s.context))
    (one_before (written (layout w) (layout w named.AgentName) (Text s.agent)) (moment_elements w s.moment)))
source_is w s = refl
