-- Whom the references for the rest name are agents of the network.
use Rattle.std.proofs.Common.{length}
use Rattle.x5_model.specs.References.{Reference}
use Rattle.x5_model.proofs.Lists.{of_all}
use Rattle.x5_model_heard.specs.Told.{are_agents}
use Rattle.x5_model_serve.specs.Answering.{rest_of_parts}
use Rattle.x5_holdings.specs.State.{holdings_view}
use Rattle.x5_ops.specs.ReferenceViews.{chained_view}
use Rattle.x5_agent.proofs.resolving.part.Goals as goal

pub evaluate-requires-clause-known : goal.evaluate-requires-clause-known
evaluate-requires-clause-known c = λ r i.
    of_all (λ (x : Reference). are_agents (length c.args.names.now) x.agents) r
    (rest_of_parts (holdings_view c.args.state.now) (chained_view c.args.names.now c.args.message.now)) c.requires.rest i
