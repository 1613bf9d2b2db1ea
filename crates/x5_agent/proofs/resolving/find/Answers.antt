-- What it says is what is found at it; a part is asked for below the entry of a nonSpecific reference. What is known
-- names agents of the network, and names whose RDNs an octet counts.
use Rattle.std.proofs.Common.{◌≡◌, length, sym, ◌∙◌}
use Rattle.std.proofs.lemmas.Result.{IfOk-weaker}
use Rattle.x5_model_run.specs.Chain.{Scene}
use Rattle.x5_model_run.specs.Journal.{Journal}
use Rattle.x5_model_known.proofs.Finding.{onward_there, rest_there}
use Rattle.x5_model_serve.specs.Serving.{hand, holds_now}
use Rattle.x5_holdings.specs.State.{holdings_view}
use Rattle.x5_ops.specs.ReferenceViews.{chained_view}
use Rattle.x5_serve.specs.Networks.{IsFound}
use Rattle.x5_serve.specs.declared.network.Found.{Found}
use Rattle.x5_agent.proofs.Near.{near_held}
use Rattle.x5_agent.proofs.Queries.{begins_below, below_query}
use Rattle.x5_agent.proofs.Serving.{said_is_found}
use Rattle.x5_agent.proofs.resolving.find.Goals as goal

pub part-requires-clause-query : goal.part-requires-clause-query
part-requires-clause-query c =
    below_query (chained_view c.args.names.now c.args.message.now) c.requires.fit
    (sym (c.is_below.ensures c.args.names.now) ∙ c.if-is_below.true)

pub part-requires-clause-begins : goal.part-requires-clause-begins
part-requires-clause-begins c =
    begins_below (holdings_view c.args.state.now) (chained_view c.args.names.now c.args.message.now)
    (sym (c.is_below.ensures c.args.names.now) ∙ c.if-is_below.true)

pub part-requires-clause-rest : goal.part-requires-clause-rest
part-requires-clause-rest c =
    rest_there (length c.args.names.now) (holdings_view c.args.state.now) (chained_view c.args.names.now
    c.args.message.now) c.requires.known

pub at_name-requires-clause-near : goal.at_name-requires-clause-near
at_name-requires-clause-near c =
    near_held c.args.state.now (chained_view c.args.names.now c.args.message.now) c.requires.counted

pub at_name-requires-clause-known : goal.at_name-requires-clause-known
at_name-requires-clause-known c =
    onward_there (length c.args.names.now) (holdings_view c.args.state.now) (chained_view c.args.names.now
    c.args.message.now) c.requires.known

pub at_name-requires-clause-rest : goal.at_name-requires-clause-rest
at_name-requires-clause-rest c =
    rest_there (length c.args.names.now) (holdings_view c.args.state.now) (chained_view c.args.names.now
    c.args.message.now) c.requires.known

pub at_name-requires-clause-named : goal.at_name-requires-clause-named
at_name-requires-clause-named c = sym (c.is_below.ensures c.args.names.now) ∙ c.if-is_below.false

pub returns-then-is_below : goal.returns-then-is_below
returns-then-is_below c =
    IfOk-weaker c.part.result _
    (λ (f : Found). (s : Scene) (j : Journal) → holds_now s j (hand c.args.state.now.me
    (chained_view c.args.names.now c.args.message.now)) ≡ holdings_view c.args.state.now → IsFound s c.args.names.now j
    (hand c.args.state.now.me (chained_view c.args.names.now c.args.message.now)) f)
    (λ f p s j now. said_is_found s j c.args.names.now (holdings_view c.args.state.now)
    (chained_view c.args.names.now c.args.message.now) now f p) c.part.ensures

pub returns : goal.returns
returns c =
    IfOk-weaker c.at_name.result _
    (λ (f : Found). (s : Scene) (j : Journal) → holds_now s j (hand c.args.state.now.me
    (chained_view c.args.names.now c.args.message.now)) ≡ holdings_view c.args.state.now → IsFound s c.args.names.now j
    (hand c.args.state.now.me (chained_view c.args.names.now c.args.message.now)) f)
    (λ f p s j now. said_is_found s j c.args.names.now (holdings_view c.args.state.now)
    (chained_view c.args.names.now c.args.message.now) now f p) c.at_name.ensures
