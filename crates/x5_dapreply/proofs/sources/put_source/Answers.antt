-- The context, the agent and the moment are the components.
use Rattle.x5_model_messages.specs.Replies as replies
use Rattle.x5_model_messages.specs.Terms as terms
use Rattle.x5_model_typed.specs.Layouts.{layout}
use Rattle.x5_model_typed.specs.Named as named
use Rattle.x5_model_typed.specs.Nodes.{Text}
use Rattle.x5_model_typed.specs.Written.{one_before, written}
use Rattle.x5_direct_writer.proofs.Putting.{one_put}
use Rattle.x5_direct_writer.proofs.Rows.{front_lost, front_put, others_lost}
use Rattle.x5_direct_writer.proofs.Wholes.{first_fault, later_fault}
use Rattle.x5_dapreply.specs.Found.{moment_elements}
use Rattle.x5_dapreply.specs.ReplyViews.{told_source}
use Rattle.x5_dapreply.proofs.Sourcing.{source_is}
use Rattle.x5_dapreply.proofs.sources.put_source.Goals as goal

pub returns-in_err-put_moment : goal.returns-in_err-put_moment
returns-in_err-put_moment c w =
    let s = told_source c.args.source.now in
    let agent = written (layout w) (layout w named.AgentName) (Text s.agent) in
    let moment = moment_elements w s.moment in
    let new = c.put_moment.new.out in
    let fault = c.in_err-put_moment.field-0.0 in
    others_lost 0 16 (written (layout w) (layout w named.Source) (replies.source_node s))
    (written (layout w) (layout w named.Name) (terms.name_node s.context)) (one_before agent moment)
    fault c.args.out.now new c.args.out.now new c.from_residual.result (source_is w s) c.from_residual.ensures.1
    (later_fault agent moment fault c.args.out.now new c.args.out.now new (c.in_err-put_moment.ensures w))

pub returns-in_err-put_agent : goal.returns-in_err-put_agent
returns-in_err-put_agent c w =
    let s = told_source c.args.source.now in
    let agent = written (layout w) (layout w named.AgentName) (Text s.agent) in
    let moment = moment_elements w s.moment in
    let mid = c.put_moment.new.out in
    let new = c.put_agent.new.out in
    let fault = c.in_err-put_agent.field-0.0 in
    others_lost 0 16 (written (layout w) (layout w named.Source) (replies.source_node s))
    (written (layout w) (layout w named.Name) (terms.name_node s.context)) (one_before agent moment)
    fault mid new c.args.out.now new c.from_residual-in_err-put_agent.result (source_is w s)
    c.from_residual-in_err-put_agent.ensures.1
    (first_fault agent moment fault mid new mid new (c.in_err-put_agent.ensures w))

pub returns-in_err-put_name : goal.returns-in_err-put_name
returns-in_err-put_name c w =
    let s = told_source c.args.source.now in
    let agent = written (layout w) (layout w named.AgentName) (Text s.agent) in
    let moment = moment_elements w s.moment in
    let new = c.put_name.new.out in
    front_lost 0 16 (written (layout w) (layout w named.Source) (replies.source_node s))
    (written (layout w) (layout w named.Name) (terms.name_node s.context)) (one_before agent moment)
    c.in_err-put_name.field-0.0 c.put_agent.new.out new c.args.out.now new c.from_residual-in_err-put_name.result
    (source_is w s) c.from_residual-in_err-put_name.ensures.1 (c.in_err-put_name.ensures w)

pub returns : goal.returns
returns c w =
    let s = told_source c.args.source.now in
    let agent = written (layout w) (layout w named.AgentName) (Text s.agent) in
    let moment = moment_elements w s.moment in
    let old = c.args.out.now in
    let early = c.put_moment.new.out in
    let late = c.put_agent.new.out in
    front_put 0 16 c.len-behind.result (written (layout w) (layout w named.Source) (replies.source_node s))
    (written (layout w) (layout w named.Name) (terms.name_node s.context)) (one_before agent moment)
    old late c.put_name.new.out c.enclose.new.out (source_is w s) c.len-behind.ensures c.in_ok-enclose.ensures
    (one_put agent moment old early late (c.in_ok-put_moment.ensures w) (c.in_ok-put_agent.ensures w))
    (c.in_ok-put_name.ensures w)
