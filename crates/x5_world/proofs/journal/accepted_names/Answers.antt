-- One name more, which is that of its agent.
use Rattle.x5_world.proofs.Journals.{one_name_more}
use Rattle.x5_world.proofs.journal.accepted_names.Goals as goal

pub loop-agent-preserved : goal.loop-agent-preserved
loop-agent-preserved c =
    one_name_more c.args.names.now c.args.accepted.now c.loop-agent.agent-index c.agent-item.result
    c.in_ok-clone.field-0 c.name.result.now c.loop-agent.list c.push.new.self c.requires.apart c.requires.there
    c.loop-agent-test.true c.agent-item.is c.name.ensures c.in_ok-clone.ensures.cases c.loop-agent.invariant
    c.in_ok-push.ensures.ok
