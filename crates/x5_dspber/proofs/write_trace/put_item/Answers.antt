-- The agent, the target, how far it's resolved and the mark stand in the element.
use Rattle.x5_dapreply.specs.ReplyViews.{told_item}
use Rattle.x5_dspber.proofs.TraceWritten.{agent_lost, item_put, progress_lost, target_lost}
use Rattle.x5_dspber.proofs.write_trace.put_item.Goals as goal

pub returns-in_err-put_progress : goal.returns-in_err-put_progress
returns-in_err-put_progress c w =
    progress_lost w (told_item c.args.item.now) c.in_err-put_progress.field-0.0 c.put_wide.new.out c.put_progress.new.out
    c.args.out.now c.put_progress.new.out c.from_residual-in_err-put_progress.result
    c.from_residual-in_err-put_progress.ensures.1 (c.in_err-put_progress.ensures w)

pub returns-in_err-put_name : goal.returns-in_err-put_name
returns-in_err-put_name c w =
    target_lost w (told_item c.args.item.now) c.in_err-put_name.field-0.0 c.put_progress.new.out c.put_name.new.out
    c.args.out.now c.put_name.new.out c.from_residual-in_err-put_name.result
    c.from_residual-in_err-put_name.ensures.1 (c.in_err-put_name.ensures w)

pub returns-in_err-put_agent : goal.returns-in_err-put_agent
returns-in_err-put_agent c w =
    agent_lost w (told_item c.args.item.now) c.in_err-put_agent.field-0.0 c.put_name.new.out c.put_agent.new.out
    c.args.out.now c.put_agent.new.out c.from_residual-in_err-put_agent.result
    c.from_residual-in_err-put_agent.ensures.1 (c.in_err-put_agent.ensures w)

pub returns : goal.returns
returns c w =
    item_put w (told_item c.args.item.now) c.len-behind.result c.args.out.now c.put_wide.new.out c.put_progress.new.out
    c.put_name.new.out c.put_agent.new.out c.enclose.new.out c.len-behind.ensures c.in_ok-enclose.ensures
    c.in_ok-put_wide.ensures (c.in_ok-put_progress.ensures w) (c.in_ok-put_name.ensures w) (c.in_ok-put_agent.ensures w)
