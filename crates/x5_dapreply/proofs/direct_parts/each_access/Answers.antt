-- Each that is read stands before those that are left.
use Rattle.std.proofs.Common.{map, sym, subst}
use Rattle.x5_model_typed.specs.Named as named
use Rattle.x5_model_messages.specs.Replies as replies
use Rattle.x5_dapreply.specs.ReplyViews.{told_access}
use Rattle.x5_direct.proofs.Spelling.{Goes, all_left, all_done}
use Rattle.x5_dapreply.proofs.LeafSpelling.{empty_left}
use Rattle.x5_dapreply.proofs.PartSpelling.{list_more}
use Rattle.x5_dapreply.proofs.direct_parts.each_access.Goals as goal

pub loop-left-init : goal.loop-left-init
loop-left-init c =
    subst (λ l. Goes 1 named.Agent replies.access_in c.args.octets.now (map told_access l) c.args.octets.now)
    (sym c.new-agents.ensures.items) (all_left 1 named.Agent replies.access_in c.args.octets.now)

pub loop-left-preserved : goal.loop-left-preserved
loop-left-preserved c =
    list_more 1 named.Agent replies.access_in told_access c.args.octets.now c.loop-left.left.now
    c.in_ok-content.rest.now c.loop-left.agents.items c.push.new.self.items c.in_ok-access.access
    c.in_ok-push.ensures.items c.loop-left.invariant
    (c.in_ok-access.ensures c.loop-left.left.now c.in_ok-content.rest.now c.in_ok-content.ensures.opens)

pub returns : goal.returns
returns c =
    all_done 1 named.Agent replies.access_in c.args.octets.now c.loop-left.left.now
    (map told_access c.loop-left.agents.items) c.loop-left.invariant
    (empty_left c.loop-left.left.now c.is_empty.result c.is_empty.ensures c.loop-left-test.false)
