-- Each that is read stands before those that are left.
use Rattle.std.proofs.Common.{map, sym, ◌∙◌}
use Rattle.x5_model_messages.specs.Replies as replies
use Rattle.x5_model_typed.specs.Named as named
use Rattle.x5_dapreply.specs.ReplyViews.{told_item}
use Rattle.x5_direct.proofs.Heads.{nothing}
use Rattle.x5_direct.proofs.Spelling.{all_done, mapped_end, one_more}
use Rattle.x5_dspber.proofs.direct_parts.items_in.Goals as goal

pub loop-left-preserved : goal.loop-left-preserved
loop-left-preserved c = (
  one_more 4 named.TraceItem replies.item_in c.args.octets.now c.loop-left.left.now (map told_item c.loop-left.trace)
      (told_item c.in_ok-item.item) c.in_ok-item.taken (map told_item c.add.new.trace)
      (mapped_end told_item c.loop-left.trace c.in_ok-item.item c.add.new.trace c.in_ok-add.ensures.added)
      c.loop-left.invariant.0 c.in_ok-item.ensures.reads,
  c.in_ok-add.ensures.few,
  c.in_ok-add.ensures.apart c.loop-left.invariant.2,
)

pub returns-clause-each : goal.returns-clause-each
returns-clause-each c =
    all_done 4 named.TraceItem replies.item_in c.args.octets.now c.loop-left.left.now (map told_item c.loop-left.trace)
    c.loop-left.invariant.0 (nothing c.loop-left.left.now (sym c.is_empty.ensures ∙ c.loop-left-test.false))
