-- One entry more is taken each time, until none is left.
use Rattle.x5_agents.proofs.Several.{begun, at_place, at_end, finished, next_grown, next_kept, one_taken}
use Rattle.std.proofs.Common.{drop, ◌+◌}
use Rattle.x5_agents.proofs.entries.with_entries.Goals as goal

pub loop-named-init : goal.loop-named-init
loop-named-init c =
    begun c.args.held c.args.entries.now c.filling-filling.result c.filling-filling.ensures.nodes c.filling-filling.ensures.others
    c.requires.order c.requires.grown c.requires.kept

pub with_entry-requires : goal.with_entry-requires
with_entry-requires c =
    let s = at_place c.args.held c.args.entries.now c.loop-named.filling c.loop-named.named-index c.named-item.result
    c.loop-named-test.true c.named-item.is c.loop-named.invariant in
    record {
      order = s.order;
      grown = next_grown c.args.held c.args.entries.now c.loop-named.filling c.named-item.result
          (drop (c.loop-named.named-index + 1) c.args.entries.now) s;
      kept = next_kept c.args.held c.args.entries.now c.loop-named.filling c.named-item.result
          (drop (c.loop-named.named-index + 1) c.args.entries.now) s;
    }

pub loop-named-preserved : goal.loop-named-preserved
loop-named-preserved c =
    one_taken c.args.held c.args.entries.now c.loop-named.filling c.named-item.result
    (drop (c.loop-named.named-index + 1) c.args.entries.now) c.in_ok-filling.filling
    (at_place c.args.held c.args.entries.now c.loop-named.filling c.loop-named.named-index c.named-item.result
    c.loop-named-test.true c.named-item.is c.loop-named.invariant)
    c.in_ok-filling.ensures

pub returns : goal.returns
returns c =
    finished c.args.held c.args.entries.now c.loop-named.filling c.finish.result c.finish.ensures.nodes c.finish.ensures.others
    (at_end c.args.held c.args.entries.now c.loop-named.filling c.loop-named.named-index c.loop-named-test.false
    c.loop-named.invariant)
