-- A line that is no request names nobody.
use Rattle.xdir.proofs.Telling.{ok_more, set_block}
use Rattle.xdir.proofs.tree.set_block.Goals as goal

pub returns : goal.returns
returns c = ok_more c.block-printed.result (λ text h. set_block c.args.start.now c.args.line c.no_messages.result text
    c.no_messages.ensures.lines c.no_messages.ensures.accepted h) c.block-printed.ensures.named
