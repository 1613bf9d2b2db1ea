-- What the content says, the one element says.
use Rattle.std.proofs.Common.{[]}
use Rattle.x5_dapreply.proofs.direct.source_in.Goals as goal

pub returns : goal.returns
returns c = c.in_ok-source.ensures c.args.octets.now [] c.in_ok-content.ensures
