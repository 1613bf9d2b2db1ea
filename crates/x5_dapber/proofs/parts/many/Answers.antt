-- Members of a vector are the parts.
use Rattle.std.proofs.Common.{sym}
use Rattle.x5_types.proofs.Nodes.{many_of_items}
use Rattle.x5_dapber.proofs.parts.many.Goals as goal

pub returns : goal.returns
returns c = sym (many_of_items c.args.parts)
