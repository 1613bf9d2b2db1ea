-- The text is cut at its last `/`.
use Rattle.std.proofs.Common.{lit<}
use Rattle.x5_names.proofs.Slash.{cut_at_last}
use Rattle.x5_names.proofs.known.at_last_slash.Goals as goal

pub returns : goal.returns
returns c = cut_at_last 47 c.args.text.now c.rsplit_once.result c.rsplit_once.ensures.cases (lit< tt)
