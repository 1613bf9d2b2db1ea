-- The two parts change places within their part of the list.
use Rattle.x5_one.proofs.Turning.{turned}
use Rattle.x5_one.proofs.renaming.turn.Goals as goal

pub returns : goal.returns
returns c = turned c.args.from c.args.middle c.args.to c.args.entries.now c.rotate_left.new.self c.rotate_left.ensures.after
