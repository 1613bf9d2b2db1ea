-- What is seen where reading on fails: a fault that is Truncated shows the beginning of a value, any other a breach, by
-- what the reader says of the first fault from place 0.
use Rattle.std.proofs.Common.{◌++◌}
use Rattle.x5_ber.proofs.Pieces.{sees_fault}
use Rattle.x5_ber.proofs.feeder.look.Goals as goal

pub returns-in-Err-clause-sees : goal.returns-in-Err-clause-sees
returns-in-Err-clause-sees c =
    let read = c.in-Err.ensures.reads 0 c.requires.open_at in
    sees_fault (c.args.octets.now ++ c.args.part.now) c.in-Err.fault c.sight_of.result c.advance.new.self c.sight_of.ensures read.0 read.1
