-- A sum of remainders is the remainder of the sum.
use Rattle.std.proofs.Common.{◌*◌, ◌^◌}
use Rattle.std.proofs.Math.Nat.{mod-add-mod}
use Rattle.x5_gen.specs.Draws.{next}
use Rattle.x5_gen.proofs.draws.next.Goals as goal

pub returns : goal.returns
unfolding next
returns c = mod-add-mod (c.args.x * 6364136223846793005) (2 ^ 64) 1442695040888963407
