-- A described world has 64 agents at most, which is fewer than the 256 for which the line on knowledge can be made.
use Rattle.std.proofs.Common.{arith}
use Rattle.xdir.proofs.Beginning.{few_loaded}
use Rattle.xdir.proofs.run.run_commands.Goals as goal

pub line_of-requires : goal.line_of-requires
line_of-requires g c =
    let few = few_loaded c.args.described.now c.requires.begun.stands.described in omega (arith, few)
