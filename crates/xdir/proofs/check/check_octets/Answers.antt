-- Octets that load give a world of 64 agents at most, and the line on its knowledge is written; others are refused by
-- the line of what is wrong in them.
use Rattle.std.proofs.Common.{◌≤◌, length, arith}
use Rattle.xdir.proofs.Beginning.{few_loaded, loaded}
use Rattle.xdir.proofs.Checks.{knows, refuses}
use Rattle.xdir.proofs.check.check_octets.Goals as goal

pub check_world-requires : goal.check_world-requires
check_world-requires g c =
    let few : length c.in-Ok.world.agents ≤ 64 = few_loaded c.in-Ok.world (loaded c.in-Ok.world c.args.octets.now c.in-Ok.ensures.loads) in omega arith

pub returns-in-Ok-clause-checks : goal.returns-in-Ok-clause-checks
returns-in-Ok-clause-checks g c =
    knows c.args.octets.now c.in-Ok.world c.in-Ok.ensures.loads c.check_world.result (g.K.Sink.octets c.args.out.now) (g.K.Sink.octets c.check_world.new.out)
    (g.K.Sink.fault_count c.args.out.now) (g.K.Sink.fault_count c.check_world.new.out) c.check_world.ensures

pub returns-in-Err-clause-checks : goal.returns-in-Err-clause-checks
returns-in-Err-clause-checks g c =
    refuses c.args.octets.now c.in-Err.fault c.in-Err.ensures.loads c.refuse_world.result (g.K.Sink.octets c.args.out.now) (g.K.Sink.octets c.refuse_world.new.out)
    (g.K.Sink.fault_count c.args.out.now) (g.K.Sink.fault_count c.refuse_world.new.out) c.refuse_world.ensures
