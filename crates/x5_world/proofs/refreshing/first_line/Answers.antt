-- The agreement's two agents are agents of the network.
use Rattle.std.proofs.Common.{ℕ, ◌<◌, List, length, sym, subst}
use Rattle.x5_world.proofs.Stopping.{way_agents}
use Rattle.x5_world.proofs.refreshing.first_line.Goals as goal

pub line-requires-clause-supplier : goal.line-requires-clause-supplier
line-requires-clause-supplier c =
    subst (λ (ns : List (List ℕ)). c.args.by.now.agreement.supplier < length ns) (sym c.names.ensures)
    (way_agents c.args.world.now c.args.by.now c.requires.sound c.requires.way).0

pub line-requires-clause-consumer : goal.line-requires-clause-consumer
line-requires-clause-consumer c =
    subst (λ (ns : List (List ℕ)). c.args.by.now.agreement.consumer < length ns) (sym c.names.ensures)
    (way_agents c.args.world.now c.args.by.now c.requires.sound c.requires.way).1
