-- The agent is one of those that are named.
use Rattle.std.proofs.Common.{◌≡◌, ◌==◌, arith, false, length}
use Rattle.x5_eval.proofs.Resting.{agent_there}
use Rattle.x5_eval.proofs.references.add_agent.Goals as goal

pub to_agent-requires-clause-there : goal.to_agent-requires-clause-there
to_agent-requires-clause-there c =
    let e : (c.args.agent == c.args.me) ≡ false = grind arith in
    agent_there (length c.args.names.now) c.args.name.now c.args.exclusions.now c.args.me c.args.agent e c.requires.known
