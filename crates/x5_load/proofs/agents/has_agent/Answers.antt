-- The name is among theirs where one of them has it.
use Rattle.std.proofs.Common.{sym, ◌∙◌}
use Rattle.x5_load.proofs.Listing.{agent_there}
use Rattle.x5_load.proofs.agents.has_agent.Goals as goal

pub returns : goal.returns
returns c = c.is_there.ensures ∙ sym (agent_there c.args.name.now c.args.agents.now)
