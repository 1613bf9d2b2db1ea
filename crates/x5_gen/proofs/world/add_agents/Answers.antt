-- No agent is added at first; each step adds the next, behind a comma unless it is the first, and draws for its people.
use Rattle.std.proofs.Common.{sym, string_bytes}
use Rattle.x5_gen.specs.World.{people_count}
use Rattle.x5_gen.proofs.Making.{none_drawn, no_agents, nothing_added, agent_added, drawn_more}
use Rattle.x5_gen.proofs.world.add_agents.Goals as goal

pub loop-agent-init : goal.loop-agent-init
loop-agent-init c = record {
  text = nothing_added (string_bytes c.args.text.now) _ (no_agents c.args.draws.now.x);
  draws = sym (none_drawn c.args.draws.now.x);
}

pub loop-agent-preserved : goal.loop-agent-preserved
loop-agent-preserved c = record {
  text = agent_added (string_bytes c.args.text.now) (string_bytes c.loop-agent.text) (string_bytes c.add_comma.new.text) (string_bytes c.add_agent.new.text) c.args.draws.now.x c.loop-agent.agent c.loop-agent.draws.x
      c.loop-agent.invariant.text c.in_ok-add_comma.ensures c.loop-agent.invariant.draws c.in_ok-add_agent.ensures.text;
  draws = drawn_more c.args.draws.now.x people_count c.loop-agent.agent c.loop-agent.draws.x c.add_agent.new.draws.x c.loop-agent.invariant.draws c.in_ok-add_agent.ensures.draws;
}
