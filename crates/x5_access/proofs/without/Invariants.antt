-- Those kept so far are the others among those seen.
use Rattle.std.proofs.Common.{◌≡◌, take}
use Rattle.x5_model_run.specs.Needs.{others}
use Rattle.x5_access.proofs.without.Given as goal

abbrev pub invariant-loop-agent : goal.invariant-loop-agent
invariant-loop-agent l = l.kept ≡ others l.fn.me (take l.agent-index l.agents)
