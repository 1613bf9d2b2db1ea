-- A name that is an agent's is found at the agent's place.
use Rattle.std.proofs.Common.{◌≡◌, sym, ◌∙◌}
use Rattle.x5_dispber.proofs.Found.{is_found, never_lost}
use Rattle.x5_dispber.proofs.read_refreshes.agent_named.Goals as goal

pub returns : goal.returns
returns c = is_found c.args.names.now c.args.text.now c.requires c.in-Some.agent (sym c.find.ensures ∙ c.in-Some.is)

pub unreachable-requires : goal.unreachable-requires
unreachable-requires c = never_lost c.args.names.now c.args.text.now c.requires (sym c.find.ensures ∙ c.in-None.is)
