-- A name is an agent's where it's found.
use Rattle.std.proofs.Common.{◌≡◌, List, ℕ, ◌∙◌, ap}
use Rattle.std.specs.Option.{is_some}
use Rattle.std.specs.declared.option.Option.{Option}
use Rattle.x5_types.proofs.Agents.{is_named}
use Rattle.x5_types.proofs.surroundings.Surroundings.is_agent.Goals as goal

pub returns-in-World : goal.returns-in-World
returns-in-World c =
    rw c.in-World.is (c.is_some.ensures ∙ ap (λ (o : Option ℕ). is_some o) c.find.ensures
    ∙ is_named c.args.name.now c.in-World.names.now)
