-- The prefix of agent 0 is the country; another's is the superior's prefix with the agent's own unit behind it.
use Rattle.std.proofs.Common.{◌∙◌, ◌++◌, codes, sym, ap, arith}
use Rattle.std.specs.Fmt.{decimal}
use Rattle.x5_gen.specs.World.{prefix}
use Rattle.x5_gen.proofs.Making.{country, unit_below}
use Rattle.x5_gen.proofs.world.+prefix.Goals as goal

pub returns : goal.returns
returns t c =
    let unit = codes "/OU=U" ++ decimal c.args.agent in
    c.in_ok-write.ensures.bytes ∙ ap (λ p. p ++ unit) c.in_ok-text.ensures ∙ sym (unit_below c.args.agent (omega (arith, c.if-agent-eq0.false)))

pub returns-then-agent-eq0 : goal.returns-then-agent-eq0
returns-then-agent-eq0 t c = c.in_ok-from_str.ensures.ok ∙ sym country ∙ ap prefix (sym c.if-agent-eq0.true)
