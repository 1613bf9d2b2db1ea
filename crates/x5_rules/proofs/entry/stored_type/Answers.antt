-- The first of two parts says the type.
use Rattle.std.proofs.Common.{◌∙◌, arith}
use Rattle.x5_rules.proofs.Stored.{not_typed, typed}
use Rattle.x5_rules.proofs.entry.stored_type.Goals as goal

pub returns-then-parts-ne2 : goal.returns-then-parts-ne2
returns-then-parts-ne2 c = not_typed c.args.parts.now c.if-parts-ne2.true

pub returns : goal.returns
returns c =
    c.known_type.ensures
    ∙ typed c.args.parts.now c.index-parts-0.result (omega (arith, c.if-parts-ne2.false)) (omega (arith, c.if-parts-ne2.false))
    c.index-parts-0.is
