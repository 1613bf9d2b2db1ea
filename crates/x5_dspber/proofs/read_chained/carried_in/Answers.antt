-- Two components: chaining arguments, and the argument of the operation.
use Rattle.x5_dspber.proofs.Carried.{not_both, chaining_so, argument_so}
use Rattle.x5_dspber.proofs.read_chained.carried_in.Goals as goal

pub unreachable-requires : goal.unreachable-requires
unreachable-requires c =
    not_both c.parts-parts.result.now _ c.args.code c.parts-parts.ensures c.requires c.if-parts-ne2.true

pub argument_in-requires : goal.argument_in-requires
argument_in-requires c =
    argument_so c.parts-parts.result.now _ c.args.code c.parts-parts.ensures c.requires c.index-parts-1.result c.index-parts-1.is

pub chaining_in-requires : goal.chaining_in-requires
chaining_in-requires c =
    chaining_so c.parts-parts.result.now _ c.args.code c.parts-parts.ensures c.requires c.index-parts-0.result c.index-parts-0.is
