-- The way to a name below the prefix ends at the lowest node on it, whose name has as many RDNs as the way.
use Rattle.std.proofs.Common.{◌≡◌, true, false, subst}
use Rattle.x5_model.specs.Keys.{Key, is_prefix}
use Rattle.x5_model.specs.Values.{key_of}
use Rattle.x5_dse.proofs.Named.{prefix_key}
use Rattle.x5_dse.proofs.Ways.{is_lowest, way_length}
use Rattle.x5_dse.proofs.place.lowest_node.Goals as goal

pub unreachable-requires : goal.unreachable-requires
unreachable-requires c =
    let outside : is_prefix (key_of c.args.prefix.now) (key_of c.args.name.now) ≡ false = c.in-None.ensures.down in
    let inside : is_prefix (key_of c.args.prefix.now) (key_of c.args.name.now) ≡ true =
    subst (λ (k : Key). is_prefix k (key_of c.args.name.now) ≡ true) (prefix_key c.args.prefix.now c.args.slots.now c.args.order.now c.requires.row) c.requires.below in
    cc

pub returns-clause-lowest : goal.returns-clause-lowest
returns-clause-lowest c = is_lowest c.args.prefix.now c.args.slots.now c.args.order.now c.requires.row (key_of c.args.name.now) c.in-Some.way.node c.in-Some.way.count c.in-Some.ensures.down

pub returns-clause-long : goal.returns-clause-long
returns-clause-long c = way_length c.args.prefix.now c.args.slots.now c.args.order.now c.requires.row (key_of c.args.name.now) c.in-Some.way.node c.in-Some.way.count c.in-Some.ensures.down
