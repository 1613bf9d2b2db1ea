-- The entry is taken behind all others.
use Rattle.x5_consume.proofs.Extending.{refused_none, extended}
use Rattle.x5_consume.proofs.building.put_entry.Goals as goal

pub unreachable-requires : goal.unreachable-requires
unreachable-requires c =
    refused_none c.args.filling.now c.reserve.new.self c.args.named c.named.inside.name c.named.inside.entry c.requires.order
    c.requires.can c.in_ok-reserve.ensures.nodes (λ i. (c.named.view_is i).name) (λ i. (c.named.view_is i).entry)
    c.in_default.field-0 c.in_default.ensures.fault

pub returns : goal.returns
returns c =
    extended c.args.filling.now c.reserve.new.self c.args.named c.named.inside.name c.named.inside.entry c.requires.order
    c.requires.can c.in_ok-reserve.ensures.nodes (λ i. (c.named.view_is i).name) (λ i. (c.named.view_is i).entry)
    c.in-Ok._node c.insert.new.self c.in_ok-reserve.ensures.others c.in-Ok.ensures.ok c.in-Ok.ensures.others
