-- The entry is taken, and the context is grown by it.
use Rattle.std.proofs.Common.{◌∙◌}
use Rattle.x5_agents.proofs.Growing.{refused_none, taken}
use Rattle.x5_agents.proofs.entries.put_entry.Goals as goal

pub unreachable-requires : goal.unreachable-requires
unreachable-requires c =
    refused_none c.args.filling.now c.reserve.new.self c.args.named.now c.in_ok-name.name c.in_ok-entry.entry c.requires.order
    c.requires.grown c.requires.kept c.in_ok-reserve.ensures.nodes
    (c.in_ok-name.ensures.cases ∙ (λ i. (c.named.view_is i).name))
    (c.in_ok-entry.ensures.cases ∙ (λ i. (c.named.view_is i).entry)) c.in_default.field-0 c.in_default.ensures.fault

pub returns : goal.returns
returns c =
    taken c.args.filling.now c.reserve.new.self c.args.named.now c.in_ok-name.name c.in_ok-entry.entry c.requires.order
    c.requires.grown c.requires.kept c.in_ok-reserve.ensures.nodes
    (c.in_ok-name.ensures.cases ∙ (λ i. (c.named.view_is i).name))
    (c.in_ok-entry.ensures.cases ∙ (λ i. (c.named.view_is i).entry)) c.in-Ok._node c.insert.new.self
    c.in_ok-reserve.ensures.others c.in-Ok.ensures.ok c.in-Ok.ensures.others
