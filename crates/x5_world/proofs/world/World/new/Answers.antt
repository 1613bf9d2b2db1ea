-- What is made of a described world is the network of its first line.
use Rattle.std.proofs.Common.{◌≤◌, List, None, map, sym, ap, subst, ◌∙◌}
use Rattle.std.specs.List.{each_same}
use Rattle.x5_model_tree.specs.World.{Agreement}
use Rattle.x5_know.specs.WorldView.{world_view}
use Rattle.x5_know.specs.declared.described.DescribedAgent.{DescribedAgent}
use Rattle.x5_world.specs.Counts.{contexts_of, pairs_of_agents}
use Rattle.x5_world.proofs.Beginning.{few_contexts, few_pairs, is_begun, net_begun, stands_begun, room_begun}
use Rattle.x5_world.proofs.world.World.new.Goals as goal

pub contexts-contexts-requires : goal.contexts-contexts-requires
contexts-contexts-requires c =
    subst (λ (ds : List DescribedAgent). contexts_of ds ≤ 4096) (sym c.as_slice.ensures)
    (few_contexts c.args.described.now c.requires.described)

pub pairs-pairs-requires : goal.pairs-pairs-requires
pairs-pairs-requires c =
    subst (λ (ds : List DescribedAgent). pairs_of_agents ds ≤ 4096) (sym c.as_slice-2.ensures)
    (few_pairs c.args.described.now c.requires.described)

pub invariant_of-result-2 : goal.invariant_of-result-2
invariant_of-result-2 c =
    net_begun (world_view c.args.described.now) _ c.requires.described c.requires.utf8
    (is_begun c.args.described.now c.names.inside.names.keys c.in_ok-agents.agents.items c.in_ok-links.links
    c.contexts-contexts.result c.pairs-pairs.result c.in_ok-clone.field-0 c.in_ok-none_of.field-0.items
    (c.names.view_is ∙ c.in_ok-names.ensures ∙ c.requires.named) c.in_ok-agents.ensures.count c.in_ok-agents.ensures.each
    c.in_ok-agents.ensures.unnoted c.in_ok-links.ensures
    (c.contexts-contexts.ensures ∙ ap contexts_of c.as_slice.ensures)
    (c.pairs-pairs.ensures ∙ ap pairs_of_agents c.as_slice-2.ensures)
    (each_same c.args.described.now.agreements c.in_ok-clone.field-0 c.in_ok-clone.ensures.cases)
    (c.in_ok-none_of.ensures ∙ ap (λ (gs : List Agreement). map (λ g. None) gs) c.as_slice-3.ensures))

pub returns-clause-stands : goal.returns-clause-stands
returns-clause-stands c =
    stands_begun (world_view c.args.described.now) _ c.requires.described c.requires.utf8 c.requires.references
    (is_begun c.args.described.now c.names.inside.names.keys c.in_ok-agents.agents.items c.in_ok-links.links
    c.contexts-contexts.result c.pairs-pairs.result c.in_ok-clone.field-0 c.in_ok-none_of.field-0.items
    (c.names.view_is ∙ c.in_ok-names.ensures ∙ c.requires.named) c.in_ok-agents.ensures.count c.in_ok-agents.ensures.each
    c.in_ok-agents.ensures.unnoted c.in_ok-links.ensures
    (c.contexts-contexts.ensures ∙ ap contexts_of c.as_slice.ensures)
    (c.pairs-pairs.ensures ∙ ap pairs_of_agents c.as_slice-2.ensures)
    (each_same c.args.described.now.agreements c.in_ok-clone.field-0 c.in_ok-clone.ensures.cases)
    (c.in_ok-none_of.ensures ∙ ap (λ (gs : List Agreement). map (λ g. None) gs) c.as_slice-3.ensures))

pub returns-clause-room : goal.returns-clause-room
returns-clause-room c =
    room_begun (world_view c.args.described.now) _ c.requires.described
    (is_begun c.args.described.now c.names.inside.names.keys c.in_ok-agents.agents.items c.in_ok-links.links
    c.contexts-contexts.result c.pairs-pairs.result c.in_ok-clone.field-0 c.in_ok-none_of.field-0.items
    (c.names.view_is ∙ c.in_ok-names.ensures ∙ c.requires.named) c.in_ok-agents.ensures.count c.in_ok-agents.ensures.each
    c.in_ok-agents.ensures.unnoted c.in_ok-links.ensures
    (c.contexts-contexts.ensures ∙ ap contexts_of c.as_slice.ensures)
    (c.pairs-pairs.ensures ∙ ap pairs_of_agents c.as_slice-2.ensures)
    (each_same c.args.described.now.agreements c.in_ok-clone.field-0 c.in_ok-clone.ensures.cases)
    (c.in_ok-none_of.ensures ∙ ap (λ (gs : List Agreement). map (λ g. None) gs) c.as_slice-3.ensures))
