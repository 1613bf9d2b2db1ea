-- The subset is what the message asks for, so what is found is what the definition shows of the context; its entries stand in the
-- order of their keys.
use Rattle.std.proofs.Common.{map, ap, subst, ◌∙◌}
use Rattle.x5_ops.specs.AnswerViews.{info_view, outcome_view, source_view, sub_view}
use Rattle.x5_ops.specs.ReferenceViews.{chained_view}
use Rattle.x5_ops.specs.RequestViews.{body_view, selection_view, subset_view}
use Rattle.x5_match.specs.FilterView.{filter_view}
use Rattle.x5_dse.specs.Linked.{Nodes, IsLinked}
use Rattle.x5_eval.specs.Spots.{held_as}
use Rattle.x5_eval.proofs.Telling.{entries_ascending}
use Rattle.x5_eval.proofs.Parting.{asks, list_part, list_rises, search_part, search_rises}
use Rattle.x5_eval.proofs.shown.part_in.Goals as goal

pub unreachable-requires : goal.unreachable-requires
unreachable-requires c = asks (chained_view c.args.names.now c.args.message.now) c.requires.query (c.in_default.ensures c.args.names.now)

pub returns-in_ok-subs_in-in-List-clause-part : goal.returns-in_ok-subs_in-in-List-clause-part
returns-in_ok-subs_in-in-List-clause-part c =
    let linked = subst (λ (ns : Nodes). IsLinked ns.nodes) c.tree.ensures.nodes c.len.ensures.linked in
    list_part (chained_view c.args.names.now c.args.message.now) (held_as c.args.prefix.now c.args.held.now)
    (entries_ascending c.args.held.now.nodes.nodes linked.in_order) c.args.me c.args.stamp (subset_view c.in-Some.subset)
    (c.in-Some.ensures c.args.names.now) c.in-List.object (ap body_view c.in-List.is) c.is_some-copy.result c.is_some-copy.ensures (map sub_view c.from_vec.result)
    (map (source_view c.args.names.now) c.in_ok-sources.sources) (outcome_view c.args.names.now c.complete-outcome.result)
    (ap (map sub_view) c.from_vec.ensures ∙ c.in_ok-subs_in-in-List.ensures) c.in_ok-sources.ensures (c.complete-outcome.ensures c.args.names.now)

pub returns-in_ok-subs_in-in-List-clause-order : goal.returns-in_ok-subs_in-in-List-clause-order
returns-in_ok-subs_in-in-List-clause-order c =
    let linked = subst (λ (ns : Nodes). IsLinked ns.nodes) c.tree.ensures.nodes c.len.ensures.linked in
    list_rises (chained_view c.args.names.now c.args.message.now) (held_as c.args.prefix.now c.args.held.now)
    (entries_ascending c.args.held.now.nodes.nodes linked.in_order) c.args.me c.args.stamp (subset_view c.in-Some.subset)
    (c.in-Some.ensures c.args.names.now) c.in-List.object (ap body_view c.in-List.is) c.is_some-copy.result c.is_some-copy.ensures (map sub_view c.from_vec.result)
    (map (source_view c.args.names.now) c.in_ok-sources.sources) (outcome_view c.args.names.now c.complete-outcome.result)
    (ap (map sub_view) c.from_vec.ensures ∙ c.in_ok-subs_in-in-List.ensures) c.in_ok-sources.ensures (c.complete-outcome.ensures c.args.names.now)

pub returns-in_ok-infos_in-in-Search-clause-part : goal.returns-in_ok-infos_in-in-Search-clause-part
returns-in_ok-infos_in-in-Search-clause-part c =
    let linked = subst (λ (ns : Nodes). IsLinked ns.nodes) c.tree.ensures.nodes c.len.ensures.linked in
    search_part (chained_view c.args.names.now c.args.message.now) (held_as c.args.prefix.now c.args.held.now)
    (entries_ascending c.args.held.now.nodes.nodes linked.in_order) c.args.me c.args.stamp (subset_view c.in-Some.subset)
    (c.in-Some.ensures c.args.names.now) c.in-Search.base (subset_view c.in-Search.subset) (filter_view c.in-Search.filter) (selection_view c.in-Search.selection) (ap body_view c.in-Search.is) c.is_some-copy.result c.is_some-copy.ensures (map info_view c.from_vec-in-Search.result)
    (map (source_view c.args.names.now) c.in_ok-sources.sources) (outcome_view c.args.names.now c.complete-outcome.result)
    (ap (map info_view) c.from_vec-in-Search.ensures ∙ c.in_ok-infos_in-in-Search.ensures) c.in_ok-sources.ensures (c.complete-outcome.ensures c.args.names.now)

pub returns-in_ok-infos_in-in-Search-clause-order : goal.returns-in_ok-infos_in-in-Search-clause-order
returns-in_ok-infos_in-in-Search-clause-order c =
    let linked = subst (λ (ns : Nodes). IsLinked ns.nodes) c.tree.ensures.nodes c.len.ensures.linked in
    search_rises (chained_view c.args.names.now c.args.message.now) (held_as c.args.prefix.now c.args.held.now)
    (entries_ascending c.args.held.now.nodes.nodes linked.in_order) c.args.me c.args.stamp (subset_view c.in-Some.subset)
    (c.in-Some.ensures c.args.names.now) c.in-Search.base (subset_view c.in-Search.subset) (filter_view c.in-Search.filter) (selection_view c.in-Search.selection) (ap body_view c.in-Search.is) c.is_some-copy.result c.is_some-copy.ensures (map info_view c.from_vec-in-Search.result)
    (map (source_view c.args.names.now) c.in_ok-sources.sources) (outcome_view c.args.names.now c.complete-outcome.result)
    (ap (map info_view) c.from_vec-in-Search.ensures ∙ c.in_ok-infos_in-in-Search.ensures) c.in_ok-sources.ensures (c.complete-outcome.ensures c.args.names.now)
