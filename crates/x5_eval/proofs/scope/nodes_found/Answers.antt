-- Either way all that the search finds is found, and nothing else.
use Rattle.std.proofs.Common.{◌≡◌, ℕ, true, List, Option, map, sym, subst, ◌∙◌}
use Rattle.std.specs.List.{filter}
use Rattle.x5_model.specs.Members.{In}
use Rattle.x5_model.specs.Values.{key_of}
use Rattle.x5_match.specs.FilterView.{filter_view}
use Rattle.x5_ops.specs.RequestViews.{subset_view}
use Rattle.x5_dse.specs.Linked.{Nodes, IsLinked, AreNumbered, is_live}
use Rattle.x5_index.specs.Index.{Index}
use Rattle.x5_index.specs.Lookup.{IsLookUp}
use Rattle.x5_holdings.proofs.Posted.{top_live}
use Rattle.x5_eval.specs.Scopes.{as_id, is_found_at, is_selected}
use Rattle.x5_eval.proofs.Chosen.{asked_live, by_candidates, by_links, candidates_live}
use Rattle.x5_eval.proofs.Telling.{ok_by}
use Rattle.x5_eval.proofs.scope.nodes_found.Goals as goal

pub entry-requires : goal.entry-requires
entry-requires c = top_live c.tree-tree.result.now.nodes c.top.result c.top.ensures

pub found_among-requires : goal.found_among-requires
found_among-requires c number i =
    let nodes = c.args.held.now.nodes.nodes in
    let subset = subset_view c.args.subset in
    let base = key_of c.args.base.now in
    let wanted = filter_view c.args.wanted.now in
    let numbered = subst (λ (ns : Nodes). AreNumbered ns.nodes) c.tree-tree.ensures.nodes c.entry.ensures.numbered in
    let postings = c.args.held.now.postings.postings in
    let candidates = subst (λ (o : Option (List ℕ)). IsLookUp postings wanted o) c.in-Some.is
    (subst (λ (x : Index). IsLookUp x.postings wanted c.in_ok-numbers.field-0) c.postings.ensures.postings
    c.in_ok-numbers.ensures) in
    subst (λ (ns : Nodes). is_live ns.nodes (as_id number) ≡ true) (sym c.tree-tree.ensures.nodes)
    (candidates_live nodes numbered subset base wanted postings c.tree-tree.ensures.kept.posted c.in-Some.numbers candidates
    number (subst (λ (l : List ℕ). In number l) c.as_slice.ensures i))

pub returns-in-Some : goal.returns-in-Some
returns-in-Some c =
    let nodes = c.args.held.now.nodes.nodes in
    let subset = subset_view c.args.subset in
    let base = key_of c.args.base.now in
    let wanted = filter_view c.args.wanted.now in
    let numbered = subst (λ (ns : Nodes). AreNumbered ns.nodes) c.tree-tree.ensures.nodes c.entry.ensures.numbered in
    let postings = c.args.held.now.postings.postings in
    let candidates = subst (λ (o : Option (List ℕ)). IsLookUp postings wanted o) c.in-Some.is
    (subst (λ (x : Index). IsLookUp x.postings wanted c.in_ok-numbers.field-0) c.postings.ensures.postings
    c.in_ok-numbers.ensures) in
    ok_by _ _ (λ found e. by_candidates nodes numbered subset base wanted postings c.tree-tree.ensures.kept.posted
    c.in-Some.numbers candidates found.items
    (e ∙ (λ i. filter (is_found_at (c.tree-tree.ensures.nodes i).nodes subset base wanted) (map as_id
    (c.as_slice.ensures i))))) c.found_among.result c.found_among.ensures

pub selected-requires : goal.selected-requires
selected-requires c id i =
    let nodes = c.args.held.now.nodes.nodes in
    let subset = subset_view c.args.subset in
    let base = key_of c.args.base.now in
    let wanted = filter_view c.args.wanted.now in
    let numbered = subst (λ (ns : Nodes). AreNumbered ns.nodes) c.tree-tree.ensures.nodes c.entry.ensures.numbered in
    let linked = subst (λ (ns : Nodes). IsLinked ns.nodes) c.tree-tree.ensures.nodes c.entry.ensures.linked in
    let ids = c.deref.ensures.value ∙ c.in_ok-nodes-in-None.ensures in
    subst (λ (ns : Nodes). is_live ns.nodes id ≡ true) (sym c.tree-tree.ensures.nodes)
    (asked_live nodes numbered linked subset base wanted c.deref.result.now ids id i)

pub returns-in_ok-nodes-in-None : goal.returns-in_ok-nodes-in-None
returns-in_ok-nodes-in-None c =
    let nodes = c.args.held.now.nodes.nodes in
    let subset = subset_view c.args.subset in
    let base = key_of c.args.base.now in
    let wanted = filter_view c.args.wanted.now in
    let numbered = subst (λ (ns : Nodes). AreNumbered ns.nodes) c.tree-tree.ensures.nodes c.entry.ensures.numbered in
    let linked = subst (λ (ns : Nodes). IsLinked ns.nodes) c.tree-tree.ensures.nodes c.entry.ensures.linked in
    let ids = c.deref.ensures.value ∙ c.in_ok-nodes-in-None.ensures in
    ok_by _ _ (λ found e. by_links nodes numbered linked subset base wanted c.deref.result.now found.items ids
    (e ∙ (λ i. filter (is_selected (c.tree-tree.ensures.nodes i).nodes wanted) c.deref.result.now)))
    c.selected.result c.selected.ensures
