-- Five components, of which the second is a number, the third a filter and the fourth a selection.
use Rattle.std.proofs.Common.{◌≡◌, ap, sym, subst, ◌∙◌}
use Rattle.x5_model.specs.Filters.{Filter}
use Rattle.x5_model.specs.Requests.{Selection, Subset, Search}
use Rattle.x5_model.specs.Values.{Name}
use Rattle.x5_model_messages.specs.Requests.{body_in}
use Rattle.x5_model_typed.specs.Nodes as nodes
use Rattle.x5_types.specs.declared.node.Node.{Node}
use Rattle.x5_types.specs.NodeView.{node_view}
use Rattle.x5_dapber.specs.Sayable.{IsCount, IsFilter, IsSelection}
use Rattle.x5_dapber.proofs.Members.{not_five, five_at, five_are}
use Rattle.x5_dapber.proofs.read_arguments.search_in.Goals as goal

abbrev AreSo : nodes.Node → nodes.Node → nodes.Node → nodes.Node → nodes.Node → Type 0
AreSo base subset filter selection controls = IsCount subset × IsFilter filter × IsSelection selection

searched : (n m : Name) (s t : Subset) (f g : Filter) (k l : Selection) → n ≡ m → s ≡ t → f ≡ g → k ≡ l
    → Search n s f k ≡ Search m t g l
searched n m s t f g k l a b c d = cc

pub unreachable-requires : goal.unreachable-requires
unreachable-requires c = not_five AreSo c.args.parts.now c.if-parts-ne5.true c.requires

pub subset_in-subset-requires : goal.subset_in-subset-requires
subset_in-subset-requires c =
    subst (λ (v : Node). IsCount (node_view v)) (sym c.index-parts-1.is)
    (five_at AreSo c.args.parts.now c.index-parts-1.result c.requires).0

pub selection_in-requires : goal.selection_in-requires
selection_in-requires c =
    subst (λ (v : Node). IsSelection (node_view v)) (sym c.index-parts-3.is)
    (five_at AreSo c.args.parts.now c.index-parts-3.result c.requires).2

pub filter_in-requires : goal.filter_in-requires
filter_in-requires c = record {
  said = subst (λ (v : Node). IsFilter (node_view v)) (sym c.index-parts-2.is)
      (five_at AreSo c.args.parts.now c.index-parts-2.result c.requires).1;
}

pub returns : goal.returns
returns c =
    let five = five_are AreSo c.args.parts.now c.index-parts-0.result c.index-parts-1.result c.index-parts-2.result
    c.index-parts-3.result c.index-parts-0.is c.index-parts-1.is c.index-parts-2.is c.index-parts-3.is c.requires in
    searched _ _ _ _ _ _ _ _ c.in_ok-base.ensures c.subset_in-subset.ensures c.in_ok-filter.ensures.filter c.in_ok-selection.ensures
    ∙ sym (ap (body_in 5) five.split)
