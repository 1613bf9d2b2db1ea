-- Members of a filter that nodes say, one behind the other.
use Rattle.std.proofs.Common.{◌≡◌, refl, sym, ◌∙◌, List, [], ◌∷◌, map, ap, subst, Vec, Global}
use Rattle.std.specs.Prelude.{All}
use Rattle.std.proofs.lemmas.List.Elements.{All-nil, All-cons}
use Rattle.x5_match.specs.FilterView.{filter_view, filters_of}
use Rattle.x5_match.specs.declared.filter.Filter as filter
use Rattle.x5_match.specs.declared.filter.Filter.{Filter}
use Rattle.x5_match.proofs.CopyLemmas.{and_of_items, or_of_items}
use Rattle.x5_model.specs.Filters as model
use Rattle.x5_model_messages.specs.FilterTerms as terms
use Rattle.x5_model_typed.specs.Nodes as nodes
use Rattle.x5_types.specs.declared.node.Node.{Node, Many}
use Rattle.x5_types.specs.NodeView.{node_view}
use Rattle.x5_types.proofs.Nodes.{many_of_items, parts_are}
use Rattle.x5_dapber.specs.Sayable.{IsFilter, HasFilters, AreFilters}

abbrev in_row : List model.Filter → model.Filters
in_row [] = model.Nil
in_row (f ∷ fs) = model.More f (in_row fs)

items_in_row : (fs : List Filter) → filters_of fs ≡ in_row (map filter_view fs)
items_in_row [] = refl
items_in_row (f ∷ fs) = ap (λ (t : model.Filters). model.More (filter_view f) t) (items_in_row fs)

said_of : (ns : nodes.Nodes) → terms.filters_of ns ≡ in_row (map terms.filter_in (nodes.list ns))
said_of nodes.Nil = refl
said_of (nodes.More n ns) = ap (λ (t : model.Filters). model.More (terms.filter_in n) t) (said_of ns)

said_in_row : (n : nodes.Node) → terms.filters_in n ≡ in_row (map terms.filter_in (nodes.parts n))
said_in_row (nodes.Many ns) = said_of ns
said_in_row nodes.Vacant = refl
said_in_row (nodes.Flag b) = refl
said_in_row (nodes.Number k) = refl
said_in_row (nodes.Oid arcs) = refl
said_in_row (nodes.Bits b) = refl
said_in_row (nodes.Octets o) = refl
said_in_row (nodes.Text t) = refl
said_in_row (nodes.Chosen tag m) = refl

members_said : (v : Vec Filter Global) (n : nodes.Node)
    → map filter_view v.items ≡ map terms.filter_in (nodes.parts n) → filters_of v.items ≡ terms.filters_in n
members_said v n e = items_in_row v.items ∙ ap in_row e ∙ sym (said_in_row n)

pub and_said : (v : Vec Filter Global) (n : nodes.Node)
    → map filter_view v.items ≡ map terms.filter_in (nodes.parts n)
    → filter_view (filter.And v) ≡ model.And (terms.filters_in n)
and_said v n e = sym (and_of_items v) ∙ ap model.And (members_said v n e)

pub or_said : (v : Vec Filter Global) (n : nodes.Node)
    → map filter_view v.items ≡ map terms.filter_in (nodes.parts n)
    → filter_view (filter.Or v) ≡ model.Or (terms.filters_in n)
or_said v n e = sym (or_of_items v) ∙ ap model.Or (members_said v n e)

in_row_so : (items : List Node) → AreFilters (nodes.row (map node_view items)) → All (λ n. IsFilter (node_view n)) items
in_row_so [] h = All-nil (λ (n : Node). IsFilter (node_view n))
in_row_so (x ∷ items) h = All-cons (λ (n : Node). IsFilter (node_view n)) x items h.0 (in_row_so items h.1)

-- each member is a filter
pub members_are_filters : (v : Vec Node Global) (node : Node) (items : List Node) → HasFilters (node_view node) → node ≡ Many v
    → items ≡ v.items → All (λ n. IsFilter (node_view n)) items
members_are_filters v node items h is same =
    in_row_so items
    (subst (λ (l : List Node). AreFilters (nodes.row (map node_view l))) (sym same)
    (subst HasFilters (ap node_view is ∙ sym (many_of_items v)) h))

pub parts_of : (v : Vec Node Global) (node : Node) (items : List Node) → node ≡ Many v → items ≡ v.items
    → map node_view items ≡ nodes.parts (node_view node)
parts_of v node items is same =
    ap (map node_view) same ∙ sym (parts_are v) ∙ sym (ap (λ (n : Node). nodes.parts (node_view n)) is)
