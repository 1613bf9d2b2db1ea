-- Members of a filter as nodes: what was written of each, one behind the other.
use Rattle.std.proofs.Common.{◌≡◌, ℕ, ◌≤◌, refl, sym, ◌∙◌, List, [], ◌∷◌, ◌++◌, length, map, drop, ap, append-nil}
use Rattle.std.proofs.Common.{Vec, Global, ◌==◌, false}
use Rattle.std.proofs.Math.Dec.{eqb-suc-zero}
use Rattle.std.proofs.lemmas.List.{drop_all}
use Rattle.x5_match.specs.FilterView.{filter_view, filters_of}
use Rattle.x5_match.specs.declared.filter.Filter.{Filter, And, Or}
use Rattle.x5_match.proofs.CopyLemmas.{and_of_items, or_of_items}
use Rattle.x5_model_messages.specs.FilterTerms.{filter_node, filter_nodes}
use Rattle.x5_model_typed.specs.Layouts.{everything}
use Rattle.x5_model_typed.specs.Nodes as nodes

abbrev pub written : Filter → nodes.Node
written f = filter_node (filter_view f)

row_of_filters : (fs : List Filter) → filter_nodes (filters_of fs) ≡ nodes.row (map written fs)
row_of_filters [] = refl
row_of_filters (f ∷ fs) = ap (λ (ns : nodes.Nodes). nodes.More (written f) ns) (row_of_filters fs)

-- none is left
pub all_written : (done : List nodes.Node) (items : List Filter) (i : ℕ) → length items ≤ i
    → done ++ map written (drop i items) ≡ map written items → done ≡ map written items
all_written done items i le h =
    sym (append-nil done) ∙ sym (ap (λ (l : List Filter). done ++ map written l) (drop_all i items le)) ∙ h

pub and_written : (v : Vec Filter Global) (filter : Filter) (items : List Filter) (done : List nodes.Node)
    → items ≡ v.items → filter ≡ And v → done ≡ map written items
    → nodes.Chosen 1 (nodes.Many (nodes.row done)) ≡ written filter
and_written v filter items done same is all =
    ap (λ (l : List nodes.Node). nodes.Chosen 1 (nodes.Many (nodes.row l))) (all ∙ ap (map written) same)
    ∙ sym (ap (λ (ns : nodes.Nodes). nodes.Chosen 1 (nodes.Many ns)) (row_of_filters v.items))
    ∙ ap filter_node (and_of_items v) ∙ ap written (sym is)

pub or_written : (v : Vec Filter Global) (filter : Filter) (items : List Filter) (done : List nodes.Node)
    → items ≡ v.items → filter ≡ Or v → done ≡ map written items
    → nodes.Chosen 2 (nodes.Many (nodes.row done)) ≡ written filter
or_written v filter items done same is all =
    ap (λ (l : List nodes.Node). nodes.Chosen 2 (nodes.Many (nodes.row l))) (all ∙ ap (map written) same)
    ∙ sym (ap (λ (ns : nodes.Nodes). nodes.Chosen 2 (nodes.Many ns)) (row_of_filters v.items))
    ∙ ap filter_node (or_of_items v) ∙ ap written (sym is)

-- ---- the filter without parts

pub all_meet : (v : Vec Filter Global) (filter : Filter) (k : ℕ) → filter ≡ And v → k ≡ length v.items
    → (k == 0) ≡ nodes.same everything (written filter)
all_meet v filter k is count =
    ap (λ (n : ℕ). n == 0) count ∙ by v.items
    ∙ ap (nodes.same everything) (and_written v filter v.items (map written v.items) refl is refl)
  where
    by : (l : List Filter)
        → (length l == 0) ≡ nodes.same everything (nodes.Chosen 1 (nodes.Many (nodes.row (map written l))))
    by [] = refl
    by (f ∷ fs) = eqb-suc-zero (length fs)

-- an or is another
pub or_differs : (v : Vec Filter Global) (filter : Filter) → filter ≡ Or v → false ≡ nodes.same everything (written filter)
or_differs v filter is = ap (nodes.same everything) (or_written v filter v.items (map written v.items) refl is refl)
