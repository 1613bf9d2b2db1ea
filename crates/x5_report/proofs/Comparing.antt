-- References are in order by a total order, and so are RDNs with their keys.
use Rattle.std.proofs.Common.{◌≡◌, Bool, true, false, not, ◌&&◌, ◌||◌, List, map, refl, sym, ◌∙◌}
use Rattle.std.proofs.lemmas.List.MinMax.{ranks_by}
use Rattle.std.specs.Cmp.{IsTotalOrder, IsStrictWeakOrder, on_total, then_total, bool_cmp_total}
use Rattle.std.specs.Cmp.Lexicographic.{slice_cmp, nat_list_cmp_total}
use Rattle.std.specs.Ordering.{is_lt, is_eq, ordering_then, nat_cmp, bool_cmp}
use Rattle.std.specs.declared.cmp.Ordering.{Ordering}
use Rattle.std.specs.declared.cmp.Ordering.TheVariants.{Less, Equal, Greater}
use Rattle.x5_model.specs.Words.{sorted}
use Rattle.x5_model.specs.Keys.{KeyRdn, key_cmp}
use Rattle.x5_model.specs.Values.{Rdn, key_of}
use Rattle.x5_model.proofs.KeyLaws.{key_cmp_total, rdn_cmp_total, key_ties}
use Rattle.x5_model_run.specs.Journal.{is_wide}
use Rattle.x5_model_output.specs.Output.{rdn_below}
use Rattle.x5_ops.specs.ReferenceViews.{kind_view}
use Rattle.x5_ops.specs.declared.answers.Source.{Source}
use Rattle.x5_ops.specs.declared.references.Reference.{Reference}
use Rattle.x5_report.specs.Order.{reference_cmp, keyed, keyed_below}
use Rattle.x5_report.specs.Spelled.{first_agent, source_below, reference_below}
use Rattle.x5_report.proofs.Mapped.{sorted_map}

pub sources_rank : IsStrictWeakOrder source_below
sources_rank = ranks_by key_cmp_total (λ (s : Source). key_of s.context)

pub keyed_rank : IsStrictWeakOrder keyed_below
keyed_rank = ranks_by rdn_cmp_total (λ (k : KeyRdn × Rdn). k.0)

reference_total : IsTotalOrder reference_cmp
reference_total =
    then_total (then_total (on_total (λ (r : Reference). key_of r.target) key_cmp_total) (on_total (λ
    (r : Reference). is_wide (kind_view r.kind)) bool_cmp_total))
    (on_total (λ (r : Reference). first_agent r.agents) nat_list_cmp_total)

-- the order of the definition is that of the three comparisons
by_kind : (v w : Bool) (third : Ordering)
    → is_lt (ordering_then (bool_cmp v w) third) ≡ ((not v && w) || ((not v || w) && is_lt third))
by_kind false false third = refl
by_kind false true third = refl
by_kind true false third = refl
by_kind true true third = refl

by_target : (first : Ordering) (v w : Bool) (third : Ordering)
    → is_lt (ordering_then (ordering_then first (bool_cmp v w)) third) ≡ (is_lt first || (is_eq first &&
    ((not v && w) || ((not v || w) && is_lt third))))
by_target Less v w third = refl
by_target Equal v w third = by_kind v w third
by_target Greater v w third = refl

pub reference_is : (a b : Reference) → is_lt (reference_cmp a b) ≡ reference_below a b
reference_is a b =
    by_target (key_cmp (key_of a.target) (key_of b.target)) (is_wide (kind_view a.kind)) (is_wide (kind_view b.kind))
    (slice_cmp nat_cmp (first_agent a.agents) (first_agent b.agents))
    ∙ (λ i. is_lt (key_cmp (key_of a.target) (key_of b.target))
    || (sym (key_ties (key_of a.target) (key_of b.target)) i
    && ((not (is_wide (kind_view a.kind)) && is_wide (kind_view b.kind))
    || ((not (is_wide (kind_view a.kind)) || is_wide (kind_view b.kind)) && is_lt (slice_cmp nat_cmp
    (first_agent a.agents) (first_agent b.agents))))))

pub references_rank : IsStrictWeakOrder (λ (a b : Reference). is_lt (reference_cmp a b))
references_rank = ranks_by reference_total (λ (r : Reference). r)

-- RDNs are sorted with their keys as without
pub keyed_sorted : (rdns : List Rdn) → sorted keyed_below (map keyed rdns) ≡ map keyed (sorted rdn_below rdns)
keyed_sorted rdns = sorted_map keyed rdn_below keyed_below rdns (λ x y i j. refl)
