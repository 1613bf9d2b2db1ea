-- The closure compares as the definition does, and a stable sort has one outcome.
use Rattle.std.proofs.Common.{◌∙◌, rules, of_calls}
use Rattle.std.specs.Ordering.{is_lt}
use Rattle.std.proofs.lemmas.Fn.{always_returns_same}
use Rattle.x5_model.specs.Words.{sorted}
use Rattle.x5_ops.specs.declared.references.Reference.{Reference}
use Rattle.x5_report.specs.Order.{reference_cmp}
use Rattle.x5_report.proofs.Comparing.{references_rank, reference_is}
use Rattle.x5_report.proofs.Sorting.{stable_sort}
use Rattle.x5_report.proofs.order.sorted_references.Goals as goal

pub returns : goal.returns
returns c =
    stable_sort (λ (a b : Reference). is_lt
    (reference_cmp a b)) references_rank c.in_ok-ordered.ordered.items c.sort_by.new.self.items
    (c.in_ok-sort_by.ensures.sorted (λ (a b : Reference). is_lt (reference_cmp a b)) references_rank
    (always_returns_same _ _ _ (λ a r f k. search (rules, of_calls))))
    (c.in_ok-sort_by.ensures.stable (λ (a b : Reference). is_lt (reference_cmp a b)) references_rank
    (always_returns_same _ _ _ (λ a r f k. search (rules, of_calls))))
    ∙ (λ i. sorted (λ a b. reference_is a b i) (c.in_ok-ordered.ensures.items_if_clones_equal (λ x y e. e) i))
