-- The closure compares by contexts, and a stable sort has one outcome.
use Rattle.std.proofs.Common.{ap, ◌∙◌, rules, of_calls}
use Rattle.std.proofs.lemmas.Fn.{always_returns_same}
use Rattle.x5_model.specs.Words.{sorted}
use Rattle.x5_report.specs.Spelled.{source_below}
use Rattle.x5_report.proofs.Comparing.{sources_rank}
use Rattle.x5_report.proofs.Sorting.{stable_sort}
use Rattle.x5_report.proofs.order.sorted_sources.Goals as goal

pub returns : goal.returns
returns c =
    stable_sort source_below sources_rank c.in_ok-ordered.ordered.items c.sort_by.new.self.items
    (c.in_ok-sort_by.ensures.sorted source_below sources_rank (always_returns_same _ _ _ (λ a r f k. search
    (rules, of_calls))))
    (c.in_ok-sort_by.ensures.stable source_below sources_rank (always_returns_same _ _ _ (λ a r f k. search
    (rules, of_calls))))
    ∙ ap (sorted source_below) (c.in_ok-ordered.ensures.items_if_clones_equal (λ x y e. e))
