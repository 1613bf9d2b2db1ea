-- The closure compares postings.
use Rattle.std.proofs.Common.{rules, of_calls}
use Rattle.std.proofs.lemmas.Fn.{always_returns_same}
use Rattle.std.proofs.lemmas.List.Sorted.{ranks_by}
use Rattle.x5_index.specs.Index.{Posting, posting_below}
use Rattle.x5_index.proofs.Order.{posting_total}
use Rattle.x5_index.proofs.gathered.sort_in_place.Goals as goal

pub returns-clause-sorted : goal.returns-clause-sorted
returns-clause-sorted c =
    c.sort_unstable_by.ensures.sorted posting_below (ranks_by posting_total (λ (p : Posting). p))
    (always_returns_same _ _ _ (λ a r f k. search (rules, of_calls)))
