-- Both sorts keep the postings, and the closure of the second compares them.
use Rattle.std.proofs.Common.{rules, of_calls}
use Rattle.std.proofs.lemmas.Fn.{always_returns_same}
use Rattle.std.proofs.lemmas.List.Sorted.{IsPermutation-trans, ranks_by}
use Rattle.x5_index.specs.Index.{Posting, posting_below}
use Rattle.x5_index.proofs.Order.{posting_total}
use Rattle.x5_index.proofs.gathered.sort_by_runs.Goals as goal

pub returns-clause-permutation : goal.returns-clause-permutation
returns-clause-permutation c =
    IsPermutation-trans c.args.postings.now.items c.sort_by_key.new.self.items c.sort_by.new.self.items
    c.sort_by_key.ensures.permutation c.sort_by.ensures.permutation

pub returns-clause-sorted : goal.returns-clause-sorted
returns-clause-sorted c =
    c.in_ok-sort_by.ensures.sorted posting_below (ranks_by posting_total (λ (p : Posting). p))
    (always_returns_same _ _ _ (λ a r f k. search (rules, of_calls)))
