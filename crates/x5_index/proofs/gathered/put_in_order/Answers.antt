-- Sorted in one way or the other they are the same postings; each is there once, so they ascend.
use Rattle.std.proofs.Common.{◌≡◌, false, sym, ◌∙◌, Ok, Err}
use Rattle.std.proofs.lemmas.List.Sorted.{IsPermutation-trans}
use Rattle.std.specs.List.Sorted.{IsSortedBy}
use Rattle.std.specs.Prelude.{OnOk}
use Rattle.std.specs.Result.{is_err}
use Rattle.std.specs.declared.result.Result.{Result}
use Rattle.x5_index.specs.Index.{posting_below}
use Rattle.x5_index.proofs.Gathering.{ascend_sorted, same_sorted}
use Rattle.x5_index.proofs.gathered.put_in_order.Goals as goal

when_ok : {T E : Type 0} (r : Result T E) (P : Type 0) → is_err r ≡ false → OnOk r P → P
when_ok (Ok x) P e p = p
when_ok (Err x) P e p = cc

pub returns-then-is_err-clause-ordered : goal.returns-then-is_err-clause-ordered
returns-then-is_err-clause-ordered c =
    ascend_sorted c.args.postings.now.items c.sort_in_place.new.postings.items c.requires
    (IsPermutation-trans c.args.postings.now.items c.sort_by_runs.new.postings.items c.sort_in_place.new.postings.items
    c.sort_by_runs.ensures.permutation c.sort_in_place.ensures.permutation)
    c.sort_in_place.ensures.sorted

pub returns-then-is_err-clause-same : goal.returns-then-is_err-clause-same
returns-then-is_err-clause-same c =
    same_sorted c.args.postings.now.items c.sort_in_place.new.postings.items
    (IsPermutation-trans c.args.postings.now.items c.sort_by_runs.new.postings.items c.sort_in_place.new.postings.items
    c.sort_by_runs.ensures.permutation c.sort_in_place.ensures.permutation)

pub returns-else-is_err-clause-ordered : goal.returns-else-is_err-clause-ordered
returns-else-is_err-clause-ordered c =
    ascend_sorted c.args.postings.now.items c.sort_by_runs.new.postings.items c.requires c.sort_by_runs.ensures.permutation
    (when_ok c.sort_by_runs.result (IsSortedBy posting_below c.sort_by_runs.new.postings.items) (sym c.is_err.ensures.value ∙ c.if-is_err.false) c.sort_by_runs.ensures.sorted)

pub returns-else-is_err-clause-same : goal.returns-else-is_err-clause-same
returns-else-is_err-clause-same c =
    same_sorted c.args.postings.now.items c.sort_by_runs.new.postings.items c.sort_by_runs.ensures.permutation
