-- While the members of an And or an Or are evaluated: the truth so far, joined by that connective with the truth of the
-- members that are left, is the truth of the filter.
use Rattle.std.proofs.Common.{◌≡◌, drop}
use Rattle.x5_model.specs.Truth as truth
use Rattle.x5_match.specs.FilterView.{filter_view}
use Rattle.x5_match.specs.TruthView.{truth_view}
use Rattle.x5_match.proofs.FilterLemmas.{rest_and, rest_or}
use Rattle.x5_match.proofs.filter.+holds.Given as goal

abbrev pub invariant-loop-member : goal.invariant-loop-member
invariant-loop-member l =
    truth.truth_and (truth_view l.truth) (rest_and (drop l.member-index l.member-items) l.entry) ≡ truth.filter_truth (filter_view l.filter) l.entry

abbrev pub invariant-loop-member-2 : goal.invariant-loop-member-2
invariant-loop-member-2 l =
    truth.truth_or (truth_view l.truth) (rest_or (drop l.member-index l.member-items) l.entry) ≡ truth.filter_truth (filter_view l.filter) l.entry
