-- What is called looks at fewer levels, or is further in. The walk came to those of the numbers so far.
use Rattle.std.proofs.Common.{◌+◌, ◌*◌, take}
use Rattle.x5_model.specs.Values.{key_of}
use Rattle.x5_ops.specs.RequestViews.{request_view, subset_view}
use Rattle.x5_holdings.specs.State.{holdings_view}
use Rattle.x5_eval.proofs.Walked.{Came}
use Rattle.x5_eval.proofs.visits.Visits.+walk.Given as goal

abbrev pub decreases-visit : goal.decreases-visit
decreases-visit l = 3 * l.deeper + 1

abbrev pub decreases-descend : goal.decreases-descend
decreases-descend l = 3 * l.deeper

abbrev pub decreases-visit_all : goal.decreases-visit_all
decreases-visit_all l = 3 * l.deeper + 2

abbrev pub invariant-visit_all-loop-number : goal.invariant-visit_all-loop-number
invariant-visit_all-loop-number l =
    Came (request_view l.message.request) (holdings_view l.state) (key_of l.message.target) (subset_view l.subset) l.deeper
    (take l.number-index l.numbers) l.fn.self l.self
