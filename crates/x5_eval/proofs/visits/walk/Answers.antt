-- The walk begins with nothing seen.
use Rattle.x5_model.specs.Values.{key_of}
use Rattle.x5_ops.specs.RequestViews.{request_view, subset_view}
use Rattle.x5_holdings.specs.State.{holdings_view}
use Rattle.x5_eval.proofs.Walked.{served_count, walked_from}
use Rattle.x5_eval.proofs.visits.walk.Goals as goal

pub visit_all-requires-clause-within : goal.visit_all-requires-clause-within
visit_all-requires-clause-within c = λ n i. served_count (request_view c.args.message.now.request) c.args.state.now n (c.requires n i)

pub returns-clause-entered : goal.returns-clause-entered
returns-clause-entered c =
    (walked_from (request_view c.args.message.now.request) (holdings_view c.args.state.now) (key_of c.args.message.now.target)
    (subset_view c.args.subset) c.in_ok-count.count 16 c.args.begins.now
    (record { entered = c.new.result; left = c.new-2.result; seen = c.in_ok-from_elem.field-0 }) c.visit_all.new.self
    c.new.ensures.items c.new-2.ensures.items (c.in_ok-from_elem.ensures.items_if_clones_equal (λ y e. e))
    c.in_ok-visit_all.ensures.visited).0

pub returns-clause-left : goal.returns-clause-left
returns-clause-left c =
    (walked_from (request_view c.args.message.now.request) (holdings_view c.args.state.now) (key_of c.args.message.now.target)
    (subset_view c.args.subset) c.in_ok-count.count 16 c.args.begins.now
    (record { entered = c.new.result; left = c.new-2.result; seen = c.in_ok-from_elem.field-0 }) c.visit_all.new.self
    c.new.ensures.items c.new-2.ensures.items (c.in_ok-from_elem.ensures.items_if_clones_equal (λ y e. e))
    c.in_ok-visit_all.ensures.visited).1
