-- The count so far, plus that of the agreements left by which the agent consumes the context, is the count over all;
-- it's at most the number of agreements passed, so it can't overflow.
use Rattle.std.proofs.Common.{◌≡◌, ◌+◌, ◌≤◌, drop, length}
use Rattle.std.specs.List.{filter}
use Rattle.x5_model_tree.specs.Masters.{is_consumer}
use Rattle.x5_check.proofs.false_agreement.times_consumed.Given as goal

abbrev pub invariant-loop-agreement : goal.invariant-loop-agreement
invariant-loop-agreement l =
    (l.times + length (filter (is_consumer l.agent l.context) (drop l.agreement-index l.agreements)) ≡ length (filter (is_consumer l.agent l.context) l.known.agreements)) × (l.times ≤ l.agreement-index)
