-- The agent's supplier of the context among the agreements that are left is its supplier among all: none so far gives
-- it a copy.
use Rattle.std.proofs.Common.{◌≡◌, drop}
use Rattle.x5_model_tree.specs.Masters.{supplier_among, supplier_of}
use Rattle.x5_check.proofs.false_agreement.supplier_of_copy.Given as goal

abbrev pub invariant-loop-agreement : goal.invariant-loop-agreement
invariant-loop-agreement l =
    supplier_among (drop l.agreement-index l.agreements) l.agent l.context ≡ supplier_of l.known l.agent l.context
