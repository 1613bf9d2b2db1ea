-- The rows so far, followed by those of the agreements that are left, are the rows of all agreements: the context's key
-- with the consumer.
use Rattle.std.proofs.Common.{◌≡◌, ◌++◌, drop}
use Rattle.x5_check.specs.Numbers.{rows_by, agreement_key}
use Rattle.x5_check.proofs.known.contexts_by_consumer.Given as goal

abbrev pub invariant-loop-agreement : goal.invariant-loop-agreement
invariant-loop-agreement l =
    l.rows.items ++ rows_by (λ m. m.consumer) agreement_key (drop l.agreement-index l.agreements) ≡ rows_by (λ m. m.consumer) agreement_key l.agreements
