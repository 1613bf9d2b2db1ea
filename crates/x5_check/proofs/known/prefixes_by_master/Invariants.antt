-- The rows so far, followed by those of the contexts that are left, are the rows of all contexts: the prefix's key with
-- the context's master.
use Rattle.std.proofs.Common.{◌≡◌, ◌++◌, drop}
use Rattle.x5_check.specs.Numbers.{rows_by, prefix_key}
use Rattle.x5_check.proofs.known.prefixes_by_master.Given as goal

abbrev pub invariant-loop-context : goal.invariant-loop-context
invariant-loop-context l =
    l.rows.items ++ rows_by (λ m. m.master) prefix_key (drop l.context-index l.held) ≡ rows_by (λ m. m.master) prefix_key l.held
