-- The rows so far, followed by those of the contexts from the current place on, are the rows of all contexts: the
-- prefix's key with the context's place.
use Rattle.std.proofs.Common.{◌≡◌, ◌++◌, drop}
use Rattle.std.specs.List.{enumerate_from}
use Rattle.x5_check.specs.Numbers.{rows_by, prefix_key}
use Rattle.x5_check.proofs.known.prefixes_by_place.Given as goal

abbrev pub invariant-loop-place : goal.invariant-loop-place
invariant-loop-place l =
    l.rows.items ++ rows_by (λ p. p.0) (λ p. prefix_key p.1) (enumerate_from l.place (drop l.place l.held)) ≡ rows_by (λ p. p.0) (λ p. prefix_key p.1) (enumerate_from 0 l.held)
