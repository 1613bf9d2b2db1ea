-- The rows so far, followed by the pins of the references that are left, each with the number, are the rows at entry
-- followed by the pins of all references.
use Rattle.std.proofs.Common.{◌≡◌, ◌++◌, drop, map}
use Rattle.x5_ops.specs.KnowledgeViews.{specific_view}
use Rattle.x5_check.specs.Numbers.{keyed, pins_of}
use Rattle.x5_check.proofs.known.with_references.Given as goal

abbrev pub invariant-loop-reference : goal.invariant-loop-reference
invariant-loop-reference l =
    l.rows.items ++ keyed l.number (pins_of (map specific_view (drop l.reference-index l.references))) ≡ l.fn.rows.items ++ keyed l.number (pins_of (map specific_view l.references))
