-- The rows so far, followed by the keys of the entries that are left, each with the number, are the rows at entry
-- followed by the keys of all entries.
use Rattle.std.proofs.Common.{◌≡◌, ◌++◌, drop}
use Rattle.x5_model_tree.specs.Tree.{keys_of}
use Rattle.x5_check.specs.Numbers.{keyed}
use Rattle.x5_check.proofs.known.with_entries.Given as goal

abbrev pub invariant-loop-entry : goal.invariant-loop-entry
invariant-loop-entry l =
    l.rows.items ++ keyed l.number (keys_of (drop l.entry-index l.entries)) ≡ l.fn.rows.items ++ keyed l.number (keys_of l.entries)
