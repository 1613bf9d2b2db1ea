-- What is indexed so far, with the rows that are left, is what all rows say.
use Rattle.std.proofs.Common.{◌≡◌, drop}
use Rattle.x5_check.specs.Rows.{numbers_of}
use Rattle.x5_check.specs.Indexed.{either, indexed}
use Rattle.x5_check.proofs.index.Index.of.Given as goal

abbrev pub invariant-loop-row : goal.invariant-loop-row
invariant-loop-row l =
    either (indexed l.indexing.firsts l.indexing.more.items) (numbers_of (drop l.row-index l.rows)) ≡ numbers_of l.rows
