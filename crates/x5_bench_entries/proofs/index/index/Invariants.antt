-- No node from here on is in the index.
use Rattle.std.proofs.Common.{◌≡◌, ℕ, ◌≤◌, false}
use Rattle.x5_index.specs.Index.{is_there}
use Rattle.x5_bench_entries.proofs.index.index.Given as goal

abbrev pub invariant-loop-node : goal.invariant-loop-node
invariant-loop-node l = (k : ℕ) → l.node ≤ k → is_there l.postings.postings k ≡ false
