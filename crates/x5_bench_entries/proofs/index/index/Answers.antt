-- A node that is put leaves those behind it out.
use Rattle.std.proofs.Common.{List, ap, arith}
use Rattle.x5_index.specs.Index.{Posting, is_there}
use Rattle.x5_index.proofs.Laws.{absent_elsewhere}
use Rattle.x5_bench_entries.proofs.index.index.Goals as goal

pub loop-node-init : goal.loop-node-init
loop-node-init c k e = ap (λ (ps : List Posting). is_there ps k) c.new-postings.ensures

pub loop-node-preserved : goal.loop-node-preserved
loop-node-preserved c k e =
    absent_elsewhere c.loop-node.postings.postings c.add.new.self.postings c.loop-node.node k c.in_ok-add.ensures.ok.others
    (λ same. omega arith) (c.loop-node.invariant k (omega arith))
