-- A sort keeps the rows.
use Rattle.std.proofs.lemmas.Result.{IfOk-weaker}
use Rattle.x5_check.proofs.Sought.{permuted}
use Rattle.x5_check.proofs.table.Table.sorted.Goals as goal

pub returns : goal.returns
returns c = IfOk-weaker c.of.result _ _ (λ table p. permuted _ _ p) c.of.ensures
