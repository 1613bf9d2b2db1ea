-- Where an update's name is found in a context of its own, the agent is the master, because who judges an update is its
-- master.
use Rattle.std.proofs.Common.{sym, ap, ◌∙◌, ℕ}
use Rattle.x5_model_run.specs.Holdings.{Holdings}
use Rattle.x5_model_serve.specs.Finding.{find}
use Rattle.x5_model_find.proofs.Owns.{here_is_judge}
use Rattle.x5_model_bounds.specs.Bounds.{JudgeIsMaster}

pub judge_is_master : JudgeIsMaster
judge_is_master p s k c set ready looked asks e =
    (here_is_judge p k.receiver k.message c set.whole looked asks (ap (λ (h : ℕ → Holdings). find (h k.receiver) k.message) (sym set.holdings) ∙ e)).master
