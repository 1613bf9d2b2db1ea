-- What is awaited depends on the content alone.
use Rattle.std.proofs.Common.{sym, ap}
use Rattle.x5_model_typed.specs.Judged as judged
use Rattle.x5_types.specs.FormView.{nowhere}
use Rattle.x5_typed.proofs.Awaiting.{next_fits}
use Rattle.x5_typed.proofs.state.State.awaits.Goals as goal

pub returns-then-is_empty-clause-fits : goal.returns-then-is_empty-clause-fits
returns-then-is_empty-clause-fits c =
    next_fits c.next_of.result.step c.args.self.now (ap (λ (a : judged.Awaited). a.step) (c.next_of.ensures nowhere))

pub returns-in-Sequence-clause-awaits : goal.returns-in-Sequence-clause-awaits
returns-in-Sequence-clause-awaits c = λ w. rw c.in-Sequence.is (c.sequence_awaits.ensures.awaits w)

pub returns-in-Set-clause-awaits : goal.returns-in-Set-clause-awaits
returns-in-Set-clause-awaits c = λ w. rw (c.in-Set.is, sym c.deref.ensures.value) (c.set_awaits.ensures.awaits w)

pub returns-in-Members-clause-fits : goal.returns-in-Members-clause-fits
returns-in-Members-clause-fits c =
    next_fits c.next_of-in-Members.result.step c.args.self.now
    (ap (λ (a : judged.Awaited). a.step) (c.next_of-in-Members.ensures nowhere))
