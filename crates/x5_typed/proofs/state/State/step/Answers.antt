-- What stands behind the member is pushed.
use Rattle.x5_typed.proofs.state.State.step.Goals as goal

pub returns-in-Next-clause-stepped : goal.returns-in-Next-clause-stepped
returns-in-Next-clause-stepped c = λ w. rw c.in-Next.is (c.push.ensures.stepped w)
