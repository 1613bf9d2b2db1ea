-- What was sent is held at the place, whose copy is of its context.
use Rattle.std.proofs.Common.{sym, ap, ◌∙◌}
use Rattle.x5_model.specs.Values.{key_of}
use Rattle.x5_holdings.proofs.Holding.{some_within}
use Rattle.x5_holdings.specs.State.{CopyKept}
use Rattle.x5_consume.proofs.Placing.{copy_inside}
use Rattle.x5_consume.proofs.Taking.{replaced}
use Rattle.x5_consume.proofs.total.replace.Goals as goal

pub held_of-requires : goal.held_of-requires
held_of-requires c = (key_of c.requires.0.prefix, c.requires.2)

pub refresh_copy-requires-clause-there : goal.refresh_copy-requires-clause-there
refresh_copy-requires-clause-there c = some_within c.args.state.now.copies c.args.place c.requires.0 c.requires.1

pub refresh_copy-requires-clause-prefix : goal.refresh_copy-requires-clause-prefix
refresh_copy-requires-clause-prefix c = λ k got.
    c.in_ok-held.ensures.prefix (key_of c.requires.0.prefix) c.requires.2
    ∙ ap (λ (x : CopyKept). key_of x.prefix) (copy_inside (sym c.requires.1 ∙ got))

pub returns-clause-ok : goal.returns-clause-ok
returns-clause-ok c =
    replaced c.args.state.now c.refresh_copy.new.self c.args.place c.args.content c.args.stamp c.in_ok-held.held
    c.in_ok-held.ensures.content c.in_ok-refresh_copy.ensures.ok
