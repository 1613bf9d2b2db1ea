-- They are where copies may be used, agents may chain and no limit is given.
use Rattle.x5_dapber.proofs.ArgumentsWritten.{limited, masters_only, unlimited}
use Rattle.x5_dapber.proofs.write_arguments.are_usual.Goals as goal

pub returns-then-not-controls : goal.returns-then-not-controls
returns-then-not-controls c =
    unlimited c.args.controls.nocopy c.args.controls.nochain c.args.controls.size c.in-None.is c.if-not-controls.true

pub returns-else-not-controls : goal.returns-else-not-controls
returns-else-not-controls c =
    masters_only c.args.controls.nocopy c.args.controls.nochain c.args.controls.size c.if-not-controls.false

pub returns-in-Some : goal.returns-in-Some
returns-in-Some c =
    limited c.args.controls.nocopy c.args.controls.nochain c.args.controls.size c.in-Some.field-0 c.in-Some.is
