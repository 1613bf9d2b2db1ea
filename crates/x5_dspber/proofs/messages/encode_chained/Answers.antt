-- The octets that are written are those of the message, and they spell it.
use Rattle.std.proofs.Common.{ℕ, ◌<◌, ◌^◌, List, length, sym, subst, arith}
use Rattle.x5_model_messages.specs.Chained.{chained_node}
use Rattle.x5_model_typed.specs.Named as named
use Rattle.x5_model_typed.specs.Typed.{Spells}
use Rattle.x5_types.specs.FormView.{table}
use Rattle.x5_dspber.specs.ChainedViews.{told_chained}
use Rattle.x5_dspber.proofs.ChainedSpelled.{chained_spelled}
use Rattle.x5_dspber.proofs.messages.encode_chained.Goals as goal

pub returns-clause-spelled : goal.returns-clause-spelled
returns-clause-spelled c = λ fit.
    let m = told_chained c.args.message.now in
    let items = c.in_ok-write_chained.field-0.items in
    let short : length items < 2 ^ 64 =
    omega (arith, c.in_ok-write_chained.field-0.ok.0, c.in_ok-write_chained.field-0.small) in
    subst (λ (os : List ℕ). Spells table named.DspRequest os (chained_node c.args.id m)) (sym c.new.ensures)
    (chained_spelled c.args.id m items fit c.in_ok-write_chained.ensures short)
