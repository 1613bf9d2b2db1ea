-- What is read is what was written.
use Rattle.std.proofs.Common.{ℕ, List, sym, subst}
use Rattle.std.proofs.lemmas.Result.{IfOk-weaker}
use Rattle.x5_dspber.specs.ChainedViews.{told_chained}
use Rattle.x5_model_messages.specs.Chained.{chained_node}
use Rattle.x5_model_typed.specs.Named.{DspRequest}
use Rattle.x5_model_typed.specs.Typed.{Spells}
use Rattle.x5_types.specs.FormView.{table}
use Rattle.x5_wire.proofs.Seen.{message_seen}
use Rattle.x5_wire.proofs.messages.carried_message.Goals as goal

pub read-requires : goal.read-requires
read-requires c = record {
  spelled = (
    c.args.id,
    told_chained c.args.message.now,
    c.requires,
    subst (λ (os : List ℕ). Spells table DspRequest os (chained_node c.args.id (told_chained c.args.message.now)))
        (sym c.as_slice.ensures) c.in_ok-octets.ensures,
  );
}

pub returns-clause-told : goal.returns-clause-told
returns-clause-told c =
    let m = told_chained c.args.message.now in
    c.read.ensures.read c.args.id m c.requires
    (subst (λ (os : List ℕ). Spells table DspRequest os (chained_node c.args.id m)) (sym c.as_slice.ensures)
    c.in_ok-octets.ensures)

pub returns-clause-seen : goal.returns-clause-seen
returns-clause-seen c =
    IfOk-weaker c.read.result _ _ (λ taken e names. message_seen names taken c.args.message.now e)
    (returns-clause-told c)
