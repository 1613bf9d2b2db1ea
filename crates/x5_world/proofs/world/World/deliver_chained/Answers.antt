-- What octets come to is what is done with them: the message that they say is served, a first breach is told.
use Rattle.std.proofs.Common.{length, ap, arith}
use Rattle.std.proofs.lemmas.Result.{IfOk-weaker}
use Rattle.x5_dapber.proofs.Octets.{are_octets}
use Rattle.x5_model_messages.specs.Chained.{chained_in}
use Rattle.x5_model_run.specs.Run.{Dsp}
use Rattle.x5_ops.specs.ReferenceViews.{chained_view}
use Rattle.x5_world.specs.Delivered.{spelled}
use Rattle.x5_world.proofs.Carrying.{may_be_sent}
use Rattle.x5_world.proofs.Delivering.{told, message_so, message_within, breach_so, breach_told, message_told}
use Rattle.x5_world.proofs.world.World.deliver_chained.Goals as goal

pub take-requires-clause-sent : goal.take-requires-clause-sent
take-requires-clause-sent c =
    may_be_sent c.args.self.now.names c.in-Ok.message
    (message_within c.args.octets.now (c.in-Ok.field-0-0, c.in-Ok.message)
    (are_octets c.args.octets.now (λ k. omega (arith, c.type_inv.octets k))) c.in-Ok.ensures.spelled)

pub returns-in-Ok-clause-delivered : goal.returns-in-Ok-clause-delivered
returns-in-Ok-clause-delivered c =
    let names = c.args.self.now.names in
    let found = c.in-Ok.ensures.comes in
    IfOk-weaker c.take.result _ _ (λ d is p s.
    message_told c.args.self.now c.take.new.self p Dsp c.args.to c.args.octets.now d (chained_view names c.in-Ok.message)
    (record {
      node = found.0;
      comes = found.1;
      is = message_so names found.0 (c.in-Ok.field-0-0, c.in-Ok.message) (c.in-Ok.ensures.decodes found.0 found.1);
    })
    c.in-Ok.ensures.short
    (is p Dsp (length c.args.octets.now) s)) c.take.ensures.taken

pub returns-in-Err-clause-delivered : goal.returns-in-Err-clause-delivered
returns-in-Err-clause-delivered c =
    let names = c.args.self.now.names in
    let found = c.in-Err.ensures.comes in
    IfOk-weaker c.reject.result _ _ (λ d given p s.
    breach_told c.args.self.now c.reject.new.self p Dsp c.args.to c.args.octets.now d _
    (record {
      node = found.0;
      comes = found.1;
      is = ap (spelled names Dsp) (breach_so told chained_in found.0 c.in-Err.fault given.0 (c.in-Err.ensures.decodes found.0 found.1) given.1);
    })
    (given.2 p Dsp (length c.args.octets.now) s)) c.reject.ensures.rejected
