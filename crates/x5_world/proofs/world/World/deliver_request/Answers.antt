-- What octets come to is what is done with them: the request that they say is asked, a first breach is told.
use Rattle.std.proofs.Common.{◌∙◌, Ok, length, ap, sym, subst, arith}
use Rattle.std.proofs.lemmas.Result.{IfOk-weaker}
use Rattle.x5_dapber.proofs.Octets.{are_octets}
use Rattle.x5_model.specs.References.{Chained}
use Rattle.x5_model_messages.specs.Requests.{request_in}
use Rattle.x5_model_run.specs.Run.{Dap}
use Rattle.x5_ops.specs.ReferenceViews.{chained_view}
use Rattle.x5_ops.specs.RequestViews.{request_view}
use Rattle.x5_world.specs.Delivered.{spelled}
use Rattle.x5_world.specs.State.{HasShortNames}
use Rattle.x5_world.proofs.Carrying.{opening_sent}
use Rattle.x5_world.proofs.Delivering.{seen, request_so, request_within, breach_so, breach_told, message_told}
use Rattle.x5_world.proofs.world.World.deliver_request.Goals as goal

pub take-requires-clause-short : goal.take-requires-clause-short
take-requires-clause-short c =
    subst (λ (m : Chained). HasShortNames m.request.body) (sym (c.in_ok-message-in-Ok.ensures c.args.self.now.names)) c.in-Ok.ensures.short

pub take-requires-clause-sent : goal.take-requires-clause-sent
take-requires-clause-sent c =
    let names = c.args.self.now.names in
    opening_sent names c.in_ok-message-in-Ok.message (request_view c.in-Ok.request) (c.in_ok-message-in-Ok.ensures names)
    (request_within c.args.octets.now (c.in-Ok.field-0-0, c.in-Ok.request)
    (are_octets c.args.octets.now (λ k. omega (arith, c.type_inv.octets k))) c.in-Ok.ensures.spelled)

pub returns-in_ok-message-in-Ok-clause-delivered : goal.returns-in_ok-message-in-Ok-clause-delivered
returns-in_ok-message-in-Ok-clause-delivered c =
    let names = c.args.self.now.names in
    let found = c.in-Ok.ensures.comes in
    let opened = c.in_ok-message-in-Ok.ensures names in
    IfOk-weaker c.take.result _ _ (λ d is p s.
    message_told c.args.self.now c.take.new.self p Dap c.args.to c.args.octets.now d
    (chained_view names c.in_ok-message-in-Ok.message)
    (record {
      node = found.0;
      comes = found.1;
      is = ap (λ (m : Chained). Ok m) opened
          ∙ request_so names found.0 (c.in-Ok.field-0-0, c.in-Ok.request) (c.in-Ok.ensures.decodes found.0 found.1);
    })
    (subst (λ (m : Chained). HasShortNames m.request.body) (sym opened) c.in-Ok.ensures.short)
    (is p Dap (length c.args.octets.now) s)) c.take.ensures.taken

pub returns-in-Err-clause-delivered : goal.returns-in-Err-clause-delivered
returns-in-Err-clause-delivered c =
    let names = c.args.self.now.names in
    let found = c.in-Err.ensures.comes in
    IfOk-weaker c.reject.result _ _ (λ d told p s.
    breach_told c.args.self.now c.reject.new.self p Dap c.args.to c.args.octets.now d _
    (record {
      node = found.0;
      comes = found.1;
      is = ap (spelled names Dap) (breach_so seen request_in found.0 c.in-Err.fault told.0 (c.in-Err.ensures.decodes found.0 found.1) told.1);
    })
    (told.2 p Dap (length c.args.octets.now) s)) c.reject.ensures.rejected
