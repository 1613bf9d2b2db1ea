-- The octets that are written are those of the request, and they spell it.
use Rattle.std.proofs.Common.{ℕ, ◌<◌, ◌^◌, List, length, sym, subst, arith}
use Rattle.x5_model_messages.specs.Requests.{request_node}
use Rattle.x5_model_typed.specs.Named as named
use Rattle.x5_model_typed.specs.Typed.{Spells}
use Rattle.x5_ops.specs.RequestViews.{request_view}
use Rattle.x5_types.specs.FormView.{table}
use Rattle.x5_dapber.proofs.RequestsSpelled.{request_spelled}
use Rattle.x5_dapber.proofs.messages.encode_request.Goals as goal

pub returns-clause-spelled : goal.returns-clause-spelled
returns-clause-spelled c = λ fit.
    let r = request_view c.args.request.now in
    let items = c.in_ok-write_request.field-0.items in
    let short : length items < 2 ^ 64 =
    omega (arith, c.in_ok-write_request.field-0.ok.0, c.in_ok-write_request.field-0.small) in
    subst (λ (os : List ℕ). Spells table named.DapRequest os (request_node c.args.id r)) (sym c.new.ensures)
    (request_spelled c.args.id r items fit c.in_ok-write_request.ensures short)
