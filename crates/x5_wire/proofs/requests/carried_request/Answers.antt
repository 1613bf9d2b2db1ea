-- What is read is what was written.
use Rattle.std.proofs.Common.{ℕ, List, sym, subst}
use Rattle.x5_model_messages.specs.Requests.{request_node}
use Rattle.x5_model_typed.specs.Named.{DapRequest}
use Rattle.x5_model_typed.specs.Typed.{Spells}
use Rattle.x5_ops.specs.RequestViews.{request_view}
use Rattle.x5_types.specs.FormView.{table}
use Rattle.x5_wire.proofs.requests.carried_request.Goals as goal

pub read-requires : goal.read-requires
read-requires c =
    let r = request_view c.args.request.now in record {
      spelled = (
        c.args.id,
        r,
        c.requires,
        subst (λ (os : List ℕ). Spells table DapRequest os (request_node c.args.id r)) (sym c.as_slice.ensures)
            c.in_ok-octets.ensures,
      );
    }

pub returns : goal.returns
returns c =
    let r = request_view c.args.request.now in
    c.read.ensures.read c.args.id r c.requires
    (subst (λ (os : List ℕ). Spells table DapRequest os (request_node c.args.id r)) (sym c.as_slice.ensures)
    c.in_ok-octets.ensures)
