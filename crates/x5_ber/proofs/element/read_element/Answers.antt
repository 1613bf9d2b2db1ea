-- A fault of the header is the first fault of the element, and otherwise the header with the value's end, which the
-- reader finds, makes the element that is spelled at the place.
use Rattle.std.proofs.Common.{arith}
use Rattle.std.proofs.lemmas.Result.{err_from_is_err_and}
use Rattle.x5_model_octets.specs.Faults.{in_header}
use Rattle.x5_ber.specs.Views.{head_view}
use Rattle.x5_ber.proofs.Values.{value_found}
use Rattle.x5_ber.proofs.element.read_element.Goals as goal

pub returns-in_err-head-clause-fault : goal.returns-in_err-head-clause-fault
returns-in_err-head-clause-fault c =
    let p = err_from_is_err_and c.from_residual.result c.from_residual.ensures.1 in
    rw (p.1, p.2) (in_header c.in_err-head.ensures)

pub returns-clause-found : goal.returns-clause-found
returns-clause-found c =
    value_found c.args.bytes.now c.args.at c.advance.new.self.at (head_view c.in_ok-head.head) c.tlv_of.result (λ k. omega (arith, c.type_inv.bytes k)) c.in_ok-head.ensures
    (c.in_ok-advance.ensures.reads c.args.at (c.new-reader.ensures.begins c.args.bytes.now c.requires)) c.tlv_of.ensures
