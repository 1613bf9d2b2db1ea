-- The id, the code and the argument stand in the element.
use Rattle.std.proofs.Common.{ℕ, subst}
use Rattle.x5_model_messages.specs.Requests.{argument_node, request_node}
use Rattle.x5_model_run.specs.Journal.{operation_of}
use Rattle.x5_model_typed.specs.Named as named
use Rattle.x5_model_typed.specs.Nodes.{whole}
use Rattle.x5_ops.specs.RequestViews.{body_view, controls_view, request_view}
use Rattle.x5_dapber.specs.PutsPart.{asked_by}
use Rattle.x5_dapber.proofs.Asked.{id_form, of, request_is}
use Rattle.x5_dapber.proofs.Components.{IsLost, IsPut, first_lost, second_lost, third_lost, three_put}
use Rattle.x5_dapber.proofs.messages.put_request.Goals as goal

pub returns-in_err-put_argument : goal.returns-in_err-put_argument
returns-in_err-put_argument c =
    let r = c.args.request.now in
    let b = body_view r.body in
    third_lost 2 1 (of named.DapRequest (request_node c.args.id (request_view r))) (of id_form (whole c.args.id))
    (of named.AnyNumber (whole (operation_of b))) (of (named.Argument (asked_by b)) (argument_node (request_view r)))
    c.in_err-put_argument.field-0.0 c.args.out.now c.put_argument.new.out c.args.out.now c.put_argument.new.out
    c.from_residual.result (request_is c.args.id (controls_view r.controls) b) c.from_residual.ensures.1
    c.in_err-put_argument.ensures

pub returns-in_err-put_code : goal.returns-in_err-put_code
returns-in_err-put_code c =
    let r = c.args.request.now in
    let b = body_view r.body in
    second_lost 2 1 (of named.DapRequest (request_node c.args.id (request_view r))) (of id_form (whole c.args.id))
    (of named.AnyNumber (whole (operation_of b))) (of (named.Argument (asked_by b)) (argument_node (request_view r)))
    c.in_err-put_code.field-0.0 c.put_argument.new.out c.put_code.new.out c.args.out.now c.put_code.new.out
    c.from_residual-in_err-put_code.result (request_is c.args.id (controls_view r.controls) b)
    c.from_residual-in_err-put_code.ensures.1
    (subst (λ (k : ℕ). IsLost (of named.AnyNumber (whole k)) c.put_argument.new.out c.put_code.new.out c.in_err-put_code.field-0.0)
    c.operation.ensures c.in_err-put_code.ensures)

pub returns-in_err-put_number : goal.returns-in_err-put_number
returns-in_err-put_number c =
    let r = c.args.request.now in
    let b = body_view r.body in
    first_lost 2 1 (of named.DapRequest (request_node c.args.id (request_view r))) (of id_form (whole c.args.id))
    (of named.AnyNumber (whole (operation_of b))) (of (named.Argument (asked_by b)) (argument_node (request_view r)))
    c.in_err-put_number.field-0.0 c.put_code.new.out c.put_number.new.out c.args.out.now c.put_number.new.out
    c.from_residual-in_err-put_number.result (request_is c.args.id (controls_view r.controls) b)
    c.from_residual-in_err-put_number.ensures.1 c.in_err-put_number.ensures

pub returns : goal.returns
returns c =
    let r = c.args.request.now in
    let b = body_view r.body in
    three_put 2 1 c.len-behind.result (of named.DapRequest (request_node c.args.id (request_view r)))
    (of id_form (whole c.args.id)) (of named.AnyNumber (whole (operation_of b)))
    (of (named.Argument (asked_by b)) (argument_node (request_view r)))
    c.args.out.now c.put_argument.new.out c.put_code.new.out c.put_number.new.out c.enclose.new.out
    (request_is c.args.id (controls_view r.controls) b) c.len-behind.ensures c.in_ok-enclose.ensures
    c.in_ok-put_argument.ensures
    (subst (λ (k : ℕ). IsPut (of named.AnyNumber (whole k)) c.put_argument.new.out c.put_code.new.out)
    c.operation.ensures c.in_ok-put_code.ensures) c.in_ok-put_number.ensures
