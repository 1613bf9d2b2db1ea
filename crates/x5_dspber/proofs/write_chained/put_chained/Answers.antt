-- The id, the code and what is carried stand in the element.
use Rattle.std.proofs.Common.{ℕ, subst}
use Rattle.x5_model_messages.specs.Chained.{chained_node}
use Rattle.x5_model_run.specs.Journal.{operation_of}
use Rattle.x5_model_typed.specs.Named as named
use Rattle.x5_model_typed.specs.Nodes.{whole}
use Rattle.x5_dapber.proofs.Asked.{id_form, of}
use Rattle.x5_dapber.proofs.Components.{IsLost, IsPut, first_lost, second_lost, third_lost, three_put}
use Rattle.x5_dspber.specs.ChainedViews.{told_chained}
use Rattle.x5_dspber.proofs.ChainedWritten.{carried, chained_is}
use Rattle.x5_dspber.proofs.write_chained.put_chained.Goals as goal

pub returns-in_err-put_carried : goal.returns-in_err-put_carried
returns-in_err-put_carried c =
    let m = told_chained c.args.message.now in
    third_lost 2 1 (of named.DspRequest (chained_node c.args.id m)) (of id_form (whole c.args.id))
    (of named.AnyNumber (whole (operation_of m.request.body))) (carried m)
    c.in_err-put_carried.field-0.0 c.args.out.now c.put_carried.new.out c.args.out.now c.put_carried.new.out
    c.from_residual.result (chained_is c.args.id m) c.from_residual.ensures.1 c.in_err-put_carried.ensures

pub returns-in_err-put_code : goal.returns-in_err-put_code
returns-in_err-put_code c =
    let m = told_chained c.args.message.now in
    second_lost 2 1 (of named.DspRequest (chained_node c.args.id m)) (of id_form (whole c.args.id))
    (of named.AnyNumber (whole (operation_of m.request.body))) (carried m)
    c.in_err-put_code.field-0.0 c.put_carried.new.out c.put_code.new.out c.args.out.now c.put_code.new.out
    c.from_residual-in_err-put_code.result (chained_is c.args.id m) c.from_residual-in_err-put_code.ensures.1
    (subst (λ (k : ℕ). IsLost (of named.AnyNumber (whole k)) c.put_carried.new.out c.put_code.new.out c.in_err-put_code.field-0.0)
    c.operation.ensures c.in_err-put_code.ensures)

pub returns-in_err-put_number : goal.returns-in_err-put_number
returns-in_err-put_number c =
    let m = told_chained c.args.message.now in
    first_lost 2 1 (of named.DspRequest (chained_node c.args.id m)) (of id_form (whole c.args.id))
    (of named.AnyNumber (whole (operation_of m.request.body))) (carried m)
    c.in_err-put_number.field-0.0 c.put_code.new.out c.put_number.new.out c.args.out.now c.put_number.new.out
    c.from_residual-in_err-put_number.result (chained_is c.args.id m) c.from_residual-in_err-put_number.ensures.1
    c.in_err-put_number.ensures

pub returns : goal.returns
returns c =
    let m = told_chained c.args.message.now in
    three_put 2 1 c.len-behind.result (of named.DspRequest (chained_node c.args.id m)) (of id_form (whole c.args.id))
    (of named.AnyNumber (whole (operation_of m.request.body))) (carried m)
    c.args.out.now c.put_carried.new.out c.put_code.new.out c.put_number.new.out c.enclose.new.out
    (chained_is c.args.id m) c.len-behind.ensures c.in_ok-enclose.ensures c.in_ok-put_carried.ensures
    (subst (λ (k : ℕ). IsPut (of named.AnyNumber (whole k)) c.put_carried.new.out c.put_code.new.out)
    c.operation.ensures c.in_ok-put_code.ensures) c.in_ok-put_number.ensures
