-- The three parts stand in the element.
use Rattle.std.proofs.Common.{ℕ, subst}
use Rattle.x5_model_typed.specs.Named as named
use Rattle.x5_types.specs.FormView.{world}
use Rattle.x5_dispber.proofs.Totals.{IsLost, IsPut, first_lost, number_of, refresh, second_lost, sent, sent_is, third_lost, three_put}
use Rattle.x5_dispber.proofs.total.put_sent.Goals as goal

pub returns-in_err-put_refresh : goal.returns-in_err-put_refresh
returns-in_err-put_refresh c =
    let w = world c.args.start.now c.args.names.now in
    let names = c.args.names.now in
    let t = c.args.content.now in
    let agreement = c.args.agreement in
    let stamp = c.args.stamp in
    let fault = c.in_err-put_refresh.field-0.0 in
    third_lost 0 16 (sent w names agreement stamp t)
    (number_of w named.Agreement agreement) (number_of w named.Time stamp) (refresh w names t)
    fault c.args.out.now c.put_refresh.new.out c.args.out.now c.put_refresh.new.out
    c.from_residual.result (sent_is w names agreement stamp t) c.from_residual.ensures.1
    c.in_err-put_refresh.ensures

pub returns-in_err-put_number : goal.returns-in_err-put_number
returns-in_err-put_number c =
    let w = world c.args.start.now c.args.names.now in
    let names = c.args.names.now in
    let t = c.args.content.now in
    let agreement = c.args.agreement in
    let stamp = c.args.stamp in
    let fault = c.in_err-put_number.field-0.0 in
    second_lost 0 16 (sent w names agreement stamp t)
    (number_of w named.Agreement agreement) (number_of w named.Time stamp) (refresh w names t)
    fault c.put_refresh.new.out c.put_number.new.out c.args.out.now c.put_number.new.out
    c.from_residual-in_err-put_number.result
    (sent_is w names agreement stamp t) c.from_residual-in_err-put_number.ensures.1
    (subst (λ (s : ℕ). IsLost (number_of w named.Time s) c.put_refresh.new.out c.put_number.new.out fault)
    c.stamp.view_is c.in_err-put_number.ensures)

pub returns-in_err-put_number-2 : goal.returns-in_err-put_number-2
returns-in_err-put_number-2 c =
    let w = world c.args.start.now c.args.names.now in
    let names = c.args.names.now in
    let t = c.args.content.now in
    let agreement = c.args.agreement in
    let stamp = c.args.stamp in
    let fault = c.in_err-put_number-2.field-0.0 in
    first_lost 0 16 (sent w names agreement stamp t)
    (number_of w named.Agreement agreement) (number_of w named.Time stamp) (refresh w names t)
    fault c.put_number.new.out c.put_number-2.new.out c.args.out.now c.put_number-2.new.out
    c.from_residual-in_err-put_number-2.result
    (sent_is w names agreement stamp t) c.from_residual-in_err-put_number-2.ensures.1
    c.in_err-put_number-2.ensures

pub returns : goal.returns
returns c =
    let w = world c.args.start.now c.args.names.now in
    let names = c.args.names.now in
    let t = c.args.content.now in
    let agreement = c.args.agreement in
    let stamp = c.args.stamp in
    three_put 0 16 c.len-behind.result (sent w names agreement stamp t)
    (number_of w named.Agreement agreement) (number_of w named.Time stamp) (refresh w names t)
    c.args.out.now c.put_refresh.new.out c.put_number.new.out c.put_number-2.new.out c.enclose.new.out
    (sent_is w names agreement stamp t) c.len-behind.ensures c.in_ok-enclose.ensures c.in_ok-put_refresh.ensures
    (subst (λ (s : ℕ). IsPut (number_of w named.Time s) c.put_refresh.new.out c.put_number.new.out)
    c.stamp.view_is c.in_ok-put_number.ensures) c.in_ok-put_number-2.ensures
