-- The id, the code and what is sent stand in the element.
use Rattle.std.proofs.Common.{ℕ, List, subst, sym}
use Rattle.x5_types.specs.FormView.{world}
use Rattle.x5_dispber.proofs.Totals.{IsPut, first_lost, id_form, number_of, sent}
use Rattle.x5_dispber.proofs.Totals.{third_lost, three_put, two, two_put, update, update_is}
use Rattle.x5_dispber.proofs.total.put_update.Goals as goal

pub returns-in_err-put_sent : goal.returns-in_err-put_sent
returns-in_err-put_sent c =
    let w = world c.args.start.now c.args.names.now in
    let names = c.args.names.now in
    let t = c.args.content.now in
    let id = c.args.id in
    let agreement = c.args.agreement in
    let stamp = c.args.stamp in
    let fault = c.in_err-put_sent.field-0.0 in
    third_lost 2 1 (update w names id agreement stamp t)
    (number_of w id_form id) two (sent w names agreement stamp t)
    fault c.args.out.now c.put_sent.new.out c.args.out.now c.put_sent.new.out
    c.from_residual.result (update_is w names id agreement stamp t) c.from_residual.ensures.1
    c.in_err-put_sent.ensures

pub returns-in_err-put_number : goal.returns-in_err-put_number
returns-in_err-put_number c =
    let w = world c.args.start.now c.args.names.now in
    let names = c.args.names.now in
    let t = c.args.content.now in
    let id = c.args.id in
    let agreement = c.args.agreement in
    let stamp = c.args.stamp in
    let fault = c.in_err-put_number.field-0.0 in
    first_lost 2 1 (update w names id agreement stamp t)
    (number_of w id_form id) two (sent w names agreement stamp t)
    fault c.put_all.new.self c.put_number.new.out c.args.out.now c.put_number.new.out
    c.from_residual-in_err-put_number.result
    (update_is w names id agreement stamp t) c.from_residual-in_err-put_number.ensures.1
    c.in_err-put_number.ensures

pub returns : goal.returns
returns c =
    let w = world c.args.start.now c.args.names.now in
    let names = c.args.names.now in
    let t = c.args.content.now in
    let id = c.args.id in
    let agreement = c.args.agreement in
    let stamp = c.args.stamp in
    three_put 2 1 c.len-behind.result (update w names id agreement stamp t)
    (number_of w id_form id) two (sent w names agreement stamp t)
    c.args.out.now c.put_sent.new.out c.put_all.new.self c.put_number.new.out c.enclose.new.out
    (update_is w names id agreement stamp t) c.len-behind.ensures c.in_ok-enclose.ensures c.in_ok-put_sent.ensures
    (subst (λ (l : List ℕ). IsPut two c.put_sent.new.out l) (sym c.in_ok-put_all.ensures) (two_put c.put_sent.new.out))
    c.in_ok-put_number.ensures
