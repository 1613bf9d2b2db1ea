-- The three parts stand in the element.
use Rattle.std.proofs.Common.{List, subst}
use Rattle.x5_model.specs.Entries as model
use Rattle.x5_ops.specs.declared.knowledge.Nssr.{Nssr}
use Rattle.x5_ops.specs.declared.knowledge.Specific.{Specific}
use Rattle.x5_types.specs.FormView.{world}
use Rattle.x5_dispber.proofs.Totals.{IsLost, IsPut, entries, first_lost, knowns}
use Rattle.x5_dispber.proofs.Totals.{others, second_lost, third_lost, three_put, total, total_is}
use Rattle.x5_dispber.proofs.total.put_total.Goals as goal

pub returns-in_err-put_others : goal.returns-in_err-put_others
returns-in_err-put_others c =
    let w = world c.args.start.now c.args.names.now in
    let names = c.args.names.now in
    let t = c.args.content.now in
    let fault = c.in_err-put_others.field-0.0 in
    third_lost 0 16 (total w names t)
    (entries w t.entries) (knowns w names t.specific) (others w names t.nssr)
    fault c.args.out.now c.put_others.new.out c.args.out.now c.put_others.new.out
    c.from_residual.result (total_is w names t) c.from_residual.ensures.1
    (subst (λ (ns : List Nssr). IsLost (others w names ns) c.args.out.now c.put_others.new.out fault)
    c.as_slice.ensures c.in_err-put_others.ensures)

pub returns-in_err-put_known : goal.returns-in_err-put_known
returns-in_err-put_known c =
    let w = world c.args.start.now c.args.names.now in
    let names = c.args.names.now in
    let t = c.args.content.now in
    let fault = c.in_err-put_known.field-0.0 in
    second_lost 0 16 (total w names t)
    (entries w t.entries) (knowns w names t.specific) (others w names t.nssr)
    fault c.put_others.new.out c.put_known.new.out c.args.out.now c.put_known.new.out
    c.from_residual-in_err-put_known.result (total_is w names t) c.from_residual-in_err-put_known.ensures.1
    (subst (λ (ks : List Specific). IsLost (knowns w names ks) c.put_others.new.out c.put_known.new.out fault)
    c.as_slice-2.ensures c.in_err-put_known.ensures)

pub returns-in_err-put : goal.returns-in_err-put
returns-in_err-put c =
    let w = world c.args.start.now c.args.names.now in
    let names = c.args.names.now in
    let t = c.args.content.now in
    let fault = c.in_err-put.field-0.0 in
    first_lost 0 16 (total w names t)
    (entries w t.entries) (knowns w names t.specific) (others w names t.nssr)
    fault c.put_known.new.out c.put.new.out c.args.out.now c.put.new.out
    c.from_residual-in_err-put.result (total_is w names t) c.from_residual-in_err-put.ensures.1
    (subst (λ (es : List model.Named). IsLost (entries w es) c.put_known.new.out c.put.new.out fault)
    c.as_slice-3.ensures (c.in_err-put.ensures.puts w))

pub returns : goal.returns
returns c =
    let w = world c.args.start.now c.args.names.now in
    let names = c.args.names.now in
    let t = c.args.content.now in
    three_put 0 16 c.len-behind.result (total w names t)
    (entries w t.entries) (knowns w names t.specific) (others w names t.nssr)
    c.args.out.now c.put_others.new.out c.put_known.new.out c.put.new.out c.enclose.new.out
    (total_is w names t) c.len-behind.ensures c.in_ok-enclose.ensures
    (subst (λ (ns : List Nssr). IsPut (others w names ns) c.args.out.now c.put_others.new.out)
    c.as_slice.ensures c.in_ok-put_others.ensures)
    (subst (λ (ks : List Specific). IsPut (knowns w names ks) c.put_others.new.out c.put_known.new.out)
    c.as_slice-2.ensures c.in_ok-put_known.ensures)
    (subst (λ (es : List model.Named). IsPut (entries w es) c.put_known.new.out c.put.new.out)
    c.as_slice-3.ensures (c.in_ok-put.ensures.puts w))
