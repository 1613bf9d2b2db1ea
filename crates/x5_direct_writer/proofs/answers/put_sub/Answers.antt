-- The RDN and the origin are the components.
use Rattle.std.proofs.Common.{refl}
use Rattle.std.specs.declared.option.Option.TheVariants.{Some}
use Rattle.x5_model_messages.specs.Replies as replies
use Rattle.x5_model_messages.specs.Terms as terms
use Rattle.x5_model_octets.specs.Elements as elements
use Rattle.x5_model_typed.specs.Layouts.{layout}
use Rattle.x5_model_typed.specs.Named as named
use Rattle.x5_model_typed.specs.Written.{written}
use Rattle.x5_ops.specs.AnswerViews.{sub_view}
use Rattle.x5_direct_writer.proofs.Infos.{flagged, flagged_put}
use Rattle.x5_direct_writer.proofs.Rows.{front_lost, front_put}
use Rattle.x5_direct_writer.proofs.Subs.{sub_is}
use Rattle.x5_direct_writer.proofs.answers.put_sub.Goals as goal

pub returns-in_err-put_rdn : goal.returns-in_err-put_rdn
returns-in_err-put_rdn c w =
    let s = sub_view c.args.sub.now in
    front_lost 0 16 (written (layout w) (layout w named.Sub) (replies.sub_node s))
    (written (layout w) (layout w named.Rdn) (terms.rdn_node s.rdn)) (flagged s.copy (Some elements.Nil))
    c.in_err-put_rdn.field-0.0 c.put_origin.new.out c.put_rdn.new.out c.args.out.now c.put_rdn.new.out
    c.from_residual-in_err-put_rdn.result (sub_is w s) c.from_residual-in_err-put_rdn.ensures.1
    (c.in_err-put_rdn.ensures w)

pub returns : goal.returns
returns c w =
    let s = sub_view c.args.sub.now in
    let old = c.args.out.now in
    let mid = c.put_origin.new.out in
    let nothing = Some elements.Nil in
    front_put 0 16 c.len-behind.result (written (layout w) (layout w named.Sub) (replies.sub_node s))
    (written (layout w) (layout w named.Rdn) (terms.rdn_node s.rdn)) (flagged s.copy nothing)
    old mid c.put_rdn.new.out c.enclose.new.out (sub_is w s) c.len-behind.ensures c.in_ok-enclose.ensures
    (flagged_put s.copy nothing old old mid (elements.Nil, refl, refl) c.in_ok-put_origin.ensures)
    (c.in_ok-put_rdn.ensures w)
