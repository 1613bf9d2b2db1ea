-- What is shown of each entry is a member.
use Rattle.std.proofs.Common.{ap, map, sym, ◌∙◌}
use Rattle.std.proofs.Common.{refl}
use Rattle.x5_ops.specs.AnswerViews.{info_view}
use Rattle.x5_model_messages.specs.Replies as replies
use Rattle.x5_model_messages.specs.Terms.{node_of}
use Rattle.x5_model_typed.specs.Named as named
use Rattle.x5_direct_writer.proofs.Putting.{all_fail, all_put, by_error}
use Rattle.x5_direct_writer.proofs.entries.put_info_list.Goals as goal

pub returns-in_err-put_infos : goal.returns-in_err-put_infos
returns-in_err-put_infos c =
    by_error named.EntryInfos (node_of (map (λ e. replies.info_node (info_view e)) c.args.infos.now)) c.args.out.now c.put_infos.new.out c.in_err-put_infos.field-0.0 c.from_residual.result
    c.from_residual.ensures.1
    (all_fail 16 named.EntryInfos named.EntryInfo (map (λ e. replies.info_node (info_view e)) c.args.infos.now) (node_of (map (λ e. replies.info_node (info_view e)) c.args.infos.now)) c.in_err-put_infos.field-0.0 c.args.out.now
    c.put_infos.new.out c.put_infos.new.out (λ w. refl) c.in_err-put_infos.ensures)

pub returns : goal.returns
returns c =
    all_put 16 c.len-behind.result named.EntryInfos named.EntryInfo (map (λ e. replies.info_node (info_view e)) c.args.infos.now) (node_of (map (λ e. replies.info_node (info_view e)) c.args.infos.now)) c.args.out.now c.put_infos.new.out c.enclose.new.out
    (λ w. refl) c.len-behind.ensures c.in_ok-enclose.ensures c.in_ok-put_infos.ensures
