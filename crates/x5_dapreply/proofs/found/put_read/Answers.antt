-- The entry and the source stand in the element.
use Rattle.std.proofs.Common.{[], ◌∷◌, refl}
use Rattle.x5_model_messages.specs.Replies as replies
use Rattle.x5_model_messages.specs.Terms.{node_of}
use Rattle.x5_model_typed.specs.Named as named
use Rattle.x5_ops.specs.AnswerViews.{info_view}
use Rattle.x5_direct_writer.proofs.Rows.{front_lost, last_lost, one_alone, pair_put}
use Rattle.x5_dapreply.specs.ReplyViews.{told_source}
use Rattle.x5_dapreply.proofs.Founding.{at, of}
use Rattle.x5_dapreply.proofs.found.put_read.Goals as goal

pub returns-in_err-put_tagged_source : goal.returns-in_err-put_tagged_source
returns-in_err-put_tagged_source c =
    let a = replies.info_node (info_view c.args.entry.now) in
    let b = replies.source_node (told_source c.args.source.now) in
    let old = c.args.out.now in
    let new = c.put_tagged_source.new.out in
    last_lost 0 17 (of (named.Outcome named.Read) (node_of (a ∷ b ∷ []))) (at 0 named.EntryInfo a) (at 1 named.Source b)
    c.in_err-put_tagged_source.field-0.0 old new old new c.from_residual.result refl c.from_residual.ensures.1
    c.in_err-put_tagged_source.ensures

pub returns-in_err-put_entry : goal.returns-in_err-put_entry
returns-in_err-put_entry c =
    let a = replies.info_node (info_view c.args.entry.now) in
    let b = replies.source_node (told_source c.args.source.now) in
    let new = c.put_entry.new.out in
    front_lost 0 17 (of (named.Outcome named.Read) (node_of (a ∷ b ∷ []))) (at 0 named.EntryInfo a)
    (one_alone (at 1 named.Source b)) c.in_err-put_entry.field-0.0 c.put_tagged_source.new.out new c.args.out.now new
    c.from_residual-in_err-put_entry.result refl c.from_residual-in_err-put_entry.ensures.1 c.in_err-put_entry.ensures

pub returns : goal.returns
returns c =
    let a = replies.info_node (info_view c.args.entry.now) in
    let b = replies.source_node (told_source c.args.source.now) in
    pair_put 0 17 c.len-behind.result (of (named.Outcome named.Read) (node_of (a ∷ b ∷ []))) (at 0 named.EntryInfo a)
    (at 1 named.Source b) c.args.out.now c.put_tagged_source.new.out c.put_entry.new.out c.enclose.new.out refl
    c.len-behind.ensures c.in_ok-enclose.ensures c.in_ok-put_tagged_source.ensures c.in_ok-put_entry.ensures
