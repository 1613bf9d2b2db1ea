-- They are the members of the list.
use Rattle.std.proofs.Common.{[], map, refl}
use Rattle.x5_model_typed.specs.Named as named
use Rattle.x5_model_messages.specs.Replies as replies
use Rattle.x5_ops.specs.AnswerViews.{info_view}
use Rattle.x5_dapreply.proofs.PartSpelling.{list_read}
use Rattle.x5_dapreply.proofs.direct.entries_in.Goals as goal

pub returns : goal.returns
returns c =
    list_read 7 named.EntryInfo named.EntryInfos replies.info_in (map info_view c.in_ok-entries.entries)
    c.in_ok-content.content.now c.args.octets.now [] (λ w. refl) c.in_ok-content.ensures c.in_ok-entries.ensures
