-- No octets stand behind what is shown of the entry.
use Rattle.std.proofs.Common.{List, ℕ, subst}
use Rattle.x5_model_typed.specs.Named as named
use Rattle.x5_model_messages.specs.Replies as replies
use Rattle.x5_ops.specs.AnswerViews.{info_view}
use Rattle.x5_direct.specs.Spelled.{Reads}
use Rattle.x5_dapreply.proofs.LeafSpelling.{none_behind}
use Rattle.x5_dapreply.proofs.direct.info_in.Goals as goal

pub returns : goal.returns
returns c =
    subst (λ (l : List ℕ). Reads 7 named.EntryInfo replies.info_in (info_view c.in_ok-entry.entry) c.args.octets.now l)
    (none_behind c.args.octets.now c.in_ok-entry.taken c.if-taken-octets.false) c.in_ok-entry.ensures.reads
