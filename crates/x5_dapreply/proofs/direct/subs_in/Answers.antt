-- They are the members of the list.
use Rattle.std.proofs.Common.{[], map, refl, sym, subst}
use Rattle.x5_model_typed.specs.Named as named
use Rattle.x5_model_messages.specs.Replies as replies
use Rattle.x5_ops.specs.AnswerViews.{sub_view}
use Rattle.x5_direct.specs.Spelled.{Reads}
use Rattle.x5_dapreply.specs.Said.{subs_in}
use Rattle.x5_dapreply.proofs.PartSpelling.{list_read}
use Rattle.x5_dapreply.proofs.direct.subs_in.Goals as goal

pub returns : goal.returns
returns c =
    subst (λ l. Reads 4 named.Subs subs_in (map sub_view l) c.args.octets.now []) (sym c.from_vec.ensures)
    (list_read 3 named.Sub named.Subs replies.sub_in (map sub_view c.in_ok-subs.subs.items)
    c.in_ok-content.content.now c.args.octets.now [] (λ w. refl) c.in_ok-content.ensures c.in_ok-subs.ensures)
