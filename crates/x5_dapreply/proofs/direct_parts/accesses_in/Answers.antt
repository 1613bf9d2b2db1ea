-- They are the members of the list.
use Rattle.std.proofs.Common.{[], map, refl, sym, subst}
use Rattle.x5_model_typed.specs.Named as named
use Rattle.x5_model_messages.specs.Replies as replies
use Rattle.x5_dapreply.specs.ReplyViews.{told_access}
use Rattle.x5_direct.specs.Spelled.{Reads}
use Rattle.x5_dapreply.specs.Said.{accesses_in}
use Rattle.x5_dapreply.proofs.PartSpelling.{list_read}
use Rattle.x5_dapreply.proofs.direct_parts.accesses_in.Goals as goal

pub returns : goal.returns
returns c =
    subst (λ l. Reads 2 named.Agents accesses_in (map told_access l) c.args.octets.now []) (sym c.from_vec.ensures)
    (list_read 1 named.Agent named.Agents replies.access_in (map told_access c.in_ok-agents.agents.items)
    c.in_ok-content.content.now c.args.octets.now [] (λ w. refl) c.in_ok-content.ensures c.in_ok-agents.ensures)
