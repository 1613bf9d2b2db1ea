-- They are the members of the list.
use Rattle.std.proofs.Common.{[], map, refl, sym, subst}
use Rattle.x5_model_typed.specs.Named as named
use Rattle.x5_model_messages.specs.Replies as replies
use Rattle.x5_dapreply.specs.ReplyViews.{told_source}
use Rattle.x5_direct.specs.Spelled.{Reads}
use Rattle.x5_dapreply.specs.Said.{sources_in}
use Rattle.x5_dapreply.proofs.PartSpelling.{list_read}
use Rattle.x5_dapreply.proofs.direct_parts.sources_in.Goals as goal

pub returns : goal.returns
returns c =
    subst (λ l. Reads 5 named.Sources sources_in (map told_source l) c.args.octets.now []) (sym c.from_vec.ensures)
    (list_read 4 named.Source named.Sources replies.source_in (map told_source c.in_ok-sources.sources.items)
    c.in_ok-content.content.now c.args.octets.now [] (λ w. refl) c.in_ok-content.ensures c.in_ok-sources.ensures)
