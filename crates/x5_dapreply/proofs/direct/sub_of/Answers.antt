-- The RDN, and whether it comes from the entry, are the components.
use Rattle.x5_dapreply.proofs.PartSpelling.{sub_made}
use Rattle.x5_dapreply.proofs.direct.sub_of.Goals as goal

pub returns : goal.returns
returns c =
    sub_made c.in_ok-rdn.rdn c.in_ok-from_entry.from_entry c.in_ok-rdn.taken c.args.content.now c.behind.result.now
    c.behind.ensures c.in_ok-rdn.ensures.reads c.in_ok-from_entry.ensures
