-- The room has the entry's values, and the entry is in order.
use Rattle.std.proofs.Common.{List, subst}
use Rattle.x5_index.specs.Index.{Posting, IsPut}
use Rattle.x5_index.proofs.postings.Postings.add.Goals as goal

pub returns-clause-ok : goal.returns-clause-ok
returns-clause-ok c =
    subst (λ (ps : List Posting). IsPut ps c.args.node c.args.entry.now c.put.new.self.postings) c.in_ok-reserve.ensures.postings
    (c.put.ensures.put c.args.entry.now c.new.ensures.ordered c.in_ok-room.ensures.terms)
