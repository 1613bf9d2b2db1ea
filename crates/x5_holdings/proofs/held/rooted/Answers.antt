-- The index begins with the prefix's entry.
use Rattle.std.proofs.Common.{List, subst}
use Rattle.x5_index.specs.Index.{Posting, IsPut}
use Rattle.x5_holdings.proofs.Posted.{top_live, posted_alone}
use Rattle.x5_holdings.proofs.held.rooted.Goals as goal

pub entry-requires : goal.entry-requires
entry-requires c = top_live c.in_ok-tree.tree.nodes c.top-top.result c.top-top.ensures

pub returns-clause-posted : goal.returns-clause-posted
returns-clause-posted c =
    posted_alone c.add.new.self.postings c.in_ok-tree.tree.nodes
    (record { name = c.in_ok-clone.field-0; entry = c.args.entry }) c.top-top.result c.entry-2.result.now
    c.in_ok-tree.ensures c.top-top.ensures c.entry-2.ensures.entry
    (subst (λ (ps : List Posting). IsPut ps c.top-top.result.0 c.entry-2.result.now c.add.new.self.postings)
    c.new-postings.ensures c.in_ok-add.ensures.ok)
