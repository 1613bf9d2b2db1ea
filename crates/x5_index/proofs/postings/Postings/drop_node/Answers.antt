-- All values of the entry are taken away, and the node had no others.
use Rattle.std.proofs.Common.{◌≡◌, [], List, ap, subst}
use Rattle.x5_index.specs.Index.{Posting, Index, terms_of}
use Rattle.x5_index.specs.Places.{AreTaken}
use Rattle.x5_index.proofs.Terms.{is_dropped}
use Rattle.x5_index.proofs.postings.Postings.drop_node.Goals as goal

pub returns-clause-dropped : goal.returns-clause-dropped
returns-clause-dropped c =
    let old : c.self.inside.postings.items ≡ c.args.self.now.postings = ap (λ (i : Index). i.postings) c.self.view_is in
    is_dropped c.args.self.now.postings c.take_entry.new.postings.items c.args.node c.args.entry.now c.requires
    (subst (λ (ps : List Posting). AreTaken ps c.args.node (terms_of c.args.entry.now) [] c.take_entry.new.postings.items) old c.take_entry.ensures.taken)
