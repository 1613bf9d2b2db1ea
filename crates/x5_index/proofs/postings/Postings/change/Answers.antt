-- The room's values are kept, what else there was is taken away, and those that weren't there are put.
use Rattle.std.proofs.Common.{◌≡◌, List, ap, subst, ◌∙◌}
use Rattle.x5_model.specs.Keys.{KeyPair}
use Rattle.x5_index.specs.Index.{Posting, Index, terms_of}
use Rattle.x5_index.specs.Places.{AreAdded, AreTaken}
use Rattle.x5_index.proofs.Terms.{is_changed}
use Rattle.x5_index.proofs.postings.Postings.change.Goals as goal

pub returns-clause-put : goal.returns-clause-put
returns-clause-put c =
    λ e ordered same.
    let mid : List Posting = c.take_entry.new.postings.items in
    let old : c.self.inside.postings.items ≡ c.args.self.now.postings = ap (λ (i : Index). i.postings) c.self.view_is in
    let taken : AreTaken c.args.self.now.postings c.args.node (terms_of c.args.before.now) (terms_of e) mid =
    subst (λ (ps : List Posting). AreTaken ps c.args.node (terms_of c.args.before.now) (terms_of e) mid) old
    (subst (λ (ts : List KeyPair). AreTaken c.self.inside.postings.items c.args.node (terms_of c.args.before.now) ts mid) (c.as_slice.ensures.same ∙ same) c.take_entry.ensures.taken) in
    let added : AreAdded mid c.args.node (terms_of e) c.put_terms.new.postings.items =
    subst (λ (ts : List KeyPair). AreAdded mid c.args.node ts c.put_terms.new.postings.items) (c.into_terms.ensures.same ∙ same) c.put_terms.ensures.added in
    is_changed c.args.self.now.postings mid c.put_terms.new.postings.items c.args.node c.args.before.now e c.requires.before ordered taken added
