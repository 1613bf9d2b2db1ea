-- The node wasn't there, so its postings are others, and they are those of the entry.
use Rattle.std.proofs.Common.{◌≡◌, ◌++◌, false, List, sym, ap, subst, ◌∙◌}
use Rattle.x5_model.specs.Members.{Once}
use Rattle.x5_model.specs.Keys.{KeyPair}
use Rattle.x5_index.specs.Index.{Posting, Index, terms_of, is_there, IsPut}
use Rattle.x5_index.specs.Places.{postings_for}
use Rattle.x5_index.proofs.Gathering.{once_more, put_more}
use Rattle.x5_index.proofs.gathered.Gathered.put.Goals as goal

pub invariant_of-self : goal.invariant_of-self
invariant_of-self c =
    let old : c.self.inside.postings.items ≡ c.args.self.now.postings = ap (λ (i : Index). i.postings) c.self.view_is in
    let none : is_there c.self.inside.postings.items c.args.node ≡ false =
    subst (λ (ps : List Posting). is_there ps c.args.node ≡ false) (sym old) c.requires.absent in
    subst (λ (ps : List Posting). Once ps) (sym c.push_terms.ensures.items)
    (once_more c.self.inside.postings.items c.args.node c.into_terms.result.items none c.self.invariant c.into_terms.ensures.once)

pub returns-clause-put : goal.returns-clause-put
returns-clause-put c =
    λ e ordered same.
    let old : c.self.inside.postings.items ≡ c.args.self.now.postings = ap (λ (i : Index). i.postings) c.self.view_is in
    let terms : c.into_terms.result.items ≡ terms_of e = c.into_terms.ensures.same ∙ same in
    let items : c.push_terms.new.postings.items ≡ c.args.self.now.postings ++ postings_for c.args.node (terms_of e) =
    c.push_terms.ensures.items ∙ (λ i. old i ++ postings_for c.args.node (terms i)) in
    subst (λ (ps : List Posting). IsPut c.args.self.now.postings c.args.node e ps) (sym items)
    (put_more c.args.self.now.postings c.args.node e c.requires.absent ordered)
