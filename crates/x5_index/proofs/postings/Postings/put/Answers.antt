-- What is put for the terms of an entry stands for it, and each takes its room.
use Rattle.std.proofs.Common.{◌≡◌, ◌-◌, false, List, length, vec_len, vec_capacity, ap, sym, subst, ◌∙◌, arith}
use Rattle.x5_model.specs.Keys.{KeyPair}
use Rattle.x5_index.specs.Index.{Posting, Index, is_there, terms_of}
use Rattle.x5_index.specs.Places.{AreAdded}
use Rattle.x5_index.proofs.Terms.{is_put}
use Rattle.x5_index.proofs.postings.Postings.put.Goals as goal

pub returns-clause-put : goal.returns-clause-put
returns-clause-put c =
    λ e ordered same.
    let old : c.self.inside.postings.items ≡ c.args.self.now.postings = ap (λ (i : Index). i.postings) c.self.view_is in
    let terms : c.into_terms.result.items ≡ terms_of e = c.into_terms.ensures.same ∙ same in
    let added : AreAdded c.self.inside.postings.items c.args.node (terms_of e) c.put_terms.new.postings.items = subst (λ (ts : List KeyPair). AreAdded c.self.inside.postings.items c.args.node ts c.put_terms.new.postings.items) terms c.put_terms.ensures.added in
    is_put c.args.self.now.postings c.put_terms.new.postings.items c.args.node e c.requires.absent ordered
    (subst (λ (ps : List Posting). AreAdded ps c.args.node (terms_of e) c.put_terms.new.postings.items) old added)

pub returns-clause-spare : goal.returns-clause-spare
returns-clause-spare c =
    let old : c.self.inside.postings.items ≡ c.args.self.now.postings = ap (λ (i : Index). i.postings) c.self.view_is in
    let none : is_there c.self.inside.postings.items c.args.node ≡ false = subst (λ (ps : List Posting). is_there ps c.args.node ≡ false) (sym old) c.requires.absent in
    let spare : vec_capacity c.self.inside.postings - vec_len c.self.inside.postings ≡ c.args.self.now.spare = ap (λ (i : Index). i.spare) c.self.view_is in
    let count : length c.into_terms.result.items ≡ length c.args.room = ap (λ (ts : List KeyPair). length ts) c.into_terms.ensures.same in
    let len = c.put_terms.ensures.absent none in
    omega (arith, len, spare, count, c.put_terms.ensures.capacity, c.requires.spare)
