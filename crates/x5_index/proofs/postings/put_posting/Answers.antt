-- The search tells whether the posting is there, and else the place at which it goes.
use Rattle.std.proofs.Common.{◌≡◌, ◌∷◌, [], ◌++◌, Bool, true, List, not, take, drop, ap, sym, subst, ◌∙◌, arith, is_ok, if◌then◌else◌}
use Rattle.x5_model.specs.Words.{insert_sorted}
use Rattle.x5_model.specs.Members.{In}
use Rattle.x5_index.specs.Index.{Posting, posting_below}
use Rattle.x5_index.specs.Places.{place_of, AreAdded}
use Rattle.x5_index.proofs.Adding.{place_bound, insert_at, added_one, added_there}
use Rattle.x5_index.proofs.postings.put_posting.Goals as goal

pub insert-requires : goal.insert-requires
insert-requires c =
    let x : Posting = record { term = (c.posting-2.inside.kind, c.posting-2.inside.normal); node = c.posting.inside.node } in
    let at : c.in-Err.place ≡ place_of c.deref.result.now x = c.in-Err.ensures.0 in
    let l = place_bound c.deref.result.now x in
    omega (arith, at, l, c.deref.ensures.len)

pub returns-else-is_err-clause-added : goal.returns-else-is_err-clause-added
returns-else-is_err-clause-added c =
    let x : Posting = record { term = (c.posting-2.inside.kind, c.posting-2.inside.normal); node = c.posting.inside.node } in
    let same : x ≡ c.args.posting = (λ i. record { term = c.posting-2.view_is i; node = c.posting.inside.node }) ∙ c.posting.view_is in
    let ok : is_ok c.insert.result ≡ true = c.is_err.ensures.negation ∙ ap not c.if-is_err.false in
    let at : c.in-Err.place ≡ place_of c.args.postings.now.items c.args.posting =
    c.in-Err.ensures.0 ∙ (λ i. place_of (c.deref.ensures.value i) (same i)) in
    let items : c.insert.new.self.items ≡ insert_sorted posting_below c.args.posting c.args.postings.now.items =
    c.insert.ensures.items
    ∙ ap (λ (b : Bool). if b then take c.in-Err.place c.args.postings.now.items ++ c.args.posting ∷ drop c.in-Err.place c.args.postings.now.items else c.args.postings.now.items) ok
    ∙ (λ i. take (at i) c.args.postings.now.items ++ c.args.posting ∷ drop (at i) c.args.postings.now.items)
    ∙ insert_at c.args.postings.now.items c.args.posting in
    let absent : In c.args.posting c.args.postings.now.items → ⊥ =
    λ i. c.in-Err.ensures.1 (subst (λ (y : Posting). In y c.deref.result.now) (sym same) (subst (λ (ps : List Posting). In c.args.posting ps) (sym c.deref.ensures.value) i)) in
    subst (λ (ps : List Posting). AreAdded c.args.postings.now.items c.args.posting.node (c.args.posting.term ∷ []) ps) (sym items)
    (added_one c.args.posting.node c.args.posting.term c.args.postings.now.items absent c.requires.in_order)

pub returns-in_default-clause-added : goal.returns-in_default-clause-added
returns-in_default-clause-added c =
    let x : Posting = record { term = (c.posting-2.inside.kind, c.posting-2.inside.normal); node = c.posting.inside.node } in
    let same : x ≡ c.args.posting = (λ i. record { term = c.posting-2.view_is i; node = c.posting.inside.node }) ∙ c.posting.view_is in
    let here : In c.args.posting c.args.postings.now.items =
    subst (λ (y : Posting). In y c.args.postings.now.items) same (subst (λ (ps : List Posting). In x ps) c.deref.ensures.value c.in_default.ensures.1) in
    added_there c.args.posting.node c.args.posting.term c.args.postings.now.items here c.requires.in_order

pub returns-in_default-clause-absent : goal.returns-in_default-clause-absent
returns-in_default-clause-absent c =
    λ absent.
    let x : Posting = record { term = (c.posting-2.inside.kind, c.posting-2.inside.normal); node = c.posting.inside.node } in
    let same : x ≡ c.args.posting = (λ i. record { term = c.posting-2.view_is i; node = c.posting.inside.node }) ∙ c.posting.view_is in
    absurd (absent (subst (λ (y : Posting). In y c.args.postings.now.items) same (subst (λ (ps : List Posting). In x ps) c.deref.ensures.value c.in_default.ensures.1)))
