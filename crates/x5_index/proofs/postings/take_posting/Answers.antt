-- Where the term isn't kept, the search tells whether the posting is there, and then its place.
use Rattle.std.proofs.Common.{◌≡◌, ◌+◌, ◌∷◌, [], ◌++◌, List, take, drop, length, ap, subst, sym, ◌∙◌, arith, add-one}
use Rattle.x5_model.specs.Members.{In}
use Rattle.x5_model.specs.Keys.{KeyPair}
use Rattle.x5_index.specs.Index.{Posting}
use Rattle.x5_index.specs.Places.{place_of, AreTaken}
use Rattle.x5_index.proofs.Taking.{without, place_within, remove_at, taken_one, taken_absent, taken_kept}
use Rattle.x5_index.proofs.postings.take_posting.Goals as goal

pub returns-then-has_term-clause-taken : goal.returns-then-has_term-clause-taken
returns-then-has_term-clause-taken c =
    taken_kept c.args.node c.args.kept.now (c.args.kind, c.args.normal.now) c.args.postings.now.items c.requires.in_order (c.has_term.ensures.0 c.if-has_term.true)

pub remove-requires : goal.remove-requires
remove-requires c =
    let x : Posting = record { term = (c.args.kind, c.args.normal.now); node = c.args.node } in
    let at : c.in-Ok.place ≡ place_of c.args.postings.now.items x = c.in-Ok.ensures.0 ∙ ap (λ (ps : List Posting). place_of ps x) c.deref.ensures.value in
    let here : In x c.args.postings.now.items = subst (λ (ps : List Posting). In x ps) c.deref.ensures.value c.in-Ok.ensures.1 in
    let l = place_within c.args.postings.now.items x c.requires.in_order here in
    omega (arith, l, at, c.deref.ensures.len, ap length c.deref.ensures.value)

pub returns-in-Ok-clause-taken : goal.returns-in-Ok-clause-taken
returns-in-Ok-clause-taken c =
    let t : KeyPair = (c.args.kind, c.args.normal.now) in
    let x : Posting = record { term = t; node = c.args.node } in
    let at : c.in-Ok.place ≡ place_of c.args.postings.now.items x = c.in-Ok.ensures.0 ∙ ap (λ (ps : List Posting). place_of ps x) c.deref.ensures.value in
    let here : In x c.args.postings.now.items = subst (λ (ps : List Posting). In x ps) c.deref.ensures.value c.in-Ok.ensures.1 in
    let absent : In t c.args.kept.now → ⊥ = λ k. (let y = c.has_term.ensures.1 k in let n = c.if-has_term.false in cc) in
    let left : c.remove.new.self.items ≡ without x c.args.postings.now.items =
    c.remove.ensures.by_index.2
    ∙ (λ i. take (at i) c.args.postings.now.items ++ drop (at i + 1) c.args.postings.now.items)
    ∙ rw add-one (remove_at c.args.postings.now.items x) in
    subst (λ (ps : List Posting). AreTaken c.args.postings.now.items c.args.node (t ∷ []) c.args.kept.now ps) (sym left)
    (taken_one c.args.node c.args.kept.now t c.args.postings.now.items absent c.requires.in_order here)

pub returns-in_default-clause-taken : goal.returns-in_default-clause-taken
returns-in_default-clause-taken c =
    let x : Posting = record { term = (c.args.kind, c.args.normal.now); node = c.args.node } in
    taken_absent c.args.node c.args.kept.now (c.args.kind, c.args.normal.now) c.args.postings.now.items c.requires.in_order
    (λ i. c.in_default.ensures.1 (subst (λ (ps : List Posting). In x ps) (sym c.deref.ensures.value) i))
