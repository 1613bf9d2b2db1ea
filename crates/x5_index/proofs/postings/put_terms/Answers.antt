-- The next term isn't among those that were put, so where the node wasn't there its posting is a new one.
use Rattle.std.proofs.Common.{◌≡◌, ◌+◌, ◌∷◌, [], ◌++◌, false, List, length, sym, ap, subst, ◌∙◌, append_assoc, length-append, arith}
use Rattle.std.specs.Vec.Iter.{into_iter_items}
use Rattle.x5_model.specs.Members.{In, Once}
use Rattle.x5_model.specs.Keys.{KeyPair}
use Rattle.x5_index.specs.Index.{Posting, is_there}
use Rattle.x5_index.proofs.Adding.{added_more, absent_more}
use Rattle.x5_index.proofs.postings.put_terms.Goals as goal

pub loop-term-preserved : goal.loop-term-preserved
loop-term-preserved c =
    let at = c.loop-term.invariant in
    let rest : List KeyPair = into_iter_items c.next.new.self in
    let x : Posting = record { term = c.in-Some.term; node = c.args.node } in
    let all : c.args.terms.items ≡ c.loop-term.yielded ++ c.in-Some.term ∷ rest =
    sym c.into_iter-term-iterator.ensures.into_iter_gives.0 ∙ sym at.all ∙ ap (λ (ts : List KeyPair). c.loop-term.yielded ++ ts) c.in-Some.ensures.steps.0 in
    let absent : is_there c.args.postings.now.items c.args.node ≡ false → In x c.loop-term.postings.items → ⊥ =
    λ none. absent_more c.args.postings.now.items c.args.node c.loop-term.yielded rest c.in-Some.term c.loop-term.postings.items none
    (subst (λ (ts : List KeyPair). Once ts) all c.requires.once) at.added in
    let steps : into_iter_items c.loop-term.term-iterator ≡ c.in-Some.term ∷ rest = c.in-Some.ensures.steps.0 in
    let gone = c.in-Some.ensures.steps.1 in
    let short = ap length steps in
    let long : length (c.loop-term.yielded ++ c.in-Some.term ∷ []) ≡ length c.loop-term.yielded + 1 = length-append c.loop-term.yielded (c.in-Some.term ∷ []) in
    record {
      all = append_assoc c.loop-term.yielded (c.in-Some.term ∷ []) rest ∙ ap (λ (ts : List KeyPair). c.loop-term.yielded ++ ts) (sym steps) ∙ at.all;
      left = omega (arith, at.left, gone, short);
      added = added_more c.args.node c.args.postings.now.items c.loop-term.postings.items c.put_posting.new.postings.items c.loop-term.yielded (c.in-Some.term ∷ []) at.added c.put_posting.ensures.added;
      most = omega (arith, at.most, c.put_posting.ensures.most, long);
      absent = λ none. c.put_posting.ensures.absent (absent none) ∙ omega (arith, at.absent none, long);
      capacity = c.put_posting.ensures.capacity ∙ at.capacity;
    }
