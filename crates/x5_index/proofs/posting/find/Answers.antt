-- The closure compares with the posting that is looked for, so the search tells its place.
use Rattle.std.proofs.Common.{rules, of_calls}
use Rattle.std.proofs.lemmas.Fn.{always_returns_same}
use Rattle.x5_index.specs.Index.{Posting, posting_cmp}
use Rattle.x5_index.proofs.Search.{found}
use Rattle.x5_index.proofs.posting.find.Goals as goal

pub returns : goal.returns
returns c =
    let x : Posting = record { term = (c.args.kind, c.args.normal.now); node = c.args.node } in
    found x c.args.postings.now c.requires c.binary_search_by.result c.binary_search_by.ensures.bound
    (c.binary_search_by.ensures.position (λ y. posting_cmp y x) (always_returns_same _ _ _ (λ a r f k. search (rules, of_calls))))
