-- The place that the search tells is within the list.
use Rattle.std.proofs.Common.{◌≡◌, arith}
use Rattle.x5_index.specs.Index.{Posting}
use Rattle.x5_index.specs.Places.{place_of}
use Rattle.x5_index.proofs.Adding.{place_bound}
use Rattle.x5_index.proofs.lookup.first_place.Goals as goal

pub returns-in-Ok-clause-within : goal.returns-in-Ok-clause-within
returns-in-Ok-clause-within c =
    let x : Posting = record { term = (c.args.kind, c.args.normal.now); node = 0 } in
    let at : c.in-Ok.place ≡ place_of c.args.postings.now x = c.in-Ok.ensures.0 in
    omega (arith, at, place_bound c.args.postings.now x)

pub returns-in-Err-clause-within : goal.returns-in-Err-clause-within
returns-in-Err-clause-within c =
    let x : Posting = record { term = (c.args.kind, c.args.normal.now); node = 0 } in
    let at : c.in-Err.place ≡ place_of c.args.postings.now x = c.in-Err.ensures.0 in
    omega (arith, at, place_bound c.args.postings.now x)
