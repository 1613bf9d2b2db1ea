-- What is put back at its place leaves the list as it was.
use Rattle.std.proofs.Common.{◌≡◌, ℕ, List, Result, Ok, Err, OnErr, ap, ◌∙◌, slice_index_or, slice_set}
use Rattle.std.proofs.lemmas.List.{set-get_or}

pub put_back : {A : Type 0} (xs : List A) (place : ℕ) (before after : A) → before ≡ slice_index_or xs place before
    → after ≡ before → slice_set xs place after ≡ xs
put_back xs place before after is e = ap (slice_set xs place) (e ∙ is) ∙ set-get_or xs place before

pub on_err : {A E X : Type 0} (r : Result A E) → X → OnErr r X
on_err (Ok a) p = tt
on_err (Err e) p = p
