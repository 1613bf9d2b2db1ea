-- The closure compares with the value that is looked for, so the search tells whether it's there.
use Rattle.std.proofs.Common.{Bool, sym, subst, rules, of_calls}
use Rattle.std.proofs.lemmas.Fn.{always_returns_same}
use Rattle.std.specs.Bool.{Decides}
use Rattle.x5_model.specs.Keys.{KeyPair, pair_cmp}
use Rattle.x5_model.specs.Members.{In}
use Rattle.x5_index.proofs.Search.{decided}
use Rattle.x5_index.proofs.posting.has_term.Goals as goal

pub returns : goal.returns
returns c =
    let t : KeyPair = (c.args.kind, c.args.normal.now) in
    subst (λ (b : Bool). Decides b (In t c.args.terms.now)) (sym c.is_ok.ensures.value)
    (decided t c.args.terms.now c.requires c.binary_search_by.result c.binary_search_by.ensures.bound
    (c.binary_search_by.ensures.position (λ s. pair_cmp s t) (always_returns_same _ _ _ (λ a r f k. search (rules, of_calls)))))
