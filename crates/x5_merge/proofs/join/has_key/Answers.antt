-- The closure compares with the key that is looked for, so the search tells whether it is there.
use Rattle.std.proofs.Common.{rules, of_calls, ◌∙◌}
use Rattle.std.proofs.lemmas.Fn.{always_returns_same}
use Rattle.x5_model.specs.Keys.{key_cmp}
use Rattle.x5_merge.proofs.Searching.{has}
use Rattle.x5_merge.proofs.join.has_key.Goals as goal

pub returns : goal.returns
returns g c =
    c.is_ok.ensures.value
    ∙ has g.T.Member.key c.args.other.now c.args.members.now c.requires c.binary_search_by.result c.binary_search_by.ensures.bound
    (c.binary_search_by.ensures.position (λ y. key_cmp (g.T.Member.key y) (g.T.Member.key c.args.other.now)) (always_returns_same _ _ _ (λ a r f k. search (rules, of_calls))))
