-- The two that were pushed are the parts.
use Rattle.std.proofs.Common.{◌≡◌, [], ◌∷◌, refl}
use Rattle.x5_types.proofs.Nodes.{many_is}
use Rattle.x5_types.proofs.given.two.Goals as goal

pub returns : goal.returns
returns c =
    let items : c.push-2.new.self.items ≡ c.args.first ∷ c.args.second ∷ [] =
    simp (c.in_ok-push-2.ensures.items, c.in_ok-push.ensures.items, c.new-parts.ensures.items) refl in
    many_is c.push-2.new.self (c.args.first ∷ c.args.second ∷ []) items
