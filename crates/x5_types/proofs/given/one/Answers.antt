-- The one that was pushed is the part.
use Rattle.std.proofs.Common.{◌≡◌, [], ◌∷◌, refl}
use Rattle.x5_types.proofs.Nodes.{many_is}
use Rattle.x5_types.proofs.given.one.Goals as goal

pub returns : goal.returns
returns c =
    let items : c.push.new.self.items ≡ c.args.first ∷ [] =
    simp (c.in_ok-push.ensures.items, c.new-parts.ensures.items) refl in
    many_is c.push.new.self (c.args.first ∷ []) items
