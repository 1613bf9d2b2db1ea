-- It's the one that is indexed.
use Rattle.std.proofs.Common.{List, get_or, ap, ◌∙◌}
use Rattle.x5_holdings.specs.State.{Kept}
use Rattle.x5_holdings.proofs.Holding.{got}
use Rattle.x5_update.proofs.place.held_at.Goals as goal

pub returns : goal.returns
returns c =
    got c.args.state.now.own c.args.place.own c.index-own-place.result c.requires
    (c.index-own-place.is ∙ ap (λ (l : List Kept). get_or l c.args.place.own c.index-own-place.result) c.own.ensures.own)
