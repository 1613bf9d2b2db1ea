-- The agreement's consumer is an agent of the network, and what was acknowledged is kept at the agreement's place.
use Rattle.std.proofs.Common.{◌<◌, length, sym, subst}
use Rattle.x5_world.specs.State.{Net}
use Rattle.x5_world.proofs.refreshing.taken.Goals as goal

pub acknowledged-requires : goal.acknowledged-requires
acknowledged-requires c =
    subst (λ (n : Net). c.args.by.now.place < length n.acked) (sym c.in_ok-count.ensures.taken.new_is) c.requires.there
