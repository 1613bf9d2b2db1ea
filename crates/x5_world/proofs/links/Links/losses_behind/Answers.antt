-- The different ones among the later replies are no more than all lost ones.
use Rattle.std.proofs.Common.{◌≡◌, ap, nat_lt}
use Rattle.std.specs.List.{filter}
use Rattle.x5_model_tree.specs.World.{Network}
use Rattle.x5_world.proofs.Repeating.{within_all}
use Rattle.x5_world.proofs.links.Links.losses_behind.Goals as goal

pub returns-clause-most : goal.returns-clause-most
returns-clause-most c =
    let later : c.deref-2.result.now ≡ filter (λ k. nat_lt c.args.sent k) c.args.self.now.lost_replies =
    cc (
      c.in_ok-later.ensures,
      c.deref.ensures.value,
      c.deref-2.ensures.value,
      ap (λ (n : Network). n.lost_replies) c.self.view_is,
    ) in
    within_all c.args.self.now.lost_replies c.deref-2.result.now c.args.sent c.different.result later
    c.different.ensures.most
