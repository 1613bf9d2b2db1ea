-- The consumer of an agreement is one of the agents.
use Rattle.std.proofs.Common.{◌<◌, length, subst, sym}
use Rattle.x5_model_tree.specs.World.{Agreement}
use Rattle.x5_world.proofs.Concluding.{agents_there}
use Rattle.x5_world.proofs.refreshing.way_of.Goals as goal

pub held-requires : goal.held-requires
held-requires c =
    subst (λ (g : Agreement). g.consumer < length c.args.world.now.names) (sym c.agreement-2.view_is)
    (agents_there c.args.world.now c.requires.sound.point c.args.place c.in_ok-agreement.agreement c.requires.sound.stands
    c.in_ok-agreement.ensures).1
