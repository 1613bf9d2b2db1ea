-- The node above is one step nearer to the prefix.
use Rattle.x5_dse.specs.Inside.{depth_at}
use Rattle.x5_dse.proofs.place.+add_path.Given as goal

abbrev pub decreases-add_path : goal.decreases-add_path
decreases-add_path l = depth_at l.slots.now l.node
