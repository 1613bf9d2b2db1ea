-- The cases of carrying out an update and of its probes, all of them, as the one induction takes them.
use Rattle.x5_model_right.specs.Journeys.{NeededAgents}
use Rattle.x5_model_right.specs.Updated.{UpdatingCases}
use Rattle.x5_model_right.proofs.Probing.{no_probe_right, clear_right, silent_right}
use Rattle.x5_model_right.proofs.Updates.{not_done_right, does_alone_right, probes_all_right}
use Rattle.x5_model_right.proofs.Probed.{misses_right, is_taken_right, breaks_right}
use Rattle.x5_model_right.proofs.Broken.{unsure_right}

pub updating : NeededAgents → UpdatingCases
updating known = record {
  not_done = not_done_right;
  does_alone = does_alone_right;
  probes_all = probes_all_right;
  misses = misses_right known;
  is_taken = is_taken_right;
  breaks = breaks_right;
  no_probe = no_probe_right;
  clear = clear_right;
  unsure = unsure_right;
  silent = silent_right;
}
