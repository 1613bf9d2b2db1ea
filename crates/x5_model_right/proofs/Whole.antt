-- All cases of the induction together, each a lemma of its own; so what was shown from them holds.
use Rattle.x5_model_right.specs.Right.{Constructors, AllIsRight, RequestsAreRight}
use Rattle.x5_model_right.proofs.Agents.{needed_agents}
use Rattle.x5_model_right.proofs.Broken.{unsure_right}
use Rattle.x5_model_right.proofs.Casting.{none_asked_right, unable_too_right, silent_too_right, is_answered_right, nobody_has_right, some_silent_right}
use Rattle.x5_model_right.proofs.Copying.{reads_copy_right}
use Rattle.x5_model_right.proofs.Gathering.{no_part_right, part_unheard_right, part_unavailable_right, part_answered_right, part_breaks_right}
use Rattle.x5_model_right.proofs.Held.{holds_back_right}
use Rattle.x5_model_right.proofs.Induction.{serving_is_right}
use Rattle.x5_model_right.proofs.Leaves.{loops_right, long_right, unfit_right, refused_right, nowhere_right}
use Rattle.x5_model_right.proofs.Messages.{spent_right, lost_right, dropped_right, heard_right}
use Rattle.x5_model_right.proofs.Onward.{goes_right, goes_wide_right, referral_right, wide_referral_right}
use Rattle.x5_model_right.proofs.Parts.{gives_parts_right, asks_parts_right, unexplored_right}
use Rattle.x5_model_right.proofs.Probed.{misses_right, is_taken_right, breaks_right}
use Rattle.x5_model_right.proofs.Probing.{no_probe_right, clear_right, silent_right}
use Rattle.x5_model_right.proofs.Reading.{reads_right}
use Rattle.x5_model_right.proofs.Staying.{done_before_right, stuck_right, refers_right, carries_out_right, final_right}
use Rattle.x5_model_right.proofs.Taking.{none_yet_right, in_vain_too_right, next_is_heard_right, none_is_heard_right}
use Rattle.x5_model_right.proofs.Top.{request_is_right}
use Rattle.x5_model_right.proofs.Updates.{not_done_right, does_alone_right, probes_all_right}

pub all_cases : Constructors
all_cases = record {
  serving = record {
    loops = loops_right;
    is_long = long_right;
    done_before = done_before_right;
    refused = refused_right;
    unfit = unfit_right;
    is_stuck = stuck_right;
    is_nowhere = nowhere_right needed_agents;
    refers = refers_right needed_agents;
    goes = goes_right needed_agents;
    goes_wide = goes_wide_right needed_agents;
    reads = reads_right;
    reads_copy = reads_copy_right;
    gives_parts = gives_parts_right needed_agents;
    asks_parts = asks_parts_right needed_agents;
    carries_out = carries_out_right;
  };
  updating = record {
    not_done = not_done_right;
    does_alone = does_alone_right;
    probes_all = probes_all_right;
    misses = misses_right needed_agents;
    is_taken = is_taken_right;
    breaks = breaks_right;
    no_probe = no_probe_right;
    clear = clear_right;
    unsure = unsure_right;
    silent = silent_right;
  };
  sending = record {
    holds_back = holds_back_right needed_agents;
    spent = spent_right;
    is_lost = lost_right needed_agents;
    dropped = dropped_right needed_agents;
    is_heard = heard_right needed_agents;
    is_final = final_right;
    referral = referral_right needed_agents;
    wide_referral = wide_referral_right needed_agents;
    unexplored = unexplored_right needed_agents;
  };
  taking = record {
    none_yet = none_yet_right;
    in_vain_too = in_vain_too_right;
    next_is_heard = next_is_heard_right;
    none_is_heard = none_is_heard_right needed_agents;
  };
  casting = record {
    none_asked = none_asked_right;
    unable_too = unable_too_right;
    silent_too = silent_too_right;
    is_answered = is_answered_right needed_agents;
    nobody_has = nobody_has_right needed_agents;
    some_silent = some_silent_right needed_agents;
  };
  gathering = record {
    no_part = no_part_right;
    part_unheard = part_unheard_right;
    part_unavailable = part_unavailable_right;
    part_answered = part_answered_right;
    part_breaks = part_breaks_right;
  };
}

pub all_is_right : AllIsRight
all_is_right = serving_is_right all_cases

pub requests_are_right : RequestsAreRight
requests_are_right = request_is_right all_cases
