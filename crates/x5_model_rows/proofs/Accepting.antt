-- Updates that are said to be done and aren't, or the other way round. What is accepted is right: once, by the master
-- of the target, which had the message, after it heard each agent that a probe goes to, and where the tree doesn't
-- refuse. It is accepted exactly where that is so, and nothing is sent for it afterwards. And `changed` is answered
-- where an agent that accepted it was heard, an error or `unavailable` where none was.
use Rattle.std.specs.Prelude.{◌≡◌, ℕ, true, false, List, [], ◌∷◌}
use Rattle.std.specs.declared.option.Option.TheVariants.{None, Some}
use Rattle.std.proofs.Common.{refl}
use Rattle.x5_model.specs.Requests.{Request}
use Rattle.x5_model.specs.References.{Start, Next, Own, NonSpecific, Supplier}
use Rattle.x5_model.specs.Answers.{Changed, UpdateProblem, ServiceProblem, Reply, Answered, Failed}
use Rattle.x5_model.specs.Problems.{entry_already_exists, unavailable}
use Rattle.x5_model_run.specs.Network.{Down, Fate, Lost, NoReply, Sent}
use Rattle.x5_model_run.specs.Journal.{Line, Journal}
use Rattle.x5_model_run.specs.Needs.{fails}
use Rattle.x5_model_run.specs.History.{Point, Outs}
use Rattle.x5_model_run.specs.Chain.{Scene, scene_at, probe_request}
use Rattle.x5_model_run.specs.Blocked.{by_user}
use Rattle.x5_model_run.specs.Right.{Accepts, Finished, Right, AnswersRight, result, changed, error, unheard}
use Rattle.x5_model_run.proofs.Licensing.{licensed_by, licensed_first}
use Rattle.x5_model_rows.proofs.BaseWorld.{base_world, acme, lab}
use Rattle.x5_model_rows.proofs.Messages.{asks, passes, journal, accepted_journal, did, point, in_vain}
use Rattle.x5_model_rows.proofs.Resolution.{at_first}
use Rattle.x5_model_rows.proofs.Shadowing.{put_gears, new_name, add_new, read_description}
use Rattle.x5_model_rows.proofs.Probing.{gamma_down, again_at_beta, again_journal, add_lab, remove_acme}
use Rattle.x5_model_rows.proofs.Losing.{losing_shadowed, put_lab, put_at_beta, put_at_delta, twice_journal}
use Rattle.x5_model_rows.proofs.Refused.{no}

not_so : true ≡ false → ⊥
not_so e = cc

-- ---- an update that Beta accepts by itself

abbrev pub gears_scene : Scene
gears_scene = scene_at at_first 1 put_gears

abbrev pub gears_asked : Line
gears_asked = asks 1 1 put_gears Sent

abbrev pub gears_by : List ℕ → Journal
gears_by accepted = record { lines = gears_asked ∷ []; accepted = accepted }

-- the honest block
pub gears_done : AnswersRight at_first 1 put_gears (gears_by (1 ∷ [])) (Answered Changed)
gears_done = record {
  licensed = (licensed_first refl refl refl refl refl, tt);
  accepts = record { one = refl; right = refl; probed = refl };
  finished = record { done = refl; at_once = refl };
  answer = changed refl refl refl;
}

-- Nobody accepted it, and it's answered `changed`, as an update is, or as if `changed` were a result.
pub not_changed_by_nobody : Right at_first gears_scene (by_user gears_scene) (gears_by []) (Answered Changed) → ⊥
not_changed_by_nobody (changed answered update heard) = no heard
not_changed_by_nobody (result answered r query none) = no query

-- Nobody accepted it, whatever is answered.
pub not_left : Finished at_first gears_scene (gears_by []) → ⊥
not_left f = not_so f.done

-- It is accepted twice; by an agent that isn't the target's master, reached or not.
pub not_twice : Accepts at_first gears_scene (gears_by (1 ∷ 1 ∷ [])) → ⊥
not_twice a = no a.one

pub not_by_epsilon : Accepts at_first gears_scene (gears_by (4 ∷ [])) → ⊥
not_by_epsilon a = no a.right

pub not_by_consumer : Accepts at_first (scene_at at_first 4 put_gears)
    (accepted_journal (asks 1 4 put_gears Sent ∷ []) 4) → ⊥
not_by_consumer a = no a.right

-- It was accepted, and an error is answered; or `unavailable`, where every reply was heard.
pub no_error_after : Right at_first gears_scene (by_user gears_scene) (gears_by (1 ∷ []))
    (Failed (UpdateProblem entry_already_exists)) → ⊥
no_error_after (error answered given known none) = no none

pub no_unavailable_after : Right at_first gears_scene (by_user gears_scene) (gears_by (1 ∷ []))
    (Failed (ServiceProblem unavailable (Some (in_vain Own acme Start (1 ∷ []))) None)) → ⊥
no_unavailable_after (unheard l phase none) = no none
no_unavailable_after (error answered given known none) = no none

-- Beta is down: the message doesn't arrive, and Beta is said to have accepted it.
abbrev pub beta_down : Point
beta_down = point base_world (did (Outs (Down 1)) 0 ∷ [])

pub not_unreached : Accepts beta_down (scene_at beta_down 1 put_gears)
    (accepted_journal (asks 1 1 put_gears Lost ∷ []) 1) → ⊥
not_unreached a = no a.right

-- ---- what the tree refuses, and what is no update

-- Beta is said to remove Acme, which stands above pins.
abbrev pub remove_scene : Scene
remove_scene = scene_at at_first 1 remove_acme

pub not_refused : Accepts at_first remove_scene (accepted_journal (asks 1 1 remove_acme Sent ∷ []) 1) → ⊥
not_refused a = no a.right

-- and to accept a read
pub not_a_read : Accepts at_first (scene_at at_first 1 read_description)
    (accepted_journal (asks 1 1 read_description Sent ∷ []) 1) → ⊥
not_a_read a = no a.right

-- ---- an update with probes

abbrev pub new_scene : Scene
new_scene = scene_at at_first 1 add_new

abbrev pub new_asked : Line
new_asked = asks 1 1 add_new Sent

abbrev pub probe_at : ℕ → ℕ → Fate → Line
probe_at number a fate = passes number new_asked a new_name (Next 3) NonSpecific (probe_request new_name) fate

-- the honest block
abbrev pub both_probed : Journal
both_probed = accepted_journal (new_asked ∷ probe_at 2 2 Sent ∷ probe_at 3 3 Sent ∷ []) 1

pub new_done : AnswersRight at_first 1 add_new both_probed (Answered Changed)
new_done = record {
  licensed = (
    licensed_by new_asked 0 1 refl refl refl refl refl,
    (licensed_by new_asked 0 0 refl refl refl refl refl, (licensed_first refl refl refl refl refl, tt)),
  );
  accepts = record { one = refl; right = refl; probed = refl };
  finished = record { done = refl; at_once = refl };
  answer = changed refl refl refl;
}

-- It is accepted and nobody was asked for the new name; or Gamma alone was.
pub not_unprobed : Accepts at_first new_scene (accepted_journal (new_asked ∷ []) 1) → ⊥
not_unprobed a = no a.probed

pub not_half_probed : Accepts at_first new_scene (accepted_journal (new_asked ∷ probe_at 2 2 Sent ∷ []) 1) → ⊥
not_half_probed a = no a.probed

-- Both were asked and heard, and it isn't accepted.
pub not_left_probed : Finished at_first new_scene (record both_probed { accepted = [] }) → ⊥
not_left_probed f = not_so f.done

-- Gamma wasn't heard, and it's accepted all the same.
pub not_unheard : Accepts gamma_down (scene_at gamma_down 1 add_lab) (record again_journal { accepted = 1 ∷ [] }) → ⊥
not_unheard a = no a.probed

-- Gamma has the new name, and it's accepted all the same.
pub not_taken : Accepts at_first (scene_at at_first 1 add_lab)
    (accepted_journal (asks 1 1 add_lab Sent ∷ []) 1) → ⊥
not_taken a = no a.right

-- ---- an update that comes again

-- Gamma accepted it, its reply was lost, and it has the update again by Delta. It answers at once: that it sends for it
-- is refused. What passes is in the rows on lost replies.
abbrev pub comes_again : Line
comes_again = passes 4 put_at_delta 2 lab (Next 3) Supplier put_lab Sent

abbrev pub sent_later : Journal
sent_later =
    record twice_journal {
      lines = passes 5 comes_again 3 lab (Next 3) NonSpecific put_lab Sent ∷ twice_journal.lines;
    }

pub not_sent_later : Finished losing_shadowed (scene_at losing_shadowed 1 put_lab) sent_later → ⊥
not_sent_later f = no f.at_once
