-- Answers that a limit ends (X.511, section 12.8: administrativeLimitExceeded). A message that 128 agents had is
-- answered so, and so is one for which such a message was sent and came back; over a network that sends no further
-- message that ends it. Where messages were left and no trace was so long, the answer is refused; and an update that
-- it ends is answered `changed` by nobody.
use Rattle.std.specs.Prelude.{◌≡◌, ℕ, zero, suc, true, false, List, [], ◌∷◌}
use Rattle.std.specs.declared.option.Option.TheVariants.{None, Some}
use Rattle.std.proofs.Common.{refl, ap}
use Rattle.x5_model.specs.Values.{Name}
use Rattle.x5_model.specs.Requests.{Request}
use Rattle.x5_model.specs.References.{Progress, Start, Next, Subordinate, Superior, NonSpecific, Reference, TraceItem}
use Rattle.x5_model.specs.References.{Chained}
use Rattle.x5_model.specs.Answers.{Changed, ServiceProblem, Reply, Answered, Failed}
use Rattle.x5_model.specs.Problems.{administrative_limit_exceeded, loop_detected}
use Rattle.x5_model_run.specs.Network.{Sent}
use Rattle.x5_model_run.specs.Journal.{Line, Journal}
use Rattle.x5_model_run.specs.Needs.{reference, fails}
use Rattle.x5_model_run.specs.Chain.{Scene, scene_with, scene_at, probe_request}
use Rattle.x5_model_run.specs.Stage.{budget}
use Rattle.x5_model_run.specs.Blocked.{Asked, by_user}
use Rattle.x5_model_run.specs.Right.{Right, AnswersRight, result, changed, error}
use Rattle.x5_model_replies.specs.Replies.{RightReply, RepliesRight, usual, limit}
use Rattle.x5_model_run.proofs.Licensing.{licensed_by, licensed_first}
use Rattle.x5_model_serve.specs.Serving.{Hand, hand, Serves, Hears, Does, IsRequest, limit_reply, answers, is_long}
use Rattle.x5_model_serve.specs.Serving.{goes, casts, updates, breaks, no_probe, spent, sends, final, heard, none_yet}
use Rattle.x5_model_serve.specs.Serving.{none_asked, answered}
use Rattle.x5_model_determined.proofs.Once.{request_is_determined}
use Rattle.x5_model_rows.proofs.BaseWorld.{acme, lab}
use Rattle.x5_model_rows.proofs.Messages.{asks, passes, journal, accepted_journal}
use Rattle.x5_model_rows.proofs.Resolution.{at_first, read_jan, jan_at_delta, jan_journal, name_lab}
use Rattle.x5_model_rows.proofs.Shadowing.{new_name, add_new}
use Rattle.x5_model_rows.proofs.Placing.{raw_line}
use Rattle.x5_model_rows.proofs.Forged.{the_lab}
use Rattle.x5_model_rows.proofs.Refused.{no}
use Rattle.x5_model_rows.proofs.Stepping.{IsServed, IsHandled, up, jan_reply, jan_served}

-- ---- a message to Beta, that came of Alpha so many times

abbrev pub times : ℕ → TraceItem → List TraceItem
times zero item = []
times (suc n) item = item ∷ times n item

abbrev pub after : ℕ → Name → Request → Chained
after n target r = record {
  target = target;
  progress = Next 2;
  kind = Subordinate;
  exclusions = [];
  trace = times n (record { agent = 0; target = target; progress = Start; wide = false });
  request = r;
}

abbrev pub scene_after : ℕ → Name → Request → Scene
scene_after n target r = scene_with at_first 1 (after n target r)

abbrev pub brought : ℕ → Name → Request → Line
brought n target r = raw_line (scene_after n target r)

-- ---- reads

abbrev pub reading : ℕ → Scene
reading n = scene_after n lab name_lab

abbrev pub read_line : ℕ → Line
read_line n = brought n lab name_lab

-- 128 agents had it: Beta says so at once. And it came to a limit by what agents do.
abbrev pub at_once : Journal
at_once = journal (read_line 128 ∷ [])

pub long_read : RepliesRight at_first (reading 128) at_once limit_reply
long_read = record {
  placed = record { fit = refl; lower = refl; brought = refl };
  licensed = (licensed_first refl refl refl refl refl, tt);
  accepts = record { one = refl; right = refl; probed = refl };
  done = λ usual. refl;
  at_once = refl;
  answer = limit refl refl refl;
}

pub long_served : IsHandled at_first 1 (after 128 lab name_lab) at_once limit_reply
long_served = answers limit_reply refl (is_long refl refl)

-- 127 agents had it: Beta asks Gamma, which is the 129th, and hears that.
abbrev pub asks_gamma : ℕ → Line
asks_gamma n = passes 2 (read_line n) 2 lab (Next 3) NonSpecific name_lab Sent

abbrev pub read_journal : ℕ → Journal
read_journal n = journal (read_line n ∷ asks_gamma n ∷ [])

pub longer_read : RepliesRight at_first (reading 127) (read_journal 127) limit_reply
longer_read = record {
  placed = record { fit = refl; lower = refl; brought = refl };
  licensed = (licensed_by (read_line 127) 0 0 refl refl refl refl refl, (licensed_first refl refl refl refl refl, tt));
  accepts = record { one = refl; right = refl; probed = refl };
  done = λ usual. refl;
  at_once = refl;
  answer = limit refl refl refl;
}

abbrev pub lab_nssr : Reference
lab_nssr = reference lab (Next 3) NonSpecific (2 ∷ 3 ∷ [])

pub longer_served : IsHandled at_first 1 (after 127 lab name_lab) (read_journal 127) limit_reply
longer_served =
    answers limit_reply refl
    (casts lab_nssr limit_reply (record { unlooped = refl; short = refl; fresh = refl; unrefused = refl; fit = refl })
    refl refl refl
    (answered [] (3 ∷ []) [] 2 limit_reply refl refl none_asked
    (sends 2 limit_reply limit_reply refl refl refl (is_long refl refl) (final limit_reply refl))))

-- 126 agents had it: no trace is too long, and Gamma answers. Refused: the limit, with the line to Gamma; and without
-- it also where 127 had it.
pub short_read : RepliesRight at_first (reading 126) (read_journal 126) (Answered the_lab)
short_read = record {
  placed = record { fit = refl; lower = refl; brought = refl };
  licensed = (licensed_by (read_line 126) 0 0 refl refl refl refl refl, (licensed_first refl refl refl refl refl, tt));
  accepts = record { one = refl; right = refl; probed = refl };
  done = λ usual. refl;
  at_once = refl;
  answer = usual refl (result refl (record {
    found = refl;
    sources = refl;
    spelled = refl;
    once = refl;
    exactly = refl;
    answered = refl;
    blocked = tt;
    completed = refl;
    apart = refl;
  }) refl refl);
}

pub no_limit_below : RightReply at_first (reading 126) (by_user (reading 126)) (read_journal 126) false limit_reply → ⊥
no_limit_below (limit back over none) = no over
no_limit_below (usual able (error back given known none)) = no (ap fails given)

pub no_limit_alone : RightReply at_first (reading 127) (by_user (reading 127)) (journal (read_line 127 ∷ [])) false
    limit_reply → ⊥
no_limit_alone (limit back over none) = no over
no_limit_alone (usual able (error back given known none)) = no (ap fails given)

-- Refused too: that with so long a trace another error of the service ends it.
abbrev pub loops_reply : Reply
loops_reply = Failed (ServiceProblem loop_detected None None)

pub no_other_problem : RightReply at_first (reading 128) (by_user (reading 128)) at_once false loops_reply → ⊥
no_other_problem (usual able (error back given known none)) = no (ap fails given)

-- ---- messages run out

-- Only one message may be sent: Delta, which would ask Beta, says that a limit ends it.
pub spent_served : IsRequest (scene_at at_first 3 read_jan) 1 (journal (jan_at_delta ∷ [])) limit_reply
spent_served =
    answers limit_reply refl
    (goes up (Hears limit_reply) (record { unlooped = refl; short = refl; fresh = refl; unrefused = refl; fit = refl })
    refl refl refl (heard [] [] 1 limit_reply refl none_yet (spent 1 refl refl)))

abbrev pub jan_scene : Scene
jan_scene = scene_at at_first 3 read_jan

pub spent_right : RightReply at_first jan_scene (by_user jan_scene) (journal (jan_at_delta ∷ [])) true limit_reply
spent_right = limit refl refl refl

-- Refused where messages are left: after that one line, by the definition of right replies and by that of what agents
-- do; and, by that of what a user is answered, always.
pub no_limit_left : RightReply at_first jan_scene (by_user jan_scene) (journal (jan_at_delta ∷ [])) false limit_reply
    → ⊥
no_limit_left (limit back over none) = no over
no_limit_left (usual able (error back given known none)) = no (ap fails given)

pub not_served_so : (j : Journal) → IsServed at_first 3 read_jan j limit_reply → ⊥
not_served_so j d =
    let w = request_is_determined jan_scene (budget at_first) jan_journal j jan_reply limit_reply jan_served d in
    let e : limit_reply ≡ jan_reply = w.0 in
    cc

pub no_limit_for_users : (j : Journal) → Right at_first jan_scene (by_user jan_scene) j limit_reply → ⊥
no_limit_for_users j (error back given known none) = no (ap fails given)

-- ---- updates

-- Beta, the master of Acme, has a message to add an entry that 127 agents had. Gamma, which it asks for the new name,
-- is the 129th: that ends it, and nothing is accepted.
abbrev pub adding : ℕ → Scene
adding n = scene_after n acme add_new

abbrev pub add_line : ℕ → Line
add_line n = brought n acme add_new

abbrev pub new_probe : Line
new_probe = passes 2 (add_line 127) 2 new_name (Next 3) NonSpecific (probe_request new_name) Sent

abbrev pub add_journal : Journal
add_journal = journal (add_line 127 ∷ new_probe ∷ [])

pub longer_add : RepliesRight at_first (adding 127) add_journal limit_reply
longer_add = record {
  placed = record { fit = refl; lower = refl; brought = refl };
  licensed = (licensed_by (add_line 127) 0 0 refl refl refl refl refl, (licensed_first refl refl refl refl refl, tt));
  accepts = record { one = refl; right = refl; probed = refl };
  done = λ usual. absurd (no usual);
  at_once = refl;
  answer = limit refl refl refl;
}

pub longer_add_served : IsHandled at_first 1 (after 127 acme add_new) add_journal limit_reply
longer_add_served =
    answers limit_reply refl
    (updates _ _ (record { unlooped = refl; short = refl; fresh = refl; unrefused = refl; fit = refl }) refl refl
    (breaks _ (reference new_name (Next 3) NonSpecific (2 ∷ 3 ∷ [])) 2 [] (3 ∷ []) []
    (ServiceProblem administrative_limit_exceeded None None) refl refl refl refl refl no_probe
    (sends 2 limit_reply limit_reply refl refl refl (is_long refl refl) (final limit_reply refl))))

-- Refused: that it was done.
pub no_change_at_limit : RightReply at_first (adding 127) (by_user (adding 127)) add_journal false (Answered Changed)
    → ⊥
no_change_at_limit (usual able (changed back update was)) = no was
no_change_at_limit (usual able (result back r query none)) = no query

-- The same at once, where 128 agents had it.
pub long_add : RepliesRight at_first (adding 128) (journal (add_line 128 ∷ [])) limit_reply
long_add = record {
  placed = record { fit = refl; lower = refl; brought = refl };
  licensed = (licensed_first refl refl refl refl refl, tt);
  accepts = record { one = refl; right = refl; probed = refl };
  done = λ usual. absurd (no usual);
  at_once = refl;
  answer = limit refl refl refl;
}

pub not_done_at_limit : (j : Journal) → IsHandled at_first 1 (after 128 acme add_new) j (Answered Changed) → ⊥
not_done_at_limit j d =
    let w = request_is_determined (adding 128) (budget at_first) (journal (add_line 128 ∷ [])) j limit_reply
    (Answered Changed) (answers limit_reply refl (is_long refl refl)) d in
    let e : Answered Changed ≡ limit_reply = w.0 in
    cc
