-- What the definitions refuse: wrong lines, references that nothing blocks, and wrong answers.
use Rattle.std.specs.Prelude.{◌≡◌, ℕ, true, false, [], ◌∷◌, length}
use Rattle.std.specs.declared.option.Option.TheVariants.{None, Some}
use Rattle.std.proofs.Common.{refl, arith, ap}
use Rattle.x5_model.specs.References.{Start, Next, Done, Superior, NonSpecific}
use Rattle.x5_model.specs.Answers.{Answer, Found, Answered, Failed, NoSuchObject, ServiceProblem}
use Rattle.x5_model.specs.Problems.{unavailable}
use Rattle.x5_model_tree.specs.Ask.{Told, Finds}
use Rattle.x5_model_run.specs.Network.{Lost, Sent}
use Rattle.x5_model_run.specs.Journal.{Line, Journal}
use Rattle.x5_model_run.specs.Needs.{reference, fails}
use Rattle.x5_model_run.specs.Chain.{Scene, Licensed, Caused, later, scene_at}
use Rattle.x5_model_run.specs.Blocked.{Blocked, untried, lost, user, asked, by_user}
use Rattle.x5_model_run.specs.Right.{Right, result, error, unheard}
use Rattle.x5_model_run.proofs.Licensing.{both, no_sender, no_repeat}
use Rattle.x5_model_run.proofs.Refusing.{all_unheard}
use Rattle.x5_model_rows.proofs.BaseWorld.{nl, acme, desk, jan, lab, shop, ada}
use Rattle.x5_model_rows.proofs.Messages.{passes, journal, now, bare, in_vain, whole_outcome, left_out}
use Rattle.x5_model_rows.proofs.Resolution.{at_first, gamma_down, read_jan, jan_at_delta, jan_at_beta, jan_at_gamma}
use Rattle.x5_model_rows.proofs.Resolution.{jan_journal, read_absent, absent, absent_at_beta, read_lab, lab_at_alpha}
use Rattle.x5_model_rows.proofs.Resolution.{lab_at_beta, lab_journal}
use Rattle.x5_model_rows.proofs.Searching.{from_root, root_journal, the_sources}

pub no : false ≡ true → ⊥
no e = cc

-- Lines. Gamma is down, and the line says that it was reached.
pub no_false_fate : Licensed (scene_at gamma_down 0 read_lab) (lab_at_beta ∷ lab_at_alpha ∷ [])
    (passes 3 lab_at_beta 2 lab (Next 3) NonSpecific read_lab Sent) → ⊥
no_false_fate l = no_lost l.fate_is
  where
    no_lost : Sent ≡ Lost → ⊥
    no_lost e = cc

-- Delta sends for a line that Beta received.
abbrev pub by_delta : Line
by_delta = record jan_at_gamma { sender = Some 3 }

pub no_stranger : Licensed (scene_at at_first 3 read_jan) (jan_at_beta ∷ jan_at_delta ∷ []) by_delta → ⊥
no_stranger l = by l.cause
  where
    by : Caused (scene_at at_first 3 read_jan) (jan_at_beta ∷ jan_at_delta ∷ []) by_delta → ⊥
    by (later f fresh) = no_sender 1 jan_at_beta refl refl refl f

-- Gamma is asked the same twice for one message.
abbrev pub again : Line
again = record jan_at_gamma { number = 4 }

pub no_second_time : Licensed (scene_at at_first 3 read_jan) (jan_at_gamma ∷ jan_at_beta ∷ jan_at_delta ∷ []) again → ⊥
no_second_time l = by l.cause
  where
    by : Caused (scene_at at_first 3 read_jan) (jan_at_gamma ∷ jan_at_beta ∷ jan_at_delta ∷ []) again → ⊥
    by (later f fresh) = no_repeat 1 refl refl f fresh

-- References. An agent is said to be asked in vain, and every message was heard.
abbrev pub jan_scene : Scene
jan_scene = scene_at at_first 3 read_jan

pub no_forged : Blocked jan_scene (by_user jan_scene) jan_journal.lines (in_vain NonSpecific jan (Next 3) (2 ∷ [])) → ⊥
no_forged (untried u) = no u.idle
no_forged (lost (user u)) = no u.unheard
no_forged (lost (asked a)) = no (all_unheard jan_scene jan_journal.lines a.line a.full (2 ∷ []) refl a.vain)

-- An agent is said not to be asked, and nothing kept Delta from asking it.
pub no_excuse : Blocked jan_scene (by_user jan_scene) jan_journal.lines (reference jan Start Superior (1 ∷ [])) → ⊥
no_excuse (untried u) = no u.idle
no_excuse (lost (user u)) = no u.unheard
no_excuse (lost (asked a)) = no (ap (λ r. r.tried) a.same)

-- Gamma was not heard, and Delta, which was, is named beside it.
abbrev pub lab_scene : Scene
lab_scene = scene_at gamma_down 0 read_lab

pub no_one_more : Blocked lab_scene (by_user lab_scene) lab_journal.lines
    (in_vain NonSpecific lab (Next 3) (2 ∷ 3 ∷ [])) → ⊥
no_one_more (untried u) = no u.idle
no_one_more (lost (user u)) = no u.unheard
no_one_more (lost (asked a)) =
    no (both _ _ (all_unheard lab_scene lab_journal.lines a.line a.full (2 ∷ 3 ∷ []) refl a.vain)).1

-- Answers. A search from the root drops an entry.
abbrev pub count_of : Told → ℕ
count_of (Finds infos cut) = length infos
count_of other = 0

abbrev pub root_scene : Scene
root_scene = scene_at at_first 2 from_root

abbrev pub without_desk : Answer
without_desk =
    Found (bare nl ∷ bare acme ∷ bare lab ∷ bare jan ∷ bare shop ∷ bare ada ∷ []) the_sources whole_outcome

pub no_entry_dropped : Right at_first root_scene (by_user root_scene) root_journal (Answered without_desk) → ⊥
no_entry_dropped (result answered r query none) = let fewer : ◌≡◌ {A = ℕ} 6 7 =
    ap count_of r.answered in omega (arith, fewer)

-- It leaves Gamma's part out, and calls it unexplored.
abbrev pub without_lab : Answer
without_lab =
    Found (bare nl ∷ bare acme ∷ bare desk ∷ bare shop ∷ bare ada ∷ []) (now nl 0 ∷ now acme 1 ∷ now shop 3 ∷ [])
    (left_out (in_vain NonSpecific acme Done (2 ∷ []) ∷ []))

pub no_false_unexplored : Right at_first root_scene (by_user root_scene) root_journal (Answered without_lab) → ⊥
no_false_unexplored (result answered r query none) = by r.blocked.0
  where
    by : Blocked root_scene (by_user root_scene) root_journal.lines (in_vain NonSpecific acme Done (2 ∷ [])) → ⊥
    by (untried u) = no u.idle
    by (lost (user u)) = no u.unheard
    by (lost (asked a)) = no (all_unheard root_scene root_journal.lines a.line a.full (2 ∷ []) refl a.vain)

-- It leaves Gamma's part out and says nothing.
abbrev pub silent : Answer
silent =
    Found (bare nl ∷ bare acme ∷ bare desk ∷ bare shop ∷ bare ada ∷ []) (now nl 0 ∷ now acme 1 ∷ now shop 3 ∷ [])
    whole_outcome

pub no_silence : Right at_first root_scene (by_user root_scene) root_journal (Answered silent) → ⊥
no_silence (result answered r query none) = no r.exactly

-- A name is said to be absent, and Gamma, which might have it, was not heard.
abbrev pub absent_scene : Scene
absent_scene = scene_at gamma_down 1 read_absent

abbrev pub stopped_journal : Journal
stopped_journal =
    journal (absent_at_beta ∷ passes 2 absent_at_beta 2 absent (Next 3) NonSpecific read_absent Lost
    ∷ passes 3 absent_at_beta 3 absent (Next 3) NonSpecific read_absent Sent ∷ [])

pub no_guess : Right gamma_down absent_scene (by_user absent_scene) stopped_journal (Failed (NoSuchObject acme)) → ⊥
no_guess (error answered given known none) = no known

-- A read is unavailable, and every message was heard.
pub no_false_unavailable : Right at_first jan_scene (by_user jan_scene) jan_journal
    (Failed (ServiceProblem unavailable (Some (in_vain NonSpecific jan (Next 3) (2 ∷ []))) None)) → ⊥
no_false_unavailable (unheard l phase none) = no_forged (lost l)
no_false_unavailable (error answered given known none) = no (ap fails given)
