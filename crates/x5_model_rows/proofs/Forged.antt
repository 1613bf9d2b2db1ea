-- Blocks that say more than was heard, or spell otherwise than was kept. Each passed while only the fate of single
-- lines, and keys, were looked at; each is refused now, and beside it stands the honest block of the same script, which
-- passes.
use Rattle.std.specs.Prelude.{◌≡◌, ℕ, zero, suc, ◌<◌, ◌&&◌, ◌||◌, ◌==◌, Bool, true, false, IsTrue, List, [], ◌∷◌, take}
use Rattle.std.specs.Prelude.{slice_index}
use Rattle.std.specs.List.{list_all}
use Rattle.std.specs.declared.option.Option.{Option}
use Rattle.std.specs.declared.option.Option.TheVariants.{None, Some}
use Rattle.std.proofs.Common.{refl, arith, ap, sym, subst, inl, inr}
use lib.Chars.{codes}
use Rattle.x5_model.specs.Values.{Text, Rdn, Name, Known, TextValue}
use Rattle.x5_model.specs.Requests.{Request, Read, WholeSubtree, Only}
use Rattle.x5_model.specs.References.{Start, Next, Own, Superior, Subordinate, Supplier, NonSpecific, Reference}
use Rattle.x5_model.specs.Answers.{Source, Answer, EntryFound, Found, Answered, Changed, Failed, NoSuchObject}
use Rattle.x5_model.specs.Answers.{ServiceProblem}
use Rattle.x5_model.specs.Problems.{unavailable}
use Rattle.x5_model.proofs.Decide.{nat_same_decides}
use Rattle.x5_model.proofs.Lists.{either_true}
use Rattle.x5_model_run.specs.Network.{Down, Lost, NoReply, Sent}
use Rattle.x5_model_run.specs.Journal.{Line, Journal}
use Rattle.x5_model_run.specs.Needs.{reference, fails}
use Rattle.x5_model_run.specs.History.{Point, Outs, Loses}
use Rattle.x5_model_run.specs.Chain.{Scene, asks_by, is_passed, Turn, Caused, later, Licensed, scene_at}
use Rattle.x5_model_run.specs.Blocked.{IsLost, user, asked, by_user, hears_by}
use Rattle.x5_model_run.specs.Right.{Right, AnswersRight, result, changed, error, unheard}
use Rattle.x5_model_run.specs.Thorough.{Thorough}
use Rattle.x5_model_run.proofs.Licensing.{both, licensed_by, licensed_first}
use Rattle.x5_model_run.proofs.Refusing.{all_unheard, no_turn}
use Rattle.x5_model_rows.proofs.Literals.{rdn, plainly}
use Rattle.x5_model_rows.proofs.BaseWorld.{base_world, nl, acme, shop_rdn, lab}
use Rattle.x5_model_rows.proofs.Messages.{asks, passes, journal, accepted_journal, did, point, now, info, shows}
use Rattle.x5_model_rows.proofs.Messages.{whole_outcome, in_vain}
use Rattle.x5_model_rows.proofs.Resolution.{at_first, absent, read_absent, name_lab, beta_down, read_acme}
use Rattle.x5_model_rows.proofs.Searching.{everything}
use Rattle.x5_model_rows.proofs.Shadowing.{put_gears}
use Rattle.x5_model_rows.proofs.Losing.{losing_first}
use Rattle.x5_model_rows.proofs.Refused.{no}

-- (a) The reply to the user is lost, and the block tells an error.
abbrev pub absent_at_gamma : Line
absent_at_gamma = asks 1 2 read_absent NoReply

abbrev pub absent_above : Line
absent_above = passes 2 absent_at_gamma 1 absent Start Superior read_absent Sent

abbrev pub unheard_journal : Journal
unheard_journal =
    journal (absent_at_gamma ∷ absent_above ∷ passes 3 absent_above 2 absent (Next 3) NonSpecific read_absent Sent
    ∷ passes 4 absent_above 3 absent (Next 3) NonSpecific read_absent Sent ∷ [])

abbrev pub unheard_scene : Scene
unheard_scene = scene_at losing_first 2 read_absent

pub no_unheard_error : Right losing_first unheard_scene (by_user unheard_scene) unheard_journal
    (Failed (NoSuchObject acme)) → ⊥
no_unheard_error (error answered given known none) = no answered

pub gamma_unheard : AnswersRight losing_first 2 read_absent unheard_journal
    (Failed (ServiceProblem unavailable (Some (in_vain Own absent Start (2 ∷ []))) None))
gamma_unheard = record {
  licensed = (
    licensed_by absent_above 0 1 refl refl refl refl refl,
    (
      licensed_by absent_above 0 0 refl refl refl refl refl,
      (licensed_by absent_at_gamma 0 0 refl refl refl refl refl, (licensed_first refl refl refl refl refl, tt)),
    ),
  );
  accepts = record { one = refl; right = refl; probed = refl };
  finished = record { done = refl; at_once = refl };
  answer = unheard (user (record { own = refl; unheard = refl; same = refl })) refl refl;
}

-- (b) It tells that an update was done. What passes is in the rows on lost replies.
abbrev pub gears_scene : Scene
gears_scene = scene_at losing_first 1 put_gears

pub no_unheard_change : Right losing_first gears_scene (by_user gears_scene)
    (accepted_journal (asks 1 1 put_gears NoReply ∷ []) 1) (Answered Changed) → ⊥
no_unheard_change (changed answered update heard) = no answered
no_unheard_change (result answered r query none) = no answered

-- (c) The agent is down, and a search from the root finds nothing, with a lost line or with none.
abbrev pub alpha_down : Point
alpha_down = point base_world (did (Outs (Down 0)) 0 ∷ [])

abbrev pub from_root : Request
from_root = everything [] WholeSubtree

abbrev pub root_scene : Scene
root_scene = scene_at alpha_down 0 from_root

abbrev pub lost_journal : Journal
lost_journal = journal (asks 1 0 from_root Lost ∷ [])

abbrev pub nothing_found : Answer
nothing_found = Found [] [] whole_outcome

pub no_empty_answer : Right alpha_down root_scene (by_user root_scene) lost_journal (Answered nothing_found) → ⊥
no_empty_answer (result answered r query none) = no answered

pub no_answer_unasked : Right alpha_down root_scene (by_user root_scene) (journal []) (Answered nothing_found) → ⊥
no_answer_unasked (result answered r query none) = no answered

pub root_unheard : AnswersRight alpha_down 0 from_root lost_journal
    (Failed (ServiceProblem unavailable (Some (in_vain Own [] Start (0 ∷ []))) None))
root_unheard = record {
  licensed = (licensed_first refl refl refl refl refl, tt);
  accepts = record { one = refl; right = refl; probed = refl };
  finished = record { done = refl; at_once = refl };
  answer = unheard (user (record { own = refl; unheard = refl; same = refl })) refl refl;
}

-- (d) Beta's reply is lost, and Gamma's, below it, is taken for the answer; Epsilon, the next of the reference, isn't
-- asked.
abbrev pub losing_beta : Point
losing_beta = point base_world (did (Loses true 2) 0 ∷ [])

abbrev pub lab_at_alpha : Line
lab_at_alpha = asks 1 0 name_lab Sent

abbrev pub lab_at_beta : Line
lab_at_beta = passes 2 lab_at_alpha 1 lab (Next 2) Subordinate name_lab NoReply

abbrev pub lab_at_gamma : Line
lab_at_gamma = passes 3 lab_at_beta 2 lab (Next 3) NonSpecific name_lab Sent

abbrev pub lab_scene : Scene
lab_scene = scene_at losing_beta 0 name_lab

abbrev pub the_lab : Answer
the_lab = EntryFound (info lab (shows 11 (TextValue (codes "Lab") ∷ []) ∷ [])) (now lab 2)

pub no_dropped_answer : Right losing_beta lab_scene (by_user lab_scene)
    (journal (lab_at_alpha ∷ lab_at_beta ∷ lab_at_gamma ∷ [])) (Answered the_lab) → ⊥
no_dropped_answer (result answered r query none) = no r.sources

-- by Epsilon, which has only an unrefreshed copy, and Beta again
abbrev pub lab_at_epsilon : Line
lab_at_epsilon = passes 4 lab_at_alpha 4 lab (Next 2) Subordinate name_lab Sent

abbrev pub beta_again : Line
beta_again = passes 5 lab_at_epsilon 1 lab (Next 2) Supplier name_lab Sent

abbrev pub second_journal : Journal
second_journal =
    journal (lab_at_alpha ∷ lab_at_beta ∷ lab_at_gamma ∷ lab_at_epsilon ∷ beta_again
    ∷ passes 6 beta_again 2 lab (Next 3) NonSpecific name_lab Sent ∷ [])

pub second_way : AnswersRight losing_beta 0 name_lab second_journal (Answered the_lab)
second_way = record {
  licensed = (
    licensed_by beta_again 0 0 refl refl refl refl refl,
    (
      licensed_by lab_at_epsilon 0 0 refl refl refl refl refl,
      (
        licensed_by lab_at_alpha 0 1 refl refl refl refl refl,
        (
          licensed_by lab_at_beta 0 0 refl refl refl refl refl,
          (licensed_by lab_at_alpha 0 0 refl refl refl refl refl, (licensed_first refl refl refl refl refl, tt)),
        ),
      ),
    ),
  );
  accepts = record { one = refl; right = refl; probed = refl };
  finished = record { done = refl; at_once = refl };
  answer = result refl (record {
    found = refl;
    sources = refl;
    spelled = refl;
    once = refl;
    exactly = refl;
    answered = refl;
    blocked = tt;
    completed = refl;
    apart = refl;
  }) refl refl;
}

pub second_thorough : Thorough lab_scene second_journal
second_thorough = refl

-- (e) Gamma isn't heard below the lost reply, and the block names it, though the other way gave the entry.
abbrev pub losing_both : Point
losing_both = point base_world (did (Loses false 3) 0 ∷ did (Loses true 2) 0 ∷ [])

abbrev pub both_scene : Scene
both_scene = scene_at losing_both 0 name_lab

abbrev pub epsilon_later : Line
epsilon_later = passes 5 lab_at_alpha 4 lab (Next 2) Subordinate name_lab Sent

abbrev pub beta_later : Line
beta_later = passes 6 epsilon_later 1 lab (Next 2) Supplier name_lab Sent

abbrev pub gamma_lost : Line
gamma_lost = passes 3 lab_at_beta 2 lab (Next 3) NonSpecific name_lab Lost

abbrev pub both_journal : Journal
both_journal =
    journal (lab_at_alpha ∷ lab_at_beta ∷ gamma_lost ∷ passes 4 lab_at_beta 3 lab (Next 3) NonSpecific name_lab Sent
    ∷ epsilon_later ∷ beta_later ∷ passes 7 beta_later 2 lab (Next 3) NonSpecific name_lab Sent ∷ [])

abbrev pub forged : Reference
forged = in_vain NonSpecific lab (Next 3) (2 ∷ [])

last_holds : (b c : Bool) → IsTrue (((b && (c && true)) || false) && true) → c ≡ true
last_holds true true e = refl
last_holds true false e = cc
last_holds false c e = cc

-- only the second line has an unheard line to Gamma, and it didn't come back
pub no_dropped_silence : Right losing_both both_scene (by_user both_scene) both_journal
    (Failed (ServiceProblem unavailable (Some forged) None)) → ⊥
no_dropped_silence (error answered given known none) = no (ap fails given)
no_dropped_silence (unheard (user u) phase none) = no u.unheard
no_dropped_silence (unheard (asked a) phase none) =
    let same : (2 == a.line.number)
    ≡ true = last_holds (asks_by a.full 2 gamma_lost) (2 == a.line.number)
    (all_unheard both_scene both_journal.lines a.line a.full (2 ∷ []) refl a.vain) in
    let second : a.line.number ≡ 2 = sym ((nat_same_decides 2 a.line.number).0 same) in
    no (subst (λ n. hears_by (λ l. l.number == n) (by_user both_scene) both_journal.lines ≡ true) second a.back)

pub second_way_again : AnswersRight losing_both 0 name_lab both_journal (Answered the_lab)
second_way_again = record {
  licensed = (
    licensed_by beta_later 0 0 refl refl refl refl refl,
    (
      licensed_by epsilon_later 0 0 refl refl refl refl refl,
      (
        licensed_by lab_at_alpha 0 1 refl refl refl refl refl,
        (
          licensed_by lab_at_beta 0 1 refl refl refl refl refl,
          (
            licensed_by lab_at_beta 0 0 refl refl refl refl refl,
            (licensed_by lab_at_alpha 0 0 refl refl refl refl refl, (licensed_first refl refl refl refl refl, tt)),
          ),
        ),
      ),
    ),
  );
  accepts = record { one = refl; right = refl; probed = refl };
  finished = record { done = refl; at_once = refl };
  answer = result refl (record {
    found = refl;
    sources = refl;
    spelled = refl;
    once = refl;
    exactly = refl;
    answered = refl;
    blocked = tt;
    completed = refl;
    apart = refl;
  }) refl refl;
}

-- (f) Gamma has answered, and Delta is asked after it.
abbrev pub lab_asked : Line
lab_asked = asks 1 1 name_lab Sent

abbrev pub gamma_answers : Line
gamma_answers = passes 2 lab_asked 2 lab (Next 3) NonSpecific name_lab Sent

abbrev pub delta_after : Line
delta_after = passes 3 lab_asked 3 lab (Next 3) NonSpecific name_lab Sent

abbrev pub answered_scene : Scene
answered_scene = scene_at at_first 1 name_lab

pub no_line_after_answer : Licensed answered_scene (gamma_answers ∷ lab_asked ∷ []) delta_after → ⊥
no_line_after_answer l = by l.cause
  where
    both_agents : Reference
    both_agents = reference lab (Next 3) NonSpecific (2 ∷ 3 ∷ [])

    not_yet : Turn answered_scene (gamma_answers ∷ lab_asked ∷ []) lab_asked both_agents 3 → ⊥
    not_yet t = at t.place t.inside t.here t.earlier
      where
        at : (place : ℕ) → place < 2 → slice_index (2 ∷ 3 ∷ []) place ≡ 3
            → IsTrue (list_all (is_passed answered_scene (gamma_answers ∷ lab_asked ∷ []) lab_asked both_agents)
            (take place (2 ∷ 3 ∷ []))) → ⊥
        at zero inside here earlier = omega (arith, here)
        at (suc zero) inside here earlier = no earlier
        at (suc (suc n)) inside here earlier = omega (arith, inside)

    by : Caused answered_scene (gamma_answers ∷ lab_asked ∷ []) delta_after → ⊥
    by (later f fresh) = no_turn 0 lab_asked both_agents refl refl refl not_yet f

pub gamma_answered : AnswersRight at_first 1 name_lab (journal (lab_asked ∷ gamma_answers ∷ [])) (Answered the_lab)
gamma_answered = record {
  licensed = (licensed_by lab_asked 0 0 refl refl refl refl refl, (licensed_first refl refl refl refl refl, tt));
  accepts = record { one = refl; right = refl; probed = refl };
  finished = record { done = refl; at_once = refl };
  answer = result refl (record {
    found = refl;
    sources = refl;
    spelled = refl;
    once = refl;
    exactly = refl;
    answered = refl;
    blocked = tt;
    completed = refl;
    apart = refl;
  }) refl refl;
}

-- (g) The user's own reference has exclusions. What passes is in the rows on resolution.
abbrev pub down_scene : Scene
down_scene = scene_at beta_down 1 read_acme

abbrev pub excluding : Reference
excluding = record (in_vain Own acme Start (1 ∷ [])) { exclusions = shop_rdn ∷ [] }

no_lost : IsLost down_scene (by_user down_scene) (asks 1 1 read_acme Lost ∷ []) excluding → ⊥
no_lost (user u) = no_more (ap (λ r. r.exclusions) u.same)
  where
    no_more : ◌≡◌ {A = List Rdn} (shop_rdn ∷ []) [] → ⊥
    no_more e = cc
no_lost (asked a) =
    elim (either_true ((1 == a.line.number) && false) false a.back)
    [ inl e ↦ no (both (1 == a.line.number) false e).1 | inr e ↦ no e ]

pub no_exclusions : Right beta_down down_scene (by_user down_scene) (journal (asks 1 1 read_acme Lost ∷ []))
    (Failed (ServiceProblem unavailable (Some excluding) None)) → ⊥
no_exclusions (unheard l phase none) = no_lost l
no_exclusions (error answered given known none) = no answered

-- (h) The source's context is spelled otherwise than its master keeps it.
abbrev pub nl_small : Name
nl_small = rdn 6 (codes "nl") (codes "nl") ∷ []

abbrev pub read_nl : Request
read_nl = plainly (Read nl_small (Only (Known 6 ∷ [])))

abbrev pub nl_scene : Scene
nl_scene = scene_at at_first 0 read_nl

abbrev pub nl_journal : Journal
nl_journal = journal (asks 1 0 read_nl Sent ∷ [])

abbrev pub found_by : Source → Answer
found_by source = EntryFound (info nl (shows 6 (TextValue (codes "NL") ∷ []) ∷ [])) source

abbrev of_text : Text → ℕ
of_text [] = 0
of_text (c ∷ cs) = c

abbrev of_rdn : Rdn → ℕ
of_rdn [] = 0
of_rdn (t ∷ ts) = of_text t.text

abbrev first_letter : List (Option Name) → ℕ
first_letter (Some (r ∷ rs) ∷ names) = of_rdn r
first_letter other = 0

pub no_other_spelling : Right at_first nl_scene (by_user nl_scene) nl_journal (Answered (found_by (now nl_small 0))) → ⊥
no_other_spelling (result answered r query none) =
    (let same : ◌≡◌ {A = ℕ} 78 110 = ap first_letter r.spelled in omega (arith, same))

pub nl_read : AnswersRight at_first 0 read_nl nl_journal (Answered (found_by (now nl 0)))
nl_read = record {
  licensed = (licensed_first refl refl refl refl refl, tt);
  accepts = record { one = refl; right = refl; probed = refl };
  finished = record { done = refl; at_once = refl };
  answer = result refl (record {
    found = refl;
    sources = refl;
    spelled = refl;
    once = refl;
    exactly = refl;
    answered = refl;
    blocked = tt;
    completed = refl;
    apart = refl;
  }) refl refl;
}
