-- Updates over the base world: an addEntry whose new name another agent has, the same with that agent down, and updates
-- that the master alone decides.
use Rattle.std.specs.Prelude.{[], ◌∷◌}
use Rattle.std.specs.declared.option.Option.TheVariants.{None, Some}
use Rattle.std.proofs.Common.{refl, arith}
use lib.Chars.{codes}
use Rattle.x5_model.specs.Values.{Name}
use Rattle.x5_model.specs.Requests.{Request, AddEntry, RemoveEntry}
use Rattle.x5_model.specs.References.{Next, NonSpecific}
use Rattle.x5_model.specs.Answers.{Answered, Changed, Failed, UpdateProblem, ServiceProblem}
use Rattle.x5_model.specs.Problems.{unavailable, entry_already_exists, affects_multiple_dsas, not_allowed_on_non_leaf}
use Rattle.x5_model_run.specs.Network.{Down, Lost, Sent}
use Rattle.x5_model_run.specs.Journal.{Line, Journal}
use Rattle.x5_model_run.specs.Needs.{reference}
use Rattle.x5_model_run.specs.History.{Point, Nothing, Outs}
use Rattle.x5_model_run.specs.Chain.{scene_at, probe_request}
use Rattle.x5_model_run.specs.Blocked.{asked}
use Rattle.x5_model_run.specs.Right.{AnswersRight, changed, error, unheard}
use Rattle.x5_model_run.specs.Thorough.{Thorough}
use Rattle.x5_model_run.proofs.Licensing.{licensed_by, licensed_first}
use Rattle.x5_model_rows.proofs.Literals.{plainly, rdn, under, give, oid}
use Rattle.x5_model_rows.proofs.BaseWorld.{base_world, acme, desk}
use Rattle.x5_model_rows.proofs.Messages.{takes, asks, passes, journal, accepted_journal, did, point, in_vain}

-- a new entry OU=lab below Acme, whose name differs from Gamma's Lab in spelling alone: Gamma is asked, and has it
abbrev pub new_lab : Name
new_lab = under acme (rdn 11 (codes "lab") (codes "lab"))

abbrev pub add_lab : Request
add_lab = plainly (AddEntry new_lab (give 0 (oid (2 ∷ 5 ∷ 6 ∷ 5 ∷ []) ∷ []) ∷ []))

abbrev pub add_at_beta : Line
add_at_beta = asks 1 1 add_lab Sent

abbrev pub add_journal : Journal
add_journal =
    journal (add_at_beta ∷ passes 2 add_at_beta 2 new_lab (Next 3) NonSpecific (probe_request new_lab) Sent ∷ [])

pub lab_is_there : AnswersRight (point base_world []) 1 add_lab add_journal
    (Failed (UpdateProblem entry_already_exists))
lab_is_there = record {
  licensed = (licensed_by add_at_beta 0 0 refl refl refl refl refl, (licensed_first refl refl refl refl refl, tt));
  accepts = record { one = refl; right = refl; probed = refl };
  finished = record { done = refl; at_once = refl };
  answer = error refl refl refl refl;
}

pub add_thorough : Thorough (scene_at (point base_world []) 1 add_lab) add_journal
add_thorough = refl

-- with Gamma down nobody knows whether it has it, and nothing is added
abbrev pub gamma_down : Point
gamma_down = point base_world (did (Outs (Down 2)) 0 ∷ did Nothing 2 ∷ [])

abbrev pub again_at_beta : Line
again_at_beta = asks 3 1 add_lab Sent

abbrev pub again_journal : Journal
again_journal =
    journal (again_at_beta ∷ passes 4 again_at_beta 2 new_lab (Next 3) NonSpecific (probe_request new_lab) Lost
    ∷ passes 5 again_at_beta 3 new_lab (Next 3) NonSpecific (probe_request new_lab) Sent ∷ [])

pub lab_unknown : AnswersRight gamma_down 1 add_lab again_journal
    (Failed (ServiceProblem unavailable (Some (in_vain NonSpecific new_lab (Next 3) (2 ∷ []))) None))
lab_unknown = record {
  licensed = (
    licensed_by again_at_beta 0 1 refl refl refl refl refl,
    (licensed_by again_at_beta 0 0 refl refl refl refl refl, (licensed_first refl refl refl refl refl, tt)),
  );
  accepts = record { one = refl; right = refl; probed = refl };
  finished = record { done = refl; at_once = refl };
  answer = unheard (asked (record {
    line = again_at_beta;
    full = reference new_lab (Next 3) NonSpecific (2 ∷ 3 ∷ []);
    stands = (2, omega arith, refl);
    back = refl;
    needed = (0, omega arith, refl);
    same = refl;
    listed = refl;
    vain = refl;
    cleared = refl;
  })) refl refl;
}

pub again_thorough : Thorough (scene_at gamma_down 1 add_lab) again_journal
again_thorough = refl

-- Acme stands above pins
abbrev pub remove_acme : Request
remove_acme = plainly (RemoveEntry acme)

pub acme_stays : AnswersRight (point base_world []) 1 remove_acme (journal (asks 1 1 remove_acme Sent ∷ []))
    (Failed (UpdateProblem affects_multiple_dsas))
acme_stays = record {
  licensed = (licensed_first refl refl refl refl refl, tt);
  accepts = record { one = refl; right = refl; probed = refl };
  finished = record { done = refl; at_once = refl };
  answer = error refl refl refl refl;
}

-- an entry below Desk, where no NSSR is: nobody else is asked
abbrev pub pen : Name
pen = under desk (rdn 3 (codes "Pen") (codes "pen"))

abbrev pub add_pen : Request
add_pen = plainly (AddEntry pen (give 0 (oid (2 ∷ 5 ∷ 6 ∷ 7 ∷ []) ∷ []) ∷ []))

abbrev pub second_line : Point
second_line = point base_world (did Nothing 1 ∷ [])

abbrev pub pen_journal : Journal
pen_journal = accepted_journal (asks 2 1 add_pen Sent ∷ []) 1

pub pen_added : AnswersRight second_line 1 add_pen pen_journal (Answered Changed)
pen_added = record {
  licensed = (licensed_first refl refl refl refl refl, tt);
  accepts = record { one = refl; right = refl; probed = refl };
  finished = record { done = refl; at_once = refl };
  answer = changed refl refl refl;
}

pub pen_thorough : Thorough (scene_at second_line 1 add_pen) pen_journal
pen_thorough = refl

-- afterwards Desk is no leaf any more
abbrev pub third_line : Point
third_line = point base_world (did (takes 1 add_pen) 1 ∷ did Nothing 1 ∷ [])

abbrev pub remove_desk : Request
remove_desk = plainly (RemoveEntry desk)

pub desk_stays : AnswersRight third_line 1 remove_desk (journal (asks 3 1 remove_desk Sent ∷ []))
    (Failed (UpdateProblem not_allowed_on_non_leaf))
desk_stays = record {
  licensed = (licensed_first refl refl refl refl refl, tt);
  accepts = record { one = refl; right = refl; probed = refl };
  finished = record { done = refl; at_once = refl };
  answer = error refl refl refl refl;
}
