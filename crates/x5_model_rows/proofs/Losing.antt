-- Lost replies: an update whose reply is lost is done, at the master that the user asks and at one that an NSSR names.
use Rattle.std.specs.Prelude.{true, [], ◌∷◌}
use Rattle.std.specs.declared.option.Option.TheVariants.{None, Some}
use Rattle.std.proofs.Common.{refl, arith}
use lib.Chars.{codes}
use Rattle.x5_model.specs.Values.{Known, TextValue}
use Rattle.x5_model.specs.Requests.{Request, Read, ModifyEntry, AddValues, Only}
use Rattle.x5_model.specs.References.{Start, Next, Own, Supplier, NonSpecific}
use Rattle.x5_model.specs.Answers.{Answered, Changed, Failed, EntryFound, ServiceProblem}
use Rattle.x5_model.specs.Problems.{unavailable}
use Rattle.x5_model_run.specs.Network.{NoReply, Sent}
use Rattle.x5_model_run.specs.Journal.{Line, Journal}
use Rattle.x5_model_run.specs.Needs.{reference}
use Rattle.x5_model_run.specs.History.{Point, Loses}
use Rattle.x5_model_run.specs.Chain.{scene_at}
use Rattle.x5_model_run.specs.Blocked.{user, asked}
use Rattle.x5_model_run.specs.Right.{AnswersRight, result, changed, unheard}
use Rattle.x5_model_run.specs.Thorough.{Thorough}
use Rattle.x5_model_run.proofs.Licensing.{licensed_by, licensed_first}
use Rattle.x5_model_rows.proofs.Literals.{plainly, give, text}
use Rattle.x5_model_rows.proofs.BaseWorld.{base_world, acme, lab}
use Rattle.x5_model_rows.proofs.Messages.{takes, asks, passes, journal, accepted_journal, did, point, now, info, shows}
use Rattle.x5_model_rows.proofs.Messages.{in_vain}
use Rattle.x5_model_rows.proofs.Shadowing.{put_gears}
use Rattle.x5_model_rows.proofs.Further.{shadowed}

-- the reply to the first message is lost: the user hears nothing, and the value is there
abbrev pub losing_first : Point
losing_first = point base_world (did (Loses true 1) 0 ∷ [])

pub gears_unheard : AnswersRight losing_first 1 put_gears (accepted_journal (asks 1 1 put_gears NoReply ∷ []) 1)
    (Failed (ServiceProblem unavailable (Some (in_vain Own acme Start (1 ∷ []))) None))
gears_unheard = record {
  licensed = (licensed_first refl refl refl refl refl, tt);
  accepts = record { one = refl; right = refl; probed = refl };
  finished = record { done = refl; at_once = refl };
  answer = unheard (user (record { own = refl; unheard = refl; same = refl })) refl refl;
}

abbrev pub read_description : Request
read_description = plainly (Read acme (Only (Known 13 ∷ [])))

pub gears_there : AnswersRight (point base_world (did (takes 1 put_gears) 1 ∷ did (Loses true 1) 0 ∷ [])) 1
    read_description (journal (asks 2 1 read_description Sent ∷ []))
    (Answered (EntryFound (info acme (shows 13 (TextValue (codes "gears") ∷ TextValue (codes "tools") ∷ []) ∷ []))
    (now acme 1)))
gears_there = record {
  licensed = (licensed_first refl refl refl refl refl, tt);
  accepts = record { one = refl; right = refl; probed = refl };
  finished = record { done = refl; at_once = refl };
  answer = result refl (record {
    found = refl;
    sources = refl;
    spelled = refl;
    once = refl;
    exactly = refl;
    answered = refl;
    blocked = tt;
    completed = refl;
    apart = refl;
  }) refl refl;
}

-- Gamma takes the update, Beta doesn't hear it and asks Delta too
abbrev pub losing_second : Point
losing_second = point base_world (did (Loses true 2) 0 ∷ [])

abbrev pub put_lab : Request
put_lab = plainly (ModifyEntry lab (AddValues (give 13 (text (codes "gears") (codes "gears") ∷ [])) ∷ []))

abbrev pub put_at_beta : Line
put_at_beta = asks 1 1 put_lab Sent

abbrev pub put_journal : Journal
put_journal =
    accepted_journal (put_at_beta ∷ passes 2 put_at_beta 2 lab (Next 3) NonSpecific put_lab NoReply
    ∷ passes 3 put_at_beta 3 lab (Next 3) NonSpecific put_lab Sent ∷ []) 2

pub lab_unheard : AnswersRight losing_second 1 put_lab put_journal
    (Failed (ServiceProblem unavailable (Some (in_vain NonSpecific lab (Next 3) (2 ∷ []))) None))
lab_unheard = record {
  licensed = (
    licensed_by put_at_beta 0 1 refl refl refl refl refl,
    (licensed_by put_at_beta 0 0 refl refl refl refl refl, (licensed_first refl refl refl refl refl, tt)),
  );
  accepts = record { one = refl; right = refl; probed = refl };
  finished = record { done = refl; at_once = refl };
  answer = unheard (asked (record {
    line = put_at_beta;
    full = reference lab (Next 3) NonSpecific (2 ∷ 3 ∷ []);
    stands = (2, omega arith, refl);
    back = refl;
    needed = (0, omega arith, refl);
    same = refl;
    listed = refl;
    vain = refl;
    cleared = refl;
  })) refl refl;
}

pub lab_thorough : Thorough (scene_at losing_second 1 put_lab) put_journal
lab_thorough = refl

-- Delta has a copy of Lab: it brings the update to Gamma again, which has accepted it and says so at once
abbrev pub losing_shadowed : Point
losing_shadowed = point shadowed (did (Loses true 2) 0 ∷ [])

abbrev pub put_at_delta : Line
put_at_delta = passes 3 put_at_beta 3 lab (Next 3) NonSpecific put_lab Sent

abbrev pub twice_journal : Journal
twice_journal =
    accepted_journal (put_at_beta ∷ passes 2 put_at_beta 2 lab (Next 3) NonSpecific put_lab NoReply ∷ put_at_delta
    ∷ passes 4 put_at_delta 2 lab (Next 3) Supplier put_lab Sent ∷ []) 2

pub lab_changed : AnswersRight losing_shadowed 1 put_lab twice_journal (Answered Changed)
lab_changed = record {
  licensed = (
    licensed_by put_at_delta 0 0 refl refl refl refl refl,
    (
      licensed_by put_at_beta 0 1 refl refl refl refl refl,
      (licensed_by put_at_beta 0 0 refl refl refl refl refl, (licensed_first refl refl refl refl refl, tt)),
    ),
  );
  accepts = record { one = refl; right = refl; probed = refl };
  finished = record { done = refl; at_once = refl };
  answer = changed refl refl refl;
}

pub twice_thorough : Thorough (scene_at losing_shadowed 1 put_lab) twice_journal
twice_thorough = refl
