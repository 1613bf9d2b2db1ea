-- Reads that go from agent to agent, over the base world: by the superior, by a reference and by an NSSR; with an agent
-- down, one that refuses to chain, and an absent name. Each journal is licensed and thorough, and each answer right.
use Rattle.std.specs.Prelude.{[], ◌∷◌}
use Rattle.std.specs.declared.option.Option.TheVariants.{None, Some}
use Rattle.std.proofs.Common.{refl, arith}
use lib.Chars.{codes}
use Rattle.x5_model.specs.Values.{Name, Known, TextValue, OidValue}
use Rattle.x5_model.specs.Requests.{Request, Read, Compare, Only, All}
use Rattle.x5_model.specs.References.{Start, Next, Own, Superior, Subordinate, NonSpecific, Reference}
use Rattle.x5_model.specs.Answers.{EntryFound, Answered, Failed, Referred, NoSuchObject, AttributeProblem}
use Rattle.x5_model.specs.Answers.{ServiceProblem}
use Rattle.x5_model.specs.Problems.{unavailable, invalid_attribute_syntax}
use Rattle.x5_model_run.specs.Network.{Down, Refuse, Lost, Sent}
use Rattle.x5_model_run.specs.Journal.{Line, Journal}
use Rattle.x5_model_run.specs.Needs.{reference}
use Rattle.x5_model_run.specs.History.{Point, Nothing, Outs}
use Rattle.x5_model_run.specs.Chain.{scene_at}
use Rattle.x5_model_run.specs.Blocked.{user, asked}
use Rattle.x5_model_run.specs.Right.{AnswersRight, result, error, referral, unheard}
use Rattle.x5_model_run.specs.Thorough.{Thorough}
use Rattle.x5_model_run.proofs.Licensing.{licensed_by, licensed_first}
use Rattle.x5_model_rows.proofs.Literals.{plainly, rdn, under}
use Rattle.x5_model_rows.proofs.BaseWorld.{base_world, nl, acme, jan, lab, shop}
use Rattle.x5_model_rows.proofs.Messages.{asks, passes, journal, did, point, now, info, shows, in_vain}

abbrev pub at_first : Point
at_first = point base_world []

-- read Acme at its master
abbrev pub read_acme : Request
read_acme = plainly (Read acme All)

abbrev pub acme_journal : Journal
acme_journal = journal (asks 1 1 read_acme Sent ∷ [])

pub acme_read : AnswersRight at_first 1 read_acme acme_journal
    (Answered (EntryFound
    (info acme (shows 0 (OidValue (2 ∷ 5 ∷ 6 ∷ 4 ∷ []) ∷ []) ∷ shows 10 (TextValue (codes "Acme") ∷ [])
    ∷ shows 13 (TextValue (codes "tools") ∷ []) ∷ [])) (now acme 1)))
acme_read = record {
  licensed = (licensed_first refl refl refl refl refl, tt);
  accepts = record { one = refl; right = refl; probed = refl };
  finished = record { done = refl; at_once = refl };
  answer = result refl (record {
    found = refl;
    sources = refl;
    spelled = refl;
    once = refl;
    exactly = refl;
    answered = refl;
    blocked = tt;
    completed = refl;
    apart = refl;
  }) refl refl;
}

pub acme_thorough : Thorough (scene_at at_first 1 read_acme) acme_journal
acme_thorough = refl

-- read Jan at Delta: up to Beta, and by its NSSR to Gamma
abbrev pub read_jan : Request
read_jan = plainly (Read jan (Only (Known 4 ∷ [])))

abbrev pub jan_at_delta : Line
jan_at_delta = asks 1 3 read_jan Sent

abbrev pub jan_at_beta : Line
jan_at_beta = passes 2 jan_at_delta 1 jan Start Superior read_jan Sent

abbrev pub jan_at_gamma : Line
jan_at_gamma = passes 3 jan_at_beta 2 jan (Next 3) NonSpecific read_jan Sent

abbrev pub jan_journal : Journal
jan_journal = journal (jan_at_delta ∷ jan_at_beta ∷ jan_at_gamma ∷ [])

pub jan_read : AnswersRight at_first 3 read_jan jan_journal
    (Answered (EntryFound (info jan (shows 4 (TextValue (codes "Smit") ∷ []) ∷ [])) (now lab 2)))
jan_read = record {
  licensed = (
    licensed_by jan_at_beta 0 0 refl refl refl refl refl,
    (licensed_by jan_at_delta 0 0 refl refl refl refl refl, (licensed_first refl refl refl refl refl, tt)),
  );
  accepts = record { one = refl; right = refl; probed = refl };
  finished = record { done = refl; at_once = refl };
  answer = result refl (record {
    found = refl;
    sources = refl;
    spelled = refl;
    once = refl;
    exactly = refl;
    answered = refl;
    blocked = tt;
    completed = refl;
    apart = refl;
  }) refl refl;
}

pub jan_thorough : Thorough (scene_at at_first 3 read_jan) jan_journal
jan_thorough = refl

-- an absent name: both agents of the NSSR are asked, and the tree's error is given
abbrev pub absent : Name
absent = under acme (rdn 11 (codes "None") (codes "none"))

abbrev pub read_absent : Request
read_absent = plainly (Read absent All)

abbrev pub absent_at_beta : Line
absent_at_beta = asks 1 1 read_absent Sent

abbrev pub absent_journal : Journal
absent_journal =
    journal (absent_at_beta ∷ passes 2 absent_at_beta 2 absent (Next 3) NonSpecific read_absent Sent
    ∷ passes 3 absent_at_beta 3 absent (Next 3) NonSpecific read_absent Sent ∷ [])

pub absent_read : AnswersRight at_first 1 read_absent absent_journal (Failed (NoSuchObject acme))
absent_read = record {
  licensed = (
    licensed_by absent_at_beta 0 1 refl refl refl refl refl,
    (licensed_by absent_at_beta 0 0 refl refl refl refl refl, (licensed_first refl refl refl refl refl, tt)),
  );
  accepts = record { one = refl; right = refl; probed = refl };
  finished = record { done = refl; at_once = refl };
  answer = error refl refl refl refl;
}

pub absent_thorough : Thorough (scene_at at_first 1 read_absent) absent_journal
absent_thorough = refl

-- Gamma is down: what it may have is unavailable, and what Delta has isn't
abbrev pub gamma_down : Point
gamma_down = point base_world (did (Outs (Down 2)) 0 ∷ [])

abbrev pub read_lab : Request
read_lab = plainly (Read lab All)

abbrev pub lab_at_alpha : Line
lab_at_alpha = asks 1 0 read_lab Sent

abbrev pub lab_at_beta : Line
lab_at_beta = passes 2 lab_at_alpha 1 lab (Next 2) Subordinate read_lab Sent

abbrev pub lab_journal : Journal
lab_journal =
    journal (lab_at_alpha ∷ lab_at_beta ∷ passes 3 lab_at_beta 2 lab (Next 3) NonSpecific read_lab Lost
    ∷ passes 4 lab_at_beta 3 lab (Next 3) NonSpecific read_lab Sent ∷ [])

pub lab_unavailable : AnswersRight gamma_down 0 read_lab lab_journal
    (Failed (ServiceProblem unavailable (Some (in_vain NonSpecific lab (Next 3) (2 ∷ []))) None))
lab_unavailable = record {
  licensed = (
    licensed_by lab_at_beta 0 1 refl refl refl refl refl,
    (
      licensed_by lab_at_beta 0 0 refl refl refl refl refl,
      (licensed_by lab_at_alpha 0 0 refl refl refl refl refl, (licensed_first refl refl refl refl refl, tt)),
    ),
  );
  accepts = record { one = refl; right = refl; probed = refl };
  finished = record { done = refl; at_once = refl };
  answer = unheard (asked (record {
    line = lab_at_beta;
    full = reference lab (Next 3) NonSpecific (2 ∷ 3 ∷ []);
    stands = (2, omega arith, refl);
    back = refl;
    needed = (0, omega arith, refl);
    same = refl;
    listed = refl;
    vain = refl;
    cleared = refl;
  })) refl refl;
}

pub lab_thorough : Thorough (scene_at gamma_down 0 read_lab) lab_journal
lab_thorough = refl

abbrev pub gamma_still_down : Point
gamma_still_down = point base_world (did Nothing 4 ∷ did (Outs (Down 2)) 0 ∷ [])

abbrev pub read_shop : Request
read_shop = plainly (Read shop (Only (Known 11 ∷ [])))

abbrev pub shop_at_alpha : Line
shop_at_alpha = asks 5 0 read_shop Sent

abbrev pub shop_at_beta : Line
shop_at_beta = passes 6 shop_at_alpha 1 shop (Next 2) Subordinate read_shop Sent

abbrev pub shop_journal : Journal
shop_journal =
    journal (shop_at_alpha ∷ shop_at_beta ∷ passes 7 shop_at_beta 2 shop (Next 3) NonSpecific read_shop Lost
    ∷ passes 8 shop_at_beta 3 shop (Next 3) NonSpecific read_shop Sent ∷ [])

pub shop_read : AnswersRight gamma_still_down 0 read_shop shop_journal
    (Answered (EntryFound (info shop (shows 11 (TextValue (codes "Shop") ∷ []) ∷ [])) (now shop 3)))
shop_read = record {
  licensed = (
    licensed_by shop_at_beta 0 1 refl refl refl refl refl,
    (
      licensed_by shop_at_beta 0 0 refl refl refl refl refl,
      (licensed_by shop_at_alpha 0 0 refl refl refl refl refl, (licensed_first refl refl refl refl refl, tt)),
    ),
  );
  accepts = record { one = refl; right = refl; probed = refl };
  finished = record { done = refl; at_once = refl };
  answer = result refl (record {
    found = refl;
    sources = refl;
    spelled = refl;
    once = refl;
    exactly = refl;
    answered = refl;
    blocked = tt;
    completed = refl;
    apart = refl;
  }) refl refl;
}

-- Beta refuses to chain: Alpha follows its referral
abbrev pub beta_refuses : Point
beta_refuses = point base_world (did (Outs (Refuse 1)) 0 ∷ [])

abbrev pub name_lab : Request
name_lab = plainly (Read lab (Only (Known 11 ∷ [])))

abbrev pub name_at_alpha : Line
name_at_alpha = asks 1 0 name_lab Sent

abbrev pub name_at_beta : Line
name_at_beta = passes 2 name_at_alpha 1 lab (Next 2) Subordinate name_lab Sent

abbrev pub by_alpha : Line → Line
by_alpha l = record l { sender = Some 0 }

abbrev pub followed_journal : Journal
followed_journal =
    journal (name_at_alpha ∷ name_at_beta ∷ by_alpha (passes 3 name_at_beta 2 lab (Next 3) NonSpecific name_lab Sent)
    ∷ [])

pub followed_read : AnswersRight beta_refuses 0 name_lab followed_journal
    (Answered (EntryFound (info lab (shows 11 (TextValue (codes "Lab") ∷ []) ∷ [])) (now lab 2)))
followed_read = record {
  licensed = (
    licensed_by name_at_beta 0 0 refl refl refl refl refl,
    (licensed_by name_at_alpha 0 0 refl refl refl refl refl, (licensed_first refl refl refl refl refl, tt)),
  );
  accepts = record { one = refl; right = refl; probed = refl };
  finished = record { done = refl; at_once = refl };
  answer = result refl (record {
    found = refl;
    sources = refl;
    spelled = refl;
    once = refl;
    exactly = refl;
    answered = refl;
    blocked = tt;
    completed = refl;
    apart = refl;
  }) refl refl;
}

pub followed_thorough : Thorough (scene_at beta_refuses 0 name_lab) followed_journal
followed_thorough = refl

-- Alpha refuses to chain: the user gets a referral
abbrev pub alpha_refuses : Point
alpha_refuses = point base_world (did (Outs (Refuse 0)) 0 ∷ [])

abbrev pub to_beta : Reference
to_beta = reference lab (Next 2) Subordinate (1 ∷ 4 ∷ [])

pub lab_referred : AnswersRight alpha_refuses 0 read_lab (journal (lab_at_alpha ∷ [])) (Referred to_beta)
lab_referred = record {
  licensed = (licensed_first refl refl refl refl refl, tt);
  accepts = record { one = refl; right = refl; probed = refl };
  finished = record { done = refl; at_once = refl };
  answer = referral (record { idle = refl; heard = refl; needed = (0, omega arith, refl) }) refl refl;
}

pub referred_thorough : Thorough (scene_at alpha_refuses 0 read_lab) (journal (lab_at_alpha ∷ []))
referred_thorough = refl

-- Beta is down, and the user asks it
abbrev pub beta_down : Point
beta_down = point base_world (did (Outs (Down 1)) 0 ∷ [])

pub acme_unheard : AnswersRight beta_down 1 read_acme (journal (asks 1 1 read_acme Lost ∷ []))
    (Failed (ServiceProblem unavailable (Some (in_vain Own acme Start (1 ∷ []))) None))
acme_unheard = record {
  licensed = (licensed_first refl refl refl refl refl, tt);
  accepts = record { one = refl; right = refl; probed = refl };
  finished = record { done = refl; at_once = refl };
  answer = unheard (user (record { own = refl; unheard = refl; same = refl })) refl refl;
}

-- a country has two letters: the value isn't of the kind, and that is refused at once
abbrev pub compare_country : Request
compare_country =
    plainly (Compare nl (record { kind = Known 6; value = TextValue (codes "n1"); normal = None }))

pub country_refused : AnswersRight at_first 0 compare_country (journal (asks 1 0 compare_country Sent ∷ []))
    (Failed (AttributeProblem invalid_attribute_syntax (Known 6)))
country_refused = record {
  licensed = (licensed_first refl refl refl refl refl, tt);
  accepts = record { one = refl; right = refl; probed = refl };
  finished = record { done = refl; at_once = refl };
  answer = error refl refl refl refl;
}
