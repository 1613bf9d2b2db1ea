-- Further ways of a request, over worlds near the base world: a list that asks a pin for its own RDN, an agent whose
-- parts its sender follows, a cross reference, contexts that one agent evaluates together, and a probe that a shadow
-- can't answer.
use Rattle.std.specs.Prelude.{◌≡◌, [], ◌∷◌}
use Rattle.std.specs.declared.option.Option.TheVariants.{None, Some}
use Rattle.std.proofs.Common.{true, refl, arith}
use lib.Chars.{codes}
use Rattle.x5_model.specs.Values.{Known, TextValue}
use Rattle.x5_model.specs.Requests.{Request, Read, ListBelow, WholeSubtree, Only}
use Rattle.x5_model.specs.References.{Next, Done, Cross, Subordinate, NonSpecific, Supplier}
use Rattle.x5_model.specs.Answers.{Answered, Failed, EntryFound, Found, Listed, ServiceProblem}
use Rattle.x5_model.specs.Problems.{unavailable}
use Rattle.x5_model_tree.specs.World.{World}
use Rattle.x5_model_run.specs.Network.{Down, Refuse, Lost, Sent}
use Rattle.x5_model_run.specs.Journal.{Line, Journal}
use Rattle.x5_model_run.specs.Needs.{reference}
use Rattle.x5_model_run.specs.History.{Point, Outs}
use Rattle.x5_model_run.specs.Chain.{scene_at, probe_request}
use Rattle.x5_model_run.specs.Blocked.{asked}
use Rattle.x5_model_run.specs.Right.{AnswersRight, result, unheard}
use Rattle.x5_model_run.specs.Thorough.{Thorough}
use Rattle.x5_model_run.proofs.Licensing.{licensed_by, licensed_first}
use Rattle.x5_model_tree.specs.Consistent.{first_breach}
use Rattle.x5_model_rows.proofs.Literals.{plainly}
use Rattle.x5_model_rows.proofs.BaseWorld.{base_world, world_of, alpha, beta, gamma, delta, epsilon, nl_context}
use Rattle.x5_model_rows.proofs.BaseWorld.{acme_context, first_agreement, nl, acme, desk, jan, lab, shop, ada}
use Rattle.x5_model_rows.proofs.Messages.{asks, passes, journal, did, point, now, info, bare, shows, in_vain}
use Rattle.x5_model_rows.proofs.Messages.{whole_outcome}
use Rattle.x5_model_rows.proofs.Searching.{everything, from_nl, nl_at_alpha, nl_part, the_sources, sub_at}
use Rattle.x5_model_rows.proofs.Probing.{new_lab, add_lab}

abbrev pub at_first : Point
at_first = point base_world []

-- a list below the country: Acme is asked for its own RDN
abbrev pub list_nl : Request
list_nl = plainly (ListBelow nl)

abbrev pub list_at_alpha : Line
list_at_alpha = asks 1 0 list_nl Sent

abbrev pub list_journal : Journal
list_journal =
    journal (list_at_alpha ∷ passes 2 list_at_alpha 1 acme Done Subordinate (plainly (ListBelow acme)) Sent ∷ [])

pub nl_listed : AnswersRight at_first 0 list_nl list_journal
    (Answered (Listed (sub_at acme ∷ []) (now nl 0 ∷ now acme 1 ∷ []) whole_outcome))
nl_listed = record {
  licensed = (licensed_by list_at_alpha 0 0 refl refl refl refl refl, (licensed_first refl refl refl refl refl, tt));
  accepts = record { one = refl; right = refl; probed = refl };
  finished = record { done = refl; at_once = refl };
  answer = result refl (record {
    found = refl;
    sources = refl;
    spelled = refl;
    once = refl;
    exactly = refl;
    answered = refl;
    blocked = tt;
    completed = refl;
    apart = refl;
  }) refl refl;
}

pub list_thorough : Thorough (scene_at at_first 0 list_nl) list_journal
list_thorough = refl

-- Beta refuses to chain: Alpha follows what it leaves unexplored
abbrev pub beta_refuses : Point
beta_refuses = point base_world (did (Outs (Refuse 1)) 0 ∷ [])

abbrev pub by_alpha : Line → Line
by_alpha l = record l { sender = Some 0 }

abbrev pub parts_journal : Journal
parts_journal =
    journal (nl_at_alpha ∷ nl_part
    ∷ by_alpha (passes 3 nl_part 2 acme Done NonSpecific (everything acme WholeSubtree) Sent)
    ∷ by_alpha (passes 4 nl_part 3 acme Done NonSpecific (everything acme WholeSubtree) Sent) ∷ [])

pub parts_followed : AnswersRight beta_refuses 0 from_nl parts_journal
    (Answered (Found (bare nl ∷ bare acme ∷ bare desk ∷ bare lab ∷ bare jan ∷ bare shop ∷ bare ada ∷ []) the_sources
    whole_outcome))
parts_followed = record {
  licensed = (
    licensed_by nl_part 1 0 refl refl refl refl refl,
    (
      licensed_by nl_part 0 0 refl refl refl refl refl,
      (licensed_by nl_at_alpha 0 0 refl refl refl refl refl, (licensed_first refl refl refl refl refl, tt)),
    ),
  );
  accepts = record { one = refl; right = refl; probed = refl };
  finished = record { done = refl; at_once = refl };
  answer = result refl (record {
    found = refl;
    sources = refl;
    spelled = refl;
    once = refl;
    exactly = refl;
    answered = refl;
    blocked = tt;
    completed = refl;
    apart = refl;
  }) refl refl;
}

pub parts_thorough : Thorough (scene_at beta_refuses 0 from_nl) parts_journal
parts_thorough = refl

-- Gamma knows Shop by a cross reference
abbrev pub crossed : World
crossed =
    world_of (alpha ∷ beta
    ∷ (record gamma {
      cross = (record { pin = shop; access = record { master = 3; shadows = [] } }) ∷ [];
      crosses = true ∷ [];
    }) ∷ delta ∷ epsilon ∷ []) (first_agreement ∷ [])

pub crossed_consistent : first_breach crossed ≡ None
crossed_consistent = refl

abbrev pub read_ada : Request
read_ada = plainly (Read ada (Only (Known 4 ∷ [])))

abbrev pub ada_at_gamma : Line
ada_at_gamma = asks 1 2 read_ada Sent

abbrev pub ada_journal : Journal
ada_journal = journal (ada_at_gamma ∷ passes 2 ada_at_gamma 3 ada (Next 3) Cross read_ada Sent ∷ [])

pub ada_read : AnswersRight (point crossed []) 2 read_ada ada_journal
    (Answered (EntryFound (info ada (shows 4 (TextValue (codes "Bos") ∷ []) ∷ [])) (now shop 3)))
ada_read = record {
  licensed = (licensed_by ada_at_gamma 0 0 refl refl refl refl refl, (licensed_first refl refl refl refl refl, tt));
  accepts = record { one = refl; right = refl; probed = refl };
  finished = record { done = refl; at_once = refl };
  answer = result refl (record {
    found = refl;
    sources = refl;
    spelled = refl;
    once = refl;
    exactly = refl;
    answered = refl;
    blocked = tt;
    completed = refl;
    apart = refl;
  }) refl refl;
}

-- Alpha masters Acme too, and evaluates both on the spot
abbrev pub together : World
together =
    world_of ((record alpha { contexts = nl_context ∷ acme_context ∷ []; subordinate = []; crosses = [] })
    ∷ (record beta { contexts = [] }) ∷ gamma ∷ delta ∷ epsilon ∷ [])
    ((record first_agreement { supplier = 0 }) ∷ [])

pub together_consistent : first_breach together ≡ None
together_consistent = refl

abbrev pub together_journal : Journal
together_journal =
    journal (nl_at_alpha ∷ passes 2 nl_at_alpha 2 acme Done NonSpecific (everything acme WholeSubtree) Sent
    ∷ passes 3 nl_at_alpha 3 acme Done NonSpecific (everything acme WholeSubtree) Sent ∷ [])

pub together_searched : AnswersRight (point together []) 0 from_nl together_journal
    (Answered (Found (bare nl ∷ bare acme ∷ bare desk ∷ bare lab ∷ bare jan ∷ bare shop ∷ bare ada ∷ [])
    (now nl 0 ∷ now acme 0 ∷ now lab 2 ∷ now shop 3 ∷ []) whole_outcome))
together_searched = record {
  licensed = (
    licensed_by nl_at_alpha 1 0 refl refl refl refl refl,
    (licensed_by nl_at_alpha 0 0 refl refl refl refl refl, (licensed_first refl refl refl refl refl, tt)),
  );
  accepts = record { one = refl; right = refl; probed = refl };
  finished = record { done = refl; at_once = refl };
  answer = result refl (record {
    found = refl;
    sources = refl;
    spelled = refl;
    once = refl;
    exactly = refl;
    answered = refl;
    blocked = tt;
    completed = refl;
    apart = refl;
  }) refl refl;
}

pub together_thorough : Thorough (scene_at (point together []) 0 from_nl) together_journal
together_thorough = refl

-- Delta has a copy of Lab, and its supplier Gamma is down: Delta can't say whether the new name is there
abbrev pub shadowed : World
shadowed =
    world_of (alpha ∷ beta ∷ gamma ∷ delta ∷ epsilon ∷ [])
    (first_agreement ∷ (record { number = 2; supplier = 2; consumer = 3; context = lab }) ∷ [])

pub shadowed_consistent : first_breach shadowed ≡ None
shadowed_consistent = refl

abbrev pub shadowed_down : Point
shadowed_down = point shadowed (did (Outs (Down 2)) 0 ∷ [])

abbrev pub add_at_beta : Line
add_at_beta = asks 1 1 add_lab Sent

abbrev pub probe_at_delta : Line
probe_at_delta = passes 3 add_at_beta 3 new_lab (Next 3) NonSpecific (probe_request new_lab) Sent

abbrev pub probe_journal : Journal
probe_journal =
    journal (add_at_beta ∷ passes 2 add_at_beta 2 new_lab (Next 3) NonSpecific (probe_request new_lab) Lost
    ∷ probe_at_delta ∷ passes 4 probe_at_delta 2 new_lab (Next 3) Supplier (probe_request new_lab) Lost ∷ [])

pub probes_unheard : AnswersRight shadowed_down 1 add_lab probe_journal
    (Failed (ServiceProblem unavailable (Some (in_vain NonSpecific new_lab (Next 3) (2 ∷ 3 ∷ []))) None))
probes_unheard = record {
  licensed = (
    licensed_by probe_at_delta 0 0 refl refl refl refl refl,
    (
      licensed_by add_at_beta 0 1 refl refl refl refl refl,
      (licensed_by add_at_beta 0 0 refl refl refl refl refl, (licensed_first refl refl refl refl refl, tt)),
    ),
  );
  accepts = record { one = refl; right = refl; probed = refl };
  finished = record { done = refl; at_once = refl };
  answer = unheard (asked (record {
    line = add_at_beta;
    full = reference new_lab (Next 3) NonSpecific (2 ∷ 3 ∷ []);
    stands = (3, omega arith, refl);
    back = refl;
    needed = (0, omega arith, refl);
    same = refl;
    listed = refl;
    vain = refl;
    cleared = refl;
  })) refl refl;
}

pub probes_thorough : Thorough (scene_at shadowed_down 1 add_lab) probe_journal
probes_thorough = refl
