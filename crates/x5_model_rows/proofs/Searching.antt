-- Lists and searches over the base world and two worlds near it: from the root, with an agent down, with chaining
-- prohibited, with exclusions, and where one agent is asked twice. Each journal is licensed and thorough, and each
-- answer right.
use Rattle.std.specs.Prelude.{true, false, List, [], ◌∷◌}
use Rattle.std.specs.declared.option.Option.TheVariants.{None, Some}
use Rattle.std.proofs.Common.{refl, arith}
use lib.Chars.{codes}
use Rattle.x5_model.specs.Values.{Name, Known, TextValue, last_rdn}
use Rattle.x5_model.specs.Filters.{Filter, Is, And, Nil, Equality}
use Rattle.x5_model.specs.Requests.{Request, Subset, Base, OneLevel, WholeSubtree, Search, ListBelow, Only}
use Rattle.x5_model.specs.References.{Start, Done, Superior, Subordinate, NonSpecific, Supplier, Reference}
use Rattle.x5_model.specs.Answers.{Sub, Found, Listed, Answered, Source}
use Rattle.x5_model_tree.specs.World.{World}
use Rattle.x5_model_run.specs.Network.{Down, Cut, Lost, Sent}
use Rattle.x5_model_run.specs.Journal.{Line, Journal}
use Rattle.x5_model_run.specs.Needs.{reference}
use Rattle.x5_model_run.specs.History.{Point, Outs}
use Rattle.x5_model_run.specs.Chain.{scene_at}
use Rattle.x5_model_run.specs.Blocked.{untried, lost, asked}
use Rattle.x5_model_run.specs.Right.{AnswersRight, result}
use Rattle.x5_model_run.specs.Thorough.{Thorough}
use Rattle.x5_model_run.proofs.Licensing.{licensed_by, licensed_first}
use Rattle.x5_model_rows.proofs.Literals.{plainly}
use Rattle.x5_model_rows.proofs.BaseWorld.{base_world, world_of, alpha, beta, gamma, delta, epsilon, to_acme}
use Rattle.x5_model_rows.proofs.BaseWorld.{first_agreement, nl, acme, desk, jan, lab, shop, ada, shop_rdn}
use Rattle.x5_model_rows.proofs.Messages.{asks, passes, passes_less, journal, did, point, now, info, bare, shows}
use Rattle.x5_model_rows.proofs.Messages.{in_vain, whole_outcome, left_out}

abbrev pub everything : Name → Subset → Request
everything base subset = plainly (Search base subset (And Nil) (Only []))

abbrev pub the_sources : List Source
the_sources = now nl 0 ∷ now acme 1 ∷ now lab 2 ∷ now shop 3 ∷ []

-- a search from the root, asked of Gamma
abbrev pub from_root : Request
from_root = everything [] WholeSubtree

abbrev pub root_at_gamma : Line
root_at_gamma = asks 1 2 from_root Sent

abbrev pub root_at_beta : Line
root_at_beta = passes 2 root_at_gamma 1 [] Start Superior from_root Sent

abbrev pub root_at_alpha : Line
root_at_alpha = passes 3 root_at_beta 0 [] Start Superior from_root Sent

abbrev pub acme_part : Line
acme_part = passes 4 root_at_alpha 1 acme Done Subordinate (everything acme WholeSubtree) Sent

abbrev pub root_journal : Journal
root_journal =
    journal (root_at_gamma ∷ root_at_beta ∷ root_at_alpha ∷ acme_part
    ∷ passes 5 acme_part 2 acme Done NonSpecific (everything acme WholeSubtree) Sent
    ∷ passes 6 acme_part 3 acme Done NonSpecific (everything acme WholeSubtree) Sent ∷ [])

pub root_searched : AnswersRight (point base_world []) 2 from_root root_journal
    (Answered (Found (bare nl ∷ bare acme ∷ bare desk ∷ bare lab ∷ bare jan ∷ bare shop ∷ bare ada ∷ []) the_sources
    whole_outcome))
root_searched = record {
  licensed = (
    licensed_by acme_part 1 0 refl refl refl refl refl,
    (
      licensed_by acme_part 0 0 refl refl refl refl refl,
      (
        licensed_by root_at_alpha 0 0 refl refl refl refl refl,
        (
          licensed_by root_at_beta 0 0 refl refl refl refl refl,
          (licensed_by root_at_gamma 0 0 refl refl refl refl refl, (licensed_first refl refl refl refl refl, tt)),
        ),
      ),
    ),
  );
  accepts = record { one = refl; right = refl; probed = refl };
  finished = record { done = refl; at_once = refl };
  answer = result refl (record {
    found = refl;
    sources = refl;
    spelled = refl;
    once = refl;
    exactly = refl;
    answered = refl;
    blocked = tt;
    completed = refl;
    apart = refl;
  }) refl refl;
}

pub root_thorough : Thorough (scene_at (point base_world []) 2 from_root) root_journal
root_thorough = refl

-- Gamma is down: its part is left out, and the answer says so
abbrev pub gamma_down : Point
gamma_down = point base_world (did (Outs (Down 2)) 0 ∷ [])

abbrev pub from_nl : Request
from_nl = everything nl WholeSubtree

abbrev pub nl_at_alpha : Line
nl_at_alpha = asks 1 0 from_nl Sent

abbrev pub nl_part : Line
nl_part = passes 2 nl_at_alpha 1 acme Done Subordinate (everything acme WholeSubtree) Sent

abbrev pub nl_journal : Journal
nl_journal =
    journal (nl_at_alpha ∷ nl_part ∷ passes 3 nl_part 2 acme Done NonSpecific (everything acme WholeSubtree) Lost
    ∷ passes 4 nl_part 3 acme Done NonSpecific (everything acme WholeSubtree) Sent ∷ [])

pub nl_searched : AnswersRight gamma_down 0 from_nl nl_journal
    (Answered (Found (bare nl ∷ bare acme ∷ bare desk ∷ bare shop ∷ bare ada ∷ [])
    (now nl 0 ∷ now acme 1 ∷ now shop 3 ∷ []) (left_out (in_vain NonSpecific acme Done (2 ∷ []) ∷ []))))
nl_searched = record {
  licensed = (
    licensed_by nl_part 1 0 refl refl refl refl refl,
    (
      licensed_by nl_part 0 0 refl refl refl refl refl,
      (licensed_by nl_at_alpha 0 0 refl refl refl refl refl, (licensed_first refl refl refl refl refl, tt)),
    ),
  );
  accepts = record { one = refl; right = refl; probed = refl };
  finished = record { done = refl; at_once = refl };
  answer = result refl (record {
    found = refl;
    sources = refl;
    spelled = refl;
    once = refl;
    exactly = refl;
    answered = refl;
    blocked = (
      lost (asked (record {
        line = nl_part;
        full = reference acme Done NonSpecific (2 ∷ []);
        stands = (2, omega arith, refl);
        back = refl;
        needed = (0, omega arith, refl);
        same = refl;
        listed = refl;
        vain = refl;
        cleared = refl;
      })),
      tt,
    );
    completed = refl;
    apart = refl;
  }) refl refl;
}

pub nl_thorough : Thorough (scene_at gamma_down 0 from_nl) nl_journal
nl_thorough = refl

-- chaining is prohibited: what Alpha doesn't have is left out, untried
abbrev pub unchained : Request
unchained = record from_nl { controls = record { nocopy = false; nochain = true; size = None } }

abbrev pub acme_reference : Reference
acme_reference = reference acme Done Subordinate (1 ∷ 4 ∷ [])

pub nl_unchained : AnswersRight (point base_world []) 0 unchained (journal (asks 1 0 unchained Sent ∷ []))
    (Answered (Found (bare nl ∷ []) (now nl 0 ∷ []) (left_out (acme_reference ∷ []))))
nl_unchained = record {
  licensed = (licensed_first refl refl refl refl refl, tt);
  accepts = record { one = refl; right = refl; probed = refl };
  finished = record { done = refl; at_once = refl };
  answer = result refl (record {
    found = refl;
    sources = refl;
    spelled = refl;
    once = refl;
    exactly = refl;
    answered = refl;
    blocked = (untried (record { idle = refl; heard = refl; needed = (0, omega arith, refl) }), tt);
    completed = refl;
    apart = refl;
  }) refl refl;
}

pub unchained_thorough : Thorough (scene_at (point base_world []) 0 unchained) (journal (asks 1 0 unchained Sent ∷ []))
unchained_thorough = refl

-- Beta knows Shop by a subordinate reference too: the NSSR's agents are asked without it
abbrev pub shop_known : World
shop_known =
    world_of (alpha ∷ (record beta {
      subordinate = (record { pin = shop; access = record { master = 3; shadows = [] } }) ∷ [];
      crosses = false ∷ [];
    }) ∷ gamma ∷ delta ∷ epsilon ∷ []) (first_agreement ∷ [])

abbrev pub shop_known_down : Point
shop_known_down = point shop_known (did (Outs (Down 2)) 0 ∷ [])

abbrev pub below_acme : Request
below_acme = everything acme OneLevel

abbrev pub below_at_beta : Line
below_at_beta = asks 1 1 below_acme Sent

abbrev pub less_journal : Journal
less_journal =
    journal (below_at_beta ∷ passes_less 2 below_at_beta 2 acme (shop_rdn ∷ []) below_acme Lost
    ∷ passes_less 3 below_at_beta 3 acme (shop_rdn ∷ []) below_acme Sent
    ∷ passes 4 below_at_beta 3 shop Done Subordinate (everything shop Base) Sent ∷ [])

abbrev pub less_shop : Reference
less_shop = record (reference acme Done NonSpecific (2 ∷ [])) { exclusions = shop_rdn ∷ [] }

pub less_searched : AnswersRight shop_known_down 1 below_acme less_journal
    (Answered (Found (bare desk ∷ bare shop ∷ []) (now acme 1 ∷ now shop 3 ∷ [])
    (left_out (record less_shop { tried = true } ∷ []))))
less_searched = record {
  licensed = (
    licensed_by below_at_beta 0 0 refl refl refl refl refl,
    (
      licensed_by below_at_beta 2 0 refl refl refl refl refl,
      (licensed_by below_at_beta 1 0 refl refl refl refl refl, (licensed_first refl refl refl refl refl, tt)),
    ),
  );
  accepts = record { one = refl; right = refl; probed = refl };
  finished = record { done = refl; at_once = refl };
  answer = result refl (record {
    found = refl;
    sources = refl;
    spelled = refl;
    once = refl;
    exactly = refl;
    answered = refl;
    blocked = (
      lost (asked (record {
        line = below_at_beta;
        full = less_shop;
        stands = (3, omega arith, refl);
        back = refl;
        needed = (1, omega arith, refl);
        same = refl;
        listed = refl;
        vain = refl;
        cleared = refl;
      })),
      tt,
    );
    completed = refl;
    apart = refl;
  }) refl refl;
}

pub less_thorough : Thorough (scene_at shop_known_down 1 below_acme) less_journal
less_thorough = refl

-- a list of what is below Acme
abbrev pub list_acme : Request
list_acme = plainly (ListBelow acme)

abbrev pub list_at_beta : Line
list_at_beta = asks 1 1 list_acme Sent

abbrev pub list_journal : Journal
list_journal =
    journal (list_at_beta ∷ passes 2 list_at_beta 2 acme Done NonSpecific list_acme Sent
    ∷ passes 3 list_at_beta 3 acme Done NonSpecific list_acme Sent ∷ [])

abbrev pub sub_at : Name → Sub
sub_at name = record { rdn = last_rdn name; copy = false }

pub acme_listed : AnswersRight (point base_world []) 1 list_acme list_journal
    (Answered (Listed (sub_at desk ∷ sub_at lab ∷ sub_at shop ∷ []) (now acme 1 ∷ now lab 2 ∷ now shop 3 ∷ [])
    whole_outcome))
acme_listed = record {
  licensed = (
    licensed_by list_at_beta 1 0 refl refl refl refl refl,
    (licensed_by list_at_beta 0 0 refl refl refl refl refl, (licensed_first refl refl refl refl refl, tt)),
  );
  accepts = record { one = refl; right = refl; probed = refl };
  finished = record { done = refl; at_once = refl };
  answer = result refl (record {
    found = refl;
    sources = refl;
    spelled = refl;
    once = refl;
    exactly = refl;
    answered = refl;
    blocked = tt;
    completed = refl;
    apart = refl;
  }) refl refl;
}

pub list_thorough : Thorough (scene_at (point base_world []) 1 list_acme) list_journal
list_thorough = refl

-- who is called Smit, asked of Epsilon, which has only an unrefreshed copy
abbrev pub is_smit : Filter
is_smit = Is (Equality (record { kind = Known 4; value = TextValue (codes "smit"); normal = Some (codes "smit") }))

abbrev pub smit_below : Name → Request
smit_below base = plainly (Search base WholeSubtree is_smit (Only (Known 3 ∷ Known 4 ∷ [])))

abbrev pub smit_at_epsilon : Line
smit_at_epsilon = asks 1 4 (smit_below []) Sent

abbrev pub smit_at_alpha : Line
smit_at_alpha = passes 2 smit_at_epsilon 0 [] Start Superior (smit_below []) Sent

abbrev pub smit_part : Line
smit_part = passes 3 smit_at_alpha 1 acme Done Subordinate (smit_below acme) Sent

abbrev pub smit_journal : Journal
smit_journal =
    journal (smit_at_epsilon ∷ smit_at_alpha ∷ smit_part
    ∷ passes 4 smit_part 2 acme Done NonSpecific (smit_below acme) Sent
    ∷ passes 5 smit_part 3 acme Done NonSpecific (smit_below acme) Sent ∷ [])

pub smit_found : AnswersRight (point base_world []) 4 (smit_below []) smit_journal
    (Answered (Found (info jan (shows 3 (TextValue (codes "Jan") ∷ []) ∷ shows 4 (TextValue (codes "Smit") ∷ []) ∷ [])
    ∷ []) the_sources whole_outcome))
smit_found = record {
  licensed = (
    licensed_by smit_part 1 0 refl refl refl refl refl,
    (
      licensed_by smit_part 0 0 refl refl refl refl refl,
      (
        licensed_by smit_at_alpha 0 0 refl refl refl refl refl,
        (licensed_by smit_at_epsilon 0 0 refl refl refl refl refl, (licensed_first refl refl refl refl refl, tt)),
      ),
    ),
  );
  accepts = record { one = refl; right = refl; probed = refl };
  finished = record { done = refl; at_once = refl };
  answer = result refl (record {
    found = refl;
    sources = refl;
    spelled = refl;
    once = refl;
    exactly = refl;
    answered = refl;
    blocked = tt;
    completed = refl;
    apart = refl;
  }) refl refl;
}

pub smit_thorough : Thorough (scene_at (point base_world []) 4 (smit_below [])) smit_journal
smit_thorough = refl

-- Gamma consumes Acme too and stands in Alpha's reference: it's asked by that reference, and again by Beta's NSSR
abbrev pub gamma_consumes : World
gamma_consumes =
    world_of ((record alpha
    { subordinate = (record to_acme { access = record { master = 1; shadows = 2 ∷ [] } }) ∷ [] }) ∷ beta ∷ gamma
    ∷ delta ∷ epsilon ∷ [])
    (first_agreement ∷ (record { number = 2; supplier = 1; consumer = 2; context = acme }) ∷ [])

abbrev pub beta_cut_off : Point
beta_cut_off = point gamma_consumes (did (Outs (Cut 0 1)) 0 ∷ [])

abbrev pub copy_at_gamma : Line
copy_at_gamma = passes 3 nl_at_alpha 2 acme Done Subordinate (everything acme WholeSubtree) Sent

abbrev pub acme_at_beta : Line
acme_at_beta = passes 4 copy_at_gamma 1 acme Done Supplier (everything acme WholeSubtree) Sent

abbrev pub twice_journal : Journal
twice_journal =
    journal (nl_at_alpha ∷ passes 2 nl_at_alpha 1 acme Done Subordinate (everything acme WholeSubtree) Lost
    ∷ copy_at_gamma ∷ acme_at_beta
    ∷ passes 5 acme_at_beta 2 acme Done NonSpecific (everything acme WholeSubtree) Sent
    ∷ passes 6 acme_at_beta 3 acme Done NonSpecific (everything acme WholeSubtree) Sent ∷ [])

pub twice_searched : AnswersRight beta_cut_off 0 from_nl twice_journal
    (Answered (Found (bare nl ∷ bare acme ∷ bare desk ∷ bare lab ∷ bare jan ∷ bare shop ∷ bare ada ∷ []) the_sources
    whole_outcome))
twice_searched = record {
  licensed = (
    licensed_by acme_at_beta 1 0 refl refl refl refl refl,
    (
      licensed_by acme_at_beta 0 0 refl refl refl refl refl,
      (
        licensed_by copy_at_gamma 0 0 refl refl refl refl refl,
        (
          licensed_by nl_at_alpha 0 1 refl refl refl refl refl,
          (licensed_by nl_at_alpha 0 0 refl refl refl refl refl, (licensed_first refl refl refl refl refl, tt)),
        ),
      ),
    ),
  );
  accepts = record { one = refl; right = refl; probed = refl };
  finished = record { done = refl; at_once = refl };
  answer = result refl (record {
    found = refl;
    sources = refl;
    spelled = refl;
    once = refl;
    exactly = refl;
    answered = refl;
    blocked = tt;
    completed = refl;
    apart = refl;
  }) refl refl;
}

pub twice_thorough : Thorough (scene_at beta_cut_off 0 from_nl) twice_journal
twice_thorough = refl
