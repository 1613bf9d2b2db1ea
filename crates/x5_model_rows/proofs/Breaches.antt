-- Worlds with several breaches of one condition: the list of them all, in the order of the file, with the two values
-- that are told of each. So a list in another order, one that leaves out or doubles a breach, and another first or
-- second value are refused, for each of the ten conditions.
use Rattle.std.specs.Prelude.{◌≡◌, ℕ, true, false, List, [], ◌∷◌}
use Rattle.std.specs.declared.option.Option.{Option}
use Rattle.std.specs.declared.option.Option.TheVariants.{None, Some}
use Rattle.std.proofs.Common.{refl}
use lib.Chars.{codes}
use Rattle.x5_model.specs.Values.{Name}
use Rattle.x5_model_tree.specs.World.{Specific, Context, Agent, Agreement, World}
use Rattle.x5_model_tree.specs.Consistent.{breach, AgentPrinted, NamePrinted, AgreementPrinted}
use Rattle.x5_model_tree.specs.Consistent.{breaches_1, breaches_2, breaches_3, breaches_4, breaches_5, breaches_6}
use Rattle.x5_model_tree.specs.Consistent.{breaches_7, breaches_8, breaches_9, breaches_10}
use Rattle.x5_model_rows.proofs.Literals.{rdn, under, class, named}
use Rattle.x5_model_rows.proofs.BaseWorld.{nl, acme, lab, nl_entry, nl_context, acme_context, lab_context, shop_context}
use Rattle.x5_model_rows.proofs.BaseWorld.{acme_entry, desk_entry, lab_entry, to_acme, alpha, beta, gamma, delta}
use Rattle.x5_model_rows.proofs.BaseWorld.{epsilon, first_agreement, world_of}
use Rattle.x5_model_rows.proofs.Consistency.{none_above, far_lab, stray}

-- the base world's agreement, and other agents
abbrev pub agents_of : List Agent → World
agents_of agents = world_of agents (first_agreement ∷ [])

-- names that are spelled otherwise than the base world's
abbrev pub loud_acme : Name
loud_acme = under nl (rdn 10 (codes "ACME") (codes "acme"))

abbrev pub loud_lab : Name
loud_lab = under acme (rdn 11 (codes "LAB") (codes "lab"))

abbrev pub loud_shop : Name
loud_shop = under acme (rdn 11 (codes "SHOP") (codes "shop"))

-- a context with its prefix's entry alone, and a reference to a master alone
abbrev pub bare_context : Name → Context
bare_context name = record { prefix = name; entries = named name (class 5 ∷ []) ∷ []; nssrs = [] }

abbrev pub refers : Name → ℕ → List ℕ → Specific
refers pin master shadows = record { pin = pin; access = record { master = master; shadows = shadows } }

-- 1. Lab is mastered three times: told are the second and the third, each prefix as it is spelled there. Refused: that
-- the first is told, or the second alone; that the later comes first; that the first's spelling or its agent is told.
abbrev pub three_masters : World
three_masters =
    agents_of (alpha ∷ beta ∷ gamma ∷ (record delta { contexts = shop_context ∷ bare_context loud_lab ∷ [] })
    ∷ (record epsilon { contexts = lab_context ∷ [] }) ∷ [])

pub all_of_1 : breaches_1 three_masters
    ≡ breach 1 (NamePrinted loud_lab) (AgentPrinted 3) ∷ breach 1 (NamePrinted lab) (AgentPrinted 4) ∷ []
all_of_1 = refl

-- 2. Two contexts have no parent. Refused: the other order; the pin's master or the pin in place of the parent.
abbrev pub far_shop : Name
far_shop = under (under nl (rdn 10 (codes "Nobody") (codes "nobody"))) (rdn 11 (codes "Shop") (codes "shop"))

abbrev pub two_far : World
two_far =
    agents_of (alpha ∷ beta ∷ (record gamma { contexts = bare_context far_shop ∷ [] })
    ∷ (record delta { contexts = bare_context far_lab ∷ [] }) ∷ epsilon ∷ [])

pub all_of_2 : breaches_2 two_far
    ≡ breach 2 (NamePrinted far_shop) (NamePrinted (under nl (rdn 10 (codes "Nobody") (codes "nobody"))))
    ∷ breach 2 (NamePrinted far_lab) (NamePrinted none_above) ∷ []
all_of_2 = refl

-- 3. Beta has an entry at the pin Lab and one below it, which is a pin too: told entry by entry, and for each the pins
-- in the order of the file. Refused: the longest pin alone; pin by pin; the pins from the last on.
abbrev pub two_longer : World
two_longer =
    agents_of (alpha ∷ (record beta {
      contexts =
          (record acme_context { entries = acme_entry ∷ desk_entry ∷ lab_entry ∷ named stray (class 7 ∷ []) ∷ [] })
          ∷ [];
    }) ∷ gamma ∷ delta ∷ (record epsilon { contexts = bare_context stray ∷ [] }) ∷ [])

pub all_of_3 : breaches_3 two_longer
    ≡ breach 3 (NamePrinted lab) (NamePrinted lab) ∷ breach 3 (NamePrinted stray) (NamePrinted lab)
    ∷ breach 3 (NamePrinted stray) (NamePrinted stray) ∷ []
all_of_3 = refl

-- 4. Alpha has two false references, the cross one first in the file, and Gamma one, to a pin that it spells otherwise
-- than that pin's master; Beta's is right. Refused: Gamma's before Alpha's; subordinate references before cross ones;
-- one breach an agent; the master of the pin, or its own spelling, as the second value.
abbrev pub false_alpha : Agent
false_alpha = record alpha {
  subordinate = refers acme 2 [] ∷ [];
  cross = refers lab 3 [] ∷ [];
  crosses = true ∷ false ∷ [];
}

abbrev pub crossing : Agent → Specific → Agent
crossing a k = record a { cross = k ∷ []; crosses = true ∷ [] }

abbrev pub three_false : World
three_false =
    agents_of (false_alpha ∷ crossing beta (refers nl 0 []) ∷ crossing gamma (refers loud_shop 0 []) ∷ delta
    ∷ epsilon ∷ [])

pub all_of_4 : breaches_4 three_false
    ≡ breach 4 (AgentPrinted 0) (NamePrinted lab) ∷ breach 4 (AgentPrinted 0) (NamePrinted acme)
    ∷ breach 4 (AgentPrinted 2) (NamePrinted loud_shop) ∷ []
all_of_4 = refl

-- 5. Alpha's reference has three false shadow agents beside a right one, which stands there twice, and Gamma's has one.
-- Refused: Gamma's first; the shadow agents from the last on; a repeated one told at its first place, or not at all;
-- the agent that has the reference as a value; the pin in its master's spelling.
abbrev pub false_shadows : World
false_shadows =
    agents_of ((record alpha { subordinate = refers acme 1 (2 ∷ 4 ∷ 4 ∷ 3 ∷ []) ∷ [] }) ∷ beta
    ∷ crossing gamma (refers loud_acme 1 (4 ∷ 0 ∷ [])) ∷ delta ∷ epsilon ∷ [])

pub all_of_5 : breaches_5 false_shadows
    ≡ breach 5 (NamePrinted acme) (AgentPrinted 2) ∷ breach 5 (NamePrinted acme) (AgentPrinted 4)
    ∷ breach 5 (NamePrinted acme) (AgentPrinted 3) ∷ breach 5 (NamePrinted loud_acme) (AgentPrinted 0) ∷ []
all_of_5 = refl

-- 6. Two agents have an entry at Acme, so both should know the pins Lab and Shop just below. The first has Shop's
-- master in its NSSR, the second refers to Lab, and that one doesn't know Acme, which is below its NL. Refused: agent
-- by agent in place of pin by pin; agents from the last on; that one agent's knowledge serves the other; the agent that
-- masters the pin as the first value, and as the second the name above, or the pin as the tree spells it.
abbrev pub knows_shop : Agent
knows_shop = record beta {
  superior = Some 1;
  contexts = (record acme_context { nssrs = (record { at = acme; agents = 3 ∷ [] }) ∷ [] }) ∷ [];
}

abbrev pub knows_lab : Agent
knows_lab = record alpha {
  contexts = (record nl_context { entries = nl_entry ∷ acme_entry ∷ [] }) ∷ [];
  subordinate = refers lab 2 [] ∷ [];
}

abbrev pub some_unknown : World
some_unknown =
    world_of (knows_shop ∷ knows_lab ∷ (record gamma { superior = Some 0 })
    ∷ (record delta { superior = Some 0; contexts = bare_context loud_shop ∷ [] }) ∷ []) []

pub all_of_6 : breaches_6 some_unknown
    ≡ breach 6 (AgentPrinted 1) (NamePrinted acme) ∷ breach 6 (AgentPrinted 0) (NamePrinted lab)
    ∷ breach 6 (AgentPrinted 1) (NamePrinted loud_shop) ∷ []
all_of_6 = refl

-- a pin that nobody knows is told of each of the two, in the order of the agents
abbrev pub none_known : World
none_known =
    world_of ((record knows_shop { contexts = (record acme_context { nssrs = [] }) ∷ [] })
    ∷ (record knows_lab { subordinate = refers acme 0 [] ∷ [] }) ∷ (record gamma { superior = Some 0 }) ∷ []) []

pub two_of_6 : breaches_6 none_known
    ≡ breach 6 (AgentPrinted 0) (NamePrinted lab) ∷ breach 6 (AgentPrinted 1) (NamePrinted lab) ∷ []
two_of_6 = refl

-- 7. Beta's NSSR lists an agent that masters nothing there, Beta itself, and Gamma twice. Refused: another order; a
-- repeated one told at its first place; the entry as the NSSR spells it in place of how the entry is spelled.
abbrev pub false_members : World
false_members =
    agents_of (alpha ∷ (record beta {
      contexts = (record acme_context { nssrs = (record { at = loud_acme; agents = 4 ∷ 1 ∷ 2 ∷ 3 ∷ 2 ∷ [] }) ∷ [] })
          ∷ [];
    }) ∷ gamma ∷ delta ∷ epsilon ∷ [])

pub all_of_7 : breaches_7 false_members
    ≡ breach 7 (NamePrinted acme) (AgentPrinted 4) ∷ breach 7 (NamePrinted acme) (AgentPrinted 1)
    ∷ breach 7 (NamePrinted acme) (AgentPrinted 2) ∷ []
all_of_7 = refl

-- 8. Delta masters a second country. Alpha doesn't know it, and Epsilon, first-level too, knows neither. Refused: pin
-- by pin in place of agent by agent; agents below others, who need not know; the master of the pin as a value.
abbrev pub be : Name
be = rdn 6 (codes "BE") (codes "be") ∷ []

abbrev pub two_countries : World
two_countries =
    agents_of (alpha ∷ beta ∷ gamma ∷ (record delta { contexts = shop_context ∷ bare_context be ∷ [] })
    ∷ (record epsilon { superior = None }) ∷ [])

pub all_of_8 : breaches_8 two_countries
    ≡ breach 8 (AgentPrinted 0) (NamePrinted be) ∷ breach 8 (AgentPrinted 4) (NamePrinted nl)
    ∷ breach 8 (AgentPrinted 4) (NamePrinted be) ∷ []
all_of_8 = refl

-- 9. Two agents are each other's superior, a third has one of them, and a fourth is first-level. Refused: another
-- order; the agents of the circle alone; the end of the chain in place of the superior.
abbrev pub over : Option ℕ → Agent
over superior = record epsilon { superior = superior }

abbrev pub circle_and_more : World
circle_and_more = world_of (over (Some 1) ∷ over (Some 0) ∷ over (Some 0) ∷ over None ∷ []) []

pub all_of_9 : breaches_9 circle_and_more
    ≡ breach 9 (AgentPrinted 0) (AgentPrinted 1) ∷ breach 9 (AgentPrinted 1) (AgentPrinted 0)
    ∷ breach 9 (AgentPrinted 2) (AgentPrinted 0) ∷ []
all_of_9 = refl

-- 10. Of three agreements the first and the last are false: the first's supplier has nothing of Acme, and the last's
-- consumer masters it. Refused: in the order of their numbers; the pin in its master's spelling.
abbrev pub agrees : ℕ → ℕ → ℕ → Name → Agreement
agrees number supplier consumer context =
    record { number = number; supplier = supplier; consumer = consumer; context = context }

abbrev pub two_false_agreements : World
two_false_agreements =
    world_of (alpha ∷ beta ∷ gamma ∷ delta ∷ epsilon ∷ [])
    (agrees 7 3 2 loud_acme ∷ agrees 5 1 4 acme ∷ agrees 3 1 1 acme ∷ [])

pub all_of_10 : breaches_10 two_false_agreements
    ≡ breach 10 (AgreementPrinted 7) (NamePrinted loud_acme) ∷ breach 10 (AgreementPrinted 3) (NamePrinted acme) ∷ []
all_of_10 = refl
