-- The base world is consistent, and so is its whole tree; and for each condition a world that breaks it, with the two
-- values that are told of it.
use Rattle.std.specs.Prelude.{◌≡◌, true, false, [], ◌∷◌}
use Rattle.std.specs.declared.option.Option.TheVariants.{None, Some}
use Rattle.std.proofs.Common.{refl}
use Rattle.std.specs.Str.{chars}
use Rattle.caseless.proofs.Computing.{caseless}
use lib.Chars.{codes}
use lib.Utf8.{encode}
use Rattle.x5_model.specs.Values.{Name}
use Rattle.x5_model.specs.Normal.{folded}
use Rattle.x5_model_tree.specs.World.{Specific, Agent, World}
use Rattle.x5_model_tree.specs.Described.{IsDescribed}
use Rattle.x5_model_tree.specs.Tree.{IsTree}
use Rattle.x5_model_tree.specs.Masters.{whole}
use Rattle.x5_model_tree.specs.Consistent.{breach, AgentPrinted, NamePrinted, AgreementPrinted, first_breach}
use Rattle.x5_model_tree.specs.Consistent.{IsConsistent}
use Rattle.x5_model_rows.proofs.Literals.{rdn, under, class, named}
use Rattle.x5_model_rows.proofs.BaseWorld.{nl, acme, lab, shop, acme_context, lab_context, desk_entry, acme_entry}
use Rattle.x5_model_rows.proofs.BaseWorld.{lab_entry, to_acme, alpha, beta, gamma, delta, epsilon, first_agreement}
use Rattle.x5_model_rows.proofs.BaseWorld.{world_of, base_world}

pub consistent : IsConsistent base_world
consistent =
    record {
      one_master = refl;
      parents = refl;
      no_longer_pin = refl;
      references = refl;
      shadows = refl;
      known_below = refl;
      members = refl;
      top_known = refl;
      superiors = refl;
      supplied = refl;
    }

pub nothing_broken : first_breach base_world ≡ None
nothing_broken = refl

pub described : IsDescribed base_world
unfolding caseless folded chars encode
described =
    record {
      agents_there = refl;
      names_apart = refl;
      agents = refl;
      superiors = refl;
      agreements = refl;
      numbers_apart = refl;
      stored = refl;
      listed = refl;
      limits = refl;
      network = refl;
    }

pub is_tree : IsTree (whole base_world)
is_tree = record { in_order = refl; above = refl; pins_there = refl; ordered = refl }

-- 1. Epsilon masters Lab too.
abbrev pub two_masters : World
two_masters =
    world_of (alpha ∷ beta ∷ gamma ∷ delta ∷ (record epsilon { contexts = lab_context ∷ [] }) ∷ [])
    (first_agreement ∷ [])

pub broken_1 : first_breach two_masters ≡ Some (breach 1 (NamePrinted lab) (AgentPrinted 4))
broken_1 = refl

-- 2. The context Lab moves below an entry that nobody has.
abbrev pub none_above : Name
none_above = under acme (rdn 3 (codes "None") (codes "none"))

abbrev pub far_lab : Name
far_lab = under none_above (rdn 11 (codes "Lab") (codes "lab"))

abbrev pub no_parent : World
no_parent =
    world_of (alpha ∷ beta
    ∷ (record gamma {
      contexts = (record {
        prefix = far_lab;
        entries = named far_lab (class 5 ∷ []) ∷ [];
        nssrs = [];
      }) ∷ [];
    }) ∷ delta ∷ epsilon ∷ []) (first_agreement ∷ [])

pub broken_2 : first_breach no_parent ≡ Some (breach 2 (NamePrinted far_lab) (NamePrinted none_above))
broken_2 = refl

-- 3. Beta has an entry below the pin Lab.
abbrev pub stray : Name
stray = under lab (rdn 3 (codes "Stray") (codes "stray"))

abbrev pub overlapping : World
overlapping =
    world_of (alpha ∷ (record beta {
      contexts = (record acme_context
          { entries = acme_entry ∷ desk_entry ∷ lab_entry ∷ named stray (class 7 ∷ []) ∷ [] }) ∷ [];
    }) ∷ gamma ∷ delta
    ∷ epsilon ∷ []) (first_agreement ∷ [])

pub broken_3 : first_breach overlapping ≡ Some (breach 3 (NamePrinted lab) (NamePrinted lab))
broken_3 = refl

-- 4. Alpha's reference to Acme names Gamma as its master.
abbrev pub false_master : World
false_master =
    world_of ((record alpha
    { subordinate = (record to_acme { access = record { master = 2; shadows = 4 ∷ [] } }) ∷ [] }) ∷ beta ∷ gamma
    ∷ delta ∷ epsilon ∷ []) (first_agreement ∷ [])

pub broken_4 : first_breach false_master ≡ Some (breach 4 (AgentPrinted 0) (NamePrinted acme))
broken_4 = refl

-- 4 too: a subordinate reference whose parent the agent doesn't master.
abbrev pub far_reference : World
far_reference =
    world_of ((record alpha {
      subordinate = to_acme ∷ (record { pin = lab; access = record { master = 2; shadows = [] } }) ∷ [];
      crosses = false ∷ false ∷ [];
    }) ∷ beta ∷ gamma ∷ delta ∷ epsilon ∷ []) (first_agreement ∷ [])

pub broken_4_far : first_breach far_reference ≡ Some (breach 4 (AgentPrinted 0) (NamePrinted lab))
broken_4_far = refl

-- 5. Gamma stands among the shadows of Acme and doesn't consume it.
abbrev pub false_shadow : World
false_shadow =
    world_of ((record alpha
    { subordinate = (record to_acme { access = record { master = 1; shadows = 4 ∷ 2 ∷ [] } }) ∷ [] }) ∷ beta ∷ gamma
    ∷ delta ∷ epsilon ∷ []) (first_agreement ∷ [])

pub broken_5 : first_breach false_shadow ≡ Some (breach 5 (NamePrinted acme) (AgentPrinted 2))
broken_5 = refl

-- 5 too: one shadow stands there twice.
abbrev pub shadow_twice : World
shadow_twice =
    world_of ((record alpha
    { subordinate = (record to_acme { access = record { master = 1; shadows = 4 ∷ 4 ∷ [] } }) ∷ [] }) ∷ beta ∷ gamma
    ∷ delta ∷ epsilon ∷ []) (first_agreement ∷ [])

pub broken_5_twice : first_breach shadow_twice ≡ Some (breach 5 (NamePrinted acme) (AgentPrinted 4))
broken_5_twice = refl

-- Two breaches of one condition: the first in the order of the file is told. Alpha's two references are false, and the
-- cross reference stands before the subordinate one, or behind it.
abbrev across : Specific
across = record { pin = lab; access = record { master = 3; shadows = 1 ∷ [] } }

abbrev below : Specific
below = record { pin = acme; access = record { master = 2; shadows = 2 ∷ [] } }

abbrev pub two_false : Agent → World
two_false first = world_of (first ∷ beta ∷ gamma ∷ delta ∷ epsilon ∷ []) (first_agreement ∷ [])

abbrev cross_first : Agent
cross_first = record alpha { subordinate = below ∷ []; cross = across ∷ []; crosses = true ∷ false ∷ [] }

pub first_of_4 : first_breach (two_false cross_first) ≡ Some (breach 4 (AgentPrinted 0) (NamePrinted lab))
first_of_4 = refl

pub last_of_4 : first_breach (two_false (record cross_first { crosses = false ∷ true ∷ [] }))
    ≡ Some (breach 4 (AgentPrinted 0) (NamePrinted acme))
last_of_4 = refl

-- the same with right masters and two false shadow agents
abbrev cross_shadow_first : Agent
cross_shadow_first =
    record cross_first {
      subordinate = (record below { access = record { master = 1; shadows = 2 ∷ [] } }) ∷ [];
      cross = (record across { access = record { master = 2; shadows = 1 ∷ [] } }) ∷ [];
    }

pub first_of_5 : first_breach (two_false cross_shadow_first) ≡ Some (breach 5 (NamePrinted lab) (AgentPrinted 1))
first_of_5 = refl

pub last_of_5 : first_breach (two_false (record cross_shadow_first { crosses = false ∷ true ∷ [] }))
    ≡ Some (breach 5 (NamePrinted acme) (AgentPrinted 2))
last_of_5 = refl

-- 6. Beta doesn't know Shop.
abbrev pub unknown_shop : World
unknown_shop =
    world_of (alpha ∷ (record beta
    { contexts = (record acme_context { nssrs = (record { at = acme; agents = 2 ∷ [] }) ∷ [] }) ∷ [] }) ∷ gamma
    ∷ delta ∷ epsilon ∷ []) (first_agreement ∷ [])

pub broken_6 : first_breach unknown_shop ≡ Some (breach 6 (AgentPrinted 1) (NamePrinted shop))
broken_6 = refl

-- Of two pins that nobody knows, the first in the order of the file is told, with the master that lacks it, although an
-- agent before that master lacks the other: Beta has Acme below Alpha's NL, and Gamma Lab below Beta's Acme.
abbrev pub two_unknown : World
two_unknown =
    world_of ((record beta { superior = Some 1; contexts = (record acme_context { nssrs = [] }) ∷ [] })
    ∷ (record alpha { subordinate = []; crosses = [] }) ∷ (record gamma { superior = Some 0 }) ∷ []) []

pub first_of_6 : first_breach two_unknown ≡ Some (breach 6 (AgentPrinted 1) (NamePrinted acme))
first_of_6 = refl

-- 7. Epsilon stands in Beta's NSSR and masters nothing below it.
abbrev pub false_member : World
false_member =
    world_of (alpha ∷ (record beta
    { contexts = (record acme_context { nssrs = (record { at = acme; agents = 2 ∷ 3 ∷ 4 ∷ [] }) ∷ [] }) ∷ [] })
    ∷ gamma ∷ delta ∷ epsilon ∷ []) (first_agreement ∷ [])

pub broken_7 : first_breach false_member ≡ Some (breach 7 (NamePrinted acme) (AgentPrinted 4))
broken_7 = refl

-- 8. Epsilon has no superior, so it's first-level, and doesn't know NL.
abbrev pub second_top : World
second_top =
    world_of (alpha ∷ beta ∷ gamma ∷ delta ∷ (record epsilon { superior = None }) ∷ []) (first_agreement ∷ [])

pub broken_8 : first_breach second_top ≡ Some (breach 8 (AgentPrinted 4) (NamePrinted nl))
broken_8 = refl

-- 9. Two agents are each other's superior.
abbrev pub circle : World
circle =
    world_of ((record {
      name = codes "X";
      superior = Some 1;
      contexts = [];
      subordinate = [];
      cross = [];
      crosses = [];
    }) ∷ (record {
      name = codes "Y";
      superior = Some 0;
      contexts = [];
      subordinate = [];
      cross = [];
      crosses = [];
    }) ∷ []) []

pub broken_9 : first_breach circle ≡ Some (breach 9 (AgentPrinted 0) (AgentPrinted 1))
broken_9 = refl

-- 10. Epsilon's supplier is Gamma, which has nothing of Acme.
abbrev pub false_supplier : World
false_supplier =
    world_of (alpha ∷ beta ∷ gamma ∷ delta ∷ epsilon ∷ [])
    ((record { number = 1; supplier = 2; consumer = 4; context = acme }) ∷ [])

pub broken_10 : first_breach false_supplier ≡ Some (breach 10 (AgreementPrinted 1) (NamePrinted acme))
broken_10 = refl

-- 10 too: two agreements give Epsilon one context.
abbrev pub two_agreements : World
two_agreements =
    world_of (alpha ∷ beta ∷ gamma ∷ delta ∷ epsilon ∷ [])
    (first_agreement ∷ (record { number = 2; supplier = 1; consumer = 4; context = acme }) ∷ [])

pub broken_10_twice : first_breach two_agreements ≡ Some (breach 10 (AgreementPrinted 1) (NamePrinted acme))
broken_10_twice = refl
