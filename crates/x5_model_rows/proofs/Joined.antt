-- The parts of a search of the base world, and of one near it: what is evaluated on the spot, which references are
-- needed for the rest, and what each looks into. The theorems on parts hold of these, so they aren't empty.
use Rattle.std.specs.Prelude.{◌≡◌, ◌∷◌, [], map, true}
use Rattle.std.proofs.Common.{refl, inr, false}
use Rattle.x5_model.specs.Values.{key_of}
use Rattle.x5_model.specs.Members.{Once}
use Rattle.x5_model_run.specs.Covers.{covers, are_apart}
use Rattle.x5_model_run.specs.History.{Point, knowledge_at}
use Rattle.x5_model_parts.specs.Standing.{Stands, CopiesStand}
use Rattle.x5_model_parts.specs.Parts.{BeginsHere, spots, rest_needs, looks_into}
use Rattle.x5_model_parts.proofs.First.{stands_at_first}
use Rattle.x5_model_parts.proofs.Joining.{spots_are_once, parts_are_apart}
use Rattle.x5_model_rows.proofs.BaseWorld.{base_world, nl, acme, lab, shop}
use Rattle.x5_model_rows.proofs.Consistency.{consistent, described}
use Rattle.x5_model_rows.proofs.Messages.{point}
use Rattle.x5_model_rows.proofs.Searching.{nl_at_alpha, nl_part, root_at_alpha, shop_known, below_at_beta}

abbrev pub start : Point
start = point base_world []

pub stands : Stands start × CopiesStand start
stands = stands_at_first base_world [] described consistent tt

-- Alpha has the base and asks Beta for what is below Acme
pub nl_begins : BeginsHere start nl_at_alpha
nl_begins = record { stands = stands.0; agent = refl; fit = refl; begins = refl; copies = inr stands.1 }

pub nl_spots : spots start nl_at_alpha ≡ key_of nl ∷ []
nl_spots = refl

pub nl_needs : map (λ r. key_of r.target) (rest_needs start nl_at_alpha) ≡ key_of acme ∷ []
nl_needs = refl

pub nl_looks : looks_into start 0 nl_at_alpha.message ≡ key_of nl ∷ key_of acme ∷ key_of lab ∷ key_of shop ∷ []
nl_looks = refl

-- Beta has Acme and asks the two agents of its NSSR, each for what it masters there
pub acme_begins : BeginsHere start nl_part
acme_begins = record { stands = stands.0; agent = refl; fit = refl; begins = refl; copies = inr stands.1 }

pub acme_spots : spots start nl_part ≡ key_of acme ∷ []
acme_spots = refl

pub acme_needs : map (λ r. r.agents) (rest_needs start nl_part) ≡ (2 ∷ []) ∷ (3 ∷ []) ∷ []
acme_needs = refl

pub acme_looks : looks_into start 1 nl_part.message ≡ key_of acme ∷ key_of lab ∷ key_of shop ∷ []
acme_looks = refl

pub acme_covered : map (λ r. covers (knowledge_at start) r (key_of lab)) (rest_needs start nl_part) ≡ true ∷ false ∷ []
acme_covered = refl

pub acme_once : Once (spots start nl_part)
acme_once = spots_are_once start nl_part acme_begins

pub acme_apart : are_apart (knowledge_at start) (rest_needs start nl_part) ≡ true
acme_apart = parts_are_apart start nl_part acme_begins

-- from the root, which Alpha answers as a first-level agent
pub root_begins : BeginsHere start root_at_alpha
root_begins = record { stands = stands.0; agent = refl; fit = refl; begins = refl; copies = inr stands.1 }

pub root_spots : spots start root_at_alpha ≡ key_of nl ∷ []
root_spots = refl

pub root_looks : looks_into start 0 root_at_alpha.message ≡ key_of nl ∷ key_of acme ∷ key_of lab ∷ key_of shop ∷ []
root_looks = refl

-- Beta knows Shop by a subordinate reference too: the agent of the NSSR that has it is asked for nothing
abbrev pub known : Point
known = point shop_known []

pub less_spots : spots known below_at_beta ≡ key_of acme ∷ []
less_spots = refl

pub less_needs : map (λ r. covers (knowledge_at known) r (key_of shop)) (rest_needs known below_at_beta)
    ≡ true ∷ false ∷ false ∷ []
less_needs = refl
