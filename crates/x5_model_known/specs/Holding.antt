-- Whom the knowledge of an agent names (X.501, section 22: DSA information tree): where these are agents of the world,
-- what name resolution, a list or search, and a probe ask are agents of the world too (X.518, sections 18 and 19).
use Rattle.std.specs.Prelude.{◌≡◌, ℕ, nat_lt, Bool, true, ◌&&◌, List, length, map}
use Rattle.std.specs.List.{list_all}
use Rattle.std.specs.declared.option.Option.{Option}
use Rattle.x5_model.specs.Words.{in_option, distinct, same_octets}
use Rattle.x5_model.specs.Requests.{Request}
use Rattle.x5_model_tree.specs.World.{Access, Specific, Nssr, World}
use Rattle.x5_model_tree.specs.Described.{IsDescribed}
use Rattle.x5_model_run.specs.Holdings.{Held, Copy, Holdings}
use Rattle.x5_model_run.specs.Chain.{Scene}
use Rattle.x5_model_serve.specs.Committed.{committed}
use Rattle.x5_model_heard.specs.Told.{are_agents, KnowsAgents}
use Rattle.x5_model_held.specs.Beginning.{holdings_described}

-- an access: the master and those that have a copy
abbrev pub access_names : ℕ → Access → Bool
access_names n a = nat_lt a.master n && are_agents n a.shadows

-- subordinate or cross references
abbrev pub references_name : ℕ → List Specific → Bool
references_name n ks = list_all (λ k. access_names n k.access) ks

abbrev pub nssrs_name : ℕ → List Nssr → Bool
nssrs_name n nssrs = list_all (λ x. are_agents n x.agents) nssrs

-- the knowledge that goes with a context
abbrev pub context_names : ℕ → Held → Bool
context_names n c = references_name n c.subordinate && nssrs_name n c.nssrs

-- and the supplier of a copy
abbrev pub copy_names : ℕ → Copy → Bool
copy_names n c = nat_lt c.supplier n && context_names n c.held

abbrev pub superior_names : ℕ → Option ℕ → Bool
superior_names n superior = in_option true (λ a. nat_lt a n) superior

-- All that an agent holds names agents of a world that has so many: its superior, the knowledge that goes with its
-- contexts and copies, the suppliers of these, and the references of the root and to contexts elsewhere.
abbrev pub holdings_name : ℕ → Holdings → Bool
holdings_name n h =
    superior_names n h.superior
    && (list_all (context_names n) h.own
    && (list_all (copy_names n) h.copies && (references_name n h.root && references_name n h.cross)))

-- so for each agent of the world
abbrev pub HoldAgents : ℕ → Scene → Type 0
HoldAgents n s = (a : ℕ) → nat_lt a n ≡ true → holdings_name n (s.holdings a) ≡ true

-- what an agent of the world holds is its own
abbrev pub AreThemselves : ℕ → Scene → Type 0
AreThemselves n s = (a : ℕ) → nat_lt a n ≡ true → (s.holdings a).me ≡ a

-- 1. What agents know are agents of the world, whatever was accepted.
abbrev pub KnowledgeNamesAgents : Type 0
KnowledgeNamesAgents = (n : ℕ) (s : Scene) → HoldAgents n s → KnowsAgents n s

-- An update changes entries, and neither whose the holdings are nor whom they name.
abbrev pub KnowledgeStays : Type 0
KnowledgeStays =
    (n : ℕ) (r : Request) (h : Holdings)
    → ((committed r h).me ≡ h.me) × (holdings_name n (committed r h) ≡ holdings_name n h)

-- 2. It is so for every world that a file describes, whether its knowledge is consistent or not.
abbrev pub DescribedNameAgents : Type 0
DescribedNameAgents =
    (w : World) (me : ℕ) → IsDescribed w → holdings_name (length w.agents) (holdings_described w me) ≡ true

abbrev pub DescribedAreThemselves : Type 0
DescribedAreThemselves = (w : World) (me : ℕ) → (holdings_described w me).me ≡ me

-- 3. No two of its agents have one name.
abbrev pub DescribedNamesApart : Type 0
DescribedNamesApart = (w : World) → IsDescribed w → distinct same_octets (map (λ a. a.name) w.agents) ≡ true
