-- Where an agent looks from for a list or search, what it asks others for, and what the references stand for
-- (X.518, section 19).
use Rattle.std.specs.Prelude.{◌≡◌, ℕ, ◌<◌, ◌↔◌, Bool, true, List, [], ◌∷◌, length, None}
use Rattle.x5_model.specs.Keys.{Key, IsPrefix, parent}
use Rattle.x5_model.specs.Requests.{Subset, Base, OneLevel, WholeSubtree}
use Rattle.x5_model.specs.Members.{In}
use Rattle.x5_model_theory.specs.Knowledge.{Knowledge, Area, Spot}
use Rattle.x5_model_theory.specs.Coherent.{Coherent}
use Rattle.x5_model_theory.specs.Scopes.{with_root, root_of, InSubset, Look, IsTreated, NeedsSpecific, NeedsNonSpecific}
use Rattle.x5_model_theory.specs.Scopes.{InSpecific, InNonSpecific, IsTouched, MayLook}

-- the agent holds what it masters
abbrev pub HoldsItsOwn : Knowledge → ℕ → (Key → Bool) → Type 0
HoldsItsOwn k agent holds = (q : Area) → In q k.areas → q.master ≡ agent → holds q.prefix ≡ true

-- from a base that is an entry of a context
abbrev pub from_base : Knowledge → ℕ → (Key → Bool) → Area → Subset → Key → Look
from_base k agent holds c subset base =
    record { knowledge = k; agent = agent; holds = holds; starts = c ∷ []; subset = subset; base = base }

-- from the root, at a first-level agent
abbrev pub from_root : Knowledge → ℕ → (Key → Bool) → Subset → Look
from_root k agent holds subset = record {
  knowledge = with_root agent k;
  agent = agent;
  holds = holds;
  starts = root_of agent ∷ [];
  subset = subset;
  base = [];
}

-- from pins just below an entry with an NSSR
abbrev pub from_pins : Knowledge → ℕ → (Key → Bool) → List Area → Subset → Key → Look
from_pins k agent holds pins subset at =
    record { knowledge = k; agent = agent; holds = holds; starts = pins; subset = subset; base = at }

abbrev pub BaseMayLook : Type 0
BaseMayLook = (k : Knowledge) (agent : ℕ) (holds : Key → Bool) (c : Area) (subset : Subset) (base : Key) → Coherent k →
    HoldsItsOwn k agent holds
    → In c k.areas → In base c.entries → MayLook (from_base k agent holds c subset base)

abbrev pub RootMayLook : Type 0
RootMayLook =
    (k : Knowledge) (agent : ℕ) (holds : Key → Bool) (subset : Subset) → Coherent k → HoldsItsOwn k agent holds
    → In agent k.agents → k.superior agent ≡ None → MayLook (from_root k agent holds subset)

abbrev pub PinsMayLook : Type 0
PinsMayLook = (k : Knowledge) (agent : ℕ) (holds : Key → Bool) (pins : List Area) (subset : Subset) (at : Key) →
    Coherent k → HoldsItsOwn k agent holds
    → ((r : Area) → In r pins → In r k.areas × (parent r.prefix ≡ at)) →
    MayLook (from_pins k agent holds pins subset at)

-- each entry of the subset below a start is of a context that is looked into
abbrev pub EntriesAreTouched : Type 0
EntriesAreTouched = (l : Look) (d r : Area) (e : Key) → MayLook l → In d l.knowledge.areas → In e d.entries →
    In r l.starts → IsPrefix r.prefix e
    → InSubset l.subset l.base e → IsTouched l d

-- the subset of a sub-request whose base is a pin
abbrev pub narrowed : Subset → Subset
narrowed Base = Base
narrowed OneLevel = Base
narrowed WholeSubtree = WholeSubtree

-- the sub-request of a subordinate reference looks into the reference's scope
abbrev pub SpecificLeads : Type 0
SpecificLeads = (l m : Look) (pin q : Area) → NeedsSpecific l pin → m.starts ≡ pin ∷ [] → m.subset ≡ narrowed l.subset →
    m.base ≡ pin.prefix
    → IsTouched m q ↔ InSpecific l pin q

-- that of a nonSpecific one likewise, where it begins at the pins that the agent masters and that aren't excluded
abbrev pub IsAskedFor : Look → Spot → ℕ → Area → Type 0
IsAskedFor l n agent r = In r l.knowledge.areas × (0 < length r.prefix) × (r.master ≡ agent) × (parent r.prefix ≡ n.at)
    × (IsTreated l r.prefix → ⊥)

abbrev pub NonSpecificLeads : Type 0
NonSpecificLeads = (l m : Look) (n : Spot) (agent : ℕ) (q : Area) → NeedsNonSpecific l n agent →
    ((r : Area) → In r m.starts ↔ IsAskedFor l n agent r)
    → m.subset ≡ l.subset → m.base ≡ n.at → IsTouched m q ↔ InNonSpecific l n agent q

-- over the entries of its scope the sub-request's subset is the request's
abbrev pub SameEntries : Type 0
SameEntries = (l : Look) (pin q : Area) (e : Key) → NeedsSpecific l pin → IsPrefix pin.prefix e →
    InSubset l.subset l.base e ↔ InSubset (narrowed l.subset) pin.prefix e

abbrev pub SameWideEntries : Type 0
SameWideEntries = (l : Look) (n : Spot) (agent : ℕ) (e : Key) → NeedsNonSpecific l n agent → IsPrefix n.at e →
    InSubset l.subset l.base e ↔ InSubset l.subset n.at e

-- what an unexplored reference covers of the contexts looked into is its scope
abbrev pub SpecificCovers : Type 0
SpecificCovers = (l : Look) (pin q : Area) → MayLook l → NeedsSpecific l pin → In q l.knowledge.areas → IsTouched l q →
    IsPrefix pin.prefix q.prefix ↔ InSpecific l pin q

abbrev pub NonSpecificCovers : Type 0
NonSpecificCovers = (l : Look) (n : Spot) (agent : ℕ) (q : Area) → MayLook l → NeedsNonSpecific l n agent →
    In q l.knowledge.areas → IsTouched l q
    → ((r : Area) × IsAskedFor l n agent r × IsPrefix r.prefix q.prefix) ↔ InNonSpecific l n agent q
