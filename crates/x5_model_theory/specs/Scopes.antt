-- How the contexts that a list or search looks into fall apart (X.518, section 19): those that an agent evaluates on
-- the spot, and those that each of the references that it needs stands for.
use Rattle.std.specs.Prelude.{◌≡◌, ◌≢◌, ℕ, ◌+◌, ◌<◌, ◌≤◌, Bool, true, false, ◌⊎◌, List, [], ◌∷◌, length}
use Rattle.x5_model.specs.Keys.{Key, IsPrefix, parent}
use Rattle.x5_model.specs.Requests.{Subset, Base, OneLevel, WholeSubtree}
use Rattle.x5_model.specs.Members.{In}
use Rattle.x5_model_theory.specs.Knowledge.{Knowledge, Area, Spot, IsMastered, IsReferred}

-- what looking for contexts rests on, for the contexts of the tree, and for these and the root
pub record Laid (k : Knowledge) : Type 0 where
  pub one_master : (c d : Area) → In c k.areas → In d k.areas → c.prefix ≡ d.prefix → c ≡ d
  pub parents : (r q : Area) → In r k.areas → In q k.areas → length r.prefix < length q.prefix → (d : Area)
      × In d k.areas × In (parent q.prefix) d.entries
  pub below : (c : Area) (e : Key) → In c k.areas → In e c.entries → IsPrefix c.prefix e
  pub no_longer : (c d : Area) (e : Key) → In c k.areas → In d k.areas → In e c.entries → IsPrefix d.prefix e →
      length d.prefix ≤ length c.prefix
  pub nssr_at : (c : Area) (n : Spot) → In c k.areas → In n c.nssrs → In n.at c.entries
  pub one_nssr : (c : Area) (n m : Spot) → In c k.areas → In n c.nssrs → In m c.nssrs → n.at ≡ m.at → n ≡ m
  pub known_below : (c d : Area) → In c k.areas → In d k.areas → 0 < length d.prefix → In (parent d.prefix) c.entries
      → (d.master ≡ c.master) ⊎ (IsReferred k c.master d.prefix
      ⊎ ((n : Spot) × In n c.nssrs × (n.at ≡ parent d.prefix) × In d.master n.agents))

-- the root as a context of a first-level agent, whose subordinate references of one RDN belong to it
abbrev pub root_of : ℕ → Area
root_of agent = record { master = agent; prefix = []; entries = [] ∷ []; nssrs = [] }

abbrev pub with_root : ℕ → Knowledge → Knowledge
with_root agent k = record k { areas = root_of agent ∷ k.areas }

-- a pin in the subset of the base (X.511, section 10.2.2); a list looks just below the base, or at a pin's own RDN
-- alone
abbrev pub InSubset : Subset → Key → Key → Type 0
InSubset Base base p = p ≡ base
InSubset OneLevel base p = (length p ≡ length base + 1) × IsPrefix base p
InSubset WholeSubtree base p = IsPrefix base p

-- an entry whose NSSR counts
abbrev pub IsInScope : Subset → Key → Key → Type 0
IsInScope Base base e = ⊥
IsInScope OneLevel base e = e ≡ base
IsInScope WholeSubtree base e = IsPrefix base e

-- an agent looks from some contexts on: from the base's, or from those that a nonSpecific reference asks it for.
-- `holds` are the prefixes of contexts that it masters, or of which it may use a copy.
pub record Look : Type 0 where
  pub knowledge : Knowledge
  pub agent : ℕ
  pub holds : Key → Bool
  pub starts : List Area
  pub subset : Subset
  pub base : Key

-- the contexts evaluated on the spot
pub data IsEvaluated (l : Look) : Area → Type 0 where
  start : {c : Area} → In c l.starts → IsEvaluated l c
  further : {q : Area} (d : Area) → IsEvaluated l d → In q l.knowledge.areas → 0 < length q.prefix →
      In (parent q.prefix) d.entries → InSubset l.subset l.base q.prefix → l.holds q.prefix ≡ true → IsEvaluated l q

-- what the agent has of a context tells where a pin just below it is: its master has a subordinate reference, or
-- masters the pin too
abbrev pub IsTold : Look → Area → Key → Type 0
IsTold l d p = IsReferred l.knowledge d.master p ⊎ IsMastered l.knowledge d.master p

-- a pin that is evaluated on the spot or becomes a reference of its own
abbrev pub IsTreated : Look → Key → Type 0
IsTreated l p = (d : Area) × IsEvaluated l d × In (parent p) d.entries × InSubset l.subset l.base p
    × ((l.holds p ≡ true) ⊎ IsTold l d p)

-- a subordinate reference is needed, to a pin
pub record NeedsSpecific (l : Look) (pin : Area) : Type 0 where
  pub area : In pin l.knowledge.areas
  pub filled : 0 < length pin.prefix
  pub above : Area
  pub evaluated : IsEvaluated l above
  pub just_below : In (parent pin.prefix) above.entries
  pub within : InSubset l.subset l.base pin.prefix
  pub not_held : l.holds pin.prefix ≡ false
  pub told : IsTold l above pin.prefix

-- a nonSpecific reference is needed, to an agent of an NSSR
pub record NeedsNonSpecific (l : Look) (n : Spot) (agent : ℕ) : Type 0 where
  pub above : Area
  pub evaluated : IsEvaluated l above
  pub nssr : In n above.nssrs
  pub listed : In agent n.agents
  pub other : agent ≢ l.agent
  pub in_scope : IsInScope l.subset l.base n.at

-- the scope of a subordinate reference: its pin and all below, as the subset says
pub record InSpecific (l : Look) (pin q : Area) : Type 0 where
  pub below : IsPrefix pin.prefix q.prefix
  pub within : InSubset l.subset l.base q.prefix

-- the scope of a nonSpecific one: the pins just below its entry that its agent masters and that aren't excluded, and
-- all below
pub record InNonSpecific (l : Look) (n : Spot) (agent : ℕ) (q : Area) : Type 0 where
  pub pin : Area
  pub area : In pin l.knowledge.areas
  pub filled : 0 < length pin.prefix
  pub mastered : pin.master ≡ agent
  pub just_below : parent pin.prefix ≡ n.at
  pub not_excluded : IsTreated l pin.prefix → ⊥
  pub below : IsPrefix pin.prefix q.prefix
  pub within : InSubset l.subset l.base q.prefix

-- what the whole looks into
abbrev pub IsTouched : Look → Area → Type 0
IsTouched l q =
    In q l.starts ⊎ ((r : Area) × In r l.starts × IsPrefix r.prefix q.prefix × InSubset l.subset l.base q.prefix)

-- where an agent may look from
pub record MayLook (l : Look) : Type 0 where
  pub laid : Laid l.knowledge
  pub contexts : (r : Area) → In r l.starts → In r l.knowledge.areas
  pub apart : (r s : Area) → In r l.starts → In s l.starts → IsPrefix r.prefix s.prefix → r ≡ s
  pub base_low : (r d : Area) → In r l.starts → In d l.knowledge.areas → IsPrefix d.prefix l.base →
      length d.prefix ≤ length r.prefix
  pub own : (q : Area) → In q l.knowledge.areas → 0 < length q.prefix → q.master ≡ l.agent → l.holds q.prefix ≡ true

-- each context of the whole is evaluated on the spot or is in the scope of a reference
abbrev pub AllAreTaken : Type 0
AllAreTaken = (l : Look) (q : Area) → MayLook l → In q l.knowledge.areas → IsTouched l q
    → IsEvaluated l q ⊎ (((p : Area) × NeedsSpecific l p × InSpecific l p q)
    ⊎ ((n : Spot) × (a : ℕ) × NeedsNonSpecific l n a × InNonSpecific l n a q))

-- and no others are
abbrev pub NoMoreAreTaken : Type 0
NoMoreAreTaken = (l : Look) (q : Area) → MayLook l → In q l.knowledge.areas
    → IsEvaluated l q ⊎ (((p : Area) × NeedsSpecific l p × InSpecific l p q)
    ⊎ ((n : Spot) × (a : ℕ) × NeedsNonSpecific l n a × InNonSpecific l n a q))
    → IsTouched l q

-- what is evaluated on the spot is in no scope
abbrev pub SpotsApart : Type 0
SpotsApart = (l : Look) (q p : Area) → MayLook l → IsEvaluated l q → NeedsSpecific l p → InSpecific l p q → ⊥

abbrev pub WideSpotsApart : Type 0
WideSpotsApart = (l : Look) (q : Area) (n : Spot) (a : ℕ) → MayLook l → IsEvaluated l q → NeedsNonSpecific l n a →
    InNonSpecific l n a q → ⊥

-- no context is in the scopes of two references
abbrev pub SpecificApart : Type 0
SpecificApart = (l : Look) (q p r : Area) → MayLook l → NeedsSpecific l p → NeedsSpecific l r → InSpecific l p q →
    InSpecific l r q → p ≡ r

abbrev pub MixedApart : Type 0
MixedApart = (l : Look) (q p : Area) (n : Spot) (a : ℕ) → MayLook l → NeedsSpecific l p → NeedsNonSpecific l n a →
    InSpecific l p q → InNonSpecific l n a q → ⊥

abbrev pub NonSpecificApart : Type 0
NonSpecificApart = (l : Look) (q : Area) (n m : Spot) (a b : ℕ) → MayLook l → NeedsNonSpecific l n a →
    NeedsNonSpecific l m b → InNonSpecific l n a q → InNonSpecific l m b q
    → (n ≡ m) × (a ≡ b)
