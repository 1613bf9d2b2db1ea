-- What holds of knowledge that is consistent, each condition in its plain words, by keys.
use Rattle.std.specs.Prelude.{◌≡◌, ℕ, suc, ◌<◌, ◌≤◌, ◌⊎◌, length, map, Some, None}
use Rattle.x5_model.specs.Keys.{Key, IsPrefix, parent}
use Rattle.x5_model.specs.Members.{In, Once}
use Rattle.x5_model_tree.specs.World.{World}
use Rattle.x5_model_tree.specs.Consistent.{IsConsistent}
use Rattle.x5_model_tree.specs.Described.{IsDescribed}
use Rattle.x5_model_theory.specs.Described.{knowledge_of}
use Rattle.x5_model_theory.specs.Knowledge.{Knowledge, Area, Spot, Pointer, Supply, IsEntry, IsMastered, IsConsumed}
use Rattle.x5_model_theory.specs.Knowledge.{IsReferred}

-- within so many hops the chain of superiors ends at a first-level agent (X.518, section 9)
pub data Climbs (k : Knowledge) : ℕ → ℕ → Type 0 where
  ends : {hops agent : ℕ} → k.superior agent ≡ None → Climbs k hops agent
  climbs : {hops agent above : ℕ} → k.superior agent ≡ Some above → Climbs k hops above → Climbs k (suc hops) agent

-- within so many hops the chain of suppliers of a context ends at its master (X.525, section 7)
pub data IsFed (k : Knowledge) (p : Key) : ℕ → ℕ → Type 0 where
  ends : {hops agent : ℕ} → IsMastered k agent p → IsFed k p hops agent
  fed : {hops agent : ℕ} (s : Supply) → In s k.supplies → s.consumer ≡ agent → s.prefix ≡ p →
      IsFed k p hops s.supplier → IsFed k p (suc hops) agent

pub record Coherent (k : Knowledge) : Type 0 where
  -- as every description is: a prefix is no root and is an entry of its context; each other entry stands below another
  -- of the context
  pub filled : (c : Area) → In c k.areas → 0 < length c.prefix
  pub headed : (c : Area) → In c k.areas → In c.prefix c.entries
  pub below : (c : Area) (e : Key) → In c k.areas → In e c.entries → IsPrefix c.prefix e
  pub closed : (c : Area) (e : Key) → In c k.areas → In e c.entries → (e ≡ c.prefix) ⊎ In (parent e) c.entries
  -- no entry stands twice in a context; an NSSR stands at an entry, of which there is one
  pub entries_apart : (c : Area) → In c k.areas → Once c.entries
  pub nssr_at : (c : Area) (n : Spot) → In c k.areas → In n c.nssrs → In n.at c.entries
  pub one_nssr : (c : Area) (n m : Spot) → In c k.areas → In n c.nssrs → In m c.nssrs → n.at ≡ m.at → n ≡ m
  -- an NSSR lists some agent
  pub nssr_some : (c : Area) (n : Spot) → In c k.areas → In n c.nssrs → (a : ℕ) × In a n.agents
  -- no prefix is mastered twice
  pub once : Once (map (λ c. c.prefix) k.areas)
  -- each pin's parent is the root or an entry
  pub parents : (c : Area) → In c k.areas → (length c.prefix ≡ 1) ⊎ IsEntry k (parent c.prefix)
  -- no entry has among its prefixes a pin longer than its own context's
  pub no_longer : (c d : Area) (e : Key) → In c k.areas → In d k.areas → In e c.entries → IsPrefix d.prefix e →
      length d.prefix ≤ length c.prefix
  -- each subordinate or cross reference names a pin and its master
  pub subordinate_right : (r : Pointer) → In r k.subordinate → IsMastered k r.master r.pin
  pub cross_right : (r : Pointer) → In r k.cross → IsMastered k r.master r.pin
  -- a subordinate one names a child of an entry that the agent masters, or of the root at a first-level agent
  pub subordinate_placed : (r : Pointer) → In r k.subordinate
      → ((c : Area) × In c k.areas × (c.master ≡ r.owner) × In (parent r.pin) c.entries)
      ⊎ ((length r.pin ≡ 1) × (k.superior r.owner ≡ None))
  -- the shadow agents of a reference are distinct consumers of that context
  pub subordinate_shadows : (r : Pointer) → In r k.subordinate → Once r.shadows
      × ((a : ℕ) → In a r.shadows → IsConsumed k a r.pin)
  pub cross_shadows : (r : Pointer) → In r k.cross → Once r.shadows × ((a : ℕ) → In a r.shadows → IsConsumed k a r.pin)
  -- each pin whose parent is in a context is, at that context's master, mastered too, known by a subordinate
  -- reference, or its master stands in the parent's NSSR
  pub known_below : (c d : Area) → In c k.areas → In d k.areas → In (parent d.prefix) c.entries
      → (d.master ≡ c.master) ⊎ (IsReferred k c.master d.prefix
      ⊎ ((n : Spot) × In n c.nssrs × (n.at ≡ parent d.prefix) × In d.master n.agents))
  -- each agent of an NSSR stands there once, isn't the context's master, and masters a pin just below
  pub nssr_once : (c : Area) (n : Spot) → In c k.areas → In n c.nssrs → Once n.agents
  pub nssr_others : (c : Area) (n : Spot) → In c k.areas → In n c.nssrs → In c.master n.agents → ⊥
  pub nssr_masters : (c : Area) (n : Spot) (a : ℕ) → In c k.areas → In n c.nssrs → In a n.agents
      → (d : Area) × In d k.areas × (d.master ≡ a) × (parent d.prefix ≡ n.at)
  -- each first-level agent masters each pin of one RDN or has a subordinate reference to it
  pub first_level : (a : ℕ) (d : Area) → In a k.agents → k.superior a ≡ None → In d k.areas → length d.prefix ≡ 1 →
      (d.master ≡ a) ⊎ IsReferred k a d.prefix
  -- from each agent the chain of superiors ends at a first-level agent within 16 hops
  pub chain : (a : ℕ) → In a k.agents → Climbs k 16 a
  -- a consumer doesn't master the context, and consumes it in one agreement alone; the chain of suppliers ends at the
  -- master within 4 hops
  pub consumers : (s : Supply) → In s k.supplies → IsMastered k s.consumer s.prefix → ⊥
  pub one_supply : (s t : Supply) → In s k.supplies → In t k.supplies → s.consumer ≡ t.consumer → s.prefix ≡ t.prefix →
      s ≡ t
  pub supplied : (s : Supply) → In s k.supplies → IsFed k s.prefix 4 s.consumer

-- consistent knowledge is so
abbrev pub ConsistentIsCoherent : Type 0
ConsistentIsCoherent = (w : World) → IsDescribed w → IsConsistent w → Coherent (knowledge_of w)
