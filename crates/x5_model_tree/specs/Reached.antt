-- Where the resolution of a name has come at a master (X.518, section 18: name resolution).
use Rattle.std.specs.Prelude.{◌≡◌, ℕ, ◌≤◌, length}
use Rattle.x5_model.specs.Members.{In}
use Rattle.x5_model.specs.Keys.{Key, IsPrefix}
use Rattle.x5_model.specs.Values.{key_of}
use Rattle.x5_model.specs.Entries.{Named}
use Rattle.x5_model_tree.specs.World.{Nssr, Agent, World}
use Rattle.x5_model_tree.specs.Tree.{key_at}
use Rattle.x5_model_tree.specs.Masters.{Mastered, pin_of, numbered, mastered}
use Rattle.x5_model_tree.specs.Conditions.{Refers}

-- The resolution of the name has come to the agent a, in its context c, as far as the entry `at`; nothing that the
-- agent masters or has a subordinate reference to leads further. (What it knows by cross references or has copies of
-- isn't looked at: what follows holds whatever that is.)
pub record Reached (w : World) (c : Mastered) (a : Agent) (name : Key) (at : Named) : Type 0 where
  -- c is a context of the world, and of this agent
  pub mine : In c (mastered w)
  pub agent : In (c.master, a) (numbered w)
  pub held : In c.context a.contexts
  -- its pin is a prefix of the name, and the longest such pin that the agent masters
  pub own : IsPrefix (pin_of c) name
  pub no_master : (d : Mastered) → In d (mastered w) → d.master ≡ c.master → IsPrefix (pin_of d) name →
      length (pin_of d) ≤ length (pin_of c)
  -- no subordinate reference of the agent names a longer prefix of the name
  pub no_reference : (k : Key) → Refers a k → IsPrefix k name → length k ≤ length (pin_of c)
  -- of the context's entries `at` is the lowest whose name is a prefix of the name
  pub there : In at c.context.entries
  pub on_way : IsPrefix (key_at at) name
  pub lowest : (e : Named) → In e c.context.entries → IsPrefix (key_at e) name → length (key_at e) ≤ length (key_at at)

-- nor does a non-specific reference lead further: no agent of an NSSR of the context at that entry masters a longer
-- prefix of the name
abbrev pub NoneLonger : World → Mastered → Key → Named → Type 0
NoneLonger w c name at =
    (n : Nssr) → In n c.context.nssrs → key_of n.at ≡ key_at at → (d : Mastered) → In d (mastered w) →
    In d.master n.agents → IsPrefix (pin_of d) name → length (pin_of d) ≤ length (key_at at)

-- the agent masters no context whose pin is a prefix of the name, and has no subordinate reference to one
pub record KnowsNone (w : World) (place : ℕ) (a : Agent) (name : Key) : Type 0 where
  pub agent : In (place, a) (numbered w)
  pub no_master : (d : Mastered) → In d (mastered w) → d.master ≡ place → IsPrefix (pin_of d) name → ⊥
  pub no_reference : (k : Key) → Refers a k → IsPrefix k name → ⊥

-- no entry of the tree is a longer prefix of the name
abbrev pub NoLower : World → Key → ℕ → Type 0
NoLower w name n =
    (d : Mastered) → In d (mastered w) → (e : Named) → In e d.context.entries → IsPrefix (key_at e) name →
    length (key_at e) ≤ n
