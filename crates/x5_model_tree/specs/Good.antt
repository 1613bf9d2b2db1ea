-- What consistent knowledge gives, as facts about contexts and keys: the form in which theory uses it.
use Rattle.std.specs.Prelude.{◌≡◌, ℕ, ◌<◌, ◌≤◌, ◌⊎◌, IsTrue, length}
use Rattle.std.specs.declared.option.Option.TheVariants.{None}
use Rattle.x5_model.specs.Members.{In, Once}
use Rattle.x5_model.specs.Keys.{IsPrefix, parent}
use Rattle.x5_model.specs.Values.{key_of}
use Rattle.x5_model.specs.Entries.{Named}
use Rattle.x5_model.specs.Attributes.{is_ordered}
use Rattle.x5_model_tree.specs.World.{Specific, Nssr, Context, Agent, World}
use Rattle.x5_model_tree.specs.Tree.{key_at, keys_of}
use Rattle.x5_model_tree.specs.Masters.{Mastered, pin_of, numbered, mastered}
use Rattle.x5_model_tree.specs.Conditions.{Has, Refers, NamesMaster}

-- each context by itself, consistent or not: its prefix is an entry and no root; all entries are below it, each with
-- its parent; a key stands once, and an NSSR is at an entry, one at most
pub record IsContext (c : Context) : Type 0 where
  pub filled : 0 < length (key_of c.prefix)
  pub prefix_there : Has c.entries (key_of c.prefix)
  pub below : (e : Named) → In e c.entries → IsPrefix (key_of c.prefix) (key_at e)
  pub grown : (e : Named) → In e c.entries → (key_at e ≡ key_of c.prefix) ⊎ Has c.entries (parent (key_at e))
  pub once : Once (keys_of c.entries)
  pub one_entry : (e f : Named) → In e c.entries → In f c.entries → key_at e ≡ key_at f → e ≡ f
  pub kept : (e : Named) → In e c.entries → (0 < length (key_at e)) × IsTrue (is_ordered e.entry)
  pub nssr_there : (n : Nssr) → In n c.nssrs → Has c.entries (key_of n.at)
  pub one_nssr : (n k : Nssr) → In n c.nssrs → In k c.nssrs → key_of n.at ≡ key_of k.at → n ≡ k

-- contexts with each other, where knowledge is consistent
pub record Good (w : World) : Type 0 where
  pub context : (m : Mastered) → In m (mastered w) → IsContext m.context
  pub one_context : (m n : Mastered) → In m (mastered w) → In n (mastered w) → pin_of m ≡ pin_of n → m ≡ n
  pub parents : (m : Mastered) → In m (mastered w) → (length (pin_of m) ≡ 1)
      ⊎ ((n : Mastered) × In n (mastered w) × Has n.context.entries (parent (pin_of m)))
  pub no_longer : (m p : Mastered) (e : Named) → In m (mastered w) → In p (mastered w) → In e m.context.entries →
      IsPrefix (pin_of p) (key_at e) → length (pin_of p) ≤ length (pin_of m)
  pub known_below : (m p : Mastered) (a : Agent) → In m (mastered w) → In p (mastered w) →
      In (m.master, a) (numbered w) → In m.context a.contexts → Has m.context.entries (parent (pin_of p))
      → (p.master ≡ m.master) ⊎ (Refers a (pin_of p)
      ⊎ ((n : Nssr) × In n m.context.nssrs × ((key_of n.at ≡ parent (pin_of p)) × In p.master n.agents)))
  pub top_known : (place : ℕ) (a : Agent) (p : Mastered) → In (place, a) (numbered w) → In p (mastered w) → a.superior
      ≡ None → length (pin_of p) ≡ 1 → (p.master ≡ place) ⊎ Refers a (pin_of p)
  pub names_master : (place : ℕ) (a : Agent) (k : Specific) → In (place, a) (numbered w) → In k a.subordinate
      ⊎ In k a.cross → NamesMaster w k
  pub owner : (m : Mastered) → In m (mastered w) → (a : Agent) × In (m.master, a) (numbered w) × In m.context a.contexts
