-- What a line of a run over consistent knowledge finds: knowledge that still meets its conditions, with the entries of
-- the moment, and the one tree as the union of the masters' parts (X.501, section 22).
use Rattle.std.specs.Prelude.{◌≡◌, ◌↔◌, true, map}
use Rattle.std.specs.List.{list_all}
use Rattle.x5_model.specs.Words.{ascending}
use Rattle.x5_model.specs.Members.{In}
use Rattle.x5_model.specs.Keys.{Key}
use Rattle.x5_model.specs.Entries.{Named}
use Rattle.x5_model.specs.Attributes.{is_ordered}
use Rattle.x5_model_tree.specs.Tree.{Tree, IsTree, keys_of, named_below, part}
use Rattle.x5_model_tree.specs.Masters.{pins, whole}
use Rattle.x5_model_tree.specs.Consistent.{IsConsistent}
use Rattle.x5_model_tree.specs.Good.{Good}
use Rattle.x5_model_tree.specs.Described.{IsDescribed}
use Rattle.x5_model_run.specs.History.{Point, knowledge_at, tree_at, world_at}
use Rattle.x5_model_theory.specs.Knowledge.{Knowledge, Area}
use Rattle.x5_model_theory.specs.Described.{knowledge_of}
use Rattle.x5_model_theory.specs.Coherent.{Coherent}

-- the tree of this knowledge: in order, its pins are the prefixes of the contexts, a context has the keys of its part,
-- and each entry is in the part of some context
pub record IsTreeOf (k : Knowledge) (t : Tree) : Type 0 where
  pub in_order : ascending named_below t.entries ≡ true
  pub pins : (q : Key) → In q t.pins ↔ In q (map (λ (c : Area). c.prefix) k.areas)
  pub parts : (c : Area) → In c k.areas → c.entries ≡ keys_of (part t c.prefix)
  pub parted : (e : Named) → In e t.entries → (c : Area) × In c k.areas × In e (part t c.prefix)

-- `knowledge_at` has the contexts and references of the line with the entries of the world file, `world_at` has them
-- with the entries of the moment
pub record StandsWhole (p : Point) : Type 0 where
  pub described : IsDescribed (knowledge_at p)
  pub consistent : IsConsistent (knowledge_at p)
  pub coherent : Coherent (knowledge_of (world_at p))
  pub ordered : list_all (λ e. is_ordered e.entry) (tree_at p).entries ≡ true
  pub tree : IsTreeOf (knowledge_of (world_at p)) (tree_at p)

-- So the tree is what its masters have together, and it is a tree.
abbrev pub TreeIsUnion : Type 0
TreeIsUnion =
    (p : Point) → StandsWhole p
    → ((whole (world_at p)).entries ≡ (tree_at p).entries) × ((q : Key) → In q (tree_at p).pins ↔ In q (pins (world_at p)))

abbrev pub StandsAsTree : Type 0
StandsAsTree = (p : Point) → StandsWhole p → IsTree (tree_at p)

-- The world with the entries of the moment meets the ten conditions themselves, and what follows from them of contexts
-- and keys.
abbrev pub StandsConsistent : Type 0
StandsConsistent = (p : Point) → StandsWhole p → IsConsistent (world_at p)

abbrev pub StandsGood : Type 0
StandsGood = (p : Point) → StandsWhole p → Good (world_at p)
