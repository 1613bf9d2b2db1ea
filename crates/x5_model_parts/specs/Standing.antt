-- What a line of a run over consistent knowledge finds: the contexts with the entries that the tree has of them by
-- then.
use Rattle.std.specs.Prelude.{◌≡◌, ◌↔◌, List, [], ◌∷◌, ⊤, Some, ℕ}
use Rattle.x5_model.specs.Members.{In}
use Rattle.x5_model.specs.Keys.{Key}
use Rattle.x5_model_tree.specs.World.{Agreement, World}
use Rattle.x5_model_tree.specs.Tree.{keys_of, part}
use Rattle.x5_model_tree.specs.Masters.{pins}
use Rattle.x5_model_tree.specs.Consistent.{IsConsistent}
use Rattle.x5_model_tree.specs.Described.{IsDescribed}
use Rattle.x5_model_run.specs.History.{Deed, Nothing, Outs, Loses, Accepts, Refreshes, Splits, Unsplits, Did, Point}
use Rattle.x5_model_run.specs.History.{tree_at, tree_of_moment, as_of, knowledge_at}
use Rattle.x5_model_theory.specs.Knowledge.{Knowledge}
use Rattle.x5_model_theory.specs.Coherent.{Coherent}
use Rattle.x5_model_theory.specs.Described.{knowledge_of}
use Rattle.x5_model_theory.specs.Changing.{with_entries}

-- the knowledge that it finds, by keys: each context with its part of the tree
abbrev pub knowledge_now : Point → Knowledge
knowledge_now p = with_entries (λ c. keys_of (part (tree_at p) c.prefix)) (knowledge_of (knowledge_at p))

-- The world is as a description may be and its knowledge is consistent; accepted updates have kept what knowledge says
-- by keys; and the tree's pins are the prefixes of contexts.
pub record Stands (p : Point) : Type 0 where
  pub described : IsDescribed (knowledge_at p)
  pub consistent : IsConsistent (knowledge_at p)
  pub coherent : Coherent (knowledge_now p)
  pub pins_are : (q : Key) → In q (tree_at p).pins ↔ In q (pins (knowledge_at p))

-- So it was at each moment as of which an agent has a copy.
pub record StoodAt (p : Point) (moment : ℕ) : Type 0 where
  pub coherent : Coherent (with_entries (λ c. keys_of (part (tree_of_moment p moment) c.prefix))
      (knowledge_of (knowledge_at p)))
  pub pins_are : (q : Key) → In q (tree_of_moment p moment).pins ↔ In q (pins (knowledge_at p))

abbrev pub CopiesStand : Point → Type 0
CopiesStand p =
    (g : Agreement) (moment : ℕ) → In g (knowledge_at p).agreements → as_of p g.number ≡ Some moment → StoodAt p moment

-- So it is at least while no update was accepted and no context was moved.
abbrev pub keeps_tree : Deed → Type 0
keeps_tree Nothing = ⊤
keeps_tree (Outs o) = ⊤
keeps_tree (Loses reply k) = ⊤
keeps_tree (Accepts accepted) = ⊥
keeps_tree (Refreshes f) = ⊤
keeps_tree (Splits name a) = ⊥
keeps_tree (Unsplits name) = ⊥

abbrev pub KeepTree : List Did → Type 0
KeepTree [] = ⊤
KeepTree (d ∷ before) = keeps_tree d.deed × KeepTree before

abbrev pub StandsAtFirst : Type 0
StandsAtFirst = (w : World) (past : List Did) → IsDescribed w → IsConsistent w → KeepTree past
    → Stands (record { described = w; past = past }) × CopiesStand (record { described = w; past = past })
