-- Accepted updates keep knowledge consistent: at every line of a run.
use Rattle.std.specs.Prelude.{◌≡◌, true, ⊤, List, [], ◌∷◌}
use Rattle.std.specs.declared.result.Result.TheVariants.{Ok}
use Rattle.std.specs.List.{list_all}
use Rattle.x5_model.specs.Keys.{Key}
use Rattle.x5_model.specs.Requests.{Request}
use Rattle.x5_model.specs.Attributes.{is_ordered}
use Rattle.x5_model_tree.specs.World.{World}
use Rattle.x5_model_tree.specs.Tree.{Tree, keys_of, part}
use Rattle.x5_model_tree.specs.Consistent.{IsConsistent}
use Rattle.x5_model_tree.specs.Described.{IsDescribed}
use Rattle.x5_model_tree.specs.Apply.{apply}
use Rattle.x5_model_run.specs.History.{Deed, Nothing, Outs, Loses, Accepts, Refreshes, Splits, Unsplits, Did}
use Rattle.x5_model_run.specs.Run.{Command, Block, Judge, IsRun}
use Rattle.x5_model_theory.specs.Knowledge.{Knowledge, Area}
use Rattle.x5_model_theory.specs.Coherent.{Coherent}
use Rattle.x5_model_theory.specs.Changing.{with_entries}
use Rattle.x5_model_updates.specs.Standing.{IsTreeOf, StandsWhole}

-- the keys that a context has of a tree
abbrev pub keys_in : Tree → Area → List Key
keys_in t c = keys_of (part t c.prefix)

-- 1. An accepted update keeps knowledge coherent, with the parts of the tree afterwards as the contexts' entries.
abbrev pub UpdatesKeep : Type 0
UpdatesKeep = (k : Knowledge) (t u : Tree) (r : Request) → Coherent k → IsTreeOf k t → apply t r ≡ Ok u
    → Coherent (with_entries (keys_in u) k) × IsTreeOf (with_entries (keys_in u) k) u

-- And entries stay in order: their attributes by type, and the values of each by their normal forms.
abbrev pub OrderStays : Type 0
OrderStays = (k : Knowledge) (t u : Tree) (r : Request) → Coherent k → IsTreeOf k t →
    list_all (λ e. is_ordered e.entry) t.entries ≡ true → apply t r ≡ Ok u
    → list_all (λ e. is_ordered e.entry) u.entries ≡ true

-- no context was moved
abbrev pub MovesNone : Deed → Type 0
MovesNone Nothing = ⊤
MovesNone (Outs o) = ⊤
MovesNone (Loses reply k) = ⊤
MovesNone (Accepts accepted) = ⊤
MovesNone (Refreshes f) = ⊤
MovesNone (Splits name a) = ⊥
MovesNone (Unsplits name) = ⊥

abbrev pub NoneMoved : List Did → Type 0
NoneMoved [] = ⊤
NoneMoved (d ∷ before) = MovesNone d.deed × NoneMoved before

-- 2. So it stands at every line that was led to without moving contexts, whatever was accepted, and at every line of a
-- run.
abbrev pub LinesStand : Type 0
LinesStand = (w : World) (past : List Did) → IsDescribed w → IsConsistent w → NoneMoved past →
    StandsWhole (record { described = w; past = past })

abbrev pub RunsStand : Judge → Type 0
RunsStand judge =
    (w : World) (commands : List Command) (blocks : List Block) (past : List Did) → IsDescribed w → IsConsistent w
    → IsRun judge w commands blocks past → StandsWhole (record { described = w; past = past })
