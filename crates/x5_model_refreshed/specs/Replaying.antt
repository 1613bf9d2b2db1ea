-- A log replays: from the entries that a context had at an earlier moment its later steps make the entries of now; so
-- an incremental refresh brings a consumer's copy to its supplier's entries (X.525, sections 7 and 9).
use Rattle.std.specs.Prelude.{◌≡◌, ℕ, ◌-◌, ◌≤◌, true, false, ◌==◌, nat_lt, ⊤, List, [], ◌∷◌, length, reverse, drop}
use Rattle.std.specs.List.{find}
use Rattle.std.specs.declared.option.Option.TheVariants.{Some}
use Rattle.std.specs.declared.result.Result.TheVariants.{Ok}
use Rattle.x5_model.specs.Members.{In}
use Rattle.x5_model.specs.Keys.{Key}
use Rattle.x5_model.specs.Values.{key_of}
use Rattle.x5_model_tree.specs.World.{Agreement, World}
use Rattle.x5_model_tree.specs.Tree.{Tree, part}
use Rattle.x5_model_tree.specs.Masters.{masters}
use Rattle.x5_model_tree.specs.Ask.{is_update}
use Rattle.x5_model_tree.specs.Apply.{apply}
use Rattle.x5_model_tree.specs.Consistent.{IsConsistent}
use Rattle.x5_model_tree.specs.Described.{IsDescribed}
use Rattle.x5_model_run.specs.History.{Acceptance, Refreshed, Deed, Nothing, Outs, Loses, Accepts, Refreshes, Splits}
use Rattle.x5_model_run.specs.History.{Unsplits, Did, Point, tree_with, tree_at, tree_of_moment, knowledge_at}
use Rattle.x5_model_run.specs.History.{refreshes_of, as_of, copy_by}
use Rattle.x5_model_run.specs.Refresh.{changes_at, base_of, later_than, supplied, consumed_by}
use Rattle.x5_model_run.specs.Run.{Command, Block, Judge, IsRun}
use Rattle.x5_model_refreshed.specs.Refreshed.{after_refresh}
use Rattle.x5_model_refreshed.specs.Steps.{replay}
use Rattle.x5_model_refreshed.specs.Logs.{Log, moments_of, steps_later, log_at, stamps_since}

-- ---- what the lines before did

-- updates that agents accepted are updates, which the tree took, one after the other
abbrev pub AreTaken : Tree → List Acceptance → Type 0
AreTaken t [] = ⊤
AreTaken t (a ∷ more) =
    (is_update a.request.body ≡ true) × ((u : Tree) × (apply t a.request ≡ Ok u))
    × AreTaken (tree_with t a.request) more

-- An incremental refresh goes on from the copy's moment, from which its supplier still has all changes; it counts them.
pub record GoesOn (p : Point) (g : Agreement) (f : Refreshed) : Type 0 where
  pub from : ℕ
  pub last : as_of p g.number ≡ Some from
  pub known : nat_lt from (base_of (changes_at p g.supplier (key_of g.context))) ≡ false
  pub count : f.count ≡ later_than from (changes_at p g.supplier (key_of g.context))

-- A refresh is by an agreement, and stamped with the moment as of which its supplier has the context.
pub record IsBrought (p : Point) (f : Refreshed) : Type 0 where
  pub agreement : Agreement
  pub found : find (λ g. g.number == f.agreement) (knowledge_at p).agreements ≡ Some agreement
  pub stamp : supplied p agreement ≡ Some f.stamp
  pub since : f.total ≡ false → GoesOn p agreement f

-- no context was moved
abbrev pub Happens : Point → Deed → Type 0
Happens p Nothing = ⊤
Happens p (Outs o) = ⊤
Happens p (Loses reply k) = ⊤
Happens p (Accepts accepted) = AreTaken (tree_at p) accepted
Happens p (Refreshes f) = IsBrought p f
Happens p (Splits name a) = ⊥
Happens p (Unsplits name) = ⊥

abbrev pub AllHappen : World → List Did → Type 0
AllHappen w [] = ⊤
AllHappen w (d ∷ before) = Happens (record { described = w; past = before }) d.deed × AllHappen w before

-- a line of a run over consistent knowledge
pub record IsLed (p : Point) : Type 0 where
  pub described : IsDescribed p.described
  pub consistent : IsConsistent p.described
  pub happened : AllHappen p.described p.past

-- ---- what logs say

-- 1. A log has the changes that are counted, the oldest first.
abbrev pub LogCounts : Type 0
LogCounts =
    (p : Point) (a : ℕ) (pin : Key) → IsLed p
    → moments_of (log_at p a pin) ≡ reverse (changes_at p a pin).moments

-- 2. The master's log replays from any moment.
abbrev pub MasterReplays : Type 0
MasterReplays =
    (p : Point) (a m : ℕ) (pin : Key) → IsLed p → masters (knowledge_at p) a pin ≡ true → m ≤ length p.past
    → replay (steps_later m (log_at p a pin)) (part (tree_of_moment p m) pin) ≡ part (tree_at p) pin

-- 3. A consumer's log replays from each stamp of its copy since the last total refresh, to the copy's stamp.
abbrev pub ConsumerReplays : Type 0
ConsumerReplays =
    (p : Point) (a m stamp : ℕ) (pin : Key) (g : Agreement) → IsLed p → masters (knowledge_at p) a pin ≡ false
    → consumed_by (knowledge_at p) a pin ≡ Some g → as_of p g.number ≡ Some stamp
    → In m (stamps_since (refreshes_of p.past g.number))
    → replay (steps_later m (log_at p a pin)) (part (tree_of_moment p m) pin) ≡ part (tree_of_moment p stamp) pin

-- 4. So the steps of an incremental refresh make of the copy's entries those of the copy after it.
abbrev pub RefreshReplays : Type 0
RefreshReplays =
    (p : Point) (f : Refreshed) (sent : ℕ) (g : Agreement) (m : ℕ) → IsLed p → IsBrought p f → f.total ≡ false
    → In g (knowledge_at p).agreements → g.number ≡ f.agreement → as_of p g.number ≡ Some m
    → replay (steps_later m (log_at p g.supplier (key_of g.context))) (copy_by p g).held.entries
    ≡ (copy_by (after_refresh p f sent) g).held.entries

-- 5. The last 256 changes have all steps that are later than a moment not before the base.
abbrev pub last_256 : Log → Log
last_256 log = drop (length log - 256) log

abbrev pub LastAreLater : Type 0
LastAreLater =
    (p : Point) (a m : ℕ) (pin : Key) → IsLed p → nat_lt m (base_of (changes_at p a pin)) ≡ false
    → steps_later m (last_256 (log_at p a pin)) ≡ steps_later m (log_at p a pin)

-- Every line of a run over consistent knowledge is led to so.
abbrev pub RunsLead : Judge → Type 0
RunsLead judge =
    (w : World) (commands : List Command) (blocks : List Block) (past : List Did) → IsDescribed w → IsConsistent w
    → IsRun judge w commands blocks past → IsLed (record { described = w; past = past })
