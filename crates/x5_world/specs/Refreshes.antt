-- What a refresh by an agreement does at a line of a run over consistent knowledge (X.525, sections 9 to 12).
use Rattle.std.specs.Prelude.{◌≡◌, ℕ, Bool}
use Rattle.x5_model_tree.specs.Consistent.{IsConsistent}
use Rattle.x5_model_tree.specs.World.{names_of_agents}
use Rattle.x5_model_run.specs.History.{Point}
use Rattle.x5_model_run.specs.Refresh.{refresh_block}
use Rattle.x5_model_run.specs.Run.{Updates, Refreshing, did_by}
use Rattle.x5_ops.specs.RefreshViews.{shadows_view, refreshed_view}
use Rattle.x5_world.specs.State.{Net, StandsAt, after}
use Rattle.x5_world.specs.declared.refreshment.Refreshment.{Refreshment}

-- it is the network of a line over consistent knowledge
pub record IsSound (n : Net) : Type 0 where
  pub point : Point
  pub stands : StandsAt n point
  pub consistent : IsConsistent point.described

-- The messages, as they're printed, and what became of it are those of the refresh's block; then it's the network of
-- the next line.
pub record IsRefreshedAt (new : Net) (p : Point) (number : ℕ) (push total : Bool) (r : Refreshment) : Type 0 where
  pub lines : (refresh_block p number push total).lines ≡ shadows_view (names_of_agents p.described) r.lines
  pub outcome : (refresh_block p number push total).outcome ≡ refreshed_view r.heard number r.became
  pub stands : StandsAt new
      (after (did_by (Updates number push total) (Refreshing (refresh_block p number push total))) p)
