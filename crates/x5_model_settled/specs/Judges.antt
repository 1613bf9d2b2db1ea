-- The judge of messages over consistent knowledge.
use Rattle.std.specs.Prelude.{◌≡◌, ℕ}
use Rattle.x5_model.specs.Requests.{Request}
use Rattle.x5_model.specs.References.{Chained}
use Rattle.x5_model.specs.Answers.{Reply}
use Rattle.x5_model_run.specs.Journal.{Journal}
use Rattle.x5_model_run.specs.History.{Point}
use Rattle.x5_model_run.specs.Chain.{opening, scene_at}
use Rattle.x5_model_run.specs.Right.{SendsRight}
use Rattle.x5_model_run.specs.Thorough.{Thorough}

-- What is accepted of a message is right; and a user's request is answered right, and no message that it needs is left
-- out.
pub record RightAndWhole (p : Point) (to : ℕ) (m : Chained) (j : Journal) (reply : Reply) : Type 0 where
  pub sends : SendsRight p to m j reply
  pub whole : (r : Request) → m ≡ opening r → Thorough (scene_at p to r) j
