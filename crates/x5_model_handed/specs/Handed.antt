-- What is accepted of a message that a user hands to an agent, whatever the message says: how far it has come, by which
-- kind of reference, and through which agents (X.518, section 10: chaining arguments; sections 17 to 19).
use Rattle.std.specs.Prelude.{ℕ, ◌||◌, nat_le, IsTrue, length}
use Rattle.std.specs.List.{list_all}
use Rattle.x5_model.specs.Words.{is_empty}
use Rattle.x5_model.specs.References.{Chained}
use Rattle.x5_model.specs.Answers.{Reply}
use Rattle.x5_model_run.specs.Journal.{Journal, same_name}
use Rattle.x5_model_run.specs.Needs.{target_of}
use Rattle.x5_model_run.specs.History.{Point}
use Rattle.x5_model_run.specs.Chain.{scene_with}
use Rattle.x5_model_run.specs.Right.{is_accepted_right}
use Rattle.x5_model_updates.specs.Standing.{StandsWhole}
use Rattle.x5_model_serve.specs.Serving.{IsRequest}

-- One agent at most accepts: the master of the target's context, which has the message; and the tree doesn't refuse.
-- Then the message's target is what its request asks for.
pub record AcceptedRight (p : Point) (first : ℕ) (m : Chained) (j : Journal) : Type 0 where
  pub one : IsTrue (nat_le (length j.accepted) 1)
  pub right : IsTrue (list_all (is_accepted_right p (scene_with p first m) j.lines) j.accepted)
  pub fit : IsTrue (is_empty j.accepted || same_name (target_of m.request.body) m.target)

-- So it is for any message to any agent, however many messages may be sent for it.
abbrev pub AnyIsRight : Type 0
AnyIsRight =
    (p : Point) (first : ℕ) (m : Chained) (most : ℕ) (j : Journal) (reply : Reply)
    → StandsWhole p → IsRequest (scene_with p first m) most j reply → AcceptedRight p first m j
