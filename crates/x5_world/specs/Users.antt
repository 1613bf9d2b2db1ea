-- The user's message, which is what the request is judged by.
use Rattle.std.specs.Prelude.{◌≡◌, ℕ}
use Rattle.x5_model.specs.References.{Chained}
use Rattle.x5_model.specs.Answers.{Reply}
use Rattle.x5_model_run.specs.Chain.{Scene}
use Rattle.x5_model_serve.specs.Answering.{is_unavailable, in_vain}
use Rattle.x5_model_serve.specs.Serving.{asked_by, hand}

-- the user sends it to this agent
pub record IsUsers (s : Scene) (first : ℕ) (m : Chained) : Type 0 where
  pub first_is : first ≡ s.first
  pub message_is : m ≡ s.message

-- what he has where he hears nothing
abbrev pub user_in_vain_at : ℕ → Chained → Reply
user_in_vain_at first m = is_unavailable (in_vain (asked_by (hand first m)))
