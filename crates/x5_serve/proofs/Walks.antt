-- What the loops over agents and references keep.
use Rattle.std.proofs.Common.{◌≡◌, ℕ, ◌≤◌, List, Some}
use Rattle.x5_model_run.specs.Chain.{Scene}
use Rattle.x5_model_run.specs.Journal.{Journal}
use Rattle.x5_model_serve.specs.Serving.{hand, carried_for}
use Rattle.x5_ops.specs.ReferenceViews.{chained_view, reference_view}
use Rattle.x5_ops.specs.declared.references.AccessPoint.{AccessPoint}
use Rattle.x5_ops.specs.declared.references.Chained.{Chained}
use Rattle.x5_ops.specs.declared.references.Reference.{Reference}
use Rattle.x5_serve.specs.Networks.{left_of, Stays}
use Rattle.x5_serve.specs.Sendable.{MayBeSent}

-- the network stays what it is, and no message comes back
pub record Goes {N : Type 0} (scene : N → Scene) (most : N → ℕ) (names : N → List (List ℕ)) (journal : N → Journal)
    (old new : N)
    : Type 0 where
  pub stays : Stays scene most names old new
  pub left : left_of (most new) (journal new) ≤ left_of (most old) (journal old)

-- what is sent by the reference for the owner's message
pub record Carries (names : List (List ℕ)) (owner : ℕ) (message : Chained) (reference : Reference) (onward : Chained)
    (agents : List AccessPoint) : Type 0 where
  pub agents_are : agents ≡ reference.agents
  pub onward_is : (from : ℕ)
      → chained_view names onward ≡ carried_for (Some from) (hand owner (chained_view names message))
      (reference_view names reference)
  pub sent : MayBeSent names onward
