-- A message of a refresh as it's printed: it is between the agreement's two agents, in the operation's direction.
use Rattle.std.proofs.Common.{◌≡◌, ℕ, List, [], ◌∷◌, ap, ◌∙◌}
use Rattle.x5_model_tree.specs.World.{Agreement}
use Rattle.x5_model_run.specs.Network.{Fate}
use Rattle.x5_model_run.specs.Refresh.{ShadowOperation, RequestShadowUpdate, UpdateShadow, CoordinateShadowUpdate}
use Rattle.x5_ops.specs.AgentNames.{agent_of}
use Rattle.x5_refresh.specs.Course.{line_of}

-- who sends it, and who receives it
abbrev pub parties : ShadowOperation → Agreement → ℕ × ℕ
parties RequestShadowUpdate g = (g.consumer, g.supplier)
parties UpdateShadow g = (g.supplier, g.consumer)
parties CoordinateShadowUpdate g = (g.supplier, g.consumer)

pub printed_so : (names : List (List ℕ)) (g : Agreement) (o : ShadowOperation) (fate : Fate) (number : ℕ) (sides : ℕ × ℕ)
    (x y : List ℕ) → agent_of names x ≡ sides.0 → agent_of names y ≡ sides.1 → sides ≡ parties o g → number ≡ g.number
    → (record { sender = agent_of names x; receiver = agent_of names y; operation = o; agreement = number; fate = fate } ∷ [])
    ≡ (line_of g o fate ∷ [])
printed_so names g RequestShadowUpdate fate number sides x y s r e n =
    λ i. record {
      sender = (s ∙ ap (λ (p : ℕ × ℕ). p.0) e) i;
      receiver = (r ∙ ap (λ (p : ℕ × ℕ). p.1) e) i;
      operation = RequestShadowUpdate;
      agreement = n i;
      fate = fate;
    } ∷ []
printed_so names g UpdateShadow fate number sides x y s r e n =
    λ i. record {
      sender = (s ∙ ap (λ (p : ℕ × ℕ). p.0) e) i;
      receiver = (r ∙ ap (λ (p : ℕ × ℕ). p.1) e) i;
      operation = UpdateShadow;
      agreement = n i;
      fate = fate;
    } ∷ []
printed_so names g CoordinateShadowUpdate fate number sides x y s r e n =
    λ i. record {
      sender = (s ∙ ap (λ (p : ℕ × ℕ). p.0) e) i;
      receiver = (r ∙ ap (λ (p : ℕ × ℕ). p.1) e) i;
      operation = CoordinateShadowUpdate;
      agreement = n i;
      fate = fate;
    } ∷ []
