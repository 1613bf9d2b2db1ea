-- What an agent says of a message is what is found at it, while it holds what it says it by: name resolution, its part of
-- a list or search and the references for the rest are functions of what is held.
use Rattle.std.proofs.Common.{◌≡◌, ℕ, List, inl, inr, ap, ◌∙◌}
use Rattle.x5_model.specs.References.{Chained}
use Rattle.x5_model_run.specs.Chain.{Scene}
use Rattle.x5_model_run.specs.Holdings.{Holdings}
use Rattle.x5_model_run.specs.Journal.{Journal}
use Rattle.x5_model_serve.specs.Answering.{local_part, rest_of_parts}
use Rattle.x5_model_serve.specs.Finding as finding
use Rattle.x5_model_serve.specs.Serving.{begins_parts, hand, holds_now}
use Rattle.x5_serve.specs.declared.network.Found.{Found}
use Rattle.x5_serve.specs.declared.network.Found.TheVariants as found
use Rattle.x5_serve.specs.Networks.{IsFound}
use Rattle.x5_agent.specs.Answers.{IsSaid}
use Rattle.x5_agent.proofs.Alone.{no_update, without_parts}

-- What it says is what is found at it, while what it holds is what it holds now.
pub said_is_found : (s : Scene) (j : Journal) (names : List (List ℕ)) (h : Holdings) (m : Chained)
    → holds_now s j (hand h.me m) ≡ h → (f : Found) → IsSaid names h m f → IsFound s names j (hand h.me m) f
said_is_found s j names h m now (found.Told y) (one, inl (c, e, r)) =
    inl (c, ap (λ (g : Holdings). finding.find g m) now ∙ e, no_update m.request.body one, without_parts m one, r)
said_is_found s j names h m now (found.Told y) (one, inr (c, e, r)) =
    inr (c, ap (λ (g : Holdings). finding.find g m) now ∙ e, without_parts m one, r)
said_is_found s j names h m now (found.Part a rs) e = record {
  begins = ap (λ (g : Holdings). begins_parts (hand h.me m) (finding.find g m)) now ∙ e.begins;
  part = ap (λ (g : Holdings). local_part g m) now ∙ e.part;
  rest = ap (λ (g : Holdings). rest_of_parts g m) now ∙ e.rest;
  kind = e.kind;
}
said_is_found s j names h m now found.Due (c, e, u) = (c, ap (λ (g : Holdings). finding.find g m) now ∙ e, u)
said_is_found s j names h m now (found.Onward r) e = ap (λ (g : Holdings). finding.find g m) now ∙ e
said_is_found s j names h m now (found.Nowhere n) e = ap (λ (g : Holdings). finding.find g m) now ∙ e
said_is_found s j names h m now found.Stuck e = ap (λ (g : Holdings). finding.find g m) now ∙ e
