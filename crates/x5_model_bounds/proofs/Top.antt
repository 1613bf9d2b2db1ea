-- A request takes fewer messages than its budget: what serving it costs, once more for each reply that is lost.
use Rattle.std.proofs.Common.{ℕ, ◌+◌, ◌*◌, ◌<◌, ◌≤◌, nat_lt, inl, inr, length, refl, sym, subst, arith}
use Rattle.std.proofs.lemmas.Nat.{mul-le}
use Rattle.std.specs.List.{filter}
use Rattle.x5_model.specs.Requests.{Request}
use Rattle.x5_model.specs.Answers.{Reply}
use Rattle.x5_model_tree.specs.Ask.{is_update}
use Rattle.x5_model_run.specs.Journal.{Journal}
use Rattle.x5_model_run.specs.History.{Point, network_at, sent_before}
use Rattle.x5_model_run.specs.Chain.{scene_at, opening}
use Rattle.x5_model_run.specs.Stage.{budget, once_each}
use Rattle.x5_model_serve.specs.Serving.{hand, with_line, user_line, nothing_yet, Serves, Does, IsRequest, not_heard, not_told, answers}
use Rattle.x5_model_serve.specs.Claims.{Setting}
use Rattle.x5_model_bounds.specs.Costs.{serving_cost, whole_cost, lost_cost}
use Rattle.x5_model_bounds.specs.Bounds.{Ready, Stays, ServingPays, NeverSpent}
use Rattle.x5_model_bounds.proofs.Losses.{lost_within}
use Rattle.x5_model_bounds.proofs.Whole.{serving_small}

within : (n g w r l x : ℕ) → n + x ≤ (1 + g) + l → l ≤ r * w → 2 + g ≤ w → n < w * (1 + r)
within n g w r l x p q h = omega arith

one : (w r g : ℕ) → 2 + g ≤ w → 1 < w * (1 + r)
one w r g h = omega (arith, mul-le 2 1 w (1 + r) (omega arith) (omega arith))

module _ (serving : ServingPays) (p : Point) (first : ℕ) (r : Request) (set : Setting p (scene_at p first r)) where
  ready : Ready p (scene_at p first r) (hand first (opening r))
  ready = record { placed = set.first; updates = λ e. refl }

  nobody : Stays p (scene_at p first r) (is_update r.body) (with_line (user_line (scene_at p first r)) nothing_yet)
  nobody = record { masters = λ a i. elim i [ ]; quiet = inr refl }

  small : 2 + serving_cost p first (opening r) ≤ whole_cost p
  small = serving_small p first (opening r)

  alone : 1 < budget p
  alone = one (whole_cost p) (length (once_each (filter (λ number. nat_lt (sent_before p.past) number) (network_at p).lost_replies))) (serving_cost p first (opening r)) small

  served : (j : Journal) (reply : Reply) → Does (scene_at p first r) (budget p) (Serves (hand first (opening r)) reply) (with_line (user_line (scene_at p first r)) nothing_yet) j → length j.lines < budget p
  served j reply d =
      elim (serving p (scene_at p first r) (budget p) _ _ _ set d ready nobody) [
        | inl x ↦
            within (length j.lines) (serving_cost p first (opening r)) (whole_cost p) (length (once_each (filter (λ number. nat_lt (sent_before p.past) number) (network_at p).lost_replies))) (lost_cost (scene_at p first r) (whole_cost p) (length j.lines)) (lost_cost (scene_at p first r) (whole_cost p) 1)
            x.1.costs (lost_within (scene_at p first r) (whole_cost p) (length j.lines)) small
        | inr x ↦ subst (λ (i : Journal). length i.lines < budget p) (sym x.1) alone
      ]

  few : (j : Journal) (reply : Reply) → IsRequest (scene_at p first r) (budget p) j reply → length j.lines < budget p
  few _ _ (not_heard e) = alone
  few j _ (not_told y e d) = served j y d
  few j _ (answers y e d) = served j y d

pub never_spent : ServingPays → NeverSpent
never_spent serving p first r j reply set q = few serving p first r set j reply q
