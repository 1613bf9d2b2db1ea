-- What a refresh line is to the next one: a refresh comes by the agreement of its number, as it was told. By cases of the block.
use Rattle.std.proofs.Common.{◌≡◌, ℕ, ◌==◌, Bool, true, false, not, ◌&&◌, if◌then◌else◌, ◌∷◌, [], length, refl, ap, subst, Option, Some, None}
use Rattle.std.specs.Prelude.{⊤}
use Rattle.std.specs.List.{find}
use Rattle.std.specs.Option.{is_some}
use Rattle.x5_model.proofs.Lists.{of_find}
use Rattle.x5_model.proofs.Decide.{nat_same_decides}
use Rattle.x5_model_tree.specs.World.{Agreement}
use Rattle.x5_model_tree.specs.Consistent.{first_breach}
use Rattle.x5_model_run.specs.Network.{is_lost, is_unheard, is_sent}
use Rattle.x5_model_run.specs.History.{Refreshed, Nothing, Point, knowledge_at, as_of, acked}
use Rattle.x5_model_run.specs.Refresh.{RequestShadowUpdate, UpdateShadow, CoordinateShadowUpdate, ShadowLine, RefreshOutcome, Done, Unheard, Problem, Missed, NotConsistent, RefreshBlock, inactive_agreement, full_update_required, invalid_agreement_id, supplied, peer_moment, same_moment, needs_total, shadow_line, ended, updates_with, refresh_with, pull, push, refresh_block}
use Rattle.x5_model_run.specs.Run.{Updates, Refreshing, refreshed_by}
use Rattle.x5_model_refreshed.specs.Growing.{after_deed}
use Rattle.x5_model_refreshed.specs.Bringing.{after_block, IsBlockOf, BlockBrings, BringsNothing, OthersDoNothing, BlocksLead}
use Rattle.x5_model_refreshed.specs.Replaying.{IsBrought}
use Rattle.x5_model_refreshed.proofs.Running.{Fits, block_fits, did_happen}

-- ---- what a refresh says of itself

abbrev Tells : ℕ → Bool → RefreshOutcome → Type 0
Tells number total (Done f) = (f.agreement ≡ number) × (f.total ≡ total)
Tells number total Unheard = ⊤
Tells number total (Problem k) = ⊤
Tells number total (Missed a b) = ⊤
Tells number total NotConsistent = ⊤

either : (number : ℕ) (total b : Bool) (x y : RefreshBlock) → Tells number total x.outcome → Tells number total y.outcome
    → Tells number total (if b then x else y).outcome
either number total true x y f g = f
either number total false x y f g = g

module _ (p : Point) (total : Bool) where
  updates_tell : (pushes : Bool) (g : Agreement) (stamp : ℕ) (first last : ShadowLine)
      → Tells g.number total (updates_with first last (refresh_with p pushes total g stamp)).outcome
  updates_tell pushes g stamp first last =
      either g.number total (is_lost last.fate) (ended (first ∷ last ∷ []) Unheard)
      (ended (first ∷ last ∷ []) (Done (record (refresh_with p pushes total g stamp) { acknowledged = is_sent last.fate }))) tt (refl, refl)

  pull_tells : (g : Agreement) → Tells g.number total (pull p total g).outcome
  pull_tells g = by (supplied p g) refl
    where
      first : ShadowLine
      first = shadow_line p g 1 RequestShadowUpdate

      none : Tells g.number total (if is_unheard first.fate then ended (first ∷ []) Unheard else ended (first ∷ []) (Problem inactive_agreement)).outcome
      none = either g.number total (is_unheard first.fate) (ended (first ∷ []) Unheard) (ended (first ∷ []) (Problem inactive_agreement)) tt tt

      by : (o : Option ℕ) → supplied p g ≡ o → Tells g.number total (pull p total g).outcome
      by None e = rw e none
      by (Some stamp) e =
          rw e
          (either g.number total (is_unheard first.fate) (ended (first ∷ []) Unheard) _ tt
          (either g.number total (not total && needs_total p g (peer_moment p false g)) (ended (first ∷ []) (Problem full_update_required))
          (updates_with first (shadow_line p g 2 UpdateShadow) (refresh_with p false total g stamp)) tt
          (updates_tell false g stamp first (shadow_line p g 2 UpdateShadow))))

  push_tells : (g : Agreement) → Tells g.number total (push p total g).outcome
  push_tells g = by (supplied p g) refl
    where
      first : ShadowLine
      first = shadow_line p g 1 CoordinateShadowUpdate

      by : (o : Option ℕ) → supplied p g ≡ o → Tells g.number total (push p total g).outcome
      by None e = rw e tt
      by (Some stamp) e =
          rw e
          (either g.number total (not total && needs_total p g (peer_moment p true g)) (ended [] (Problem full_update_required)) _ tt
          (either g.number total (is_unheard first.fate) (ended (first ∷ []) Unheard) _ tt
          (either g.number total (not total && not (same_moment (acked p g.number) (as_of p g.number)))
          (ended (first ∷ []) (Missed (as_of p g.number) (acked p g.number)))
          (updates_with first (shadow_line p g 2 UpdateShadow) (refresh_with p true total g stamp)) tt
          (updates_tell true g stamp first (shadow_line p g 2 UpdateShadow)))))

  block_tells : (number : ℕ) (pushes : Bool) → Tells number total (refresh_block p number pushes total).outcome
  block_tells number pushes =
      either number total (is_some (first_breach p.described)) (ended [] NotConsistent) _ tt
      (by (find (λ (g : Agreement). g.number == number) (knowledge_at p).agreements) refl)
    where
      block : Option Agreement → RefreshBlock
      block None = ended [] (Problem invalid_agreement_id)
      block (Some g) = if pushes then push p total g else pull p total g

      by : (o : Option Agreement) → find (λ (g : Agreement). g.number == number) (knowledge_at p).agreements ≡ o
          → Tells number total (block o).outcome
      by None e = tt
      by (Some g) e =
          let v = of_find (λ (x : Agreement). x.number == number) g (knowledge_at p).agreements e in
          subst (λ (n : ℕ). Tells n total (block (Some g)).outcome) ((nat_same_decides g.number number).0 v.1)
          (either g.number total pushes (push p total g) (pull p total g) (push_tells g) (pull_tells g))

-- ---- the next line

module _ (p : Point) (number : ℕ) (pushes total : Bool) where
  abbrev outcome : RefreshOutcome
  outcome = (refresh_block p number pushes total).outcome

  abbrev sent : ℕ
  sent = length (refresh_block p number pushes total).lines

  next_by : (o : RefreshOutcome) → outcome ≡ o → after_block p number pushes total ≡ after_deed p (refreshed_by o) sent
  next_by o e = ap (λ (x : RefreshOutcome). after_deed p (refreshed_by x) sent) e

  block_of : (f : Refreshed) → outcome ≡ Done f → IsBlockOf p number pushes total f
  block_of f e =
      let is : IsBrought p f = subst (Fits p) e (block_fits p number pushes total) in
      let told = subst (Tells number total) e (block_tells p total number pushes) in
      let v = of_find (λ (g : Agreement). g.number == f.agreement) is.agreement (knowledge_at p).agreements is.found in
      record {
        brought = is;
        of_number = told.0;
        as_told = told.1;
        found = subst (λ (n : ℕ). find (λ (g : Agreement). g.number == n) (knowledge_at p).agreements ≡ Some is.agreement) told.0 is.found;
        there = v.0;
        numbered = (nat_same_decides is.agreement.number f.agreement).0 v.1;
        next = next_by (Done f) e;
      }

  nothing_by : (o : RefreshOutcome) → outcome ≡ o → BringsNothing o → after_block p number pushes total ≡ after_deed p Nothing sent
  nothing_by (Done f) e n = absurd n
  nothing_by Unheard e n = next_by Unheard e
  nothing_by (Problem k) e n = next_by (Problem k) e
  nothing_by (Missed a b) e n = next_by (Missed a b) e
  nothing_by NotConsistent e n = next_by NotConsistent e

pub block_brings : BlockBrings
block_brings p number pushes total f e = block_of p number pushes total f e

pub others_do_nothing : OthersDoNothing
others_do_nothing p number pushes total n = nothing_by p number pushes total (outcome p number pushes total) refl n

pub blocks_lead : BlocksLead
blocks_lead p number pushes total led = record {
  described = led.described;
  consistent = led.consistent;
  happened = (did_happen p (Updates number pushes total) (Refreshing (refresh_block p number pushes total)) refl, led.happened);
}
