-- Over consistent knowledge the block of a refresh is the course of what it looks at: by the cases that both tell apart.
use Rattle.std.proofs.Common.{◌≡◌, ℕ, Bool, true, false, not, ◌&&◌, if◌then◌else◌, [], ◌∷◌, refl, Option, Some, None}
use Rattle.std.specs.Option.{option_map}
use Rattle.x5_model_tree.specs.World.{Agreement}
use Rattle.x5_model_run.specs.Network.{is_unheard, is_lost, is_sent}
use Rattle.x5_model_run.specs.History.{Refreshed, Point, as_of, acked}
use Rattle.x5_model_run.specs.Refresh.{RequestShadowUpdate, UpdateShadow, CoordinateShadowUpdate, ShadowLine, Done, Unheard, Problem, Missed, RefreshBlock, inactive_agreement, full_update_required, supplied, peer_moment, same_moment, needs_total, shadow_line, ended, refresh_with, pull, push}
use Rattle.x5_refresh.specs.Course.{problem_with, unless_ended, course, facts_at, BlocksAreCourses}

-- the steps of either, one after another, and the course's
module _ (first last : ShadowLine) (stamp : ℕ) (f : Refreshed) where
  pull_steps : (unheard short lost : Bool)
      → (if unheard then ended (first ∷ []) Unheard
      else (if short then ended (first ∷ []) (Problem full_update_required)
      else (if lost then ended (first ∷ last ∷ []) Unheard else ended (first ∷ last ∷ []) (Done f))))
      ≡ unless_ended (if unheard then Some Unheard else option_map Problem (problem_with short (Some stamp))) (first ∷ [])
      (ended (first ∷ last ∷ []) (if lost then Unheard else Done f))
  pull_steps true short lost = refl
  pull_steps false true lost = refl
  pull_steps false false true = refl
  pull_steps false false false = refl

  push_steps : (own acknowledged : Option ℕ) (unheard short miss lost : Bool)
      → (if short then ended [] (Problem full_update_required)
      else (if unheard then ended (first ∷ []) Unheard
      else (if miss then ended (first ∷ []) (Missed own acknowledged)
      else (if lost then ended (first ∷ last ∷ []) Unheard else ended (first ∷ last ∷ []) (Done f)))))
      ≡ unless_ended (option_map Problem (problem_with short (Some stamp))) []
      (unless_ended (if unheard then Some Unheard else (if miss then Some (Missed own acknowledged) else None)) (first ∷ [])
      (ended (first ∷ last ∷ []) (if lost then Unheard else Done f)))
  push_steps own acknowledged unheard true miss lost = refl
  push_steps own acknowledged true false miss lost = refl
  push_steps own acknowledged false false true lost = refl
  push_steps own acknowledged false false false true = refl
  push_steps own acknowledged false false false false = refl

inactive_pull : (first : ShadowLine) (next : RefreshBlock) (unheard : Bool)
    → (if unheard then ended (first ∷ []) Unheard else ended (first ∷ []) (Problem inactive_agreement))
    ≡ unless_ended (if unheard then Some Unheard else Some (Problem inactive_agreement)) (first ∷ []) next
inactive_pull first next true = refl
inactive_pull first next false = refl

module _ (p : Point) (total : Bool) (g : Agreement) where
  abbrev brings : Bool → ℕ → ShadowLine → Refreshed
  brings pushes stamp last = record (refresh_with p pushes total g stamp) { acknowledged = is_sent last.fate }

  pulled : (o : Option ℕ) → supplied p g ≡ o → pull p total g ≡ course false total g (facts_at p false total g)
  pulled None e =
      rw e (inactive_pull (shadow_line p g 1 RequestShadowUpdate) _ (is_unheard (shadow_line p g 1 RequestShadowUpdate).fate))
  pulled (Some stamp) e =
      rw e (pull_steps (shadow_line p g 1 RequestShadowUpdate) (shadow_line p g 2 UpdateShadow) stamp
      (brings false stamp (shadow_line p g 2 UpdateShadow)) (is_unheard (shadow_line p g 1 RequestShadowUpdate).fate)
      (not total && needs_total p g (peer_moment p false g)) (is_lost (shadow_line p g 2 UpdateShadow).fate))

  pushed : (o : Option ℕ) → supplied p g ≡ o → push p total g ≡ course true total g (facts_at p true total g)
  pushed None e = rw e refl
  pushed (Some stamp) e =
      rw e (push_steps (shadow_line p g 1 CoordinateShadowUpdate) (shadow_line p g 2 UpdateShadow) stamp
      (brings true stamp (shadow_line p g 2 UpdateShadow)) (as_of p g.number) (acked p g.number)
      (is_unheard (shadow_line p g 1 CoordinateShadowUpdate).fate) (not total && needs_total p g (peer_moment p true g))
      (not total && not (same_moment (acked p g.number) (as_of p g.number))) (is_lost (shadow_line p g 2 UpdateShadow).fate))

pub blocks_are_courses : BlocksAreCourses
blocks_are_courses p number true total g c e = rw c (rw e (pushed p total g (supplied p g) refl))
blocks_are_courses p number false total g c e = rw c (rw e (pulled p total g (supplied p g) refl))
