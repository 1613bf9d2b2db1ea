-- The walk over numbers is the definition's: it begins at the same contexts, descends alike, and drops what comes again.
use Rattle.std.proofs.Common.{◌≡◌, ℕ, Bool, List, [], map, ap, ◌∙◌, Option, Some}
use Rattle.x5_model.specs.Words.{in_option, sorted}
use Rattle.x5_model.specs.Values.{key_of}
use Rattle.x5_model.specs.Requests.{Subset}
use Rattle.x5_model.specs.References.{Chained}
use Rattle.x5_model_run.specs.Holdings.{Held, Holdings, served}
use Rattle.x5_model_run.specs.Needs.{subset_of, begins_at}
use Rattle.x5_model_serve.specs.Walking.{pin_below, descent, each_once, walk}
use Rattle.x5_eval.specs.Numbers.{held_number, numbers_under}
use Rattle.x5_eval.specs.Visited.{order, adds}
use Rattle.x5_eval.proofs.Numbering.{under_are}
use Rattle.x5_eval.proofs.Descending.{descent_held, once_numbers}

module _ (h : Holdings) (m : Chained) where
  abbrev walked : Bool → Subset → List Held
  walked behind subset =
      each_once (descent behind 16 (served m.request h) (key_of m.target) subset (sorted pin_below (begins_at h m subset)))

  pub walk_numbers : (behind : Bool) (subset : Subset) (begins visits : List ℕ) → Some subset ≡ subset_of m
      → map (held_number h) begins ≡ sorted pin_below (begins_at h m subset)
      → visits ≡ adds [] (order (numbers_under m.request h (key_of m.target) subset) behind 16 begins)
      → each_once (map (held_number h) visits) ≡ walk behind h m
  walk_numbers behind subset begins visits is e f =
      ap (λ (l : List ℕ). each_once (map (held_number h) l)) f
      ∙ once_numbers (held_number h) (order (numbers_under m.request h (key_of m.target) subset) behind 16 begins)
      ∙ ap each_once (descent_held (held_number h) (numbers_under m.request h (key_of m.target) subset) (served m.request h) (key_of m.target) subset
      (under_are h m.request (key_of m.target) subset) behind 16 begins
      ∙ ap (descent behind 16 (served m.request h) (key_of m.target) subset) e)
      ∙ ap (λ (o : Option Subset). in_option [] (walked behind) o) is
