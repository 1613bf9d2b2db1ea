-- What an agent knows of a pin, and the longest known prefix of a name (X.501, section 22: knowledge; X.518, section
-- 18: name
-- resolution). Of what is known of one pin a mastered context comes first, then a copy, then a subordinate reference,
-- then
-- a cross reference; which of two comes first is this project's own.
use Rattle.std.specs.Prelude.{◌≡◌, ℕ, true, List, slice_get}
use Rattle.std.specs.Option.{is_some, option_map}
use Rattle.std.specs.declared.option.Option.{Option}
use Rattle.std.specs.declared.option.Option.TheVariants.{None, Some}
use Rattle.x5_model.specs.Keys.{Key}
use Rattle.x5_model.specs.Requests.{Request}
use Rattle.x5_model_run.specs.Holdings.{Holdings, held_at, copy_at, subordinates, known_pin}
use Rattle.x5_model_run.specs.Needs.{specific_at}
use Rattle.x5_ops.specs.KnowledgeViews.{specific_view, cross_view}
use Rattle.x5_holdings.specs.declared.holdings.Pin.{Pin}
use Rattle.x5_holdings.specs.declared.holdings.Pin.TheVariants.{Own, Copy, Subordinate, Cross}

-- the place of what is found in a list, the first by its key
abbrev pub IsPlaceOf : {A B : Type 0} → (A → B) → List A → Option B → Option ℕ → Type 0
IsPlaceOf view xs found None = found ≡ None
IsPlaceOf view xs found (Some place) = (found ≡ option_map view (slice_get xs place)) ×
    (is_some (slice_get xs place) ≡ true)

-- the first of what is known of the pin: a place among the contexts or the copies, or a reference
abbrev pub IsFirst : Request → Holdings → Key → Pin → Type 0
IsFirst r h p (Own place) = (held_at h.own p ≡ slice_get h.own place) × (is_some (slice_get h.own place) ≡ true)
IsFirst r h p (Copy place) =
    (held_at h.own p ≡ None) × (copy_at h p ≡ slice_get h.copies place) × (is_some (slice_get h.copies place) ≡ true)
IsFirst r h p (Subordinate k) =
    (held_at h.own p ≡ None) × (copy_at h p ≡ None) × (specific_at (subordinates r h) p ≡ Some (specific_view k.now))
IsFirst r h p (Cross k) =
    (held_at h.own p ≡ None) × (copy_at h p ≡ None) × (specific_at (subordinates r h) p ≡ None)
    × (specific_at h.cross p ≡ Some (cross_view k.now))

abbrev pub IsKnownAt : Request → Holdings → Key → Option Pin → Type 0
IsKnownAt r h p None =
    (held_at h.own p ≡ None) × (copy_at h p ≡ None) × (specific_at (subordinates r h) p ≡ None) ×
    (specific_at h.cross p ≡ None)
IsKnownAt r h p (Some pin) = IsFirst r h p pin

-- the longest known prefix of the name, and the first of what is known of it
pub record IsLongest (r : Request) (h : Holdings) (name : Key) (pin : Pin) : Type 0 where
  pub key : Key
  pub longest : known_pin r h name ≡ Some key
  pub first : IsFirst r h key pin

abbrev pub IsKnown : Request → Holdings → Key → Option Pin → Type 0
IsKnown r h name None = known_pin r h name ≡ None
IsKnown r h name (Some pin) = IsLongest r h name pin
