-- The order in which members of an answer stand: by their keys (X.501, section 9: names; the order is this project's
-- own).
use Rattle.std.specs.Prelude.{◌≡◌, false, ⊤, Bool, List, [], ◌∷◌}
use Rattle.x5_model.specs.Members.{In}
use Rattle.x5_model.specs.Keys.{Key, key_below}

-- one member is below another where its key is
abbrev pub below_by : {A : Type 0} → (A → Key) → A → A → Bool
below_by key a b = key_below (key a) (key b)

-- no member is below an earlier one
abbrev pub Rising : {A : Type 0} → (A → A → Bool) → List A → Type 0
Rising lt [] = ⊤
Rising {A} lt (x ∷ xs) = ((z : A) → In z xs → lt z x ≡ false) × Rising lt xs
