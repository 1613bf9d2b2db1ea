-- The grammar of filters as text (the form of RFC 1558): which texts spell a filter of a nesting at most.
use Rattle.std.specs.Prelude.{◌≡◌, ℕ, zero, suc, [], ◌∷◌, ◌++◌, Ok}
use Rattle.x5_model.specs.Values.{Text}
use Rattle.x5_model.specs.Filters.{Filter, Is, And, Or, Not, Filters, Nil, More}
use Rattle.x5_model_text.specs.Filters.{item_at}

-- members one behind another
abbrev pub SpellsAll : (Filter → Text → Type 0) → Filters → Text → Type 0
SpellsAll Spelled Nil t = t ≡ []
SpellsAll Spelled (More f fs) t = (u : Text) × (v : Text) × Spelled f u × SpellsAll Spelled fs v × (t ≡ u ++ v)

-- `(item)`, `(&members)`, `(|members)`, `(!member)`
abbrev pub Spells : ℕ → Filter → Text → Type 0
Spells zero f t = ⊥
Spells (suc n) (Is item) t = (at : ℕ) × (u : Text) × (item_at at u ≡ Ok item) × (t ≡ 40 ∷ u ++ 41 ∷ [])
Spells (suc n) (And fs) t = (u : Text) × SpellsAll (Spells n) fs u × (t ≡ 40 ∷ 38 ∷ u ++ 41 ∷ [])
Spells (suc n) (Or fs) t = (u : Text) × SpellsAll (Spells n) fs u × (t ≡ 40 ∷ 124 ∷ u ++ 41 ∷ [])
Spells (suc n) (Not f) t = (u : Text) × Spells n f u × (t ≡ 40 ∷ 33 ∷ u ++ 41 ∷ [])
