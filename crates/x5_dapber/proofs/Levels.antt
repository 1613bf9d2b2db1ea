-- How deep filters are nested (X.511, section 7.8): so many levels at most, and below them the parts of substrings are texts.
use Rattle.std.specs.Prelude.{◌≡◌, ℕ, ◌-◌, ◌≤◌, true, List, [], ◌∷◌}
use Rattle.x5_model.specs.Filters.{Piece, Item, Equality, Substrings, GreaterOrEqual, LessOrEqual, Present, Approximate}
use Rattle.x5_model.specs.Filters.{Filter, Filters, Is, And, Or, Not, Nil, More}
use Rattle.x5_model.specs.Requests.{Body, Search}
use Rattle.x5_model_messages.specs.Terms.{value_node}
use Rattle.x5_model_typed.specs.Rules.{is_text}

abbrev pub AreTexts : List Piece → Type 0
AreTexts [] = Unit {0}
AreTexts (p ∷ pieces) = (is_text (value_node p.value) ≡ true) × AreTexts pieces

abbrev pub HasTexts : Item → Type 0
HasTexts (Equality a) = Unit {0}
HasTexts (Substrings s) = AreTexts s.pieces
HasTexts (GreaterOrEqual a) = Unit {0}
HasTexts (LessOrEqual a) = Unit {0}
HasTexts (Present type) = Unit {0}
HasTexts (Approximate a) = Unit {0}

abbrev mutual
  pub HasLevels : ℕ → Filter → Type 0
  HasLevels most (Is i) = (1 ≤ most) × HasTexts i
  HasLevels most (And fs) = (1 ≤ most) × HaveLevels (most - 1) fs
  HasLevels most (Or fs) = (1 ≤ most) × HaveLevels (most - 1) fs
  HasLevels most (Not f) = (1 ≤ most) × HasLevels (most - 1) f

  pub HaveLevels : ℕ → Filters → Type 0
  HaveLevels most Nil = Unit {0}
  HaveLevels most (More f fs) = HasLevels most f × HaveLevels most fs

-- the filter of a search has sixteen levels at most
abbrev pub IsShallow : Body → Type 0
IsShallow (Search base subset filter selection) = HasLevels 16 filter
IsShallow body = Unit {0}
