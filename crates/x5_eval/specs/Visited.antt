-- Walks over numbered contexts, depth first: `next` gives those just below one, `rank` grows from one to the next. A
-- context that comes again is passed over, where at least as much below it was looked at before.
use Rattle.std.specs.Prelude.{◌≡◌, ℕ, zero, suc, ◌<◌, ◌≤◌, Bool, true, false, ◌==◌, ◌⊎◌, if◌then◌else◌, List, [], ◌∷◌}
use Rattle.std.specs.Prelude.{◌++◌, get_or}
use Rattle.std.specs.List.{flat_map}
use Rattle.x5_model.specs.Words.{has}
use Rattle.x5_model.specs.Members.{In}

-- a context before all below it, or behind
abbrev pub place_beside : Bool → ℕ → List ℕ → List ℕ
place_beside false c below = c ∷ below
place_beside true c below = below ++ c ∷ []

-- these, each with what is below it, so many levels deep
abbrev pub order : (ℕ → List ℕ) → Bool → ℕ → List ℕ → List ℕ
order next behind zero level = level
order next behind (suc n) level = flat_map (λ c. place_beside behind c (order next behind n (next c))) level

-- what is so many levels deep below a context, without itself
abbrev pub below : (ℕ → List ℕ) → Bool → ℕ → ℕ → List ℕ
below next behind zero c = []
below next behind (suc n) c = order next behind n (next c)

-- a list, and of others those that it doesn't have yet
abbrev pub adds : List ℕ → List ℕ → List ℕ
adds before [] = before
adds before (c ∷ cs) = adds (if has ◌==◌ before c then before else before ++ c ∷ []) cs

-- the contexts to which a walk came and which it left, in their order, and for each how many levels were looked at,
-- with itself; none where the walk wasn't there
pub record Walked : Type 0 where
  pub entered : List ℕ
  pub left : List ℕ
  pub seen : List ℕ

-- what lies as deep below a context as was looked at was entered and left, and its rank isn't less
pub record IsDone (next : ℕ → List ℕ) (rank : ℕ → ℕ) (v : Walked) (c deep : ℕ) : Type 0 where
  pub entered : (d : ℕ) → In d (order next false deep (c ∷ [])) → In d v.entered
  pub left : (d : ℕ) → In d (order next false deep (c ∷ [])) → In d v.left
  pub below : (d : ℕ) → In d (order next false deep (c ∷ [])) → rank c ≤ rank d

-- That is so of all that were seen but for the pending ones, of which the walk is still below; and no other is in the
-- lists.
pub record IsSound (next : ℕ → List ℕ) (rank : ℕ → ℕ) (pending : List ℕ) (v : Walked) : Type 0 where
  pub known : (c : ℕ) → In c v.entered ⊎ In c v.left → 0 < get_or v.seen c 0
  pub done : (c deep : ℕ) → (In c pending → ⊥) → get_or v.seen c 0 ≡ suc deep → IsDone next rank v c deep

-- the pending ones are above these
abbrev pub AreAbove : (ℕ → ℕ) → List ℕ → List ℕ → Type 0
AreAbove rank pending cs = (p c : ℕ) → In p pending → In c cs → rank p < rank c

-- the walk came to these and left them
pub record IsVisit (next : ℕ → List ℕ) (rank : ℕ → ℕ) (pending entered left : List ℕ) (old new : Walked) : Type 0 where
  pub comes : new.entered ≡ adds old.entered entered
  pub leaves : new.left ≡ adds old.left left
  pub sound : IsSound next rank pending new
  pub below : AreAbove rank pending entered
  pub kept : (p : ℕ) → In p pending → get_or new.seen p 0 ≡ get_or old.seen p 0

-- it came to these, each with what is as deep below it
abbrev pub IsVisited : (ℕ → List ℕ) → (ℕ → ℕ) → ℕ → List ℕ → Walked → Walked → Type 0
IsVisited next rank deep cs old new =
    (pending : List ℕ) → AreAbove rank pending cs → IsSound next rank pending old
    → IsVisit next rank pending (order next false deep cs) (order next true deep cs) old new

-- of a context that the walk is at it came to what is as deep below
abbrev pub IsDescended : (ℕ → List ℕ) → (ℕ → ℕ) → ℕ → ℕ → Walked → Walked → Type 0
IsDescended next rank deep c old new =
    (pending : List ℕ) → AreAbove rank pending (c ∷ []) → IsSound next rank (c ∷ pending) old
    → IsVisit next rank (c ∷ pending) (below next false deep c) (below next true deep c) old new
