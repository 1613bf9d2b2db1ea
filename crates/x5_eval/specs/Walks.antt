-- A walk over the contexts that a request may be answered from, by their numbers (X.518, section 19.3).
use Rattle.std.specs.Prelude.{◌≡◌, ◌+◌, ℕ, List, length, map}
use Rattle.x5_model.specs.Words.{sorted}
use Rattle.x5_model.specs.Members.{In}
use Rattle.x5_model.specs.Keys.{Key}
use Rattle.x5_model.specs.Requests.{Subset, Request}
use Rattle.x5_model_run.specs.Holdings.{Held, Holdings}
use Rattle.x5_model_serve.specs.Walking.{pin_below}
use Rattle.x5_eval.specs.Numbers.{held_number, numbers_under, pin_number, served_numbers}
use Rattle.x5_eval.specs.Visited.{Walked, IsDescended, IsVisited}
use Rattle.x5_eval.specs.declared.visits.Visits.{Visits}

abbrev pub walked_of : Visits → Walked
walked_of v = record { entered = v.entered.items; left = v.left.items; seen = v.seen.items }

-- from a context to those just below, whose pins are longer
abbrev pub rank : Holdings → ℕ → ℕ
rank h n = length (pin_number h n)

abbrev pub IsVisitedIn : Request → Holdings → Key → Subset → ℕ → List ℕ → Visits → Visits → Type 0
IsVisitedIn r h base subset deep cs old new =
    IsVisited (numbers_under r h base subset) (rank h) deep cs (walked_of old) (walked_of new)

abbrev pub IsDescendedIn : Request → Holdings → Key → Subset → ℕ → ℕ → Visits → Visits → Type 0
IsDescendedIn r h base subset deep c old new =
    IsDescended (numbers_under r h base subset) (rank h) deep c (walked_of old) (walked_of new)

-- the walk has a mark for each number
abbrev pub HasMarks : Holdings → Visits → Type 0
HasMarks h v = length v.seen.items ≡ length h.own + length h.copies

-- these are the definition's contexts, in the order of their pins
pub record Begins (r : Request) (h : Holdings) (cs : List Held) (numbers : List ℕ) : Type 0 where
  pub views : map (held_number h) numbers ≡ sorted pin_below cs
  pub served : (n : ℕ) → In n numbers → In n (served_numbers r h)
