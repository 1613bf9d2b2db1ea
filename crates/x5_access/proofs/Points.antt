-- The agents of a reference: those added so far, with those that are left, are all, and each that is left is one of the
-- world's.
use Rattle.std.proofs.Common.{◌≡◌, ℕ, zero, suc, ◌+◌, ◌<◌, ◌≤◌, nat_lt, true, List, [], ◌∷◌, ◌++◌, map, length, drop, get_or, append_assoc, append-nil, refl, sym, ap, subst, ◌∙◌, arith}
use Rattle.std.proofs.lemmas.Bool.Decides.{Decides-ltb}
use Rattle.x5_model.proofs.Lists.{both_true, and_true}
use Rattle.x5_model_heard.specs.Told.{are_agents}
use Rattle.x5_ops.proofs.Dropping.{drop_at}
use Rattle.x5_ops.specs.ReferenceViews.{access_view}
use Rattle.x5_ops.specs.declared.references.AccessPoint.{AccessPoint}

pub record ArePoints (names : List (List ℕ)) (all : List ℕ) (before points : List AccessPoint) (left : List ℕ) : Type 0
  where
    pub so_far : map (access_view names) points ++ left ≡ map (access_view names) before ++ all
    pub known : are_agents (length names) left ≡ true

pub first_known : (n a : ℕ) (left : List ℕ) → are_agents n (a ∷ left) ≡ true → a < n
first_known n a left h = (Decides-ltb a n).0 (both_true (nat_lt a n) (are_agents n left) h).0

pub rest_known : (n a : ℕ) (left : List ℕ) → are_agents n (a ∷ left) ≡ true → are_agents n left ≡ true
rest_known n a left h = (both_true (nat_lt a n) (are_agents n left) h).1

pub one_known : (n a : ℕ) → a < n → are_agents n (a ∷ []) ≡ true
one_known n a l = and_true (nat_lt a n) true ((Decides-ltb a n).1 l) refl

map_one : (names : List (List ℕ)) (points : List AccessPoint) (p : AccessPoint)
    → map (access_view names) (points ++ p ∷ []) ≡ map (access_view names) points ++ access_view names p ∷ []
map_one names [] p = refl
map_one names (q ∷ points) p = ap (λ (l : List ℕ). access_view names q ∷ l) (map_one names points p)

module _ (names : List (List ℕ)) (agents : List ℕ) (before points : List AccessPoint) (i a : ℕ) (lt : i < length agents)
    (is : a ≡ get_or agents i a) (so : ArePoints names agents before points (drop i agents)) where
  next : drop i agents ≡ a ∷ drop (i + 1) agents
  next = drop_at agents i a lt is

  known_left : are_agents (length names) (a ∷ drop (i + 1) agents) ≡ true
  known_left = subst (λ (l : List ℕ). are_agents (length names) l ≡ true) next so.known

  -- the next one is an agent of the world
  pub next_there : a < length names
  next_there = first_known (length names) a (drop (i + 1) agents) known_left

  -- it is added
  pub one_more : (p : AccessPoint) (after : List AccessPoint) → access_view names p ≡ a → after ≡ points ++ p ∷ []
      → ArePoints names agents before after (drop (i + 1) agents)
  one_more p after e f = record {
    so_far =
        ap (λ (l : List AccessPoint). map (access_view names) l ++ drop (i + 1) agents) f
        ∙ (ap (λ (l : List ℕ). l ++ drop (i + 1) agents) (map_one names points p)
        ∙ (append_assoc (map (access_view names) points) (access_view names p ∷ []) (drop (i + 1) agents)
        ∙ (ap (λ (b : ℕ). map (access_view names) points ++ b ∷ drop (i + 1) agents) e
        ∙ (ap (λ (l : List ℕ). map (access_view names) points ++ l) (sym next) ∙ so.so_far))));
    known = rest_known (length names) a (drop (i + 1) agents) known_left;
  }

none_left : (xs : List ℕ) (i : ℕ) → length xs ≤ i → drop i xs ≡ []
none_left [] zero l = refl
none_left [] (suc i) l = refl
none_left (x ∷ xs) zero l = absurd (omega arith)
none_left (x ∷ xs) (suc i) l = none_left xs i (omega arith)

-- all are added
pub all_there : (names : List (List ℕ)) (agents : List ℕ) (before points : List AccessPoint) (i : ℕ) → length agents ≤ i
    → ArePoints names agents before points (drop i agents)
    → map (access_view names) points ≡ map (access_view names) before ++ agents
all_there names agents before points i l so =
    sym (append-nil (map (access_view names) points))
    ∙ (ap (λ (r : List ℕ). map (access_view names) points ++ r) (sym (none_left agents i l)) ∙ so.so_far)
