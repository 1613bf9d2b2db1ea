-- Numbered contexts stand for those of the definition's walk: the descent over numbers is the definition's descent, and contexts
-- that come a second time are dropped either way.
use Rattle.std.proofs.Common.{◌≡◌, ℕ, zero, suc, Bool, true, false, cond, not, ◌==◌, ◌||◌, inl, inr, List, [], ◌∷◌, ◌++◌, map, refl, sym, ap, ◌∙◌}
use Rattle.std.proofs.lemmas.List.{map-append}
use Rattle.std.specs.List.{filter}
use Rattle.x5_model.specs.Words.{has}
use Rattle.x5_model.specs.Members.{In}
use Rattle.x5_model.specs.Keys.{Key, same_key}
use Rattle.x5_model.specs.Values.{key_of}
use Rattle.x5_model.specs.Requests.{Subset}
use Rattle.x5_model.proofs.KeyLaws.{key_decides}
use Rattle.x5_model.proofs.Lists.{in_first, in_map}
use Rattle.x5_model_run.specs.Holdings.{Held}
use Rattle.x5_model_serve.specs.Walking.{just_under, beside, descent, each_once}
use Rattle.x5_eval.specs.Visited.{place_beside, order, adds}
use Rattle.x5_eval.proofs.Gathering.{filter_joined}
use Rattle.x5_eval.proofs.Ordered.{filters_swapped}
use Rattle.x5_eval.proofs.Visiting.{add, of_has_number}

-- ---- the descent
module _ (held : ℕ → Held) (next : ℕ → List ℕ) (all : List Held) (base : Key) (subset : Subset)
    (stands : (c : ℕ) → map held (next c) ≡ just_under all base subset (held c)) where
  beside_held : (behind : Bool) (c : ℕ) (below : List ℕ) → map held (place_beside behind c below) ≡ beside behind (held c) (map held below)
  beside_held false c below = refl
  beside_held true c below = map-append held below (c ∷ [])

  pub descent_held : (behind : Bool) (n : ℕ) (level : List ℕ)
      → map held (order next behind n level) ≡ descent behind n all base subset (map held level)
  descent_held behind zero level = refl
  descent_held behind (suc n) [] = refl
  descent_held behind (suc n) (c ∷ cs) =
      map-append held (place_beside behind c (order next behind n (next c))) (order next behind (suc n) cs)
      ∙ (λ i. (beside_held behind c (order next behind n (next c))
      ∙ ap (beside behind (held c)) (descent_held behind n (next c) ∙ ap (descent behind n all base subset) (stands c))) i
      ++ descent_held behind (suc n) cs i)

-- ---- of those with one pin the first
abbrev pub other_pin : Held → Held → Bool
other_pin c d = not (same_key (key_of c.prefix) (key_of d.prefix))

same_others : (a b : Held) → key_of a.prefix ≡ key_of b.prefix → (xs : List Held) → filter (other_pin a) (filter (other_pin b) xs) ≡ filter (other_pin a) xs
same_others a b e [] = refl
same_others a b e (x ∷ xs) =
    by (other_pin b x) (other_pin a x) refl (ap (λ (k : Key). not (same_key k (key_of x.prefix))) e) (same_others a b e xs)
  where
    by : (c d : Bool) → other_pin a x ≡ d → d ≡ c → filter (other_pin a) (filter (other_pin b) xs) ≡ filter (other_pin a) xs
        → filter (other_pin a) (cond c (x ∷ filter (other_pin b) xs) (filter (other_pin b) xs)) ≡ cond d (x ∷ filter (other_pin a) xs) (filter (other_pin a) xs)
    by true true p q h = ap (λ (z : Bool). cond z (x ∷ filter (other_pin a) (filter (other_pin b) xs)) (filter (other_pin a)
        (filter (other_pin b) xs))) p ∙ ap (λ (l : List Held). x ∷ l) h
    by true false p q h = cc
    by false true p q h = cc
    by false false p q h = h

-- what comes again makes no difference, where its like is dropped anyway
filtered_again : (a c : Held) → key_of a.prefix ≡ key_of c.prefix → (xs ys : List Held)
    → filter (other_pin a) (each_once (xs ++ c ∷ ys)) ≡ filter (other_pin a) (each_once (xs ++ ys))
filtered_again a c e [] ys =
    ap (λ (b : Bool). cond b (c ∷ filter (other_pin a) (filter (other_pin c) (each_once ys))) (filter (other_pin a)
    (filter (other_pin c) (each_once ys)))) (ap not ((key_decides (key_of a.prefix) (key_of c.prefix)).1 e))
    ∙ same_others a c e (each_once ys)
filtered_again a c e (x ∷ xs) ys =
    ap (λ (l : List Held). cond (other_pin a x) (x ∷ l) l)
    (filters_swapped (other_pin a) (other_pin x) (each_once (xs ++ c ∷ ys)) ∙ ap (filter (other_pin x)) (filtered_again a c e xs ys)
    ∙ filters_swapped (other_pin x) (other_pin a) (each_once (xs ++ ys)))

pub once_again : (c : Held) (xs ys : List Held) → In c xs → each_once (xs ++ c ∷ ys) ≡ each_once (xs ++ ys)
once_again c [] ys i = elim i [ ]
once_again c (x ∷ xs) ys i = elim (in_first c x xs i) [
  | inl e ↦ ap (λ (l : List Held). x ∷ l) (filtered_again x c (ap (λ (d : Held). key_of d.prefix) (sym e)) xs ys)
  | inr j ↦ ap (λ (l : List Held). x ∷ filter (other_pin x) l) (once_again c xs ys j)
]

three : {A : Type 0} (xs ys zs : List A) → (xs ++ ys) ++ zs ≡ xs ++ (ys ++ zs)
three [] ys zs = refl
three {A} (x ∷ xs) ys zs = ap (λ (l : List A). x ∷ l) (three xs ys zs)

append_none : {A : Type 0} (xs : List A) → xs ++ [] ≡ xs
append_none [] = refl
append_none {A} (x ∷ xs) = ap (λ (l : List A). x ∷ l) (append_none xs)

module _ (held : ℕ → Held) where
  -- numbers that come again are dropped before
  once_more : (before cs : List ℕ) → each_once (map held (adds before cs)) ≡ each_once (map held before ++ map held cs)
  once_more before [] = ap each_once (sym (append_none (map held before)))
  once_more before (c ∷ cs) = once_more (add before c) cs ∙ by (has ◌==◌ before c) refl
    where
      by : (b : Bool) → has ◌==◌ before c ≡ b → each_once (map held (cond b before (before ++ c ∷ [])) ++ map held cs)
          ≡ each_once (map held before ++ held c ∷ map held cs)
      by true e = sym (once_again (held c) (map held before) (map held cs) (in_map held c before (of_has_number before c e)))
      by false e = ap (λ (l : List Held). each_once (l ++ map held cs)) (map-append held before (c ∷ []))
          ∙ ap each_once (three (map held before) (held c ∷ []) (map held cs))

  pub once_numbers : (cs : List ℕ) → each_once (map held (adds [] cs)) ≡ each_once (map held cs)
  once_numbers cs = once_more [] cs

-- the next one is kept exactly where none before it has its pin
abbrev pub same_pin : Held → Held → Bool
same_pin a b = same_key (key_of a.prefix) (key_of b.prefix)

pub once_next : (xs : List Held) (c : Held) → each_once (xs ++ c ∷ []) ≡ each_once xs ++ cond (has same_pin xs c) [] (c ∷ [])
once_next [] c = refl
once_next (x ∷ xs) c =
    ap (λ (l : List Held). x ∷ filter (other_pin x) l) (once_next xs c)
    ∙ ap (λ (l : List Held). x ∷ l) (filter_joined (other_pin x) (each_once xs) (cond (has same_pin xs c) [] (c ∷ []))
    ∙ ap (λ (l : List Held). filter (other_pin x) (each_once xs) ++ l) (by (has same_pin xs c) (same_pin x c) refl))
  where
    by : (b d : Bool) → same_pin x c ≡ d → filter (other_pin x) (cond b [] (c ∷ [])) ≡ cond (d || b) [] (c ∷ [])
    by true true e = refl
    by true false e = refl
    by false true e = ap (λ (k : Bool). cond (not k) (c ∷ []) []) e
    by false false e = ap (λ (k : Bool). cond (not k) (c ∷ []) []) e
