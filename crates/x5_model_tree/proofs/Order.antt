-- Entries in the order of their keys: what lists, searches and unions of parts are.
use Rattle.std.proofs.Common.{◌≡◌, ℕ, zero, suc, ◌↔◌, Bool, true, false, not, ◌&&◌, inl, inr, List, [], ◌∷◌, ◌++◌, take, refl, sym, ap, subst, ◌∙◌, Option, Some, None}
use Rattle.x5_model.specs.Words.{has, distinct, ascending}
use Rattle.x5_model.specs.Members.{In}
use Rattle.x5_model.specs.Keys.{Key, same_key, key_below}
use Rattle.x5_model.specs.Values.{Name}
use Rattle.x5_model.specs.Entries.{Named}
use Rattle.x5_model.specs.Filters.{Filter}
use Rattle.x5_model.specs.Requests.{Subset}
use Rattle.x5_model.proofs.KeyLaws.{key_decides, below_chain, never_below}
use Rattle.x5_model.proofs.Lists.{both_true, not_true, true_or_false, in_map, has_in}
use Rattle.x5_model.proofs.Ascending.{AllApart, of_sorted, in_sorted, sorted_ascending, filter_ascending, one_list, keys_once, keys_apart}
use Rattle.x5_model_tree.specs.Tree.{Tree, IsTree, key_at, keys_of, named_below, sorted_entries}
use Rattle.x5_model_tree.specs.Ask.{just_below, searched, limited}

pub named_chain : (x y z : Named) → named_below x y ≡ true → named_below y z ≡ true → named_below x z ≡ true
named_chain x y z p q = below_chain (key_at x) (key_at y) (key_at z) p q

pub named_never : (x : Named) → named_below x x ≡ true → ⊥
named_never x p = never_below (key_at x) p

-- two lists of entries in order with the same members are one list
pub one_list_of_entries : (xs ys : List Named) → ascending named_below xs ≡ true → ascending named_below ys ≡ true → ((e : Named) → In e xs → In e ys) → ((e : Named) → In e ys → In e xs) → xs ≡ ys
one_list_of_entries = one_list named_below named_chain named_never

by_keys : (xs : List Named) → ascending named_below xs ≡ ascending key_below (keys_of xs)
by_keys [] = refl
by_keys (x ∷ []) = refl
by_keys (x ∷ y ∷ ys) = ap (λ (b : Bool). named_below x y && b) (by_keys (y ∷ ys))

-- entries in order have each key once
pub entries_once : (xs : List Named) → ascending named_below xs ≡ true → distinct same_key (keys_of xs) ≡ true
entries_once xs h = keys_once (keys_of xs) (sym (by_keys xs) ∙ h)

-- entries with each key once are apart
pub once_apart : (xs : List Named) → distinct same_key (keys_of xs) ≡ true → AllApart named_below xs
once_apart [] h = tt
once_apart (x ∷ xs) h =
    let w = both_true (not (has same_key (keys_of xs) (key_at x))) (distinct same_key (keys_of xs)) h in
    let none : has same_key (keys_of xs) (key_at x) ≡ false = not_true _ w.0 in
    ((λ z i. keys_apart (key_at x) (key_at z) (other x z xs none i)), once_apart xs w.1)
  where
    other : (x z : Named) (xs : List Named) → has same_key (keys_of xs) (key_at x) ≡ false → In z xs → same_key (key_at x) (key_at z) ≡ false
    other x z xs none i =
        elim (true_or_false (same_key (key_at x) (key_at z))) [
          | inl p ↦ (let there_is : has same_key (keys_of xs) (key_at x) ≡ true = subst (λ (k : Key). has same_key (keys_of xs) k ≡ true) (sym ((key_decides (key_at x) (key_at z)).0 p)) (has_in same_key key_decides (key_at z) (keys_of xs) (in_map key_at z xs i)) in cc)
          | inr p ↦ p
        ]

-- the sorted union of entries with each key once is in order, and has exactly their members
pub union_in_order : (xs : List Named) → distinct same_key (keys_of xs) ≡ true → ascending named_below (sorted_entries xs) ≡ true
union_in_order xs h = sorted_ascending named_below named_chain xs (once_apart xs h)

pub in_union : (e : Named) (xs : List Named) → In e xs ↔ In e (sorted_entries xs)
in_union e xs = (in_sorted named_below e xs, of_sorted named_below e xs)

-- what a list and a search find is in order, so each key comes once
pub listed_in_order : (t : Tree) (name : Name) → IsTree t → ascending named_below (just_below t name) ≡ true
listed_in_order t name is = filter_ascending named_below named_chain _ t.entries is.in_order

pub searched_in_order : (t : Tree) (base : Name) (subset : Subset) (f : Filter) → IsTree t → ascending named_below (searched t base subset f) ≡ true
searched_in_order t base subset f is = filter_ascending named_below named_chain _ t.entries is.in_order

take_all : {A : Type 0} (n : ℕ) (xs : List A) → (rest : List A) × (take n xs ++ rest ≡ xs)
take_all zero xs = (xs, refl)
take_all (suc n) [] = ([], refl)
take_all {A} (suc n) (x ∷ xs) = let w = take_all n xs in (w.0, ap (λ (ys : List A). x ∷ ys) w.1)

-- the size limit keeps a beginning
pub limit_keeps : {A : Type 0} (size : Option ℕ) (xs : List A) → (rest : List A) × (limited size xs ++ rest ≡ xs)
limit_keeps None xs = ([], append_nothing xs)
  where
    append_nothing : {A : Type 0} (xs : List A) → xs ++ [] ≡ xs
    append_nothing [] = refl
    append_nothing {A} (x ∷ xs) = ap (λ (ys : List A). x ∷ ys) (append_nothing xs)
limit_keeps (Some n) xs = take_all n xs
