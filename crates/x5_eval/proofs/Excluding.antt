-- What a reference for an NSSR leaves out, each once: of a list in order those that aren't the same as the one before are those that
-- the definition keeps, and a sort before or after makes no difference.
use Rattle.std.proofs.Common.{◌≡◌, ℕ, ◌-◌, Bool, true, false, cond, not, ◌||◌, inl, inr, suc, List, [], ◌∷◌, ◌++◌, length, refl, sym, ap, subst, ◌∙◌, append_assoc, append-nil, arith, Option, Some, None}
use Rattle.std.proofs.lemmas.List.MinMax.{ranks_by}
use Rattle.std.specs.List.{filter, slice_get}
use Rattle.std.specs.List.Sorted.{ties}
use Rattle.std.specs.Cmp.{IsStrictWeakOrder}
use Rattle.std.specs.Ordering.{is_eq, is_lt, ordering_reverse}
use Rattle.std.specs.declared.cmp.Ordering.{Ordering}
use Rattle.std.specs.declared.cmp.Ordering.TheVariants.{Less, Equal, Greater}
use Rattle.x5_model.specs.Words.{last_of, some_and, sorted}
use Rattle.x5_model.specs.Members.{In, here, there}
use Rattle.x5_model.specs.Keys.{KeyRdn, same_rdn, rdn_cmp}
use Rattle.x5_model.specs.Values.{Rdn, Name, key_of_rdn, last_rdn}
use Rattle.x5_model.proofs.KeyLaws.{rdn_decides, rdn_cmp_total, rdn_ties}
use Rattle.x5_model.proofs.Lists.{in_first, of_filter, true_or_false}
use Rattle.x5_model_run.specs.Journal.{same_spelled_rdn}
use Rattle.x5_model_run.specs.Needs.{rdn_below, once}
use Rattle.x5_model_serve.specs.Answering.{first_each}
use Rattle.x5_merge.specs.Order.{Rising}
use Rattle.x5_merge.proofs.Sorting.{one_outcome, sorted_rising, class_sorted}
use Rattle.x5_eval.specs.Rest.{last_in, other_last, others_last}
use Rattle.x5_eval.proofs.Classes.{AreAlike}
use Rattle.x5_eval.proofs.Gathering.{filter_all, class_first, first_only}

pub rdn_weak : IsStrictWeakOrder rdn_below
rdn_weak = ranks_by rdn_cmp_total key_of_rdn

-- ---- the same
same_keys : (a b : Rdn) → same_spelled_rdn a b ≡ true → key_of_rdn a ≡ key_of_rdn b
same_keys a b e = (rdn_decides (key_of_rdn a) (key_of_rdn b)).0 e

keys_same : (a b : Rdn) → key_of_rdn a ≡ key_of_rdn b → same_spelled_rdn a b ≡ true
keys_same a b e = (rdn_decides (key_of_rdn a) (key_of_rdn b)).1 e

-- what isn't the same is below or above
apart_or_same : (a b : Rdn) → not (same_spelled_rdn a b) ≡ (rdn_below a b || rdn_below b a)
apart_or_same a b =
    ap not (rdn_ties (key_of_rdn a) (key_of_rdn b))
    ∙ by (rdn_cmp (key_of_rdn a) (key_of_rdn b)) (rdn_cmp (key_of_rdn b) (key_of_rdn a)) (rdn_cmp_total.antisymm (key_of_rdn b) (key_of_rdn a))
  where
    level : Ordering → Bool
    level Less = false
    level Equal = true
    level Greater = false

    by : (o p : Ordering) → p ≡ ordering_reverse o → not (level o) ≡ (is_lt o || is_lt p)
    by Less p e = refl
    by Equal p e = sym (ap is_lt e)
    by Greater p e = sym (ap is_lt e)

same_filters : {A : Type 0} (f g : A → Bool) → ((x : A) → f x ≡ g x) → (xs : List A) → filter f xs ≡ filter g xs
same_filters f g e [] = refl
same_filters f g e (x ∷ xs) = λ i. cond (e x i) (x ∷ same_filters f g e xs i) (same_filters f g e xs i)

once_first : (rs : List Rdn) → once rs ≡ first_each rdn_below rs
once_first [] = refl
once_first (r ∷ rs) = ap (λ (l : List Rdn). r ∷ l) (
    ap (filter (λ x. not (same_spelled_rdn r x))) (once_first rs)
    ∙ same_filters (λ x. not (same_spelled_rdn r x)) (λ x. rdn_below r x || rdn_below x r) (apart_or_same r) (first_each rdn_below rs))

class_once : (q : Rdn) (rs : List Rdn) → filter (ties rdn_below q) (once rs) ≡ first_only (filter (ties rdn_below q) rs)
class_once q rs = ap (filter (ties rdn_below q)) (once_first rs) ∙ class_first rdn_below rdn_weak q rs

-- ---- one after the other

last_is : (rs : List Rdn) (r : Rdn) → last_of (rs ++ r ∷ []) ≡ Some r
last_is [] r = refl
last_is (x ∷ []) r = refl
last_is (x ∷ y ∷ rs) r = last_is (y ∷ rs) r

of_once : (x : Rdn) (rs : List Rdn) → In x (once rs) → In x rs
of_once x [] i = elim i [ ]
of_once x (r ∷ rs) i = elim (in_first x r (filter (λ y. not (same_spelled_rdn r y)) (once rs)) i) [
  | inl e ↦ subst (λ (z : Rdn). In z (r ∷ rs)) (sym e) here
  | inr j ↦ there (of_once x rs (of_filter (λ y. not (same_spelled_rdn r y)) x (once rs) j).0)
]

all_kept : {A : Type 0} (test : A → Bool) (xs : List A) → ((x : A) → In x xs → test x ≡ true) → filter test xs ≡ xs
all_kept test [] f = refl
all_kept {A} test (x ∷ xs) f =
    ap (λ (b : Bool). cond b (x ∷ filter test xs) (filter test xs)) (f x here)
    ∙ ap (λ (l : List A). x ∷ l) (all_kept test xs (λ y i. f y (there i)))

abbrev others : Rdn → List Rdn → List Rdn
others r rs = filter (λ x. not (same_spelled_rdn r x)) rs

added : (rs : List Rdn) (y x : Rdn) → other_last (rs ++ y ∷ []) x ≡ cond (same_spelled_rdn y x) [] (x ∷ [])
added rs y x = ap (λ (o : Option Rdn). cond (some_and (λ z. same_spelled_rdn z x) o) [] (x ∷ [])) (last_is rs y)

kept_more : (rs : List Rdn) (y : Rdn) (xs : List Rdn) → Rising rdn_below (y ∷ xs) → others_last (rs ++ y ∷ []) xs ≡ rs ++ y ∷ others y (once xs)
kept_more rs y [] r = refl
kept_more rs y (x ∷ xs) r =
    ap (λ (l : List Rdn). others_last ((rs ++ y ∷ []) ++ l) xs) (added rs y x)
    ∙ by (same_spelled_rdn y x) refl (kept_more rs y xs (λ z i. r.0 z (there i), r.1.1)) (kept_more (rs ++ y ∷ []) x xs r.1)
  where
    below : same_spelled_rdn y x ≡ false → rdn_below y x ≡ true
    below e = by_order (rdn_below y x) (rdn_below x y) (sym (apart_or_same y x) ∙ ap not e) (r.0 x here)
      where
        by_order : (a b : Bool) → (a || b) ≡ true → b ≡ false → a ≡ true
        by_order true b p q = refl
        by_order false true p q = cc
        by_order false false p q = cc

    above : rdn_below y x ≡ true → (z : Rdn) → In z (others x (once xs)) → not (same_spelled_rdn y z) ≡ true
    above t z i =
        let w = of_filter (λ u. not (same_spelled_rdn x u)) z (once xs) i in
        let later : rdn_below z x ≡ false = r.1.0 z (of_once z xs w.0) in
        elim (true_or_false (same_spelled_rdn y z)) [
          | inl s ↦ absurd (let u : rdn_below z x ≡ true = ap (λ (k : KeyRdn). is_lt (rdn_cmp k (key_of_rdn x))) (sym (same_keys y z s)) ∙ t in cc)
          | inr s ↦ ap not s
        ]

    by : (b : Bool) → same_spelled_rdn y x ≡ b → others_last (rs ++ y ∷ []) xs ≡ rs ++ y ∷ others y (once xs)
        → others_last ((rs ++ y ∷ []) ++ x ∷ []) xs ≡ (rs ++ y ∷ []) ++ x ∷ others x (once xs)
        → others_last ((rs ++ y ∷ []) ++ cond b [] (x ∷ [])) xs ≡ rs ++ y ∷ cond (not (same_spelled_rdn y x)) (x ∷ others y (others x (once xs))) (others y (others x (once xs)))
    by true e f g =
        ap (λ (l : List Rdn). others_last l xs) (append-nil (rs ++ y ∷ []))
        ∙ f
        ∙ ap (λ (l : List Rdn). rs ++ y ∷ l) (
        sym (filter_all (λ z. not (same_spelled_rdn y z)) (λ z. not (same_spelled_rdn x z)) (once xs)
        (λ z i t. ap (λ (k : KeyRdn). not (same_rdn k (key_of_rdn z))) (sym (same_keys y x e)) ∙ t))
        ∙ sym (ap (λ (c : Bool). cond (not c) (x ∷ others y (others x (once xs))) (others y (others x (once xs)))) e))
    by false e f g =
        g
        ∙ append_assoc rs (y ∷ []) (x ∷ others x (once xs))
        ∙ ap (λ (l : List Rdn). rs ++ y ∷ l) (
        ap (λ (l : List Rdn). x ∷ l) (sym (all_kept (λ z. not (same_spelled_rdn y z)) (others x (once xs)) (above (below e))))
        ∙ sym (ap (λ (c : Bool). cond (not c) (x ∷ others y (others x (once xs))) (others y (others x (once xs)))) e))

-- of a list in order it's what the definition keeps
once_of : (rs : List Rdn) → Rising rdn_below rs → others_last [] rs ≡ once rs
once_of [] r = refl
once_of (x ∷ xs) r = kept_more [] x xs r

rising_left : (test : Rdn → Bool) (xs : List Rdn) → Rising rdn_below xs → Rising rdn_below (filter test xs)
rising_left test [] r = tt
rising_left test (x ∷ xs) r = by (test x) (rising_left test xs r.1)
  where
    by : (b : Bool) → Rising rdn_below (filter test xs) → Rising rdn_below (cond b (x ∷ filter test xs) (filter test xs))
    by true f = (λ z i. r.0 z (of_filter test z xs i).0, f)
    by false f = f

once_rising : (xs : List Rdn) → Rising rdn_below xs → Rising rdn_below (once xs)
once_rising [] r = tt
once_rising (x ∷ xs) r = (
  λ z i. r.0 z (of_once z xs (of_filter (λ u. not (same_spelled_rdn x u)) z (once xs) i).0),
  rising_left (λ u. not (same_spelled_rdn x u)) (once xs) (once_rising xs r.1),
)

-- put in order, and each once: the same of lists that are alike
pub each_in_order : (rs ts : List Rdn) → AreAlike rdn_below rdn_weak rs ts → others_last [] (sorted rdn_below rs) ≡ sorted rdn_below (once ts)
each_in_order rs ts alike =
    once_of (sorted rdn_below rs) (sorted_rising rdn_below rdn_weak rs)
    ∙ one_outcome rdn_below rdn_weak (once (sorted rdn_below rs)) (sorted rdn_below (once ts))
    (once_rising (sorted rdn_below rs) (sorted_rising rdn_below rdn_weak rs)) (sorted_rising rdn_below rdn_weak (once ts))
    (λ q. class_once q (sorted rdn_below rs)
    ∙ ap first_only (class_sorted rdn_below rdn_weak q rs ∙ alike q)
    ∙ sym (class_sorted rdn_below rdn_weak q (once ts) ∙ class_once q ts))

-- ---- the last of a list, by its place
less_one : (n : ℕ) → suc n - 1 ≡ n
less_one n = omega arith

at_last : (rs : List Rdn) (r : Rdn) → slice_get (r ∷ rs) (length rs) ≡ last_of (r ∷ rs)
at_last [] r = refl
at_last (x ∷ rs) r = at_last rs x

pub last_at : (rs : List Rdn) → slice_get rs (length rs - 1) ≡ last_of rs
last_at [] = refl
last_at (r ∷ rs) = ap (slice_get (r ∷ rs)) (less_one (length rs)) ∙ at_last rs r

last_of_name : (r : Rdn) (rs : List Rdn) → last_of (r ∷ rs) ≡ Some (last_rdn (r ∷ rs))
last_of_name r [] = refl
last_of_name r (x ∷ rs) = last_of_name x rs

pub last_some : (n : Name) (r : Rdn) → Some r ≡ slice_get n (length n - 1) → last_in n ≡ r ∷ []
last_some [] r e = cc
last_some (x ∷ n) r e = ap (λ (y : Rdn). y ∷ []) (inside (last_rdn (x ∷ n)) r (sym (last_of_name x n) ∙ sym (last_at (x ∷ n)) ∙ sym e))
  where
    inside : (a b : Rdn) → Some a ≡ Some b → a ≡ b
    inside a b q = cc

pub last_none : (n : Name) → None ≡ slice_get n (length n - 1) → last_in n ≡ []
last_none [] e = refl
last_none (x ∷ n) e = (let q : None ≡ Some (last_rdn (x ∷ n)) = e ∙ last_at (x ∷ n) ∙ last_of_name x n in cc)

pub same_by : (a b : Rdn) (o : Ordering) (t : Bool) → o ≡ rdn_cmp (key_of_rdn a) (key_of_rdn b) → t ≡ is_eq o → t ≡ same_spelled_rdn a b
same_by a b o t e f = f ∙ ap is_eq e ∙ sym (rdn_ties (key_of_rdn a) (key_of_rdn b))

pub last_same : (kept : List Rdn) (x r : Rdn) (b : Bool) → Some x ≡ slice_get kept (length kept - 1) → b ≡ same_spelled_rdn x r
    → b ≡ some_and (λ y. same_spelled_rdn y r) (last_of kept)
last_same kept x r b e f = f ∙ ap (λ (z : Option Rdn). some_and (λ y. same_spelled_rdn y r) z) (e ∙ last_at kept)

pub last_rdn_is : (n : Name) (r : Rdn) → Some r ≡ slice_get n (length n - 1) → last_rdn n ≡ r
last_rdn_is [] r e = cc
last_rdn_is (x ∷ n) r e = inside (last_rdn (x ∷ n)) r (sym (last_of_name x n) ∙ sym (last_at (x ∷ n)) ∙ sym e)
  where
    inside : (a b : Rdn) → Some a ≡ Some b → a ≡ b
    inside a b q = cc
