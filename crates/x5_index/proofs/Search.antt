-- What a search by halves in a list in order tells: whether what is looked for is there, and of postings its place. The order is
-- any total one with `≡` as its ties.
use Rattle.std.proofs.Common.{◌≡◌, ℕ, zero, suc, ◌<◌, ◌≤◌, Bool, true, false, cond, ◌⊎◌, inl, inr, List, [], ◌∷◌, length, get_or, refl, sym, ap, subst, ◌∙◌, arith, Result, Ok, Err, is_ok}
use Rattle.std.specs.Bool.{Decides}
use Rattle.std.specs.Cmp.{IsTotalOrder, tied_itself}
use Rattle.std.specs.List.Sorted.{IsBinarySearchResult, IsSearchInRange, IsNonDecreasingBy}
use Rattle.std.specs.declared.cmp.Ordering.{Ordering}
use Rattle.std.specs.declared.cmp.Ordering.TheVariants.{Less, Equal, Greater}
use Rattle.std.specs.Ordering.{is_lt, ordering_index}
use Rattle.x5_model.specs.Words.{ascending}
use Rattle.x5_model.specs.Members.{In, here, there}
use Rattle.x5_model.specs.Keys.{KeyPair, pair_cmp}
use Rattle.x5_model.proofs.KeyLaws.{pair_cmp_total}
use Rattle.x5_model.proofs.Ascending.{rest_ascending, first_below}
use Rattle.x5_index.specs.Index.{Posting, posting_cmp, posting_below, term_below}
use Rattle.x5_index.specs.Places.{place_of, IsFoundAt}
use Rattle.x5_index.proofs.Order.{posting_total, equal_postings, equal_pairs, is_less}

-- ---- members by their places

in_get : {A : Type 0} (xs : List A) (i : ℕ) (d : A) → i < length xs → In (get_or xs i d) xs
in_get [] i d l = absurd (omega arith)
in_get (x ∷ xs) zero d l = here
in_get (x ∷ xs) (suc i) d l = there (in_get xs i d (omega arith))

at_some : {A : Type 0} (x : A) (xs : List A) → In x xs → (i : ℕ) × (i < length xs) × ((d : A) → get_or xs i d ≡ x)
at_some x [] i = elim i [ ]
at_some x (y ∷ ys) here = (0, omega arith, λ d. refl)
at_some x (y ∷ ys) (there i) = let w = at_some x ys i in (suc w.0, omega (arith, w.1), λ d. w.2 d)

-- ---- how members stand to one

below_or_not : (k n : ℕ) → (k < n) ⊎ (n ≤ k)
below_or_not k zero = inr (omega arith)
below_or_not zero (suc n) = inl (omega arith)
below_or_not (suc k) (suc n) = elim (below_or_not k n) [ inl l ↦ inl (omega arith) | inr l ↦ inr (omega arith) ]

index_bound : (o : Ordering) → ordering_index o ≤ 2
index_bound Less = omega arith
index_bound Equal = omega arith
index_bound Greater = omega arith

module _ {A : Type 0} (cmp : A → A → Ordering) (total : IsTotalOrder cmp) (ties : (a b : A) → cmp a b ≡ Equal → a ≡ b) where
  abbrev under : A → A → Bool
  under a b = is_lt (cmp a b)

  chain : (a b c : A) → under a b ≡ true → under b c ≡ true → under a c ≡ true
  chain a b c p q = ap is_lt (total.trans a b c (is_less (cmp a b) p) (is_less (cmp b c) q))

  module _ (x : A) where
    step : (a b : A) → under a b ≡ true → (o : Ordering) → cmp b x ≡ o → ordering_index (cmp a x) ≤ ordering_index o
    step a b h Less e =
        let l : cmp a x ≡ Less = total.trans a b x (is_less (cmp a b) h) e in
        subst (λ (o : Ordering). ordering_index o ≤ 0) (sym l) (omega arith)
    step a b h Equal e =
        let l : cmp a x ≡ Less = ap (cmp a) (sym (ties b x e)) ∙ is_less (cmp a b) h in
        subst (λ (o : Ordering). ordering_index o ≤ 1) (sym l) (omega arith)
    step a b h Greater e = index_bound (cmp a x)

    rises : (ys : List A) → ascending under ys ≡ true → IsNonDecreasingBy (λ y. ordering_index (cmp y x)) ys
    rises [] h i j d l m = absurd (omega arith)
    rises (y ∷ ys) h zero zero d l m = omega arith
    rises (y ∷ ys) h zero (suc j) d l m =
        step y (get_or ys j d) (first_below under chain y (get_or ys j d) ys h (in_get ys j d (omega arith))) (cmp (get_or ys j d) x) refl
    rises (y ∷ ys) h (suc i) zero d l m = absurd (omega arith)
    rises (y ∷ ys) h (suc i) (suc j) d l m = rises ys (rest_ascending under chain y ys h) i j d (omega arith) (omega arith)

    -- what stands before a place stands below what is there
    pub before : (ys : List A) → ascending under ys ≡ true → (i : ℕ) (d : A) → i < length ys → (k : ℕ) → k < i → under (get_or ys k d) (get_or ys i d) ≡ true
    before [] h i d l k m = absurd (omega arith)
    before (y ∷ ys) h zero d l k m = absurd (omega arith)
    before (y ∷ ys) h (suc i) d l zero m = first_below under chain y (get_or ys i d) ys h (in_get ys i d (omega arith))
    before (y ∷ ys) h (suc i) d l (suc k) m = before ys (rest_ascending under chain y ys h) i d (omega arith) k (omega arith)

    -- all before the place are below, and all from there on are above
    pub parts : (ys : List A) → ascending under ys ≡ true → (i : ℕ) → IsBinarySearchResult (λ y. cmp y x) ys (Err i)
        → ((k : ℕ) (d : A) → k < i → k < length ys → cmp (get_or ys k d) x ≡ Less) × ((k : ℕ) (d : A) → i ≤ k → k < length ys → cmp (get_or ys k d) x ≡ Greater)
    parts ys h i e = let w = e (rises ys h) in ((λ k d l m. w.0 k d (omega arith) l), λ k d l m. w.1 k d l m)

    pub is_here : (ys : List A) (i : ℕ) → i < length ys → ((d : A) → cmp (get_or ys i d) x ≡ Equal) → In x ys
    is_here ys i l e = subst (λ (y : A). In y ys) (ties (get_or ys i x) x (e x)) (in_get ys i x l)

    pub is_absent : (ys : List A) → ascending under ys ≡ true → (i : ℕ) → IsBinarySearchResult (λ y. cmp y x) ys (Err i) → In x ys → ⊥
    is_absent ys h i e j = let w = at_some x ys j in missing w.0 w.1 (w.2 x)
      where
        missing : (k : ℕ) → k < length ys → get_or ys k x ≡ x → ⊥
        missing k m s =
            let q : cmp (get_or ys k x) x ≡ Equal = ap (λ (y : A). cmp y x) s ∙ tied_itself total x in
            elim (below_or_not k i) [
              | inl b ↦ (let z : cmp (get_or ys k x) x ≡ Less = (parts ys h i e).0 k x b m in cc)
              | inr b ↦ (let z : cmp (get_or ys k x) x ≡ Greater = (parts ys h i e).1 k x b m in cc)
            ]

-- ---- terms

pub decided : (t : KeyPair) (ts : List KeyPair) → ascending term_below ts ≡ true → (r : Result ℕ ℕ) → IsSearchInRange r (length ts) → IsBinarySearchResult (λ s. pair_cmp s t) ts r
    → Decides (is_ok r) (In t ts)
decided t ts h (Ok i) l e = ((λ p. is_here pair_cmp pair_cmp_total equal_pairs t ts i l e), λ j. refl)
decided t ts h (Err i) l e = ((λ p. cc), λ j. absurd (is_absent pair_cmp pair_cmp_total equal_pairs t ts h i e j))

-- ---- postings

module _ (x : Posting) where
  -- all before the place are below, and the first from there on isn't
  place_is : (ps : List Posting) (i : ℕ) → i ≤ length ps → ((k : ℕ) (d : Posting) → k < i → posting_below (get_or ps k d) x ≡ true)
      → ((d : Posting) → i < length ps → posting_below (get_or ps i d) x ≡ false) → i ≡ place_of ps x
  place_is [] zero l f g = refl
  place_is [] (suc i) l f g = absurd (omega arith)
  place_is (p ∷ ps) zero l f g = sym (ap (λ (b : Bool). cond b (suc (place_of ps x)) 0) (g p (omega arith)))
  place_is (p ∷ ps) (suc i) l f g =
      ap suc (place_is ps i (omega arith) (λ k d m. f (suc k) d (omega arith)) (λ d m. g d (omega arith)))
      ∙ sym (ap (λ (b : Bool). cond b (suc (place_of ps x)) 0) (f 0 p (omega arith)))

  pub found : (ps : List Posting) → ascending posting_below ps ≡ true → (r : Result ℕ ℕ) → IsSearchInRange r (length ps) → IsBinarySearchResult (λ y. posting_cmp y x) ps r → IsFoundAt ps x r
  found ps h (Ok i) l e =
      let same : (d : Posting) → get_or ps i d ≡ x = λ d. equal_postings (get_or ps i d) x (e d) in (
        place_is ps i (omega (arith, l)) (λ k d m. subst (λ (y : Posting). posting_below (get_or ps k d) y ≡ true) (same d) (before posting_cmp posting_total equal_postings x ps h i d l k m)) (λ d m. ap is_lt (e d)),
        is_here posting_cmp posting_total equal_postings x ps i l e,
      )
  found ps h (Err i) l e =
      let w = parts posting_cmp posting_total equal_postings x ps h i e in (
        place_is ps i l (λ k d m. ap is_lt (w.0 k d m (omega (arith, l, m)))) (λ d m. ap is_lt (w.1 i d (omega arith) m)),
        is_absent posting_cmp posting_total equal_postings x ps h i e,
      )
