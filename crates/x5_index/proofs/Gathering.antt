-- Postings that are gathered stand once each, those of one node more as well; and sorted they are the same postings, which ascend.
use Rattle.std.proofs.Common.{◌≡◌, ℕ, zero, suc, ◌+◌, ◌<◌, ◌≤◌, Bool, true, false, cond, ◌⊎◌, inl, inr, List, [], ◌∷◌, ◌++◌, length, get_or, refl, sym, ap, subst, arith}
use Rattle.std.specs.Cmp.{tied_itself}
use Rattle.std.specs.List.{count_by}
use Rattle.std.specs.List.Sorted.{IsPermutation, IsSortedBy}
use Rattle.std.specs.Ordering.{is_eq}
use Rattle.std.specs.declared.cmp.Ordering.{Ordering}
use Rattle.std.specs.declared.cmp.Ordering.TheVariants.{Less, Equal, Greater}
use Rattle.std.proofs.lemmas.List.Sums.{sum_by-cons}
use Rattle.std.proofs.lemmas.List.Sorted.{sum_by-IsPermutation}
use Rattle.x5_model.specs.Words.{ascending}
use Rattle.x5_model.specs.Members.{In, Once, here, there}
use Rattle.x5_model.specs.Keys.{KeyPair}
use Rattle.x5_model.specs.Entries.{Entry}
use Rattle.x5_model.specs.Attributes.{is_ordered}
use Rattle.x5_model.proofs.Lists.{and_true, in_first, in_left, in_right, in_either, in_map, of_map}
use Rattle.x5_model.proofs.Ascending.{first_below, rest_ascending}
use Rattle.x5_index.specs.Index.{Posting, posting_cmp, posting_below, terms_of, is_there, IsPut}
use Rattle.x5_index.specs.Places.{HaveSame, postings_for}
use Rattle.x5_index.proofs.Order.{posting_total, equal_postings, same_or_apart, never_below, below_chain}
use Rattle.x5_index.proofs.Terms.{is_put_by, not_there}

-- ---- one node more

once_both : {A : Type 0} (xs ys : List A) → Once xs → Once ys → ((z : A) → In z xs → In z ys → ⊥) → Once (xs ++ ys)
once_both [] ys o p f = p
once_both (x ∷ xs) ys o p f = (
  (λ i. elim (in_either x xs ys i) [ inl j ↦ o.0 j | inr j ↦ f x here j ]),
  once_both xs ys o.1 p (λ z i j. f z (there i) j),
)

once_for : (node : ℕ) (ts : List KeyPair) → Once ts → Once (postings_for node ts)
once_for node [] o = tt
once_for node (t ∷ ts) o = (
  (λ i.
      let w = of_map (λ (s : KeyPair). record { term = s; node = node }) (record { term = t; node = node }) ts i in
      o.0 (subst (λ (s : KeyPair). In s ts) (sym (ap (λ (p : Posting). p.term) w.2)) w.1)),
  once_for node ts o.1,
)

of_node : (node : ℕ) (ts : List KeyPair) (p : Posting) → In p (postings_for node ts) → (p.node ≡ node) × In p.term ts
of_node node ts p i =
    let w = of_map (λ (s : KeyPair). record { term = s; node = node }) p ts i in (
      ap (λ (q : Posting). q.node) w.2,
      subst (λ (s : KeyPair). In s ts) (sym (ap (λ (q : Posting). q.term) w.2)) w.1,
    )

to_node : (node : ℕ) (ts : List KeyPair) (p : Posting) → p.node ≡ node → In p.term ts → In p (postings_for node ts)
to_node node ts p n i =
    subst (λ (k : ℕ). In (record { term = p.term; node = k }) (postings_for node ts)) (sym n)
    (in_map (λ (s : KeyPair). record { term = s; node = node }) p.term ts i)

pub once_more : (old : List Posting) (node : ℕ) (ts : List KeyPair) → is_there old node ≡ false → Once old → Once ts
    → Once (old ++ postings_for node ts)
once_more old node ts none o p =
    once_both old (postings_for node ts) o (once_for node ts p) (λ z i j. not_there old node z none (of_node node ts z j).0 i)

pub put_more : (old : List Posting) (node : ℕ) (e : Entry) → is_there old node ≡ false → is_ordered e ≡ true
    → IsPut old node e (old ++ postings_for node (terms_of e))
put_more old node e none h = is_put_by old (old ++ postings_for node (terms_of e)) node e none h (λ p. (forth p, back p))
  where
    forth : (p : Posting) → In p (old ++ postings_for node (terms_of e)) → In p old ⊎ ((p.node ≡ node) × In p.term (terms_of e))
    forth p i = elim (in_either p old (postings_for node (terms_of e)) i) [
      | inl j ↦ inl j
      | inr j ↦ inr (of_node node (terms_of e) p j)
    ]

    back : (p : Posting) → In p old ⊎ ((p.node ≡ node) × In p.term (terms_of e)) → In p (old ++ postings_for node (terms_of e))
    back p w = elim w [
      | inl i ↦ in_left p old (postings_for node (terms_of e)) i
      | inr v ↦ in_right p old (postings_for node (terms_of e)) (to_node node (terms_of e) p v.0 v.1)
    ]

-- ---- what is in order is there once

pub once_ascending : (ps : List Posting) → ascending posting_below ps ≡ true → Once ps
once_ascending [] h = tt
once_ascending (p ∷ ps) h = (
  (λ i. never_below p (first_below posting_below below_chain p p ps h i)),
  once_ascending ps (rest_ascending posting_below below_chain p ps h),
)

-- ---- sorted

is_equal : (o : Ordering) → is_eq o ≡ true → o ≡ Equal
is_equal Less e = cc
is_equal Equal e = refl
is_equal Greater e = cc

same_itself : (x : Posting) → is_eq (posting_cmp x x) ≡ true
same_itself x = ap is_eq (tied_itself posting_total x)

-- how often a posting is there
abbrev times : Posting → List Posting → ℕ
times x ps = count_by (λ p. is_eq (posting_cmp x p)) ps

times_cons : (x p : Posting) (ps : List Posting) → times x (p ∷ ps) ≡ cond (is_eq (posting_cmp x p)) 1 0 + times x ps
times_cons x p ps = sum_by-cons (λ (q : Posting). cond (is_eq (posting_cmp x q)) 1 0) p ps

there_times : (x : Posting) (ps : List Posting) → In x ps → 0 < times x ps
there_times x [] i = elim i [ ]
there_times x (p ∷ ps) i =
    subst (λ (n : ℕ). 0 < n) (sym (times_cons x p ps)) (by (in_first x p ps i) (λ j. there_times x ps j))
  where
    by : (x ≡ p) ⊎ In x ps → (In x ps → 0 < times x ps) → 0 < cond (is_eq (posting_cmp x p)) 1 0 + times x ps
    by (inl e) f =
        let t : is_eq (posting_cmp x p) ≡ true = subst (λ (q : Posting). is_eq (posting_cmp x q) ≡ true) e (same_itself x) in
        let one : cond (is_eq (posting_cmp x p)) 1 0 ≡ 1 = ap {B = ℕ} (λ (b : Bool). cond b 1 0) t in
        omega (arith, one)
    by (inr j) f = let l = f j in omega (arith, l)

times_there : (x : Posting) (ps : List Posting) → 0 < times x ps → In x ps
times_there x [] l = absurd (omega arith)
times_there x (p ∷ ps) l =
    by (is_eq (posting_cmp x p)) refl (subst (λ (n : ℕ). 0 < n) (times_cons x p ps) l) (λ m. times_there x ps m)
  where
    by : (b : Bool) → is_eq (posting_cmp x p) ≡ b → 0 < cond b 1 0 + times x ps → (0 < times x ps → In x ps) → In x (p ∷ ps)
    by true e m f = subst (λ (q : Posting). In x (q ∷ ps)) (equal_postings x p (is_equal (posting_cmp x p) e)) here
    by false e m f = there (f (omega (arith, m)))

none_or_some : (n : ℕ) → (n ≡ 0) ⊎ (0 < n)
none_or_some zero = inl refl
none_or_some (suc n) = inr (omega arith)

once_times : (x : Posting) (ps : List Posting) → Once ps → times x ps ≤ 1
once_times x [] o = omega arith
once_times x (p ∷ ps) o =
    subst (λ (n : ℕ). n ≤ 1) (sym (times_cons x p ps))
    (by (is_eq (posting_cmp x p)) refl (none_or_some (times x ps)) (once_times x ps o.1))
  where
    by : (b : Bool) → is_eq (posting_cmp x p) ≡ b → (times x ps ≡ 0) ⊎ (0 < times x ps) → times x ps ≤ 1
        → cond b 1 0 + times x ps ≤ 1
    by true e (inl z) l = omega (arith, z)
    by true e (inr m) l =
        absurd (o.0 (subst (λ (q : Posting). In q ps) (equal_postings x p (is_equal (posting_cmp x p) e)) (times_there x ps m)))
    by false e w l = omega (arith, l)

same_times : (xs ys : List Posting) → IsPermutation xs ys → (x : Posting) → times x ys ≡ times x xs
same_times xs ys p x = sum_by-IsPermutation (λ (q : Posting). cond (is_eq (posting_cmp x q)) 1 0) xs ys p

pub same_sorted : (xs ys : List Posting) → IsPermutation xs ys → HaveSame xs ys
same_sorted xs ys s = λ p. (
  (λ i. times_there p xs (subst (λ (n : ℕ). 0 < n) (same_times xs ys s p) (there_times p ys i))),
  (λ i. times_there p ys (subst (λ (n : ℕ). 0 < n) (sym (same_times xs ys s p)) (there_times p xs i))),
)

strictly : (ps : List Posting) → ((k : ℕ) (d : Posting) → suc k < length ps → posting_below (get_or ps (suc k) d) (get_or ps k d) ≡ false)
    → ((x : Posting) → times x ps ≤ 1) → ascending posting_below ps ≡ true
strictly [] f t = refl
strictly (p ∷ []) f t = refl
strictly (p ∷ q ∷ ps) f t =
    and_true (posting_below p q) (ascending posting_below (q ∷ ps)) (by (same_or_apart p q))
    (strictly (q ∷ ps) (λ k d l. f (suc k) d (omega (arith, l))) (λ x. let l = t x in omega (arith, l, times_cons x p (q ∷ ps))))
  where
    by : (p ≡ q) ⊎ ((posting_below p q ≡ true) ⊎ (posting_below q p ≡ true)) → posting_below p q ≡ true
    by (inl e) =
        let one : is_eq (posting_cmp p p) ≡ true = same_itself p in
        let two : is_eq (posting_cmp p q) ≡ true = subst (λ (r : Posting). is_eq (posting_cmp p r) ≡ true) e one in
        let first : cond (is_eq (posting_cmp p p)) 1 0 ≡ 1 = ap {B = ℕ} (λ (b : Bool). cond b 1 0) one in
        let second : cond (is_eq (posting_cmp p q)) 1 0 ≡ 1 = ap {B = ℕ} (λ (b : Bool). cond b 1 0) two in
        absurd (omega (arith, t p, times_cons p p (q ∷ ps), times_cons p q ps, first, second))
    by (inr (inl b)) = b
    by (inr (inr b)) = let n : posting_below q p ≡ false = f 0 p (omega arith) in cc

after_one : (k : ℕ) → k + 1 ≡ suc k
after_one k = omega arith

pub ascend_sorted : (xs ys : List Posting) → Once xs → IsPermutation xs ys → IsSortedBy posting_below ys → ascending posting_below ys ≡ true
ascend_sorted xs ys o p s =
    strictly ys
    (λ k d l. subst (λ (n : ℕ). posting_below (get_or ys n d) (get_or ys k d) ≡ false) (after_one k) (s k d (omega arith) (omega (arith, l))))
    (λ x. subst (λ (n : ℕ). n ≤ 1) (sym (same_times xs ys p x)) (once_times x xs o))
