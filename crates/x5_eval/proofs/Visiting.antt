-- A walk that passes over what it saw before comes to what the whole descent comes to, each once: by what was looked at below a
-- context that is passed over, nothing is missed; and no context stands below itself, since ranks grow.
use Rattle.std.proofs.Common.{◌≡◌, ℕ, zero, suc, ◌<◌, ◌≤◌, Bool, true, false, cond, ◌==◌, ◌⊎◌, inl, inr, List, [], ◌∷◌, ◌++◌, length, get_or, set, refl, sym, ap, subst, ◌∙◌, arith}
use Rattle.std.specs.List.{flat_map}
use Rattle.std.proofs.lemmas.List.{get_or-set_same, get_or-set_other}
use Rattle.x5_model.specs.Words.{has}
use Rattle.x5_model.specs.Members.{In, here, there}
use Rattle.x5_model.proofs.Lists.{true_or_false, or_left, or_right, either_true, in_first, in_left, in_right, in_either, in_flat, of_flat}
use Rattle.x5_eval.specs.Visited.{place_beside, order, adds, Walked, IsDone, IsSound, AreAbove, IsVisit, IsVisited, IsDescended, below}

-- ---- lists of numbers

same_number : (n : ℕ) → (n == n) ≡ true
same_number n = grind arith

number_is : (m n : ℕ) → (m == n) ≡ true → m ≡ n
number_is m n e = grind arith

same_or_not : (m n : ℕ) → (m ≡ n) ⊎ (m ≡ n → ⊥)
same_or_not m n = elim (true_or_false (m == n)) [
  | inl t ↦ inl (number_is m n t)
  | inr t ↦ inr (λ e. (let u : (m == n) ≡ true = ap (λ (k : ℕ). m == k) (sym e) ∙ same_number m in cc))
]

pub has_number : (xs : List ℕ) (n : ℕ) → In n xs → has ◌==◌ xs n ≡ true
has_number [] n i = elim i [ ]
has_number (x ∷ xs) n i = elim (in_first n x xs i) [
  | inl p ↦ or_left (x == n) (has ◌==◌ xs n) (ap (λ (y : ℕ). x == y) p ∙ same_number x)
  | inr j ↦ or_right (x == n) (has ◌==◌ xs n) (has_number xs n j)
]

pub of_has_number : (xs : List ℕ) (n : ℕ) → has ◌==◌ xs n ≡ true → In n xs
of_has_number [] n e = cc
of_has_number (x ∷ xs) n e = elim (either_true (x == n) (has ◌==◌ xs n) e) [
  | inl p ↦ subst (λ (y : ℕ). In y (x ∷ xs)) (number_is x n p) here
  | inr p ↦ there (of_has_number xs n p)
]

pub lacks_number : (xs : List ℕ) (n : ℕ) → (In n xs → ⊥) → has ◌==◌ xs n ≡ false
lacks_number xs n f = elim (true_or_false (has ◌==◌ xs n)) [ inl t ↦ absurd (f (of_has_number xs n t)) | inr t ↦ t ]

abbrev pub add : List ℕ → ℕ → List ℕ
add before c = cond (has ◌==◌ before c) before (before ++ c ∷ [])

pub add_known : (before : List ℕ) (c : ℕ) → In c before → add before c ≡ before
add_known before c i = ap (λ (b : Bool). cond b before (before ++ c ∷ [])) (has_number before c i)

pub add_new : (before : List ℕ) (c : ℕ) → (In c before → ⊥) → add before c ≡ before ++ c ∷ []
add_new before c f = ap (λ (b : Bool). cond b before (before ++ c ∷ [])) (lacks_number before c f)

pub in_add : (before : List ℕ) (c d : ℕ) → In d before → In d (add before c)
in_add before c d i = by (has ◌==◌ before c)
  where
    by : (b : Bool) → In d (cond b before (before ++ c ∷ []))
    by true = i
    by false = in_left d before (c ∷ []) i

new_in_add : (before : List ℕ) (c : ℕ) → In c (add before c)
new_in_add before c = by (has ◌==◌ before c) refl
  where
    by : (b : Bool) → has ◌==◌ before c ≡ b → In c (cond b before (before ++ c ∷ []))
    by true e = of_has_number before c e
    by false e = in_right c before (c ∷ []) here

of_add : (before : List ℕ) (c d : ℕ) → In d (add before c) → In d before ⊎ (d ≡ c)
of_add before c d i = by (has ◌==◌ before c) i
  where
    by : (b : Bool) → In d (cond b before (before ++ c ∷ [])) → In d before ⊎ (d ≡ c)
    by true j = inl j
    by false j = elim (in_either d before (c ∷ []) j) [
      | inl k ↦ inl k
      | inr k ↦ elim (in_first d c [] k) [ inl p ↦ inr p | inr l ↦ elim l [ ] ]
    ]

pub in_adds : (before cs : List ℕ) (d : ℕ) → In d before → In d (adds before cs)
in_adds before [] d i = i
in_adds before (c ∷ cs) d i = in_adds (add before c) cs d (in_add before c d i)

pub new_in_adds : (before cs : List ℕ) (d : ℕ) → In d cs → In d (adds before cs)
new_in_adds before [] d i = elim i [ ]
new_in_adds before (c ∷ cs) d i = elim (in_first d c cs i) [
  | inl p ↦ subst (λ (x : ℕ). In x (adds before (c ∷ cs))) (sym p) (in_adds (add before c) cs c (new_in_add before c))
  | inr j ↦ new_in_adds (add before c) cs d j
]

pub of_adds : (before cs : List ℕ) (d : ℕ) → In d (adds before cs) → In d before ⊎ In d cs
of_adds before [] d i = inl i
of_adds before (c ∷ cs) d i = elim (of_adds (add before c) cs d i) [
  | inl j ↦ elim (of_add before c d j) [ inl k ↦ inl k | inr p ↦ inr (subst (λ (x : ℕ). In x (c ∷ cs)) (sym p) here) ]
  | inr j ↦ inr (there j)
]

pub adds_known : (before cs : List ℕ) → ((d : ℕ) → In d cs → In d before) → adds before cs ≡ before
adds_known before [] f = refl
adds_known before (c ∷ cs) f =
    ap (λ (l : List ℕ). adds l cs) (add_known before c (f c here)) ∙ adds_known before cs (λ d i. f d (there i))

pub adds_joined : (before xs ys : List ℕ) → adds before (xs ++ ys) ≡ adds (adds before xs) ys
adds_joined before [] ys = refl
adds_joined before (x ∷ xs) ys = adds_joined (add before x) xs ys

flat_joined : {A B : Type 0} (f : A → List B) (xs ys : List A) → flat_map f (xs ++ ys) ≡ flat_map f xs ++ flat_map f ys
flat_joined f [] ys = refl
flat_joined f (x ∷ xs) ys = ap (λ l. f x ++ l) (flat_joined f xs ys) ∙ sym (three (f x) (flat_map f xs) (flat_map f ys))
  where
    three : {A : Type 0} (xs ys zs : List A) → (xs ++ ys) ++ zs ≡ xs ++ (ys ++ zs)
    three [] ys zs = refl
    three {A} (x ∷ xs) ys zs = ap (λ (l : List A). x ∷ l) (three xs ys zs)

module _ (next : ℕ → List ℕ) where
  pub order_joined : (behind : Bool) (n : ℕ) (xs ys : List ℕ) → order next behind n (xs ++ ys) ≡ order next behind n xs ++ order next behind n ys
  order_joined behind zero xs ys = refl
  order_joined behind (suc n) xs ys = flat_joined (λ c. place_beside behind c (order next behind n (next c))) xs ys

  append_none : {A : Type 0} (xs : List A) → xs ++ [] ≡ xs
  append_none [] = refl
  append_none {A} (x ∷ xs) = ap (λ (l : List A). x ∷ l) (append_none xs)

  pub order_one : (behind : Bool) (n c : ℕ) → order next behind (suc n) (c ∷ []) ≡ place_beside behind c (order next behind n (next c))
  order_one behind n c = append_none (place_beside behind c (order next behind n (next c)))

  -- both orders have the same members
  pub other_order : (n : ℕ) (xs : List ℕ) (d : ℕ) → In d (order next true n xs) → In d (order next false n xs)
  other_order zero xs d i = i
  other_order (suc n) xs d i =
      let w = of_flat (λ c. place_beside true c (order next true n (next c))) d xs i in
      in_flat (λ c. place_beside false c (order next false n (next c))) d w.0 xs w.1
      (elim (in_either d (order next true n (next w.0)) (w.0 ∷ []) w.2) [
        | inl j ↦ there (other_order n (next w.0) d j)
        | inr j ↦ elim (in_first d w.0 [] j) [
          | inl p ↦ subst (λ (x : ℕ). In x (w.0 ∷ order next false n (next w.0))) (sym p) here
          | inr k ↦ elim k [ ]
        ]
      ])

  pub same_order : (n : ℕ) (xs : List ℕ) (d : ℕ) → In d (order next false n xs) → In d (order next true n xs)
  same_order zero xs d i = i
  same_order (suc n) xs d i =
      let w = of_flat (λ c. place_beside false c (order next false n (next c))) d xs i in
      in_flat (λ c. place_beside true c (order next true n (next c))) d w.0 xs w.1
      (elim (in_first d w.0 (order next false n (next w.0)) w.2) [
        | inl p ↦ subst (λ (x : ℕ). In x (order next true n (next w.0) ++ w.0 ∷ [])) (sym p)
            (in_right w.0 (order next true n (next w.0)) (w.0 ∷ []) here)
        | inr j ↦ in_left d (order next true n (next w.0)) (w.0 ∷ []) (same_order n (next w.0) d j)
      ])

  -- itself is there, and more levels have more
  pub itself : (n c : ℕ) → In c (order next false n (c ∷ []))
  itself zero c = here
  itself (suc n) c = here

  from_zero : (m : ℕ) (xs : List ℕ) (d : ℕ) → In d xs → In d (order next false m xs)
  from_zero zero xs d i = i
  from_zero (suc m) xs d i = in_flat (λ c. place_beside false c (order next false m (next c))) d d xs i here

  pub deeper : (n m : ℕ) → n ≤ m → (xs : List ℕ) (d : ℕ) → In d (order next false n xs) → In d (order next false m xs)
  deeper zero m le xs d i = from_zero m xs d i
  deeper (suc n) zero le xs d i = absurd (omega (arith, le))
  deeper (suc n) (suc m) le xs d i =
      let w = of_flat (λ c. place_beside false c (order next false n (next c))) d xs i in
      in_flat (λ c. place_beside false c (order next false m (next c))) d w.0 xs w.1
      (elim (in_first d w.0 (order next false n (next w.0)) w.2) [
        | inl p ↦ subst (λ (x : ℕ). In x (w.0 ∷ order next false m (next w.0))) (sym p) here
        | inr j ↦ there (deeper n m (omega (arith, le)) (next w.0) d j)
      ])

  pub order_none : (behind : Bool) (n : ℕ) → order next behind n [] ≡ []
  order_none behind zero = refl
  order_none behind (suc n) = refl

module _ (next : ℕ → List ℕ) (rank : ℕ → ℕ) where
  -- ---- one after the other

  pub visit_none : (n : ℕ) (v : Walked) → IsVisited next rank n [] v v
  visit_none n v pending above sound = record {
    comes = sym (ap (adds v.entered) (order_none next false n));
    leaves = sym (ap (adds v.left) (order_none next true n));
    sound = sound;
    below = λ p d i j. elim (subst (λ (l : List ℕ). In d l) (order_none next false n) j) [ ];
    kept = λ p i. refl;
  }

  pub visit_more : (n : ℕ) (xs ys : List ℕ) (a b c : Walked) → IsVisited next rank n xs a b → IsVisited next rank n ys b c
      → IsVisited next rank n (xs ++ ys) a c
  visit_more n xs ys a b c f g pending above sound =
      let v = f pending (λ p d i j. above p d i (in_left d xs ys j)) sound in
      let w = g pending (λ p d i j. above p d i (in_right d xs ys j)) v.sound in
      record {
        comes = w.comes ∙ ap (λ (l : List ℕ). adds l (order next false n ys)) v.comes
            ∙ sym (adds_joined a.entered (order next false n xs) (order next false n ys))
            ∙ ap (adds a.entered) (sym (order_joined next false n xs ys));
        leaves = w.leaves ∙ ap (λ (l : List ℕ). adds l (order next true n ys)) v.leaves
            ∙ sym (adds_joined a.left (order next true n xs) (order next true n ys))
            ∙ ap (adds a.left) (sym (order_joined next true n xs ys));
        sound = w.sound;
        below = λ p d i j. elim (in_either d (order next false n xs) (order next false n ys)
            (subst (λ (l : List ℕ). In d l) (order_joined next false n xs ys) j)) [ inl k ↦ v.below p d i k | inr k ↦ w.below p d i k ];
        kept = λ p i. w.kept p i ∙ v.kept p i;
      }

  -- ---- a context that is passed over
  not_pending : (pending : List ℕ) (c : ℕ) → AreAbove rank pending (c ∷ []) → In c pending → ⊥
  not_pending pending c above i = (let l : rank c < rank c = above c c i here in omega (arith, l))

  pub visit_known : (n f c : ℕ) (v : Walked) → get_or v.seen c 0 ≡ suc f → n ≤ f → IsVisited next rank n (c ∷ []) v v
  visit_known n f c v e le pending above sound =
      let done = sound.done c f (not_pending pending c above) e in
      record {
        comes = sym (adds_known v.entered (order next false n (c ∷ [])) (λ d i. done.entered d (deeper next n f le (c ∷ []) d i)));
        leaves = sym (adds_known v.left (order next true n (c ∷ []))
            (λ d i. done.left d (deeper next n f le (c ∷ []) d (other_order next n (c ∷ []) d i))));
        sound = sound;
        below = λ p d i j. (let l : rank p < rank c = above p c i here in
            let m : rank c ≤ rank d = done.below d (deeper next n f le (c ∷ []) d j) in omega (arith, l, m));
        kept = λ p i. refl;
      }

  -- ---- one that isn't
  module _ (n c : ℕ) (v v1 v2 v3 : Walked) (pre post : List ℕ)
      (first : order next false n (c ∷ []) ≡ c ∷ pre) (last : order next true n (c ∷ []) ≡ post ++ c ∷ [])
      (alike : (d : ℕ) → In d post → In d pre)
      (room : c < length v.seen)
      (seen_is : v1.seen ≡ set v.seen c (suc n))
      (entered_is : (get_or v.seen c 0 ≡ 0 → v1.entered ≡ v.entered ++ c ∷ []) × (0 < get_or v.seen c 0 → v1.entered ≡ v.entered))
      (left_is : v1.left ≡ v.left)
      (seen_then : v3.seen ≡ v2.seen)
      (entered_then : v3.entered ≡ v2.entered)
      (left_then : (get_or v.seen c 0 ≡ 0 → v3.left ≡ v2.left ++ c ∷ []) × (0 < get_or v.seen c 0 → v3.left ≡ v2.left))
      (visited : (pending : List ℕ) → AreAbove rank pending (c ∷ []) → IsSound next rank (c ∷ pending) v1 → IsVisit next rank (c ∷ pending) pre post v1 v2)
      (pending : List ℕ) (above : AreAbove rank pending (c ∷ [])) (sound : IsSound next rank pending v) where
    seen_here : get_or v1.seen c 0 ≡ suc n
    seen_here = ap (λ (l : List ℕ). get_or l c 0) seen_is ∙ get_or-set_same v.seen c (suc n) 0 room

    seen_there : (x : ℕ) → (x ≡ c → ⊥) → get_or v1.seen x 0 ≡ get_or v.seen x 0
    seen_there x f = ap (λ (l : List ℕ). get_or l x 0) seen_is ∙ get_or-set_other v.seen c x (suc n) 0 f

    -- whether the walk was there
    abbrev WasThere : Type 0
    WasThere = (get_or v.seen c 0 ≡ 0) ⊎ ((f : ℕ) × (get_or v.seen c 0 ≡ suc f))

    was_there : WasThere
    was_there = by (get_or v.seen c 0) refl
      where
        by : (k : ℕ) → get_or v.seen c 0 ≡ k → WasThere
        by zero e = inl e
        by (suc f) e = inr (f, e)

    some : (f : ℕ) → get_or v.seen c 0 ≡ suc f → 0 < get_or v.seen c 0
    some f e = omega (arith, e)

    none_there : get_or v.seen c 0 ≡ 0 → In c v.entered ⊎ In c v.left → ⊥
    none_there e i = (let l : 0 < get_or v.seen c 0 = sound.known c i in omega (arith, e, l))

    entered_one : v1.entered ≡ add v.entered c
    entered_one = elim was_there [
      | inl e ↦ entered_is.0 e ∙ sym (add_new v.entered c (λ i. none_there e (inl i)))
      | inr w ↦ entered_is.1 (some w.0 w.1)
          ∙ sym (add_known v.entered c ((sound.done c w.0 (not_pending pending c above) w.1).entered c (itself next w.0 c)))
    ]

    abbrev within : List ℕ
    within = c ∷ pending

    not_here : (x : ℕ) → (In x within → ⊥) → x ≡ c → ⊥
    not_here x f e = f (subst (λ (y : ℕ). In y within) (sym e) here)

    sound_one : IsSound next rank within v1
    sound_one = record {
      known = λ x i. known x i;
      done = λ x deep f e. (
          let d = sound.done x deep (λ i. f (there i)) (sym (seen_there x (not_here x f)) ∙ e) in
          record {
            entered = λ y i. subst (λ (l : List ℕ). In y l) (sym entered_one) (in_add v.entered c y (d.entered y i));
            left = λ y i. subst (λ (l : List ℕ). In y l) (sym left_is) (d.left y i);
            below = d.below;
          });
    }
      where
        old_known : (x : ℕ) → In x v.entered ⊎ In x v.left → 0 < get_or v1.seen x 0
        old_known x i = elim (same_or_not x c) [
          | inl e ↦ (let s : get_or v1.seen x 0 ≡ suc n = ap (λ (y : ℕ). get_or v1.seen y 0) e ∙ seen_here in omega (arith, s))
          | inr f ↦ (let l : 0 < get_or v.seen x 0 = sound.known x i in let s = seen_there x f in omega (arith, s, l))
        ]

        known : (x : ℕ) → In x v1.entered ⊎ In x v1.left → 0 < get_or v1.seen x 0
        known x (inl i) = elim (of_add v.entered c x (subst (λ (l : List ℕ). In x l) entered_one i)) [
          | inl j ↦ old_known x (inl j)
          | inr e ↦ (let s : get_or v1.seen x 0 ≡ suc n = ap (λ (y : ℕ). get_or v1.seen y 0) e ∙ seen_here in omega (arith, s))
        ]
        known x (inr i) = old_known x (inr (subst (λ (l : List ℕ). In x l) left_is i))

    deep_visit : IsVisit next rank within pre post v1 v2
    deep_visit = visited pending above sound_one

    not_below : In c pre → ⊥
    not_below i = (let l : rank c < rank c = deep_visit.below c c here i in omega (arith, l))

    left_two : v2.left ≡ adds v.left post
    left_two = deep_visit.leaves ∙ ap (λ (l : List ℕ). adds l post) left_is

    left_three : v3.left ≡ add v2.left c
    left_three = elim was_there [
      | inl e ↦ left_then.0 e ∙ sym (add_new v2.left c (λ i. elim (of_adds v.left post c (subst (λ (l : List ℕ). In c l) left_two i)) [
        | inl j ↦ none_there e (inr j)
        | inr j ↦ not_below (alike c j)
      ]))
      | inr w ↦ left_then.1 (some w.0 w.1) ∙ sym (add_known v2.left c (subst (λ (l : List ℕ). In c l) (sym left_two)
          (in_adds v.left post c ((sound.done c w.0 (not_pending pending c above) w.1).left c (itself next w.0 c)))))
    ]

    comes_all : v3.entered ≡ adds v.entered (order next false n (c ∷ []))
    comes_all = entered_then ∙ deep_visit.comes ∙ ap (λ (l : List ℕ). adds l pre) entered_one ∙ ap (adds v.entered) (sym first)

    leaves_all : v3.left ≡ adds v.left (order next true n (c ∷ []))
    leaves_all = left_three ∙ ap (λ (l : List ℕ). add l c) left_two ∙ sym (adds_joined v.left post (c ∷ []))
        ∙ ap (adds v.left) (sym last)

    seen_three : get_or v3.seen c 0 ≡ suc n
    seen_three = ap (λ (l : List ℕ). get_or l c 0) seen_then ∙ deep_visit.kept c here ∙ seen_here

    below_here : (p d : ℕ) → rank p ≤ rank c → In d (order next false n (c ∷ [])) → rank p ≤ rank d
    below_here p d le i = elim (in_first d c pre (subst (λ (l : List ℕ). In d l) first i)) [
      | inl e ↦ (let s : rank d ≡ rank c = ap rank e in omega (arith, s, le))
      | inr j ↦ (let l : rank c < rank d = deep_visit.below c d here j in omega (arith, l, le))
    ]

    sound_three : IsSound next rank pending v3
    sound_three = record { known = known; done = done }
      where
        known : (x : ℕ) → In x v3.entered ⊎ In x v3.left → 0 < get_or v3.seen x 0
        known x (inl i) = subst (λ (l : List ℕ). 0 < get_or l x 0) (sym seen_then)
            (deep_visit.sound.known x (inl (subst (λ (l : List ℕ). In x l) entered_then i)))
        known x (inr i) = elim (of_add v2.left c x (subst (λ (l : List ℕ). In x l) left_three i)) [
          | inl j ↦ subst (λ (l : List ℕ). 0 < get_or l x 0) (sym seen_then) (deep_visit.sound.known x (inr j))
          | inr e ↦ (let s : get_or v3.seen x 0 ≡ suc n = ap (λ (y : ℕ). get_or v3.seen y 0) e ∙ seen_three in omega (arith, s))
        ]

        done : (x deep : ℕ) → (In x pending → ⊥) → get_or v3.seen x 0 ≡ suc deep → IsDone next rank v3 x deep
        done x deep f e = elim (same_or_not x c) [
          | inl p ↦
              let s : get_or v3.seen x 0 ≡ suc n = ap (λ (y : ℕ). get_or v3.seen y 0) p ∙ seen_three in
              let m : n ≡ deep = omega (arith, s, e) in
              subst (λ (k : ℕ). IsDone next rank v3 x k) m (subst (λ (y : ℕ). IsDone next rank v3 y n) (sym p) (record {
                entered = λ y i. subst (λ (l : List ℕ). In y l) (sym comes_all) (new_in_adds v.entered (order next false n (c ∷ [])) y i);
                left = λ y i. subst (λ (l : List ℕ). In y l) (sym leaves_all)
                    (new_in_adds v.left (order next true n (c ∷ [])) y (same_order next n (c ∷ []) y i));
                below = λ y i. below_here c y (omega arith) i;
              }))
          | inr g ↦
              let d = deep_visit.sound.done x deep (λ i. elim (in_first x c pending i) [ inl p ↦ g p | inr j ↦ f j ])
              (ap (λ (l : List ℕ). get_or l x 0) (sym seen_then) ∙ e) in
              record {
                entered = λ y i. subst (λ (l : List ℕ). In y l) (sym entered_then) (d.entered y i);
                left = λ y i. subst (λ (l : List ℕ). In y l) (sym left_three) (in_add v2.left c y (d.left y i));
                below = d.below;
              }
        ]

    pub visit_new : IsVisit next rank pending (order next false n (c ∷ [])) (order next true n (c ∷ [])) v v3
    visit_new = record {
      comes = comes_all;
      leaves = leaves_all;
      sound = sound_three;
      below = λ p d i j. elim (in_first d c pre (subst (λ (l : List ℕ). In d l) first j)) [
        | inl e ↦ subst (λ (x : ℕ). rank p < rank x) (sym e) (above p c i here)
        | inr k ↦ deep_visit.below p d (there i) k
      ];
      kept = λ p i. (
          ap (λ (l : List ℕ). get_or l p 0) seen_then ∙ deep_visit.kept p (there i)
          ∙ seen_there p (λ e. not_pending pending c above (subst (λ (x : ℕ). In x pending) e i)));
    }

  -- ---- what is below one
  below_first : (n c : ℕ) → order next false n (c ∷ []) ≡ c ∷ below next false n c
  below_first zero c = refl
  below_first (suc n) c = order_one next false n c

  below_last : (n c : ℕ) → order next true n (c ∷ []) ≡ below next true n c ++ c ∷ []
  below_last zero c = refl
  below_last (suc n) c = order_one next true n c

  below_alike : (n c d : ℕ) → In d (below next true n c) → In d (below next false n c)
  below_alike zero c d i = i
  below_alike (suc n) c d i = other_order next n (next c) d i

  pub descended_none : (c : ℕ) (v : Walked) → IsDescended next rank 0 c v v
  descended_none c v pending above sound = record {
    comes = refl;
    leaves = refl;
    sound = sound;
    below = λ p d i j. elim j [ ];
    kept = λ p i. refl;
  }

  pub descended_some : (n c : ℕ) (v w : Walked) → AreAbove rank (c ∷ []) (next c) → IsVisited next rank n (next c) v w
      → IsDescended next rank (suc n) c v w
  descended_some n c v w rising visited pending above sound = visited (c ∷ pending) above_next sound
    where
      above_next : AreAbove rank (c ∷ pending) (next c)
      above_next p d i j = elim (in_first p c pending i) [
        | inl e ↦ rising p d (subst (λ (x : ℕ). In x (c ∷ [])) (sym e) here) j
        | inr k ↦ (let l : rank p < rank c = above p c k here in let m : rank c < rank d = rising c d here j in omega (arith, l, m))
      ]

  pub visit_through : (n c : ℕ) (v v1 v2 v3 : Walked)
      → c < length v.seen
      → v1.seen ≡ set v.seen c (suc n)
      → (get_or v.seen c 0 ≡ 0 → v1.entered ≡ v.entered ++ c ∷ []) × (0 < get_or v.seen c 0 → v1.entered ≡ v.entered)
      → v1.left ≡ v.left
      → v3.seen ≡ v2.seen
      → v3.entered ≡ v2.entered
      → (get_or v.seen c 0 ≡ 0 → v3.left ≡ v2.left ++ c ∷ []) × (0 < get_or v.seen c 0 → v3.left ≡ v2.left)
      → IsDescended next rank n c v1 v2 → IsVisited next rank n (c ∷ []) v v3
  visit_through n c v v1 v2 v3 room seen entered left seen_then entered_then left_then descended =
      visit_new n c v v1 v2 v3 (below next false n c) (below next true n c) (below_first n c) (below_last n c) (below_alike n c)
      room seen entered left seen_then entered_then left_then descended
