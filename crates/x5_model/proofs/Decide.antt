-- Tests and lists of faults against plain statements: `Decides test P` says that the test is true exactly where P holds,
-- and `EmptyWhere faults P` that the list is empty exactly where it does. Both are put together part by part.
use Rattle.std.proofs.Common.{◌≡◌, ℕ, ◌<◌, Bool, true, false, not, ◌&&◌, ◌||◌, ◌==◌, nat_lt, ◌⊎◌, inl, inr, List, [], ◌∷◌, ◌++◌, map, refl, ap, subst, ◌∙◌, arith}
use Rattle.std.specs.Bool.{Decides}
use Rattle.std.specs.List.{list_any, list_all, flat_map}
use Rattle.x5_model.specs.Words.{has, distinct, when, unfit}
use Rattle.x5_model.specs.Members.{In, here, there, Once}
use Rattle.x5_model.proofs.Lists.{both_true, and_true, either_true, or_left, or_right, not_true, not_false, true_or_false, in_first, any_in, of_any, of_all, all_in, has_in, of_has, left_empty, right_empty, flat_empty, empty_flat, when_empty, empty_when}

-- ---- tests

pub nat_same_decides : (a b : ℕ) → Decides (a == b) (a ≡ b)
nat_same_decides a b = (λ e. grind arith, λ e. grind arith)

pub less_decides : (a b : ℕ) → Decides (nat_lt a b) (a < b)
less_decides a b = (λ e. grind arith, λ e. grind arith)

pub true_decides : Decides true (Unit {0})
true_decides = (λ e. tt, λ p. refl)

pub and_decides : {P Q : Type 0} (a b : Bool) → Decides a P → Decides b Q → Decides (a && b) (P × Q)
and_decides a b p q = (λ e. let w = both_true a b e in (p.0 w.0, q.0 w.1), λ h. and_true a b (p.1 h.0) (q.1 h.1))

pub or_decides : {P Q : Type 0} (a b : Bool) → Decides a P → Decides b Q → Decides (a || b) (P ⊎ Q)
or_decides {P} {Q} a b p q = (from, to)
  where
    from : (a || b) ≡ true → P ⊎ Q
    from e = elim (either_true a b e) [ inl x ↦ inl (p.0 x) | inr x ↦ inr (q.0 x) ]

    to : P ⊎ Q → (a || b) ≡ true
    to (inl x) = or_left a b (p.1 x)
    to (inr x) = or_right a b (q.1 x)

pub not_decides : {P : Type 0} (a : Bool) → Decides a P → Decides (not a) (¬ P)
not_decides {P} a p = (λ e h. let x : a ≡ true = p.1 h in let y : a ≡ false = not_true a e in cc, to)
  where
    to : ¬ P → not a ≡ true
    to f = elim (true_or_false a) [ inl x ↦ absurd (f (p.0 x)) | inr x ↦ ap not x ]

pub same_decides : {P Q : Type 0} (a : Bool) → (P → Q) → (Q → P) → Decides a P → Decides a Q
same_decides a f g d = (λ e. f (d.0 e), λ h. d.1 (g h))

pub any_decides : {A : Type 0} {P : A → Type 0} (test : A → Bool) (xs : List A) → ((x : A) → Decides (test x) (P x)) → Decides (list_any test xs) ((x : A) × In x xs × P x)
any_decides test xs d =
    (λ e. let w = of_any test xs e in (w.0, w.1, (d w.0).0 w.2), λ h. any_in test h.0 xs h.1 ((d h.0).1 h.2))

pub all_decides : {A : Type 0} {P : A → Type 0} (test : A → Bool) (xs : List A) → ((x : A) → Decides (test x) (P x)) → Decides (list_all test xs) ((x : A) → In x xs → P x)
all_decides test xs d = (λ e x i. (d x).0 (of_all test x xs e i), λ h. all_in test xs (λ x i. (d x).1 (h x i)))

pub has_decides : {A : Type 0} (same : A → A → Bool) → ((x y : A) → Decides (same x y) (x ≡ y)) → (xs : List A) (x : A) → Decides (has same xs x) (In x xs)
has_decides same d xs x = (of_has same d x xs, has_in same d x xs)

pub once_decides : {A : Type 0} (same : A → A → Bool) → ((x y : A) → Decides (same x y) (x ≡ y)) → (xs : List A) → Decides (distinct same xs) (Once xs)
once_decides same d [] = true_decides
once_decides same d (x ∷ xs) =
    and_decides (not (has same xs x)) (distinct same xs) (not_decides (has same xs x) (has_decides same d xs x)) (once_decides same d xs)

-- ---- lists of faults

abbrev pub EmptyWhere : {X : Type 0} → List X → Type 0 → Type 0
EmptyWhere xs P = (xs ≡ [] → P) × (P → xs ≡ [])

pub fault_unless : {X P : Type 0} (b : Bool) (x : X) → Decides b P → EmptyWhere (when (not b) x) P
fault_unless b x d =
    (λ e. d.0 (not_false b (when_empty (not b) x e)), λ h. empty_when (not b) x (ap not (d.1 h)))

pub fault_where : {X P : Type 0} (b : Bool) (x : X) → Decides b P → EmptyWhere (when b x) (¬ P)
fault_where {X} {P} b x d = (λ e h. let s : b ≡ true = d.1 h in let t : b ≡ false = when_empty b x e in cc, to)
  where
    to : ¬ P → when b x ≡ []
    to f = elim (true_or_false b) [ inl s ↦ absurd (f (d.0 s)) | inr s ↦ empty_when b x s ]

pub faults_both : {X P Q : Type 0} (xs ys : List X) → EmptyWhere xs P → EmptyWhere ys Q → EmptyWhere (xs ++ ys) (P × Q)
faults_both {X} xs ys p q =
    (λ e. (p.0 (left_empty xs ys e), q.0 (right_empty xs ys e)), λ h. ap (λ (zs : List X). zs ++ ys) (p.1 h.0) ∙ q.1 h.1)

pub faults_each : {A X : Type 0} {P : A → Type 0} (f : A → List X) (xs : List A) → ((x : A) → EmptyWhere (f x) (P x)) → EmptyWhere (flat_map f xs) ((x : A) → In x xs → P x)
faults_each f xs p =
    (λ e x i. (p x).0 (flat_empty f x xs e i), λ h. empty_flat f xs (λ x i. (p x).1 (h x i)))

pub faults_same : {X P Q : Type 0} (xs : List X) → (P → Q) → (Q → P) → EmptyWhere xs P → EmptyWhere xs Q
faults_same xs f g p = (λ e. f (p.0 e), λ h. p.1 (g h))

-- members that come once and are fit
module _ {A K X : Type 0} {P : A → Type 0} (same : K → K → Bool) (d : (x y : K) → Decides (same x y) (x ≡ y)) (key : A → K) (fit : A → Bool) (told : A → X) (fits : (x : A) → Decides (fit x) (P x)) where
  abbrev AllFit : List K → List A → Type 0
  AllFit before [] = Unit {0}
  AllFit before (x ∷ xs) = (¬ (In (key x) before) × P x) × AllFit (key x ∷ before) xs

  one_fit : (x : A) (before : List K) → EmptyWhere (when (has same before (key x) || not (fit x)) (told x)) (¬ (In (key x) before) × P x)
  one_fit x before =
      faults_same (when (has same before (key x) || not (fit x)) (told x))
      (λ f. ((λ i. f (inl i)), (fits x).0 (not_false (fit x) (none (fit x) f))))
      (λ h w. elim w [ inl i ↦ h.0 i | inr g ↦ g h.1 ])
      (fault_where (has same before (key x) || not (fit x)) (told x) (or_decides (has same before (key x)) (not (fit x)) (has_decides same d before (key x)) (not_decides (fit x) (fits x))))
    where
      none : (b : Bool) → ¬ (In (key x) before ⊎ ¬ (P x)) → not (fit x) ≡ false
      none b f =
          elim (true_or_false (not (fit x))) [
            | inl e ↦ absurd (f (inr ((not_decides (fit x) (fits x)).0 e)))
            | inr e ↦ e
          ]

  all_fit : (before : List K) (xs : List A) → EmptyWhere (unfit same key fit told before xs) (AllFit before xs)
  all_fit before [] = (λ e. tt, λ h. refl)
  all_fit before (x ∷ xs) =
      faults_both (when (has same before (key x) || not (fit x)) (told x)) (unfit same key fit told (key x ∷ before) xs) (one_fit x before) (all_fit (key x ∷ before) xs)

  apart : (before : List K) (xs : List A) → AllFit before xs → (x : A) → In x xs → ¬ (In (key x) before) × P x
  apart before [] h x i = elim i [ ]
  apart before (y ∷ xs) h x here = h.0
  apart before (y ∷ xs) h x (there i) =
      let w = apart (key y ∷ before) xs h.1 x i in ((λ j. w.0 (there j)), w.1)

  of_keys : (k : K) (xs : List A) → In k (map key xs) → (x : A) × In x xs × (k ≡ key x)
  of_keys k [] i = elim i [ ]
  of_keys k (x ∷ xs) i =
      elim (in_first k (key x) (map key xs) i) [ inl e ↦ (x, here, e) | inr j ↦ (let w = of_keys k xs j in (w.0, there w.1, w.2)) ]

  once : (before : List K) (xs : List A) → AllFit before xs → Once (map key xs)
  once before [] h = tt
  once before (x ∷ xs) h =
      ((λ i. let w = of_keys (key x) xs i in (apart (key x ∷ before) xs h.1 w.0 w.1).0 (subst (λ (k : K). In k (key x ∷ before)) w.2 here)), once (key x ∷ before) xs h.1)

  key_in : (x : A) (xs : List A) → In x xs → In (key x) (map key xs)
  key_in x [] i = elim i [ ]
  key_in x (y ∷ xs) here = here
  key_in x (y ∷ xs) (there i) = there (key_in x xs i)

  fresh : (before : List K) (xs : List A) → Once (map key xs) → ((x : A) → In x xs → ¬ (In (key x) before)) → ((x : A) → In x xs → P x) → AllFit before xs
  fresh before [] h f g = tt
  fresh before (x ∷ xs) h f g =
      ((f x here, g x here), fresh (key x ∷ before) xs h.1 (λ y i j. elim (in_first (key y) (key x) before j) [ inl e ↦ h.0 (subst (λ (k : K). In k (map key xs)) e (key_in y xs i)) | inr k ↦ f y (there i) k ]) (λ y i. g y (there i)))

  -- no member is unfit exactly where each key comes once and each member is fit
  pub faults_unfit : (xs : List A) → EmptyWhere (unfit same key fit told [] xs) (Once (map key xs) × ((x : A) → In x xs → P x))
  faults_unfit xs =
      faults_same (unfit same key fit told [] xs) (λ h. (once [] xs h, λ x i. (apart [] xs h x i).1)) (λ h. fresh [] xs h.0 (λ x i j. elim j [ ]) h.1) (all_fit [] xs)
