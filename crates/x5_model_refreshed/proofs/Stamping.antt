-- The refreshes by one agreement, the newest first, whose stamps fall: what the changes that are counted of them begin with, and
-- which stamps stand since the last total one.
use Rattle.std.proofs.Common.{◌≡◌, ℕ, zero, suc, ◌+◌, ◌<◌, ◌≤◌, Bool, true, false, if◌then◌else◌, nat_lt, nat_le, ◌⊎◌, inl, inr, List, [], ◌∷◌, ◌++◌, map, length, replicate, reverse, refl, sym, ap, subst, ◌∙◌, arith, Some}
use Rattle.std.specs.Prelude.{⊤, slice_index}
use Rattle.std.specs.List.{filter}
use Rattle.std.proofs.lemmas.List.{length-append}
use Rattle.std.proofs.lemmas.List.Elements.{filter-append}
use Rattle.std.proofs.lemmas.Grind.{reverse_onto}
use Rattle.x5_model.specs.Words.{first_of}
use Rattle.x5_model.specs.Members.{In, here, there}
use Rattle.x5_model.proofs.Lists.{in_first, in_either}
use Rattle.x5_model_run.specs.History.{Refreshed, stamp_of}
use Rattle.x5_model_run.specs.Refresh.{Changes, steps_since, base_of, later_than}
use Rattle.x5_model_refreshed.specs.Steps.{Step}
use Rattle.x5_model_refreshed.specs.Logs.{Log, moments_of, steps_later, stamped, stamps_since}
use Rattle.x5_model_refreshed.proofs.Listing.{not_less}

abbrev pub Falls : List Refreshed → Type 0
Falls [] = ⊤
Falls (f ∷ earlier) = ((x : Refreshed) → In x earlier → x.stamp ≤ f.stamp) × Falls earlier

abbrev pub since_if : Bool → Refreshed → Changes → Changes
since_if b f c =
    if b then record { origin = f.stamp; moments = [] } else record c { moments = replicate f.count f.stamp ++ c.moments }

abbrev stamps_if : Bool → Refreshed → List ℕ → List ℕ
stamps_if b f stamps = f.stamp ∷ (if b then [] else stamps)

some_number : (a b : ℕ) → Some a ≡ Some b → a ≡ b
some_number a b e = cc

-- ---- the newest

pub newest_in : (fs : List Refreshed) (s : ℕ) → stamp_of (first_of fs) ≡ Some s → (f : Refreshed) × In f fs × (f.stamp ≡ s)
newest_in [] s e = cc
newest_in (f ∷ rest) s e = (f, here, some_number f.stamp s e)

pub below_newest : (fs : List Refreshed) (s : ℕ) → Falls fs → stamp_of (first_of fs) ≡ Some s → (x : Refreshed) → In x fs → x.stamp ≤ s
below_newest [] s falls e x i = elim i [ ]
below_newest (f ∷ rest) s falls e x i =
    let same : f.stamp ≡ s = some_number f.stamp s e in
    elim (in_first x f rest i) [
      | inl q ↦ (let r : x.stamp ≡ f.stamp = ap (λ (y : Refreshed). y.stamp) q in omega arith)
      | inr j ↦ (let l : x.stamp ≤ f.stamp = falls.0 x j in omega arith)
    ]

-- ---- stamps since the last total refresh

pub since_in : (fs : List Refreshed) (m : ℕ) → In m (stamps_since fs) → (f : Refreshed) × In f fs × (f.stamp ≡ m)
since_in [] m i = elim i [ ]
since_in (f ∷ rest) m i = by (since_in rest m) f.total i
  where
    by : (In m (stamps_since rest) → (x : Refreshed) × In x rest × (x.stamp ≡ m)) → (b : Bool) → In m (stamps_if b f (stamps_since rest))
        → (x : Refreshed) × In x (f ∷ rest) × (x.stamp ≡ m)
    by more true j = elim (in_first m f.stamp [] j) [ inl e ↦ (f, here, sym e) | inr l ↦ elim l [ ] ]
    by more false j = elim (in_first m f.stamp (stamps_since rest) j) [
      | inl e ↦ (f, here, sym e)
      | inr l ↦ (let w = more l in (w.0, there w.1, w.2))
    ]

pub since_below : (fs : List Refreshed) (s m : ℕ) → Falls fs → stamp_of (first_of fs) ≡ Some s → In m (stamps_since fs) → m ≤ s
since_below fs s m falls e i =
    let w = since_in fs m i in
    let l : w.0.stamp ≤ s = below_newest fs s falls e w.0 w.1 in
    let q : w.0.stamp ≡ m = w.2 in
    omega arith

-- ---- the origin

origin_low : (fs : List Refreshed) (n : ℕ) → ((x : Refreshed) → In x fs → x.stamp ≤ n) → (steps_since fs).origin ≤ n
origin_low [] n h = omega arith
origin_low (f ∷ rest) n h = by (origin_low rest n (λ x i. h x (there i))) f.total
  where
    by : (steps_since rest).origin ≤ n → (b : Bool) → (since_if b f (steps_since rest)).origin ≤ n
    by more true = h f here
    by more false = more

pub in_copies : (n x y : ℕ) → In x (replicate n y) → x ≡ y
in_copies zero x y i = elim i [ ]
in_copies (suc n) x y i = elim (in_first x y (replicate n y) i) [ inl e ↦ e | inr j ↦ in_copies n x y j ]

-- no change is before it
changes_high : (fs : List Refreshed) → Falls fs → (x : ℕ) → In x (steps_since fs).moments → (steps_since fs).origin ≤ x
changes_high [] falls x i = elim i [ ]
changes_high (f ∷ rest) falls x i = by (changes_high rest falls.1 x) f.total i
  where
    by : (In x (steps_since rest).moments → (steps_since rest).origin ≤ x) → (b : Bool)
        → In x (since_if b f (steps_since rest)).moments → (since_if b f (steps_since rest)).origin ≤ x
    by more true j = elim j [ ]
    by more false j = elim (in_either x (replicate f.count f.stamp) (steps_since rest).moments j) [
      | inl l ↦ (let q : x ≡ f.stamp = in_copies f.count x f.stamp l in let low : (steps_since rest).origin ≤ f.stamp = origin_low rest f.stamp falls.0 in omega arith)
      | inr l ↦ more l
    ]

index_in : (n : ℕ) (xs : List ℕ) → n < length xs → In (slice_index xs n) xs
index_in n [] l = absurd (omega arith)
index_in zero (x ∷ xs) l = here
index_in (suc n) (x ∷ xs) l = there (index_in n xs (omega arith))

-- nor is the base
base_high : (fs : List Refreshed) → Falls fs → (steps_since fs).origin ≤ base_of (steps_since fs)
base_high fs falls = by (nat_le (length (steps_since fs).moments) 256) refl
  where
    more : (k : ℕ) → nat_le k 256 ≡ false → 256 < k
    more k e = grind arith

    by : (b : Bool) → nat_le (length (steps_since fs).moments) 256 ≡ b
        → (steps_since fs).origin ≤ (if b then (steps_since fs).origin else slice_index (steps_since fs).moments 256)
    by true e = omega arith
    by false e = changes_high fs falls (slice_index (steps_since fs).moments 256) (index_in 256 (steps_since fs).moments (more (length (steps_since fs).moments) e))

-- a stamp that isn't before the origin is one since the last total refresh
kept_or_low : (fs : List Refreshed) → Falls fs → (x : Refreshed) → In x fs
    → In x.stamp (stamps_since fs) ⊎ ((x.stamp ≤ (steps_since fs).origin) × In (steps_since fs).origin (stamps_since fs))
kept_or_low [] falls x i = elim i [ ]
kept_or_low (f ∷ rest) falls x i =
    elim (in_first x f rest i) [
      | inl e ↦ inl (subst (λ (y : Refreshed). In y.stamp (stamps_since (f ∷ rest))) (sym e) here)
      | inr j ↦ by (kept_or_low rest falls.1 x j) f.total j
    ]
  where
    by : In x.stamp (stamps_since rest) ⊎ ((x.stamp ≤ (steps_since rest).origin) × In (steps_since rest).origin (stamps_since rest))
        → (b : Bool) → In x rest → In x.stamp (stamps_if b f (stamps_since rest))
        ⊎ ((x.stamp ≤ (since_if b f (steps_since rest)).origin) × In (since_if b f (steps_since rest)).origin (stamps_if b f (stamps_since rest)))
    by more true j = inr (falls.0 x j, here)
    by more false j = elim more [ inl l ↦ inl (there l) | inr w ↦ inr (w.0, there w.1) ]

pub kept_since : (fs : List Refreshed) → Falls fs → (x : Refreshed) → In x fs → nat_lt x.stamp (base_of (steps_since fs)) ≡ false
    → In x.stamp (stamps_since fs)
kept_since fs falls x i e =
    elim (kept_or_low fs falls x i) [
      | inl j ↦ j
      | inr w ↦
          let a : base_of (steps_since fs) ≤ x.stamp = not_less x.stamp (base_of (steps_since fs)) e in
          let b : (steps_since fs).origin ≤ base_of (steps_since fs) = base_high fs falls in
          let c : x.stamp ≤ (steps_since fs).origin = w.0 in
          let same : (steps_since fs).origin ≡ x.stamp = omega arith in
          subst (λ (n : ℕ). In n (stamps_since fs)) same w.1
    ]

-- ---- counting

module _ (m : ℕ) where
  abbrev later : ℕ → Bool
  later x = nat_lt m x

  count_one : (x : ℕ) (xs : List ℕ) → length (filter later (x ∷ xs)) ≡ length (filter later xs) + length (filter later (x ∷ []))
  count_one x xs = by (later x)
    where
      by : (b : Bool) → length (if b then x ∷ filter later xs else filter later xs) ≡ length (filter later xs) + length (if b then x ∷ [] else [])
      by true = omega arith
      by false = omega arith

  reversed : (xs : List ℕ) → length (filter later (reverse xs)) ≡ length (filter later xs)
  reversed [] = refl
  reversed (x ∷ xs) =
      ap (λ (l : List ℕ). length (filter later l)) (reverse_onto xs x [])
      ∙ ap length (filter-append later (reverse xs) (x ∷ []))
      ∙ length-append (filter later (reverse xs)) (filter later (x ∷ []))
      ∙ ap (λ (n : ℕ). n + length (filter later (x ∷ []))) (reversed xs)
      ∙ sym (count_one x xs)

  counts_alike : (log : Log) → length (steps_later m log) ≡ length (filter later (moments_of log))
  counts_alike [] = refl
  counts_alike (x ∷ log) = by (counts_alike log) (later x.0)
    where
      by : length (steps_later m log) ≡ length (filter later (moments_of log)) → (b : Bool)
          → length (map (λ (y : ℕ × Step). y.1) (if b then x ∷ filter (λ (y : ℕ × Step). nat_lt m y.0) log else filter (λ (y : ℕ × Step). nat_lt m y.0) log))
          ≡ length (if b then x.0 ∷ filter later (moments_of log) else filter later (moments_of log))
      by more true = ap suc more
      by more false = more

  -- where a log has the changes that are counted, its later steps are as many as the later changes
  pub as_many : (log : Log) (c : Changes) → moments_of log ≡ reverse c.moments → length (steps_later m log) ≡ later_than m c
  as_many log c q = counts_alike log ∙ ap (λ (ns : List ℕ). length (filter later ns)) q ∙ reversed c.moments

-- the moments of one refresh's steps
pub stamped_moments : (stamp : ℕ) (steps : List Step) → moments_of (stamped stamp steps) ≡ replicate (length steps) stamp
stamped_moments stamp [] = refl
stamped_moments stamp (s ∷ steps) = ap (λ (ns : List ℕ). stamp ∷ ns) (stamped_moments stamp steps)

one_more : (n y : ℕ) → replicate n y ++ y ∷ [] ≡ y ∷ replicate n y
one_more zero y = refl
one_more (suc n) y = ap (λ (ns : List ℕ). y ∷ ns) (one_more n y)

pub copies_reversed : (n y : ℕ) → reverse (replicate n y) ≡ replicate n y
copies_reversed zero y = refl
copies_reversed (suc n) y =
    reverse_onto (replicate n y) y [] ∙ ap (λ (ns : List ℕ). ns ++ y ∷ []) (copies_reversed n y) ∙ one_more n y

-- what a refresh changes of what is counted
pub after_total : (f : Refreshed) (rest : List Refreshed) → f.total ≡ true → (steps_since (f ∷ rest)).moments ≡ []
after_total f rest e = ap (λ (b : Bool). (since_if b f (steps_since rest)).moments) e

pub after_steps : (f : Refreshed) (rest : List Refreshed) → f.total ≡ false
    → (steps_since (f ∷ rest)).moments ≡ replicate f.count f.stamp ++ (steps_since rest).moments
after_steps f rest e = ap (λ (b : Bool). (since_if b f (steps_since rest)).moments) e

pub stamps_total : (f : Refreshed) (rest : List Refreshed) → f.total ≡ true → stamps_since (f ∷ rest) ≡ f.stamp ∷ []
stamps_total f rest e = ap (λ (b : Bool). stamps_if b f (stamps_since rest)) e

pub stamps_more : (f : Refreshed) (rest : List Refreshed) → f.total ≡ false → stamps_since (f ∷ rest) ≡ f.stamp ∷ stamps_since rest
stamps_more f rest e = ap (λ (b : Bool). stamps_if b f (stamps_since rest)) e
