-- The last 256 changes of a log have all that are later than a moment not before the base: what is counted falls, so what stands
-- before the 256 isn't later than the newest of it.
use Rattle.std.proofs.Common.{◌≡◌, ℕ, zero, suc, ◌+◌, ◌-◌, ◌<◌, ◌≤◌, Bool, true, false, if◌then◌else◌, nat_lt, nat_le, inl, inr, List, [], ◌∷◌, ◌++◌, length, take, drop, replicate, reverse, refl, sym, ap, subst, ◌∙◌, arith}
use Rattle.std.specs.Prelude.{⊤, slice_index}
use Rattle.std.specs.List.{filter, take-map}
use Rattle.std.proofs.Math.Seq.{take-append_seam}
use Rattle.std.proofs.lemmas.List.{length-map, length-drop, length-reverse, drop_all, take-append-drop, reverse-append}
use Rattle.std.proofs.lemmas.Grind.{reverse_onto}
use Rattle.x5_model.specs.Members.{In, here, there}
use Rattle.x5_model.specs.Keys.{Key}
use Rattle.x5_model.proofs.Lists.{in_first, in_either, in_map}
use Rattle.x5_model_run.specs.History.{Acceptance, Refreshed, Did}
use Rattle.x5_model_run.specs.Refresh.{Changes, is_change_in, accepted_in, updates_in, steps_since, base_of}
use Rattle.x5_model_refreshed.specs.Steps.{Step}
use Rattle.x5_model_refreshed.specs.Logs.{Log, moments_of, steps_later}
use Rattle.x5_model_refreshed.specs.Replaying.{last_256}
use Rattle.x5_model_refreshed.proofs.Listing.{later_joined, none_later, not_less, constant}
use Rattle.x5_model_refreshed.proofs.Stamping.{Falls, since_if, in_copies}

-- none is later than one before
abbrev pub Down : List ℕ → Type 0
Down [] = ⊤
Down (x ∷ xs) = ((y : ℕ) → In y xs → y ≤ x) × Down xs

down_joined : (xs ys : List ℕ) → Down xs → Down ys → ((x y : ℕ) → In x xs → In y ys → y ≤ x) → Down (xs ++ ys)
down_joined [] ys d e h = e
down_joined (x ∷ xs) ys d e h = (
  λ y i. elim (in_either y xs ys i) [ inl j ↦ d.0 y j | inr j ↦ h x y here j ],
  down_joined xs ys d.1 e (λ u v i j. h u v (there i) j),
)

down_of_one : (n : ℕ) (xs : List ℕ) → ((x : ℕ) → In x xs → x ≡ n) → Down xs
down_of_one n [] h = tt
down_of_one n (x ∷ xs) h = (
  λ y i. (let p = h x here in let q = h y (there i) in omega arith),
  down_of_one n xs (λ y i. h y (there i)),
)

-- ---- what is counted falls

in_constant : {A : Type 0} (n : ℕ) (xs : List A) (x : ℕ) → In x (constant n xs) → x ≡ n
in_constant n [] x i = elim i [ ]
in_constant n (y ∷ xs) x i = elim (in_first x n (constant n xs) i) [ inl e ↦ e | inr j ↦ in_constant n xs x j ]

updates_past : (pins : List Key) (past : List Did) (pin : Key) (x : ℕ) → In x (updates_in pins past pin) → x ≤ length past
updates_past pins [] pin x i = elim i [ ]
updates_past pins (d ∷ before) pin x i =
    elim (in_either x (constant (length before + 1) (filter (is_change_in pins pin) (accepted_in d.deed))) (updates_in pins before pin) i) [
      | inl j ↦ (let e = in_constant (length before + 1) (filter (is_change_in pins pin) (accepted_in d.deed)) x j in omega arith)
      | inr j ↦ (let l = updates_past pins before pin x j in omega arith)
    ]

pub updates_fall : (pins : List Key) (past : List Did) (pin : Key) → Down (updates_in pins past pin)
updates_fall pins [] pin = tt
updates_fall pins (d ∷ before) pin =
    let own : List Acceptance = filter (is_change_in pins pin) (accepted_in d.deed) in
    down_joined (constant (length before + 1) own) (updates_in pins before pin)
    (down_of_one (length before + 1) (constant (length before + 1) own) (in_constant (length before + 1) own))
    (updates_fall pins before pin)
    (λ x y i j. (let e = in_constant (length before + 1) own x i in let l = updates_past pins before pin y j in omega arith))

changes_low : (fs : List Refreshed) (n : ℕ) → ((f : Refreshed) → In f fs → f.stamp ≤ n) → (x : ℕ) → In x (steps_since fs).moments → x ≤ n
changes_low [] n h x i = elim i [ ]
changes_low (f ∷ rest) n h x i = by (changes_low rest n (λ y j. h y (there j)) x) f.total i
  where
    by : (In x (steps_since rest).moments → x ≤ n) → (b : Bool) → In x (since_if b f (steps_since rest)).moments → x ≤ n
    by more true j = elim j [ ]
    by more false j = elim (in_either x (replicate f.count f.stamp) (steps_since rest).moments j) [
      | inl l ↦ (let q : x ≡ f.stamp = in_copies f.count x f.stamp l in let low : f.stamp ≤ n = h f here in omega arith)
      | inr l ↦ more l
    ]

pub changes_fall : (fs : List Refreshed) → Falls fs → Down (steps_since fs).moments
changes_fall [] falls = tt
changes_fall (f ∷ rest) falls = by (changes_fall rest falls.1) f.total
  where
    by : Down (steps_since rest).moments → (b : Bool) → Down (since_if b f (steps_since rest)).moments
    by more true = tt
    by more false =
        down_joined (replicate f.count f.stamp) (steps_since rest).moments
        (down_of_one f.stamp (replicate f.count f.stamp) (λ x i. in_copies f.count x f.stamp i)) more
        (λ x y i j. (let e = in_copies f.count x f.stamp i in let l = changes_low rest f.stamp falls.0 y j in omega arith))

-- ---- the last of a list

nothing_in : (y : ℕ) → In y [] → ⊥
nothing_in y i = elim i [ ]

low_end : (n : ℕ) (ns : List ℕ) (y : ℕ) → Down ns → In y (drop n ns) → (n < length ns) × (y ≤ slice_index ns n)
low_end n [] y d i = absurd (nothing_in y (subst (λ (l : List ℕ). In y l) (drop_all n [] (omega arith)) i))
low_end zero (x ∷ ns) y d i = (omega arith, elim (in_first y x ns i) [ inl e ↦ omega arith | inr j ↦ d.0 y j ])
low_end (suc n) (x ∷ ns) y d i = (let w = low_end n ns y d.1 i in (omega arith, w.1))

in_reverse : {A : Type 0} (y : A) (xs : List A) → In y (reverse xs) → In y xs
in_reverse y [] i = i
in_reverse {A} y (x ∷ xs) i =
    elim (in_either y (reverse xs) (x ∷ []) (subst (λ (ys : List A). In y ys) (reverse_onto xs x []) i)) [
      | inl j ↦ there (in_reverse y xs j)
      | inr j ↦ elim (in_first y x [] j) [ inl e ↦ subst (λ (z : A). In y (z ∷ xs)) e here | inr l ↦ elim l [ ] ]
    ]

module _ (m : ℕ) (log : Log) (c : Changes) (is : moments_of log ≡ reverse c.moments) (down : Down c.moments)
    (known : nat_lt m (base_of c) ≡ false) where
  -- what stands at the base isn't later
  base_low : 256 < length c.moments → slice_index c.moments 256 ≤ m
  base_low l = by (nat_le (length c.moments) 256) refl known
    where
      never : (k : ℕ) → nat_le k 256 ≡ true → 256 < k → ⊥
      never k g h = grind arith

      by : (b : Bool) → nat_le (length c.moments) 256 ≡ b → nat_lt m (if b then c.origin else slice_index c.moments 256) ≡ false
          → slice_index c.moments 256 ≤ m
      by true q e = absurd (never (length c.moments) q l)
      by false q e = not_less m (slice_index c.moments 256) e

  as_long : length log ≡ length c.moments
  as_long = sym (length-map log (λ (x : ℕ × Step). x.0)) ∙ ap length is ∙ length-reverse c.moments

  -- the moments before the last 256
  first_moments : moments_of (take (length log - 256) log) ≡ reverse (drop 256 c.moments)
  first_moments =
      let end : List ℕ = drop 256 c.moments in
      let long : length log - 256 ≡ length (reverse end) = ap (λ (n : ℕ). n - 256) as_long ∙ sym (length-drop 256 c.moments) ∙ sym (length-reverse end) in
      sym (take-map (λ (x : ℕ × Step). x.0) (length log - 256) log)
      ∙ ap (take (length log - 256)) is
      ∙ ap (λ (ns : List ℕ). take (length log - 256) (reverse ns)) (sym (take-append-drop 256 c.moments))
      ∙ ap (take (length log - 256)) (reverse-append (take 256 c.moments) end)
      ∙ ap (λ (n : ℕ). take n (reverse end ++ reverse (take 256 c.moments))) long
      ∙ take-append_seam (reverse end) (reverse (take 256 c.moments))

  none_before : (x : ℕ × Step) → In x (take (length log - 256) log) → x.0 ≤ m
  none_before x i =
      let j : In x.0 (drop 256 c.moments) = in_reverse x.0 (drop 256 c.moments)
      (subst (λ (ns : List ℕ). In x.0 ns) first_moments (in_map (λ (y : ℕ × Step). y.0) x (take (length log - 256) log) i)) in
      let w = low_end 256 c.moments x.0 down j in
      let l : slice_index c.moments 256 ≤ m = base_low w.0 in
      let k : x.0 ≤ slice_index c.moments 256 = w.1 in
      omega arith

  pub last_have_all : steps_later m (last_256 log) ≡ steps_later m log
  last_have_all =
      sym (ap (steps_later m) (sym (take-append-drop (length log - 256) log))
      ∙ later_joined m (take (length log - 256) log) (drop (length log - 256) log)
      ∙ ap (λ (steps : List Step). steps ++ steps_later m (drop (length log - 256) log)) (none_later m (take (length log - 256) log) none_before))
