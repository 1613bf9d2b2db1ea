-- Numbers that are too large for arcs.
use Rattle.std.proofs.Common.{◌≡◌, ◌⊎◌, inl, inr, ℕ, ◌+◌, ◌-◌, ◌*◌, ◌%◌, ◌^◌, ◌<◌, ◌≤◌, Bool, true, false}
use Rattle.std.proofs.Common.{◌&&◌, ◌||◌, if◌then◌else◌, nat_lt, List, [], ◌∷◌, ◌++◌, length, drop, get_or, refl}
use Rattle.std.proofs.Common.{ap, sym, ◌∙◌, arith, lit<}
use Rattle.std.specs.List.{list_all}
use Rattle.std.specs.declared.option.Option.{Option}
use Rattle.std.specs.declared.option.Option.TheVariants.{None, Some}
use Rattle.std.proofs.lemmas.Bool.{le-ltb}
use Rattle.std.proofs.lemmas.Bool.{ltb-true}
use Rattle.std.proofs.Math.Nat.{mod-lt, mod-eq_of_lt}
use Rattle.std.proofs.lemmas.List.{drop_more}
use Rattle.x5_model.specs.Normal.{is_oid}
use Rattle.x5_model_typed.specs.Leaves as leaves
use Rattle.x5_types.specs.Arcs.{after, IsRead}

abbrev is_arc : ℕ → Bool
is_arc n = nat_lt n (2 ^ 32)

and_false : (p : Bool) → (p && false) ≡ false
and_false true = refl
and_false false = refl

no_arcs : (before after' : List ℕ) (n : ℕ) → is_arc n ≡ false → list_all is_arc (before ++ (n ∷ after')) ≡ false
no_arcs [] after' n large = ap (λ b. b && list_all is_arc after') large
no_arcs (x ∷ xs) after' n large = ap (λ b. is_arc x && b) (no_arcs xs after' n large) ∙ and_false (is_arc x)

last_false : (p q r : Bool) → r ≡ false → (p && q && r) ≡ false
last_false p q r e = rw e (by p q)
  where
    by : (p q : Bool) → (p && q && false) ≡ false
    by true true = refl
    by true false = refl
    by false true = refl
    by false false = refl

-- Numbers of which one is too large are no object identifier's.
pub no_oid : (before after' : List ℕ) (n : ℕ) → 2 ^ 33 ≤ n → is_oid (leaves.arcs_of (before ++ (n ∷ after'))) ≡ false
no_oid [] after' n large =
    let first : leaves.first_arc n ≡ 2 = rw (le-ltb n 40 (omega arith), le-ltb n 80 (omega arith)) refl in
    let second : is_arc (n - 40 * leaves.first_arc n) ≡ false = rw first (le-ltb (n - 80) (2 ^ 32) (omega arith)) in
    last_false (nat_lt (leaves.first_arc n) 3) (nat_lt 1 (leaves.first_arc n) || nat_lt (n - 40 * leaves.first_arc n)
    40) (list_all is_arc (leaves.first_arc n ∷ (n - 40 * leaves.first_arc n) ∷ after'))
    (no_arcs (leaves.first_arc n ∷ []) after' (n - 40 * leaves.first_arc n) second)
no_oid (x ∷ xs) after' n large =
    let there : is_arc n ≡ false = le-ltb n (2 ^ 32) (omega arith) in
    last_false (nat_lt (leaves.first_arc x) 3) (nat_lt 1 (leaves.first_arc x) || nat_lt (x - 40 * leaves.first_arc x)
    40) (list_all is_arc (leaves.first_arc x ∷ (x - 40 * leaves.first_arc x) ∷ (xs ++ (n ∷ after'))))
    (no_arcs (leaves.first_arc x ∷ (x - 40 * leaves.first_arc x) ∷ xs) after' n there)

abbrev Large : Option (List ℕ) → Type 0
Large o = (o ≡ None) ⊎ ((n : ℕ) × (ns : List ℕ) × (2 ^ 33 ≤ n) × (o ≡ Some (n ∷ ns)))

large_first : (o : Option (List ℕ)) (n : ℕ) → 2 ^ 33 ≤ n → Large (leaves.cons_to o n)
large_first None n large = inl refl
large_first (Some ns) n large = inr (n, ns, large, refl)

-- A number that has grown too large stays so.
stays_large : (os : List ℕ) (before : ℕ) → 2 ^ 33 ≤ before → Large (leaves.subidentifiers false before os)
stays_large [] before large = inl refl
stays_large (o ∷ os) before large = by (nat_lt o 128) (stays_large os (before * 128 + o % 128) (omega arith))
  where
    by : (b : Bool) → Large (leaves.subidentifiers false (before * 128 + o % 128) os)
        → Large (if b then leaves.cons_to (leaves.subidentifiers true 0 os) (before * 128 + o) else
        leaves.subidentifiers false (before * 128 + o % 128) os)
    by true others = large_first (leaves.subidentifiers true 0 os) (before * 128 + o) (omega arith)
    by false others = others

grows_large : (o : ℕ) (os : List ℕ) (before : ℕ) → 2 ^ 33 ≤ before * 128 + o % 128
    → Large (leaves.subidentifiers false before (o ∷ os))
grows_large o os before large = by (nat_lt o 128) refl
  where
    by : (b : Bool) → nat_lt o 128 ≡ b → Large
        (if b then leaves.cons_to (leaves.subidentifiers true 0 os) (before * 128 + o) else leaves.subidentifiers
        false (before * 128 + o % 128) os)
    by true e = large_first (leaves.subidentifiers true 0 os) (before * 128 + o)
        (omega (arith, large, mod-eq_of_lt (ltb-true o 128 e)))
    by false e = stays_large os (before * 128 + o % 128) large

-- So the octets are no object identifier.
pub too_large : (octets : List ℕ) (i : ℕ) (numbers : List ℕ) (fresh : Bool) (before : ℕ)
    → IsRead octets i numbers fresh before → i < length octets
    → 2 ^ 33 ≤ before * 128 + get_or octets i 0 % 128 → leaves.oid_of octets ≡ None
too_large octets i numbers true before is there large =
    let none : before ≡ 0 = is.begun refl in
    absurd (omega (arith, none, mod-lt (get_or octets i 0) {m = 128} (lit< tt)))
too_large octets i numbers false before is there large =
    by_large (grows_large (get_or octets i 0) (drop (i + 1) octets) before large)
  where
    whole : (o : Option (List ℕ)) → leaves.subidentifiers false before (get_or octets i 0 ∷ drop (i + 1) octets) ≡ o
        → leaves.subidentifiers true 0 octets ≡ after numbers o
    whole o e = sym is.same ∙ ap (after numbers) (ap (leaves.subidentifiers false before) (drop_more octets i 0 there)
        ∙ e)

    by_large : Large (leaves.subidentifiers false before (get_or octets i 0 ∷ drop (i + 1) octets))
        → leaves.oid_of octets ≡ None
    by_large (inl e) = rw (whole None e) refl
    by_large (inr (n, ns, big, e)) = rw (whole (Some (n ∷ ns)) e) (rw (no_oid numbers ns n big) refl)
