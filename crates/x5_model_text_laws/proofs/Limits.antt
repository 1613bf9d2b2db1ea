-- The limits of names by lengths alone.
use Rattle.std.proofs.Common.{◌≡◌, ℕ, ◌+◌, ◌≤◌, Bool, true, false, ◌&&◌, if◌then◌else◌, nat_lt, nat_le, [], ◌∷◌, length, Option, None, Some, refl, ap, ap₂, arith}
use Rattle.std.proofs.lemmas.Bool.{and_parts, le-ltb, ltb-false, le-leb, leb-true}
use Rattle.std.specs.List.{list_all}
use Rattle.x5_model.specs.Values.{Text, NameValue}
use Rattle.x5_model.specs.Normal.{first_found, over, rdn_over, name_over}
use Rattle.x5_model_text_laws.proofs.Sorting.{Pairs}

abbrev pub is_short : ℕ × Text → Bool
is_short p = nat_le (length p.1) 1024

-- four pairs at most, each with a short text; sixteen such RDNs at most
abbrev pub is_small : Pairs → Bool
is_small r = nat_le (length r) 4 && list_all is_short r

first_none : (a b : Option ℕ) → first_found a b ≡ None → (a ≡ None) × (b ≡ None)
first_none None b h = (refl, h)
first_none (Some n) b h = cc

both_none : (a b : Option ℕ) → a ≡ None → b ≡ None → first_found a b ≡ None
both_none a b h k = ap₂ first_found h k

over_by : (most n : ℕ) (t : Bool) → nat_lt most n ≡ t → (if t then Some most else None) ≡ None → n ≤ most
over_by most n true e h = cc
over_by most n false e h = ltb-false most n e

over_none : (most n : ℕ) → over most n ≡ None → n ≤ most
over_none most n h = over_by most n (nat_lt most n) refl h

none_over : (most n : ℕ) → n ≤ most → over most n ≡ None
none_over most n h = ap (λ t. if t then Some most else None) (le-ltb most n h)

record Few (before : ℕ) (r : Pairs) : Type 0 where
  count : before + length r ≤ 4
  texts : list_all is_short r ≡ true

rdn_few : (before : ℕ) (r : Pairs) → before ≤ 4 → rdn_over before r ≡ None → Few before r
rdn_few before [] le h = record { count = omega arith; texts = refl }
rdn_few before (p ∷ r) le h =
    let outer = first_none _ _ h in
    let inner = first_none _ _ outer.1 in
    let here : before + 1 ≤ 4 = over_none 4 (before + 1) outer.0 in
    let rest = rdn_few (before + 1) r here inner.1 in
    record { count = (let c = rest.count in omega arith); texts = ap₂ ◌&&◌ (le-leb (length p.1) 1024 (over_none 1024 (length p.1) inner.0)) rest.texts }

few_rdn : (before : ℕ) (r : Pairs) → before + length r ≤ 4 → list_all is_short r ≡ true → rdn_over before r ≡ None
few_rdn before [] count texts = refl
few_rdn before (p ∷ r) count texts =
    let parts = and_parts (is_short p) (list_all is_short r) texts in
    both_none _ _ (none_over 4 (before + 1) (omega arith))
    (both_none _ _ (none_over 1024 (length p.1) (leb-true (length p.1) 1024 parts.0)) (few_rdn (before + 1) r (omega arith) parts.1))

pub small_rdn : (r : Pairs) → rdn_over 0 r ≡ None → is_small r ≡ true
small_rdn r h = let few = rdn_few 0 r (omega arith) h in let c = few.count in ap₂ ◌&&◌ (le-leb (length r) 4 (omega arith)) few.texts

pub rdn_small : (r : Pairs) → is_small r ≡ true → rdn_over 0 r ≡ None
rdn_small r h =
    let parts = and_parts (nat_le (length r) 4) (list_all is_short r) h in
    let c : length r ≤ 4 = leb-true (length r) 4 parts.0 in
    few_rdn 0 r (omega arith) parts.1

pub record Small (before : ℕ) (n : NameValue) : Type 0 where
  pub count : before + length n ≤ 16
  pub rdns : list_all is_small n ≡ true

pub name_small : (before : ℕ) (n : NameValue) → before ≤ 16 → name_over before n ≡ None → Small before n
name_small before [] le h = record { count = omega arith; rdns = refl }
name_small before (r ∷ n) le h =
    let outer = first_none _ _ h in
    let inner = first_none _ _ outer.1 in
    let here : before + 1 ≤ 16 = over_none 16 (before + 1) outer.0 in
    let rest = name_small (before + 1) n here inner.1 in
    record { count = (let c = rest.count in omega arith); rdns = ap₂ ◌&&◌ (small_rdn r inner.0) rest.rdns }

pub small_name : (before : ℕ) (n : NameValue) → before + length n ≤ 16 → list_all is_small n ≡ true → name_over before n ≡ None
small_name before [] count rdns = refl
small_name before (r ∷ n) count rdns =
    let parts = and_parts (is_small r) (list_all is_small n) rdns in
    both_none _ _ (none_over 16 (before + 1) (omega arith)) (both_none _ _ (rdn_small r parts.0) (small_name (before + 1) n (omega arith) parts.1))
