-- The longest prefix among keys, and the lowest entry on the way to a name.
use Rattle.std.proofs.Common.{◌≡◌, ℕ, zero, suc, ◌<◌, ◌≤◌, Bool, true, false, cond, nat_lt, inl, inr, List, [], ◌∷◌, take, length, refl, sym, ap, subst, ◌∙◌, arith, length-take, Option, Some, None}
use Rattle.std.specs.Bool.{Decides}
use Rattle.x5_model.specs.Words.{some_and}
use Rattle.x5_model.specs.Members.{In, here, there}
use Rattle.x5_model.specs.Keys.{Key, IsPrefix, same_key, is_prefix}
use Rattle.x5_model.specs.Entries.{Named}
use Rattle.x5_model.proofs.KeyLaws.{key_decides}
use Rattle.x5_model.proofs.Prefixes.{prefix_decides, prefix_length, same_by_length}
use Rattle.x5_model.proofs.Lists.{in_first, of_find, not_found}
use Rattle.x5_model.proofs.Decide.{less_decides}
use Rattle.x5_model_tree.specs.Tree.{key_at, entry_at, or_shorter, lowest_within, lowest, or_longer, longest, belongs}

-- ---- the longest

-- p is a prefix, and no other of the keys is a longer one; or none is a prefix
abbrev pub IsLongest : List Key → Key → Option Key → Type 0
IsLongest pins key None = (q : Key) → In q pins → IsPrefix q key → ⊥
IsLongest pins key (Some p) = In p pins × (IsPrefix p key × ((q : Key) → In q pins → IsPrefix q key → length q ≤ length p))

pick : (t : Bool) (p q : Key) (pins : List Key) (key : Key) → nat_lt (length p) (length q) ≡ t → IsPrefix p key → IsLongest pins key (Some q) → IsLongest (p ∷ pins) key (cond t (Some q) (Some p))
pick true p q pins key e y h =
    let l : length p < length q = (less_decides (length p) (length q)).0 e in
    (there h.0, (h.1.0, λ r i z. elim (in_first r p pins i) [ inl s ↦ (let k : length r ≡ length p = ap length s in omega arith) | inr j ↦ h.1.1 r j z ]))
pick false p q pins key e y h =
    let l : length p < length q → ⊥ = (λ x. let s : nat_lt (length p) (length q) ≡ true = (less_decides (length p) (length q)).1 x in cc) in
    (here, (y, λ r i z. elim (in_first r p pins i) [ inl s ↦ (let k : length r ≡ length p = ap length s in omega arith) | inr j ↦ (let m : length r ≤ length q = h.1.1 r j z in omega (arith, l)) ]))

longest_step : (b : Bool) (o : Option Key) (p : Key) (pins : List Key) (key : Key) → is_prefix p key ≡ b → IsLongest pins key o → IsLongest (p ∷ pins) key (or_longer p b o)
longest_step false None p pins key e h =
    λ q i y. elim (in_first q p pins i) [ inl s ↦ (let t : is_prefix p key ≡ true = (prefix_decides p key).1 (subst (λ (r : Key). IsPrefix r key) s y) in cc) | inr j ↦ h q j y ]
longest_step false (Some q) p pins key e h =
    (there h.0, (h.1.0, λ r i y. elim (in_first r p pins i) [ inl s ↦ (let t : is_prefix p key ≡ true = (prefix_decides p key).1 (subst (λ (z : Key). IsPrefix z key) s y) in cc) | inr j ↦ h.1.1 r j y ]))
longest_step true None p pins key e h =
    (here, ((prefix_decides p key).0 e, λ r i y. elim (in_first r p pins i) [ inl s ↦ (let k : length r ≡ length p = ap length s in omega arith) | inr j ↦ absurd (h r j y) ]))
longest_step true (Some q) p pins key e h = pick (nat_lt (length p) (length q)) p q pins key refl ((prefix_decides p key).0 e) h

pub longest_right : (pins : List Key) (key : Key) → IsLongest pins key (longest pins key)
longest_right [] key = λ q i y. elim i [ ]
longest_right (p ∷ pins) key = longest_step (is_prefix p key) (longest pins key) p pins key refl (longest_right pins key)

one_longest : (pins : List Key) (key q : Key) (o : Option Key) → IsLongest pins key o → IsLongest pins key (Some q) → o ≡ Some q
one_longest pins key q None h k = absurd (h q k.0 k.1.0)
one_longest pins key q (Some p) h k =
    let l : length q ≤ length p = h.1.1 q k.0 k.1.0 in
    let m : length p ≤ length q = k.1.1 p h.0 h.1.0 in
    ap Some (same_by_length p q key h.1.0 k.1.0 (omega arith))

pub longest_is : (pins : List Key) (key q : Key) → IsLongest pins key (Some q) → longest pins key ≡ Some q
longest_is pins key q k = one_longest pins key q (longest pins key) (longest_right pins key) k

belongs_step : (pins : List Key) (pin key : Key) (o : Option Key) → IsLongest pins key o → Decides (some_and (same_key pin) o) (IsLongest pins key (Some pin))
belongs_step pins pin key None h = (λ e. cc, λ k. absurd (h pin k.0 k.1.0))
belongs_step pins pin key (Some q) h =
    (λ e. subst (λ (r : Key). IsLongest pins key (Some r)) (sym ((key_decides pin q).0 e)) h, λ k. (key_decides pin q).1 (back (one_longest pins key pin (Some q) h k)))
  where
    back : Some q ≡ Some pin → pin ≡ q
    back e = cc

-- a key belongs to the context of its longest pin
pub belongs_decides : (pins : List Key) (pin key : Key) → Decides (belongs pins pin key) (IsLongest pins key (Some pin))
belongs_decides pins pin key = belongs_step pins pin key (longest pins key) (longest_right pins key)

-- ---- the lowest entry

-- the longest prefix of at most n RDNs, the root aside, that is an entry; or none is
abbrev pub IsLowest : List Named → Key → ℕ → Option Named → Type 0
IsLowest entries key n None = (f : Named) → In f entries → IsPrefix (key_at f) key → 0 < length (key_at f) → length (key_at f) ≤ n → ⊥
IsLowest entries key n (Some e) =
    In e entries × (IsPrefix (key_at e) key × ((f : Named) → In f entries → IsPrefix (key_at f) key → length (key_at f) ≤ n → length (key_at f) ≤ length (key_at e)))

not_this : (entries : List Named) (key : Key) (n : ℕ) (f : Named) → entry_at entries (take (suc n) key) ≡ None → In f entries → IsPrefix (key_at f) key → length (key_at f) ≤ suc n → length (key_at f) ≤ n
not_this entries key n f e i y l =
    let no : length (key_at f) ≡ suc n → ⊥ = (λ s.
    let same : take (suc n) key ≡ key_at f = ap (λ (m : ℕ). take m key) (sym s) ∙ y in
    let t : same_key (key_at f) (take (suc n) key) ≡ true = (key_decides (key_at f) (take (suc n) key)).1 (sym same) in
    let u : same_key (key_at f) (take (suc n) key) ≡ false = not_found (λ g. same_key (key_at g) (take (suc n) key)) f entries e i in
    cc) in
    omega (arith, no)

shorter : (entries : List Named) (key : Key) (n : ℕ) (o : Option Named) → entry_at entries (take (suc n) key) ≡ None → IsLowest entries key n o → IsLowest entries key (suc n) o
shorter entries key n None e h = λ f i y z l. h f i y z (not_this entries key n f e i y l)
shorter entries key n (Some g) e h = (h.0, (h.1.0, λ f i y l. h.1.1 f i y (not_this entries key n f e i y l)))

lowest_step : (entries : List Named) (key : Key) (n : ℕ) (o s : Option Named) → suc n ≤ length key → entry_at entries (take (suc n) key) ≡ o → IsLowest entries key n s → IsLowest entries key (suc n) (or_shorter o s)
lowest_step entries key n None s l e h = shorter entries key n s e h
lowest_step entries key n (Some g) s l e h =
    let w = of_find (λ f. same_key (key_at f) (take (suc n) key)) g entries e in
    let same : key_at g ≡ take (suc n) key = (key_decides (key_at g) (take (suc n) key)).0 w.1 in
    let long : length (key_at g) ≡ suc n = (let k : length (key_at g) ≡ length (take (suc n) key) = ap length same in omega (arith, length-take (suc n) key)) in
    let prefix : IsPrefix (key_at g) key = ap (λ (m : ℕ). take m key) long ∙ sym same in
    (w.0, (prefix, λ f i y k. omega arith))

lowest_within_right : (entries : List Named) (key : Key) (n : ℕ) → n ≤ length key → IsLowest entries key n (lowest_within entries key n)
lowest_within_right entries key zero l = λ f i y z k. omega arith
lowest_within_right entries key (suc n) l =
    lowest_step entries key n (entry_at entries (take (suc n) key)) (lowest_within entries key n) l refl (lowest_within_right entries key n (omega arith))

pub lowest_right : (entries : List Named) (key : Key) → IsLowest entries key (length key) (lowest entries key)
lowest_right entries key = lowest_within_right entries key (length key) (omega arith)

-- it is what has that property, where each key stands once
pub lowest_is : (entries : List Named) (key : Key) (e : Named) → ((f g : Named) → In f entries → In g entries → key_at f ≡ key_at g → f ≡ g) → 0 < length (key_at e)
    → In e entries → IsPrefix (key_at e) key → ((f : Named) → In f entries → IsPrefix (key_at f) key → length (key_at f) ≤ length (key_at e)) → lowest entries key ≡ Some e
lowest_is entries key e once full i y low = by (lowest entries key) (lowest_right entries key)
  where
    by : (o : Option Named) → IsLowest entries key (length key) o → o ≡ Some e
    by None h = absurd (h e i y full (prefix_length (key_at e) key y))
    by (Some g) h =
        let a : length (key_at e) ≤ length (key_at g) = h.1.1 e i y (prefix_length (key_at e) key y) in
        let b : length (key_at g) ≤ length (key_at e) = low g h.0 h.1.0 in
        ap Some (once g e h.0 i (same_by_length (key_at g) (key_at e) key h.1.0 y (omega arith)))

pub none_lowest : (entries : List Named) (key : Key) → ((f : Named) → In f entries → IsPrefix (key_at f) key → ⊥) → lowest entries key ≡ None
none_lowest entries key never = by (lowest entries key) (lowest_right entries key)
  where
    by : (o : Option Named) → IsLowest entries key (length key) o → o ≡ None
    by None h = refl
    by (Some g) h = absurd (never g h.0 h.1.0)

-- an entry is found by its key
pub entry_is : (entries : List Named) (key : Key) (e : Named) → ((f g : Named) → In f entries → In g entries → key_at f ≡ key_at g → f ≡ g) → In e entries → key_at e ≡ key → entry_at entries key ≡ Some e
entry_is entries key e once i same = by (entry_at entries key) refl
  where
    by : (o : Option Named) → entry_at entries key ≡ o → o ≡ Some e
    by None q =
        let t : same_key (key_at e) key ≡ true = (key_decides (key_at e) key).1 same in
        let u : same_key (key_at e) key ≡ false = not_found (λ g. same_key (key_at g) key) e entries q i in
        cc
    by (Some g) q =
        let w = of_find (λ f. same_key (key_at f) key) g entries q in
        ap Some (once g e w.0 i ((key_decides (key_at g) key).0 w.1 ∙ sym same))
