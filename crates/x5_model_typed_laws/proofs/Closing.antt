-- How a type is closed: by the kind of its content, where the rule of the whole keeps what was read as it is.
use Rattle.std.proofs.Common.{◌≡◌, ℕ, ◌+◌, ◌-◌, ◌*◌, ◌^◌, ◌<◌, ◌≤◌, Bool, true, false, cond, not, ◌&&◌, ◌==◌, nat_lt}
use Rattle.std.proofs.Common.{nat_le, if◌then◌else◌, List, [], ◌∷◌, length, refl, sym, ap, subst, ◌∙◌, arith}
use Rattle.std.specs.Prelude.{ℤ}
use Rattle.std.proofs.lemmas.Bool.{eq-eqb, lt-ltb, ltb-true, ltb-false, leb-true}
use Rattle.std.specs.List.{find, list_all}
use native.Mathlib.Nat.{pow-le-pow_right}
use Rattle.std.specs.Option.{is_some}
use Rattle.std.specs.declared.option.Option.{Option}
use Rattle.std.specs.declared.option.Option.TheVariants.{None, Some}
use Rattle.x5_model.specs.Words.{in_option}
use Rattle.x5_model.specs.Normal.{is_oid, most_octets}
use Rattle.x5_model.proofs.Lists.{both_true, and_true}
use Rattle.x5_model_octets.specs.Headers.{big_endian}
use Rattle.x5_model_typed.specs.Nodes.{Node, Nodes, Vacant, Flag, Number, Oid, Octets, Text, Chosen, Many, whole, row}
use Rattle.x5_model_typed.specs.Named.{Named}
use Rattle.x5_model_typed.specs.Forms.{Content, Primitive, Joined, JoinedBits, Explicit, Sequence, Set, Members, Never}
use Rattle.x5_model_typed.specs.Forms.{Alternative, Layout}
use Rattle.x5_model_typed.specs.Judged.{marked}
use Rattle.x5_model_typed.specs.Leaves.{any_octets, placed, where_so, boolean, null, is_shortest, complement, number_of}
use Rattle.x5_model_typed.specs.Leaves.{number_octets, is_short_number, number, subidentifiers, arcs_of, oid_of}
use Rattle.x5_model_typed.specs.Leaves.{oid_octets, oid, octet_string, text_where, options, options_node, may_be_set}
use Rattle.x5_model_typed.specs.Leaves.{fourth, second}
use Rattle.x5_model_typed.specs.Written.{leaf_octets, is_made_of_members, is_many, can_hold, is_marked}
use Rattle.x5_model_typed.specs.Layouts.{Surroundings, time_leaf}
use Rattle.x5_model_typed_laws.specs.Fits as fits
use Rattle.x5_model_typed_laws.specs.Fits.{is_chosen, Fits, FitsIn}
use Rattle.x5_model_typed_laws.specs.Said.{is_octet, IsSaid, Closes}
use Rattle.x5_model_typed_laws.proofs.Leaves.{so, let_through, some_is}
use Rattle.x5_model_typed_laws.proofs.Numbers.{power, regroup}

-- the rule takes a value or refuses it
abbrev pub Keeps : (Node → Option Node) → Type 0
Keeps rule = (m n : Node) → rule m ≡ Some n → n ≡ m

pub any_keeps : (m n : Node) → (let o : Option Node = Some m in o) ≡ Some n → n ≡ m
any_keeps m n h = cc

pub test_keeps : (test : Node → Bool) (m n : Node) → where_so (test m) m ≡ Some n → n ≡ m
test_keeps test m n h = sym (so (test m) m n h).1

kept_rule : (rule : Node → Option Node) (m n x : Node) → rule m ≡ Some n → n ≡ m → m ≡ x → rule x ≡ Some x
kept_rule rule m n x h same e = subst (λ (y : Node). rule y ≡ Some y) e (h ∙ ap (λ (y : Node). Some y) same)

-- ---- contents of elements

said_within : (layout : Layout) (c : Content) (m : Node) → is_made_of_members c ≡ true → IsSaid layout c m
    → (ns : Nodes) × (m ≡ Many ns) × FitsIn layout c ns
said_within layout (Sequence cs) m h s = (s.0, s.1, fits.sequence s.2)
said_within layout (Set cs) m h s = (s.0, s.1, fits.set s.2)
said_within layout (Members form) m h s = (s.0, s.1, fits.members s.2)
said_within layout (Primitive leaf) m h s = absurd (cc h)
said_within layout (Joined leaf) m h s = absurd (cc h)
said_within layout (JoinedBits leaf) m h s = absurd (cc h)
said_within layout (Explicit form) m h s = absurd (cc h)
said_within layout Never m h s = absurd (cc h)

pub no_leaf : (c : Content) (n : Node) → is_made_of_members c ≡ true → leaf_octets c n ≡ None
no_leaf (Sequence cs) n h = refl
no_leaf (Set cs) n h = refl
no_leaf (Members form) n h = refl
no_leaf (Primitive leaf) n h = absurd (cc h)
no_leaf (Joined leaf) n h = absurd (cc h)
no_leaf (JoinedBits leaf) n h = absurd (cc h)
no_leaf (Explicit form) n h = absurd (cc h)
no_leaf Never n h = absurd (cc h)

unmarked : (a : Alternative) (n : Node) → a.marked ≡ false → marked a n ≡ n
unmarked a n h = ap (λ (b : Bool). if b then Chosen a.tag n else n) h

is_marked_so : (a : Alternative) (n : Node) → a.marked ≡ true → marked a n ≡ Chosen a.tag n
is_marked_so a n h = ap (λ (b : Bool). if b then Chosen a.tag n else n) h

pub made_closes : (layout : Layout) (types : List Alternative) (a : Alternative)
    → is_made_of_members a.content ≡ true → a.marked ≡ false → Keeps a.settles
    → ((ns : Nodes) → find (can_hold (Many ns)) types ≡ Some a) → Closes layout types a
made_closes layout types a made plain keeps held m n said rule =
    let w = said_within layout a.content m made said in
    let same : n ≡ m = keeps m n rule in
    let kept : a.settles (Many w.0) ≡ Some (Many w.0) = kept_rule a.settles m n (Many w.0) rule same w.1 in
    subst (λ (x : Node). Fits layout types x) (sym (unmarked a n plain ∙ same ∙ w.1))
    (fits.made a (held w.0) plain (no_leaf a.content (Many w.0) made) w.2 kept)

pub chosen_closes : (layout : Layout) (types : List Alternative) (a : Alternative)
    → is_made_of_members a.content ≡ true → a.marked ≡ true → Keeps a.settles
    → find (is_marked a.tag) types ≡ Some a → Closes layout types a
chosen_closes layout types a made is keeps found m n said rule =
    let w = said_within layout a.content m made said in
    let same : n ≡ m = keeps m n rule in
    let kept : a.settles (Many w.0) ≡ Some (Many w.0) = kept_rule a.settles m n (Many w.0) rule same w.1 in
    subst (λ (x : Node). Fits layout types x) (sym (is_marked_so a n is
    ∙ ap (λ (x : Node). Chosen a.tag x) (same ∙ w.1)))
    (fits.chosen_made a a.tag found w.2 kept)

pub explicit_closes : (layout : Layout) (types : List Alternative) (a : Alternative) (form : Named)
    → a.content ≡ Explicit form → a.marked ≡ true → Keeps a.settles
    → find (is_marked a.tag) types ≡ Some a → Closes layout types a
explicit_closes layout types a form c is keeps found m n said rule =
    let inner : Fits layout (layout form) m = subst (λ (x : Content). IsSaid layout x m) c said in
    let same : n ≡ m = keeps m n rule in
    subst (λ (x : Node). Fits layout types x) (sym (is_marked_so a n is ∙ ap (λ (x : Node). Chosen a.tag x) same))
    (fits.chosen a a.tag form found c inner (kept_rule a.settles m n m rule same refl))

-- ---- contents of octets or bits

-- what was read can be written
pub record IsWritable (c : Content) (m : Node) : Type 0 where
  pub octets : List ℕ
  pub writes : leaf_octets c m ≡ Some octets
  pub free : is_chosen m ≡ false

abbrev pub Writes : Content → Type 0
Writes c = (layout : Layout) (m : Node) → IsSaid layout c m → IsWritable c m

pub held_by : (a : Alternative) (m : Node) → IsWritable a.content m → can_hold m a ≡ true
held_by a m w = ap (λ (o : Option (List ℕ)). if is_some o then true else (is_many m && is_made_of_members a.content))
    w.writes

pub leaf_closes : (layout : Layout) (types : List Alternative) (a : Alternative) → a.marked ≡ false → Keeps a.settles
    → Writes a.content
    → ((m : Node) → IsSaid layout a.content m → find (can_hold m) types ≡ Some a) → Closes layout types a
leaf_closes layout types a plain keeps writes held m n said rule =
    let w = writes layout m said in
    let same : n ≡ m = keeps m n rule in
    subst (λ (x : Node). Fits layout types x) (sym (unmarked a n plain ∙ same))
    (fits.whole a w.octets w.free (held m said) plain w.writes (kept_rule a.settles m n m rule same refl))

-- the only alternative
pub leaf_alone : (layout : Layout) (a : Alternative) → a.marked ≡ false → Keeps a.settles → Writes a.content
    → Closes layout (a ∷ []) a
leaf_alone layout a plain keeps writes =
    leaf_closes layout (a ∷ []) a plain keeps writes
    (λ m said. ap (λ (b : Bool). cond b (Some a) None) (held_by a m (writes layout m said)))

writable : (c : Content) (m x : Node) (octets : List ℕ) → x ≡ m → leaf_octets c x ≡ Some octets → is_chosen x ≡ false
    → IsWritable c m
writable c m x octets e h f = subst (λ (y : Node). IsWritable c y) e (record { octets = octets; writes = h; free = f })

flag_writable : (b : Bool) → IsWritable (Primitive boolean) (Flag b)
flag_writable true = record { octets = 255 ∷ []; writes = refl; free = refl }
flag_writable false = record { octets = 0 ∷ []; writes = refl; free = refl }

boolean_by : (octets : List ℕ) (m : Node) → boolean.reads octets ≡ Some m → IsWritable (Primitive boolean) m
boolean_by [] m h = absurd (cc h)
boolean_by (o ∷ []) m h = subst (λ (x : Node). IsWritable (Primitive boolean) x) (some_is (Flag (not (o == 0))) m h)
    (flag_writable (not (o == 0)))
boolean_by (o ∷ p ∷ os) m h = absurd (cc h)

pub boolean_writes : Writes (Primitive boolean)
boolean_writes layout m s = boolean_by s.0 m s.2

null_by : (octets : List ℕ) (m : Node) → null.reads octets ≡ Some m → IsWritable (Primitive null) m
null_by [] m h = writable (Primitive null) m Vacant [] (some_is Vacant m h) refl refl
null_by (o ∷ os) m h = absurd (cc h)

pub null_writes : Writes (Primitive null)
null_writes layout m s = null_by s.0 m s.2

pub any_octets_writes : Writes (Primitive any_octets)
any_octets_writes layout m s =
    writable (Primitive any_octets) m (Octets s.0) s.0 (some_is (Octets s.0) m s.2) refl refl

pub placed_writes : (place : ℕ) → Writes (Primitive (placed place))
placed_writes place layout m s =
    writable (Primitive (placed place)) m (Many (row (whole place ∷ Octets s.0 ∷ []))) s.0
    (some_is (Many (row (whole place ∷ Octets s.0 ∷ []))) m s.2)
    (ap (λ (b : Bool). if b then Some s.0 else None) (eq-eqb place place refl)) refl

pub octets_writes : Writes (Joined octet_string)
octets_writes layout m s =
    let w = so (nat_le (length s.0) most_octets) (Octets s.0) m s.1 in
    writable (Joined octet_string) m (Octets s.0) s.0 w.1 (let_through (nat_le (length s.0) most_octets) s.0 w.0) refl

pub text_writes : (test : List ℕ → Bool) → Writes (Joined (text_where test))
text_writes test layout m s =
    let w = so (test s.0) (Text s.0) m s.1 in
    writable (Joined (text_where test)) m (Text s.0) s.0 w.1 (let_through (test s.0) s.0 w.0) refl

time_by : (w : Surroundings) (octets : List ℕ) (m : Node) (o : Option ℕ) → w.moment octets ≡ o
    → (time_leaf w).reads octets ≡ Some m → IsWritable (Joined (time_leaf w)) m
time_by w octets m None e h = let none : None ≡ Some m = sym (no_moment w octets e) ∙ h in absurd (cc none)
  where
    no_moment : (v : Surroundings) (os : List ℕ) → v.moment os ≡ None → (time_leaf v).reads os ≡ None
    no_moment v os f = rw f refl
time_by w octets m (Some k) e h =
    let there : (time_leaf w).reads octets ≡ where_so (is_some (w.time k)) (whole k) = one_moment w octets k e in
    let same = so (is_some (w.time k)) (whole k) m (sym there ∙ h) in
    let time = what_there_is (w.time k) same.0 in
    writable (Joined (time_leaf w)) m (whole k) time.0 same.1 time.1 refl
  where
    one_moment : (v : Surroundings) (os : List ℕ) (j : ℕ) → v.moment os ≡ Some j
        → (time_leaf v).reads os ≡ where_so (is_some (v.time j)) (whole j)
    one_moment v os j f = rw f refl

    what_there_is : (o : Option (List ℕ)) → is_some o ≡ true → (x : List ℕ) × (o ≡ Some x)
    what_there_is (Some x) h = (x, refl)
    what_there_is None h = absurd (cc h)

pub time_writes : (w : Surroundings) → Writes (Joined (time_leaf w))
time_writes w layout m s = time_by w s.0 m (w.moment s.0) refl s.1

options_by : (a b : Bool) → IsWritable (JoinedBits options) (options_node a b)
options_by true true = record { octets = _; writes = refl; free = refl }
options_by true false = record { octets = _; writes = refl; free = refl }
options_by false true = record { octets = _; writes = refl; free = refl }
options_by false false = record { octets = _; writes = refl; free = refl }

pub options_writes : Writes (JoinedBits options)
options_writes layout m s =
    let w = so (may_be_set s.0) (options_node (fourth s.0) (second s.0)) m s.1 in
    subst (λ (x : Node). IsWritable (JoinedBits options) x) w.1 (options_by (fourth s.0) (second s.0))

-- ---- object identifiers and numbers

some_arcs : (o : Option (List ℕ)) (f : List ℕ → Option Node) (m : Node) → in_option None f o ≡ Some m → (x : List ℕ)
    × (o ≡ Some x) × (f x ≡ Some m)
some_arcs None f m h = absurd (cc h)
some_arcs (Some x) f m h = (x, refl, h)

checked_arcs : (o : Option (List ℕ)) (arcs : List ℕ) → in_option None
    (λ ns. where_so (is_oid (arcs_of ns)) (arcs_of ns)) o ≡ Some arcs → is_oid arcs ≡ true
checked_arcs None arcs h = absurd (cc h)
checked_arcs (Some ns) arcs h =
    let w = so (is_oid (arcs_of ns)) (arcs_of ns) arcs h in ap is_oid (sym w.1) ∙ w.0

-- what is read as an object identifier is one
pub oid_is : (test : List ℕ → Bool) (octets : List ℕ) (m : Node) → (oid test).reads octets ≡ Some m → (arcs : List ℕ)
    × (Oid arcs ≡ m)
oid_is test octets m h =
    let w = some_arcs (oid_of octets) (λ arcs. where_so (test arcs) (Oid arcs)) m h in
    (w.0, (so (test w.0) (Oid w.0) m w.2).1)

pub oid_writes : (test : List ℕ → Bool) → Writes (Primitive (oid test))
oid_writes test layout m s =
    let w = some_arcs (oid_of s.0) (λ arcs. where_so (test arcs) (Oid arcs)) m s.2 in
    let v = so (test w.0) (Oid w.0) m w.2 in
    let fine : (is_oid w.0 && test w.0) ≡ true = and_true (is_oid w.0) (test w.0)
    (checked_arcs (subidentifiers true 0 s.0) w.0 w.1) v.0 in
    writable (Primitive (oid test)) m (Oid w.0) (oid_octets w.0) v.1
    (let_through (is_oid w.0 && test w.0) (oid_octets w.0) fine) refl

-- ---- numbers: a number of eight octets lies between -2^63 and 2^63

times : (s t p : ℕ) → s ≤ t → s * p ≤ t * p
times s t p h = grind arith

above : (os : List ℕ) (x : ℕ) → list_all is_octet os ≡ true → big_endian x os + 1 ≤ (x + 1) * 2 ^ (8 * length os)
above [] x h = omega arith
above (o ∷ os) x h =
    let w = both_true (is_octet o) (list_all is_octet os) h in
    let low : o < 256 = ltb-true o 256 w.0 in
    let rest = above os (x * 256 + o) w.1 in
    let step = times (x * 256 + o + 1) ((x + 1) * 256) (2 ^ (8 * length os)) (omega arith) in
    let same = regroup (x + 1) (2 ^ (8 * length os)) in
    let more : (x + 1) * 2 ^ (8 * length (o ∷ os)) ≡ (x + 1) * (256 * 2 ^ (8 * length os)) = ap
    (λ (q : ℕ). (x + 1) * q) (power (length os)) in
    join _ _ _ _ _ rest step same (sym more)
  where
    join : (a b c d e : ℕ) → a ≤ b → b ≤ c → c ≡ d → d ≡ e → a ≤ e
    join a b c d e h k l m = omega arith

below : (os : List ℕ) (x : ℕ) → x * 2 ^ (8 * length os) ≤ big_endian x os
below [] x = omega arith
below (o ∷ os) x =
    let rest = below os (x * 256 + o) in
    let step = times (x * 256) (x * 256 + o) (2 ^ (8 * length os)) (omega arith) in
    let same = regroup x (2 ^ (8 * length os)) in
    let more : x * 2 ^ (8 * length (o ∷ os)) ≡ x * (256 * 2 ^ (8 * length os)) = ap (λ (q : ℕ). x * q)
    (power (length os)) in
    join _ _ _ _ _ more (sym same) step rest
  where
    join : (a b c d e : ℕ) → a ≡ b → b ≡ c → c ≤ d → d ≤ e → a ≤ e
    join a b c d e h k l m = omega arith

powers : (n : ℕ) → n ≤ 7 → 2 ^ (8 * n) ≤ 2 ^ 56
powers n h = let e : 8 * n ≤ 56 = omega arith in pow-le-pow_right (omega arith) e

pos_short : (a : ℕ) (os : List ℕ) → a < 128 → length os ≤ 7 → list_all is_octet os ≡ true
    → nat_lt (big_endian a os) (2 ^ 63) ≡ true
pos_short a os less few h =
    let top = above os a h in
    let p = powers (length os) few in
    let q = times (a + 1) 128 (2 ^ (8 * length os)) (omega arith) in
    lt-ltb (big_endian a os) (2 ^ 63) (omega (arith, top, p, q))

neg_short : (a : ℕ) (os : List ℕ) → 128 ≤ a → a < 256 → length os ≤ 7 → list_all is_octet os ≡ true
    → nat_lt (2 ^ (8 * length (a ∷ os)) - 1 - big_endian a os) (2 ^ 63) ≡ true
neg_short a os more octet few h =
    let low = below os a in
    let p = powers (length os) few in
    let q = times 128 a (2 ^ (8 * length os)) more in
    let size : 2 ^ (8 * length (a ∷ os)) ≡ 256 * 2 ^ (8 * length os) = power (length os) in
    lt-ltb (2 ^ (8 * length (a ∷ os)) - 1 - big_endian a os) (2 ^ 63) (omega (arith, low, p, q, size))

first_is : (a : ℕ) → 0 * 256 + a ≡ a
first_is a = omega arith

short_by : (octets : List ℕ) → list_all is_octet octets ≡ true → is_shortest octets ≡ true → length octets ≤ 8
    → is_short_number (complement octets) ≡ true
short_by [] h s few = absurd (cc s)
short_by (a ∷ os) h s few = by (nat_lt a 128) refl
  where
    w : (is_octet a ≡ true) × (list_all is_octet os ≡ true)
    w = both_true (is_octet a) (list_all is_octet os) h

    by : (b : Bool) → nat_lt a 128 ≡ b → is_short_number (complement (a ∷ os)) ≡ true
    by true e =
        rw e (ap (λ (x : ℕ). nat_lt (big_endian x os) (2 ^ 63)) (first_is a)
        ∙ pos_short a os (ltb-true a 128 e) (omega arith) w.1)
    by false e =
        rw e (ap (λ (x : ℕ). nat_lt (2 ^ (8 * length (a ∷ os)) - 1 - big_endian x os) (2 ^ 63)) (first_is a)
        ∙ neg_short a os (ltb-false a 128 e) (ltb-true a 256 w.0) (omega arith) w.1)

some_number : (o : Option ℤ) (f : ℤ → Option Node) (m : Node) → in_option None f o ≡ Some m → (x : ℤ) × (o ≡ Some x)
    × (f x ≡ Some m)
some_number None f m h = absurd (cc h)
some_number (Some x) f m h = (x, refl, h)

number_writable : (test : ℤ → Bool) (octets : List ℕ) (m : Node) → list_all is_octet octets ≡ true
    → (number test).reads octets ≡ Some m → IsWritable (Primitive (number test)) m
number_writable test octets m o h =
    let w = some_number (number_of octets) (λ k. where_so (test k) (Number k)) m h in
    let v = so (is_shortest octets && nat_le (length octets) 8) (complement octets) w.0 w.1 in
    let u = both_true (is_shortest octets) (nat_le (length octets) 8) v.0 in
    let x = so (test w.0) (Number w.0) m w.2 in
    let short : is_short_number w.0 ≡ true = ap is_short_number (sym v.1)
    ∙ short_by octets o u.0 (leb-true (length octets) 8 u.1) in
    let fine : (is_short_number w.0 && test w.0) ≡ true = and_true (is_short_number w.0) (test w.0) short x.0 in
    writable (Primitive (number test)) m (Number w.0) (number_octets w.0) x.1
    (let_through (is_short_number w.0 && test w.0) (number_octets w.0) fine) refl

-- a number that was read is one
pub number_is : (test : ℤ → Bool) (octets : List ℕ) (m : Node) → (number test).reads octets ≡ Some m
    → (k : ℤ) × (Number k ≡ m)
number_is test octets m h =
    let w = some_number (number_of octets) (λ k. where_so (test k) (Number k)) m h in
    let x = so (test w.0) (Number w.0) m w.2 in
    (w.0, x.1)

null_by_is : (octets : List ℕ) (m : Node) → null.reads octets ≡ Some m → Vacant ≡ m
null_by_is [] m h = some_is Vacant m h
null_by_is (o ∷ os) m h = absurd (cc h)

pub null_is : (octets : List ℕ) (m : Node) → null.reads octets ≡ Some m → Vacant ≡ m
null_is octets m h = null_by_is octets m h

pub number_writes : (test : ℤ → Bool) → Writes (Primitive (number test))
number_writes test layout m s = number_writable test s.0 m s.1 s.2
