-- What fits a type of messages: its parts, one by one. A type with one alternative is that alternative; of several, which
-- are told apart by tags, the tag tells which.
use Rattle.std.proofs.Common.{◌≡◌, ℕ, suc, ◌<◌, ◌≤◌, nat_lt, Bool, true, false, cond, ◌&&◌, ◌==◌, List, [], ◌∷◌, refl, sym, ap, subst, ◌∙◌, arith}
use Rattle.std.specs.Prelude.{All}
use Rattle.std.specs.List.{find, list_all}
use Rattle.std.proofs.lemmas.Bool.{leb-true, eqb-true}
use Rattle.std.proofs.lemmas.List.Elements.{All-nil, All-cons}
use Rattle.std.specs.declared.option.Option.{Option}
use Rattle.std.specs.declared.option.Option.TheVariants.{None, Some}
use Rattle.x5_model.proofs.Lists.{both_true}
use Rattle.x5_model_typed.specs.Nodes.{Node, Nodes, Many, Nil, More, list}
use Rattle.x5_model_typed.specs.Named.{Named}
use Rattle.x5_model_typed.specs.Forms.{Leaf, Component, Content, Primitive, Joined, JoinedBits, Explicit, Sequence, Set, Members, Never, Alternative, Layout, plain, at, or, universal}
use Rattle.x5_model_typed.specs.Leaves.{where_so}
use Rattle.x5_model_typed.specs.Typed.{required}
use Rattle.x5_model_typed.specs.Written.{leaf_octets, can_hold, is_marked}
use Rattle.x5_model_typed_laws.specs.Fits as fits
use Rattle.x5_model_typed_laws.specs.Fits.{Fits, FitsIn, FitsSequence, FitsSet, FitsEach, left_out, given, over, absent, present, all, none, more, whole, made, chosen, chosen_made}

pub so : {X : Type 0} (b : Bool) (x y : X) → where_so b x ≡ Some y → b ≡ true
so true x y h = refl
so false x y h = absurd (cc h)

pub only : (a b : Alternative) (c : Bool) → cond c (Some a) None ≡ Some b → b ≡ a
only a b true h = cc
only a b false h = absurd (cc h)

not_found : (b : Alternative) → (let o : Option Alternative = None in o) ≡ Some b → ⊥
not_found b e = cc

unmarked_not_found : (a b : Alternative) (tag : ℕ) → a.marked ≡ false → find (is_marked tag) (a ∷ []) ≡ Some b → ⊥
unmarked_not_found a b tag free found =
    not_found b (ap (λ (x : Bool). cond (x && (a.tag == tag)) (Some a) None) (sym free) ∙ found)

-- ---- one alternative, of elements

pub record IsMade (L : Layout) (c : Content) (n : Node) : Type 0 where
  pub members : Nodes
  pub is_many : n ≡ Many members
  pub within : FitsIn L c members

no_octets : (o : Option (List ℕ)) (octets : List ℕ) → o ≡ None → o ≡ Some octets → ⊥
no_octets o octets e h = cc

pub only_made : (L : Layout) (a : Alternative) (n : Node) → a.marked ≡ false → ((m : Node) → leaf_octets a.content m ≡ None)
    → Fits L (a ∷ []) n → IsMade L a.content n
only_made L a n free_of nothing (whole b octets free held unmarked writes settles) =
    let same : b ≡ a = only a b (can_hold n a) held in
    absurd (no_octets (leaf_octets a.content n) octets (nothing n)
    (ap (λ (c : Alternative). leaf_octets c.content n) (sym same) ∙ writes))
only_made L a _ free_of nothing (made {ns} b held unmarked empty inside settles) =
    let same : b ≡ a = only a b (can_hold (Many ns) a) held in
    record { members = ns; is_many = refl; within = subst (λ (c : Alternative). FitsIn L c.content ns) same inside }
only_made L a _ free_of nothing (chosen b tag form found c f settles) = absurd (unmarked_not_found a b tag free_of found)
only_made L a _ free_of nothing (chosen_made b tag found inside settles) = absurd (unmarked_not_found a b tag free_of found)

pub sequence_in : (L : Layout) (cs : List Component) (ns : Nodes) → FitsIn L (Sequence cs) ns → FitsSequence L cs ns
sequence_in L cs ns (fits.sequence f) = f

pub set_in : (L : Layout) (cs : List Component) (ns : Nodes) → FitsIn L (Set cs) ns → FitsSet L cs ns
set_in L cs ns (fits.set f) = f

pub members_in : (L : Layout) (form : Named) (ns : Nodes) → FitsIn L (Members form) ns → FitsEach L form ns
members_in L form ns (fits.members f) = f

-- ---- the rule of one alternative keeps the value

pub only_settles : (L : Layout) (a : Alternative) (n : Node) → a.marked ≡ false → Fits L (a ∷ []) n → a.settles n ≡ Some n
only_settles L a n free_of (whole b octets free held unmarked writes settles) =
    subst (λ (c : Alternative). c.settles n ≡ Some n) (only a b (can_hold n a) held) settles
only_settles L a _ free_of (made {ns} b held unmarked empty inside settles) =
    subst (λ (c : Alternative). c.settles (Many ns) ≡ Some (Many ns)) (only a b (can_hold (Many ns) a) held) settles
only_settles L a _ free_of (chosen b tag form found c f settles) = absurd (unmarked_not_found a b tag free_of found)
only_settles L a _ free_of (chosen_made b tag found inside settles) = absurd (unmarked_not_found a b tag free_of found)

-- ---- one alternative, of octets

no_members : (L : Layout) (leaf : Leaf (List ℕ)) (ns : Nodes) → FitsIn L (Primitive leaf) ns → ⊥
no_members L leaf ns f = elim f [ ]

pub only_leaf : (L : Layout) (tag : ℕ) (leaf : Leaf (List ℕ)) (n : Node) → Fits L (universal tag (Primitive leaf) ∷ []) n
    → (octets : List ℕ) × (leaf.writes n ≡ Some octets)
only_leaf L t leaf n (whole b octets free held unmarked writes settles) =
    let a = universal t (Primitive leaf) in
    let same : b ≡ a = only a b (can_hold n a) held in
    (octets, ap (λ (c : Alternative). leaf_octets c.content n) (sym same) ∙ writes)
only_leaf L t leaf _ (made {ns} b held unmarked empty inside settles) =
    let a = universal t (Primitive leaf) in
    let same : b ≡ a = only a b (can_hold (Many ns) a) held in
    absurd (no_members L leaf ns (subst (λ (c : Alternative). FitsIn L c.content ns) same inside))
only_leaf L t leaf _ (chosen b tag form found c f settles) = absurd (unmarked_not_found (universal t (Primitive leaf)) b tag refl found)
only_leaf L t leaf _ (chosen_made b tag found inside settles) = absurd (unmarked_not_found (universal t (Primitive leaf)) b tag refl found)

-- ---- several, each with a tag of its own and an element of a type

found_first : (q : Alternative → Bool) (x a : Alternative) (b : Bool) (o : Option Alternative) → cond b (Some x) o ≡ Some a
    → q x ≡ true → (o ≡ Some a → q a ≡ true) → q a ≡ true
found_first q x a true o e here later = (let same : x ≡ a = cc in subst (λ (c : Alternative). q c ≡ true) same here)
found_first q x a false o e here later = later e

pub found_is : (q p : Alternative → Bool) (types : List Alternative) (a : Alternative) → list_all q types ≡ true
    → find p types ≡ Some a → q a ≡ true
found_is q p [] a h e = absurd (cc e)
found_is q p (x ∷ types) a h e =
    let w = both_true (q x) (list_all q types) h in
    found_first q x a (p x) (find p types) e w.0 (λ f. found_is q p types a w.1 f)

found_holds : (p : Alternative → Bool) (types : List Alternative) (a : Alternative) → find p types ≡ Some a → p a ≡ true
found_holds p [] a e = absurd (cc e)
found_holds p (x ∷ types) a e = by (p x) refl e (λ f. found_holds p types a f)
  where
    by : (b : Bool) → p x ≡ b → cond b (Some x) (find p types) ≡ Some a → (find p types ≡ Some a → p a ≡ true) → p a ≡ true
    by true h f later = (let same : x ≡ a = cc in subst (λ (c : Alternative). p c ≡ true) same h)
    by false h f later = later f

-- the tag is one that the types have
pub tag_below : (types : List Alternative) (tag limit : ℕ) (a : Alternative) → list_all (λ x. nat_lt x.tag limit) types ≡ true
    → find (is_marked tag) types ≡ Some a → tag < limit
tag_below types tag limit a low_all found =
    let low : suc a.tag ≤ limit = leb-true (suc a.tag) limit (found_is (λ x. nat_lt x.tag limit) (is_marked tag) types a low_all found) in
    let same : a.tag ≡ tag = eqb-true a.tag tag (both_true a.marked (a.tag == tag) (found_holds (is_marked tag) types a found)).1 in
    omega (arith, low, same)

abbrev pub is_explicit : Content → Bool
is_explicit (Explicit form) = true
is_explicit c = false

pub no_explicit : (L : Layout) (c : Content) (ns : Nodes) → is_explicit c ≡ true → FitsIn L c ns → ⊥
no_explicit L (Explicit form) ns e f = elim f [ ]
no_explicit L (Primitive leaf) ns e f = absurd (cc e)
no_explicit L (Joined leaf) ns e f = absurd (cc e)
no_explicit L (JoinedBits leaf) ns e f = absurd (cc e)
no_explicit L (Sequence cs) ns e f = absurd (cc e)
no_explicit L (Set cs) ns e f = absurd (cc e)
no_explicit L (Members form) ns e f = absurd (cc e)
no_explicit L Never ns e f = absurd (cc e)

pub as_form : (L : Layout) (a b : Alternative) (form other : Named) (n : Node) → a.content ≡ Explicit form
    → (let o : Option Alternative = Some a in o) ≡ Some b → b.content ≡ Explicit other → Fits L (L other) n → Fits L (L form) n
as_form L a b form other n e same c f =
    let alike : a ≡ b = cc in
    let both : Explicit form ≡ Explicit other = sym e ∙ ap (λ (x : Alternative). x.content) alike ∙ c in
    let forms : other ≡ form = cc in
    subst (λ (x : Named). Fits L (L x) n) forms f

-- ---- members and components

pub each_in : (L : Layout) (form : Named) (P : Node → Type 0) → ((n : Node) → Fits L (L form) n → P n)
    → (ns : Nodes) → FitsEach L form ns → All P (list ns)
each_in L form P of Nil none = All-nil P
each_in L form P of (More n ns) (more f g) = All-cons P n (list ns) (of n f) (each_in L form P of ns g)

pub record Pair (L : Layout) (A B : Named) (ns : Nodes) : Type 0 where
  pub first : Node
  pub second : Node
  pub split : ns ≡ More first (More second Nil)
  pub fits_first : Fits L (L A) first
  pub fits_second : Fits L (L B) second

pub pair_in : (L : Layout) (A B : Named) (ns : Nodes) → FitsSequence L (plain A ∷ plain B ∷ []) ns → Pair L A B ns
pair_in L A B _ (left_out d e f g) = absurd (cc e)
pair_in L A B _ (given nd f required (left_out d e g h)) = absurd (cc e)
pair_in L A B _ (given {n} nd f required (given {n = m} nd' f' required over)) =
    record { first = n; second = m; split = refl; fits_first = f; fits_second = f' }

-- The first component is so, and the others are components of the rest.
pub record First (P : Node → Type 0) (R : Nodes → Type 0) (ns : Nodes) : Type 0 where
  pub first : Node
  pub others : Nodes
  pub split : ns ≡ More first others
  pub is : P first
  pub rest : R others

pub required_in : (L : Layout) (tag : ℕ) (form : Named) (cs : List Component) (P : Node → Type 0)
    → ((n : Node) → Fits L (L form) n → P n) → (ns : Nodes) → FitsSet L (at tag form ∷ cs) ns → First P (FitsSet L cs) ns
required_in L tag form cs P of _ (absent d e f g) = absurd (cc e)
required_in L tag form cs P of _ (present {n} {ns} nd f goes g) =
    record { first = n; others = ns; split = refl; is = of n f; rest = g }

pub optional_in : (L : Layout) (d : Node) (tag : ℕ) (form : Named) (cs : List Component) (P : Node → Type 0) → P d
    → ((n : Node) → Fits L (L form) n → P n) → (ns : Nodes) → FitsSet L (or d (at tag form) ∷ cs) ns → First P (FitsSet L cs) ns
optional_in L d tag form cs P default of _ (absent {ns} x e f g) =
    let same : d ≡ x = cc in
    record { first = x; others = ns; split = refl; is = subst P same default; rest = g }
optional_in L d tag form cs P default of _ (present {n} {ns} nd f goes g) =
    record { first = n; others = ns; split = refl; is = of n f; rest = g }

pub no_more : (L : Layout) (ns : Nodes) → FitsSet L [] ns → ns ≡ Nil
no_more L _ all = refl
