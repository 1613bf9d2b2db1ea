-- What fits a type of messages, taken apart: its content, its rule, its components and members. A type with one
-- alternative is that alternative; of several, which are told apart by tags, the tag tells which.
use Rattle.std.proofs.Common.{◌≡◌, ℕ, ◌<◌, nat_lt, Bool, true, false, cond, ◌&&◌, ◌==◌, List, [], ◌∷◌, map, refl, sym, ap, subst, ◌∙◌, arith}
use Rattle.std.specs.List.{find, list_all}
use Rattle.std.proofs.lemmas.Bool.{ltb-true, eqb-true}
use Rattle.std.specs.declared.option.Option.{Option}
use Rattle.std.specs.declared.option.Option.TheVariants.{None, Some}
use Rattle.x5_model.specs.Members.{here, there}
use Rattle.x5_model.proofs.Lists.{both_true, of_all, of_find, of_map}
use Rattle.x5_model_typed.specs.Nodes.{Node, Nodes, Chosen, Many, Nil, More, list, parts}
use Rattle.x5_model_typed.specs.Named.{Named}
use Rattle.x5_model_typed.specs.Forms.{Component, Content, Primitive, Joined, JoinedBits, Explicit, Sequence, Set, Members, Never, Alternative, Layout, plain, at, or}
use Rattle.x5_model_typed.specs.Typed.{required, default}
use Rattle.x5_model_typed.specs.Written.{leaf_octets, is_made_of_members, can_hold, is_marked}
use Rattle.x5_model_typed_laws.specs.Fits as fits
use Rattle.x5_model_typed_laws.specs.Fits.{Fits, FitsIn, FitsSequence, FitsSet, FitsEach, left_out, given, over, absent, present, all, none, more, whole, made, chosen, chosen_made}
use Rattle.x5_model_typed_laws.proofs.Closing.{no_leaf}
use Rattle.x5_model_fitting.specs.Names.{Each}

-- ---- one alternative

only : (a b : Alternative) (c : Bool) → cond c (Some a) None ≡ Some b → b ≡ a
only a b true h = cc
only a b false h = absurd (cc h)

not_found : (b : Alternative) → (let o : Option Alternative = None in o) ≡ Some b → ⊥
not_found b e = cc

unmarked_not_found : (a b : Alternative) (tag : ℕ) → a.marked ≡ false → find (is_marked tag) (a ∷ []) ≡ Some b → ⊥
unmarked_not_found a b tag free found =
    not_found b (ap (λ (x : Bool). cond (x && (a.tag == tag)) (Some a) None) (sym free) ∙ found)

pub record IsMade (L : Layout) (a : Alternative) (n : Node) : Type 0 where
  pub members : Nodes
  pub is_many : n ≡ Many members
  pub within : FitsIn L a.content members
  pub settled : a.settles n ≡ Some n

no_octets : (o : Option (List ℕ)) (octets : List ℕ) → o ≡ None → o ≡ Some octets → ⊥
no_octets o octets e h = cc

-- whose content is elements
pub only_made : (L : Layout) (a : Alternative) (n : Node) → a.marked ≡ false → is_made_of_members a.content ≡ true
    → Fits L (a ∷ []) n
    → IsMade L a n
only_made L a n free_of of_members (whole b octets free held unmarked writes settles) =
    let same : b ≡ a = only a b (can_hold n a) held in
    absurd (no_octets (leaf_octets a.content n) octets (no_leaf a.content n of_members)
    (ap (λ (c : Alternative). leaf_octets c.content n) (sym same) ∙ writes))
only_made L a _ free_of of_members (made {ns} b held unmarked empty inside settles) =
    let same : b ≡ a = only a b (can_hold (Many ns) a) held in
    record {
      members = ns;
      is_many = refl;
      within = subst (λ (c : Alternative). FitsIn L c.content ns) same inside;
      settled = subst (λ (c : Alternative). c.settles (Many ns) ≡ Some (Many ns)) same settles;
    }
only_made L a _ free_of of_members (chosen b tag form found c f settles) =
    absurd (unmarked_not_found a b tag free_of found)
only_made L a _ free_of of_members (chosen_made b tag found inside settles) =
    absurd (unmarked_not_found a b tag free_of found)

made_of_members : (L : Layout) (c : Content) (ns : Nodes) → FitsIn L c ns → is_made_of_members c ≡ true
made_of_members L _ ns (fits.sequence f) = refl
made_of_members L _ ns (fits.set f) = refl
made_of_members L _ ns (fits.members f) = refl

-- whose content is octets or bits
pub only_leaf : (L : Layout) (a : Alternative) (n : Node) → a.marked ≡ false → is_made_of_members a.content ≡ false
    → Fits L (a ∷ []) n
    → (octets : List ℕ) × (leaf_octets a.content n ≡ Some octets)
only_leaf L a n free_of of_octets (whole b octets free held unmarked writes settles) =
    let same : b ≡ a = only a b (can_hold n a) held in
    (octets, ap (λ (c : Alternative). leaf_octets c.content n) (sym same) ∙ writes)
only_leaf L a _ free_of of_octets (made {ns} b held unmarked empty inside settles) =
    let same : b ≡ a = only a b (can_hold (Many ns) a) held in
    let some = made_of_members L a.content ns (subst (λ (c : Alternative). FitsIn L c.content ns) same inside) in
    absurd (cc (some, of_octets))
only_leaf L a _ free_of of_octets (chosen b tag form found c f settles) =
    absurd (unmarked_not_found a b tag free_of found)
only_leaf L a _ free_of of_octets (chosen_made b tag found inside settles) =
    absurd (unmarked_not_found a b tag free_of found)

-- ---- members

pub each_in : (L : Layout) (form : Named) (P : Node → Type 0) → ((n : Node) → Fits L (L form) n → P n) → (ns : Nodes)
    → FitsEach L form ns → Each P (list ns)
each_in L form P of Nil none n i = elim i [ ]
each_in L form P of (More m ns) (more f g) n here = of m f
each_in L form P of (More m ns) (more f g) n (there i) = each_in L form P of ns g n i

pub members_of : (L : Layout) (form : Named) (ns : Nodes) → FitsIn L (Members form) ns → FitsEach L form ns
members_of L form ns (fits.members f) = f

pub many_in : (L : Layout) (a : Alternative) (form : Named) (P : Node → Type 0) → a.content ≡ Members form
    → ((n : Node) → Fits L (L form) n → P n) → (n : Node) → IsMade L a n → Each P (parts n)
many_in L a form P c of n m =
    subst (λ (x : Node). Each P (parts x)) (sym m.is_many)
    (each_in L form P of m.members (members_of L form m.members
    (subst (λ (x : Content). FitsIn L x m.members) c m.within)))

pub each_mapped : {X : Type 0} (P : X → Type 0) (f : Node → X) (ns : List Node) → Each (λ n. P (f n)) ns
    → Each P (map f ns)
each_mapped P f ns h x i = (let w = of_map f x ns i in subst P (sym w.2) (h w.0 w.1))

-- ---- components, one by one

-- The first component is so, and the others are components of the rest.
pub record First (P : Node → Type 0) (R : Nodes → Type 0) (ns : Nodes) : Type 0 where
  pub first : Node
  pub others : Nodes
  pub split : ns ≡ More first others
  pub is : P first
  pub rest : R others

pub set_in : (L : Layout) (cs : List Component) (ns : Nodes) → FitsIn L (Set cs) ns → FitsSet L cs ns
set_in L cs ns (fits.set f) = f

pub set_first : (L : Layout) (tag : ℕ) (form : Named) (cs : List Component) (P : Node → Type 0)
    → ((n : Node) → Fits L (L form) n → P n)
    → (ns : Nodes) → FitsSet L (at tag form ∷ cs) ns → First P (FitsSet L cs) ns
set_first L tag form cs P of _ (absent d e f g) = absurd (cc e)
set_first L tag form cs P of _ (present {n} {ns} nd f goes g) =
    record { first = n; others = ns; split = refl; is = of n f; rest = g }

pub set_maybe : (L : Layout) (d : Node) (tag : ℕ) (form : Named) (cs : List Component) (P : Node → Type 0) → P d
    → ((n : Node) → Fits L (L form) n → P n) → (ns : Nodes) → FitsSet L (or d (at tag form) ∷ cs) ns
    → First P (FitsSet L cs) ns
set_maybe L d tag form cs P missing of _ (absent {ns} x e f g) =
    let same : d ≡ x = cc in record { first = x; others = ns; split = refl; is = subst P same missing; rest = g }
set_maybe L d tag form cs P missing of _ (present {n} {ns} nd f goes g) =
    record { first = n; others = ns; split = refl; is = of n f; rest = g }

pub set_over : (L : Layout) (ns : Nodes) → FitsSet L [] ns → ns ≡ Nil
set_over L _ all = refl

pub sequence_in : (L : Layout) (cs : List Component) (ns : Nodes) → FitsIn L (Sequence cs) ns → FitsSequence L cs ns
sequence_in L cs ns (fits.sequence f) = f

pub first_in : (L : Layout) (form : Named) (cs : List Component) (P : Node → Type 0)
    → ((n : Node) → Fits L (L form) n → P n)
    → (ns : Nodes) → FitsSequence L (plain form ∷ cs) ns → First P (FitsSequence L cs) ns
first_in L form cs P of _ (left_out d e f g) = absurd (cc e)
first_in L form cs P of _ (given {n} {ns} nd f required g) =
    record { first = n; others = ns; split = refl; is = of n f; rest = g }

pub maybe_in : (L : Layout) (d : Node) (c : Component) (cs : List Component) (P : Node → Type 0) → P d
    → ((n : Node) → Fits L (L c.form) n → P n) → (ns : Nodes) → FitsSequence L (or d c ∷ cs) ns
    → First P (FitsSequence L cs) ns
maybe_in L d c cs P missing of _ (left_out {ns} x e f g) =
    let same : d ≡ x = cc in record { first = x; others = ns; split = refl; is = subst P same missing; rest = g }
maybe_in L d c cs P missing of _ (given {n} {ns} nd f default g) =
    record { first = n; others = ns; split = refl; is = of n f; rest = g }

pub sequence_over : (L : Layout) (ns : Nodes) → FitsSequence L [] ns → ns ≡ Nil
sequence_over L _ over = refl

-- ---- one of several, by its tag

abbrev pub is_explicit : Content → Bool
is_explicit (Explicit form) = true
is_explicit c = false

pub no_explicit : (L : Layout) (c : Content) (ns : Nodes) → is_explicit c ≡ true → FitsIn L c ns → ⊥
no_explicit L (Explicit form) ns e f = elim f [ ]
no_explicit L (Primitive leaf) ns e f = absurd (cc e)
no_explicit L (Joined leaf) ns e f = absurd (cc e)
no_explicit L (JoinedBits leaf) ns e f = absurd (cc e)
no_explicit L (Sequence cs) ns e f = absurd (cc e)
no_explicit L (Set cs) ns e f = absurd (cc e)
no_explicit L (Members form) ns e f = absurd (cc e)
no_explicit L Never ns e f = absurd (cc e)

-- of alternatives with tags of their own a value has one, with an element of its type
pub record IsChoice (L : Layout) (types : List Alternative) (n : Node) : Type 0 where
  pub tag : ℕ
  pub inner : Node
  pub is : n ≡ Chosen tag inner
  pub alternative : Alternative
  pub found : find (is_marked tag) types ≡ Some alternative
  pub form : Named
  pub explicit : alternative.content ≡ Explicit form
  pub fits_inner : Fits L (L form) inner

marked_one : (p : Alternative → Bool) (types : List Alternative) (a : Alternative)
    → list_all (λ x. x.marked) types ≡ true
    → find p types ≡ Some a → a.marked ≡ true
marked_one p types a marked held = of_all (λ (x : Alternative). x.marked) a types marked (of_find p a types held).0

pub choice_in : (L : Layout) (types : List Alternative) (n : Node) → list_all (λ a. a.marked) types ≡ true
    → list_all (λ a. is_explicit a.content) types ≡ true → Fits L types n → IsChoice L types n
choice_in L types n marked all_so (whole a octets free held unmarked writes settles) =
    let m = marked_one (can_hold n) types a marked held in absurd (cc (unmarked, m))
choice_in L types _ marked all_so (made {ns} a held unmarked empty inside settles) =
    let m = marked_one (can_hold (Many ns)) types a marked held in absurd (cc (unmarked, m))
choice_in L types _ marked all_so (chosen {n} a tag form found c f settles) =
    record {
      tag = tag;
      inner = n;
      is = refl;
      alternative = a;
      found = found;
      form = form;
      explicit = c;
      fits_inner = f;
    }
choice_in L types _ marked all_so (chosen_made {ns} a tag found inside settles) =
    absurd (no_explicit L a.content ns (of_all (λ (x : Alternative). is_explicit x.content) a types all_so
    (of_find (is_marked tag) a types found).0) inside)

pub inner_fits : (L : Layout) (types : List Alternative) (n : Node) (c : IsChoice L types n) (form : Named)
    (a : Alternative)
    → a.content ≡ Explicit form → (let o : Option Alternative = Some a in o) ≡ Some c.alternative
    → Fits L (L form) c.inner
inner_fits L types n c form a e same =
    let alike : a ≡ c.alternative = cc in
    let both : Explicit form ≡ Explicit c.form = sym e ∙ ap (λ (x : Alternative). x.content) alike ∙ c.explicit in
    let forms : c.form ≡ form = cc in
    subst (λ (x : Named). Fits L (L x) c.inner) forms c.fits_inner

-- the tag is one that the types have
pub tag_below : (types : List Alternative) (tag limit : ℕ) (a : Alternative)
    → list_all (λ x. nat_lt x.tag limit) types ≡ true
    → find (is_marked tag) types ≡ Some a → tag < limit
tag_below types tag limit a low_all found =
    let w = of_find (is_marked tag) a types found in
    let low : a.tag < limit = ltb-true a.tag limit (of_all (λ (x : Alternative). nat_lt x.tag limit) a types low_all
    w.0) in
    let same : a.tag ≡ tag = eqb-true a.tag tag (both_true a.marked (a.tag == tag) w.1).1 in
    omega (arith, low, same)
