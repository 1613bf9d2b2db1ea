-- What is found of an element and its members makes a spelling of the whole.
use Rattle.std.proofs.Common.{◌≡◌, ℕ, ◌+◌, ◌≤◌, ◌<◌, ◌%◌, true, false, List, [], ◌∷◌, ◌++◌, length, refl, ap}
use Rattle.std.proofs.Common.{sym, ◌∙◌, subst, arith, append_assoc, append-nil, ◌-◌, take, drop, map}
use Rattle.std.proofs.lemmas.List.{map-append}
use Rattle.std.specs.declared.option.Option.{Option}
use Rattle.std.specs.declared.option.Option.TheVariants.{Some}
use Rattle.std.specs.Option.{is_some}
use Rattle.x5_model_octets.specs.Headers.{Identifier, IsHeader, identifier_of}
use Rattle.x5_model_octets.specs.Elements.{identifier}
use Rattle.x5_model_typed.specs.Trees as trees
use Rattle.x5_model_typed.specs.Trees.{Tree, Trees, Leaf, Branch, Bare, Row, Lies, LieAll, class_of, tag_of}
use Rattle.x5_model_typed.specs.Nodes.{Node, Many, row}
use Rattle.x5_model_typed.specs.Named.{Named}
use Rattle.x5_model_typed.specs.Forms.{Component, Sequence, Members, Alternative, Layout, by_tag}
use Rattle.x5_model_typed.specs.Forms.{may_be_tagged, plain, or}
use Rattle.x5_model_typed.specs.Judged.{leaf_node, marked}
use Rattle.x5_model_typed.specs.Layouts.{Surroundings, layout}
use Rattle.x5_model_typed.specs.Typed as typed
use Rattle.x5_model_typed.specs.Typed.{IsOf, Holds, AllOf, InOrder}
use Rattle.x5_direct.proofs.Heads.{left_is, rest_here}
use Rattle.x5_direct.specs.Spelled.{Opens, Spelled, SpelledIn, SpelledEach}
use Rattle.x5_direct.specs.Spelled.{SpelledInOrder, Reads, ReadEach}

-- ---- one element

header_is : (first : ℕ) (i : Identifier) (content octets rest : List ℕ) (o : Opens first content octets rest)
    → identifier_of first (first % 32) ≡ i → IsHeader i (Some (length content)) (first ∷ o.lengths)
header_is first i content octets rest o e =
    subst (λ (j : Identifier). IsHeader j (Some (length content)) (first ∷ o.lengths)) e o.is_header

not_zero : (first : ℕ) (more : List ℕ) → 0 < first → first ∷ more ≡ 0 ∷ 0 ∷ [] → ⊥
not_zero first more some e = let zero_is : first ≡ 0 = cc e in omega (arith, some, zero_is)

apart : (first : ℕ) (content octets rest : List ℕ) (o : Opens first content octets rest)
    → octets ≡ ((first ∷ o.lengths) ++ content) ++ rest
apart first content octets rest o = o.whole ∙ sym (append_assoc (first ∷ o.lengths) content rest)

-- A primitive one.
pub leaf_spelled : (form : Named) (first class tag : ℕ) (a : Alternative) (m n : Node) (content octets rest : List ℕ)
    → Opens first content octets rest → identifier_of first (first % 32) ≡ identifier false class tag → 0 < first
    → ((w : Surroundings) → by_tag class tag (layout w form) ≡ Some a)
    → leaf_node a.content content ≡ Some m → a.settles m ≡ Some n → Spelled 0 form (marked a n) octets rest
leaf_spelled form first class tag a m n content octets rest o is some tagged reads settles = record {
  part = (first ∷ o.lengths) ++ content;
  whole = apart first content octets rest o;
  is_element = λ depth at room. record {
    tree = Leaf at class tag content;
    lies = (
      refl,
      record {
        deep = omega (arith, room);
        header = first ∷ o.lengths;
        is_header = header_is first (identifier false class tag) content octets rest o is;
        whole = refl;
        no_end = λ e. not_zero first (o.lengths ++ content) some e;
      },
    );
    is_of = λ w. typed.primitive a m n (tagged w) reads settles;
  };
}

-- A constructed one.
pub branch_spelled : (levels : ℕ) (form : Named) (first class tag : ℕ) (a : Alternative) (m n : Node)
    (content octets rest : List ℕ) → Opens first content octets rest
    → identifier_of first (first % 32) ≡ identifier true class tag
    → ((w : Surroundings) → by_tag class tag (layout w form) ≡ Some a)
    → SpelledIn levels a.content m content → a.settles m ≡ Some n
    → Spelled (levels + 1) form (marked a n) octets rest
branch_spelled levels form first class tag a m n content octets rest o is tagged inner settles = record {
  part = (first ∷ o.lengths) ++ content;
  whole = apart first content octets rest o;
  is_element = λ depth at room.
      let all = inner (depth + 1) (at + length (first ∷ o.lengths)) (omega (arith, room)) in
      record {
        tree = Branch at class tag all.members;
        lies = (
          refl,
          omega (arith, room),
          first ∷ o.lengths,
          content,
          all.lie,
          trees.definite (header_is first (identifier true class tag) content octets rest o is) refl,
        );
        is_of = λ w. typed.constructed a m n (tagged w) (all.hold w) settles;
      };
}

-- There is room for it where there is room for more.
pub spelled_higher : (levels more : ℕ) (form : Named) (n : Node) (octets rest : List ℕ) → levels ≤ more
    → Spelled levels form n octets rest → Spelled more form n octets rest
spelled_higher levels more form n octets rest less s = record {
  part = s.part;
  whole = s.whole;
  is_element = λ depth at room. s.is_element depth at (omega (arith, less, room));
}

-- ---- members of one type

pub each_none : (levels : ℕ) (form : Named) → SpelledEach levels form [] []
each_none levels form depth at room = record { members = Bare; lie = refl; all_of = λ w. typed.nil }

pub each_more : (levels : ℕ) (form : Named) (n : Node) (ns : List Node) (octets rest : List ℕ)
    → Spelled levels form n octets rest → SpelledEach levels form ns rest → SpelledEach levels form (n ∷ ns) octets
each_more levels form n ns octets rest s others depth at room =
    let e = s.is_element depth at room in
    let more = others depth (at + length s.part) room in
    record {
      members = Row e.tree more.members;
      lie = (s.part, rest, e.lies, more.lie, s.whole);
      all_of = λ w. typed.more (e.is_of w) (more.all_of w);
    }

pub each_in : (levels : ℕ) (form : Named) (ns : List Node) (octets : List ℕ) → SpelledEach levels form ns octets
    → SpelledIn levels (Members form) (Many (row ns)) octets
each_in levels form ns octets all depth at room =
    let e = all depth at room in
    record { members = e.members; lie = e.lie; hold = λ w. typed.each (e.all_of w) }

-- ---- components in their order

pub order_over : (levels : ℕ) → SpelledInOrder levels [] [] []
order_over levels depth at room = record { members = Bare; lie = refl; in_order = λ w. typed.over }

some_tag : {A : Type 0} (o : Option A) (a : A) → o ≡ Some a → is_some o ≡ true
some_tag o a e = ap is_some e

-- The element has a tag of the type.
pub has_tag : (table : Layout) (types : List Alternative) (t : Tree) (n : Node) → IsOf table types t n
    → may_be_tagged (class_of t) (tag_of t) types ≡ true
has_tag table types t n (typed.primitive {class = class} {tag = tag} a m k tagged reads settles) =
    some_tag (by_tag class tag types) a tagged
has_tag table types t n (typed.constructed {class = class} {tag = tag} a m k tagged holds settles) =
    some_tag (by_tag class tag types) a tagged

pub order_next : (levels : ℕ) (form : Named) (cs : List Component) (n : Node) (ns : List Node) (octets rest : List ℕ)
    → Spelled levels form n octets rest → SpelledInOrder levels cs ns rest
    → SpelledInOrder levels (plain form ∷ cs) (n ∷ ns) octets
order_next levels form cs n ns octets rest s others depth at room =
    let e = s.is_element depth at room in
    let more = others depth (at + length s.part) room in
    record {
      members = Row e.tree more.members;
      lie = (s.part, rest, e.lies, more.lie, s.whole);
      in_order = λ w. typed.next (has_tag (layout w) (layout w form) e.tree n (e.is_of w)) (e.is_of w) typed.required
          (more.in_order w);
    }

-- A component that might be missing.
pub order_given : (levels : ℕ) (form : Named) (d : Node) (cs : List Component) (n : Node) (ns : List Node)
    (octets rest : List ℕ) → Spelled levels form n octets rest → SpelledInOrder levels cs ns rest
    → SpelledInOrder levels (or d (plain form) ∷ cs) (n ∷ ns) octets
order_given levels form d cs n ns octets rest s others depth at room =
    let e = s.is_element depth at room in
    let more = others depth (at + length s.part) room in
    record {
      members = Row e.tree more.members;
      lie = (s.part, rest, e.lies, more.lie, s.whole);
      in_order = λ w. typed.next (has_tag (layout w) (layout w form) e.tree n (e.is_of w)) (e.is_of w) typed.default
          (more.in_order w);
    }

-- No element of the one type has a tag of the other.
abbrev pub AreApart : Named → Named → Type 0
AreApart form other = (w : Surroundings) (class tag : ℕ) → may_be_tagged class tag (layout w form) ≡ true
    → may_be_tagged class tag (layout w other) ≡ false

-- One that's missing before one that isn't.
pub order_passed : (levels : ℕ) (form other : Named) (d : Node) (cs : List Component) (n : Node) (ns : List Node)
    (octets rest : List ℕ) → AreApart form other → Spelled levels form n octets rest
    → SpelledInOrder levels cs ns rest
    → SpelledInOrder levels (or d (plain other) ∷ plain form ∷ cs) (d ∷ n ∷ ns) octets
order_passed levels form other d cs n ns octets rest apart s others depth at room =
    let e = s.is_element depth at room in
    let more = others depth (at + length s.part) room in
    record {
      members = Row e.tree more.members;
      lie = (s.part, rest, e.lies, more.lie, s.whole);
      in_order = λ w.
          let tagged = has_tag (layout w) (layout w form) e.tree n (e.is_of w) in
          typed.passed d refl (apart w (class_of e.tree) (tag_of e.tree) tagged)
          (typed.next tagged (e.is_of w) typed.required (more.in_order w));
    }

pub order_in : (levels : ℕ) (cs : List Component) (ns : List Node) (octets : List ℕ)
    → SpelledInOrder levels cs ns octets
    → SpelledIn levels (Sequence cs) (Many (row ns)) octets
order_in levels cs ns octets all depth at room =
    let e = all depth at room in
    record { members = e.members; lie = e.lie; hold = λ w. typed.in_order (e.in_order w) }

-- ---- what is said of members of one type

pub read_none : {X : Type 0} (levels : ℕ) (form : Named) (says : Node → X) → ReadEach levels form says [] []
read_none levels form says = ([], each_none levels form, refl)

pub read_more : {X : Type 0} (levels : ℕ) (form : Named) (says : Node → X) (x : X) (xs : List X) (octets rest : List ℕ)
    → Reads levels form says x octets rest → ReadEach levels form says xs rest
    → ReadEach levels form says (x ∷ xs) octets
read_more levels form says x xs octets rest r others = (
  r.0 ∷ others.0,
  each_more levels form r.0 others.0 octets rest r.1 others.1,
  ap (λ y. y ∷ xs) r.2 ∙ ap (λ ys. says r.0 ∷ ys) others.2,
)

-- What is left of members, behind those that were read.
abbrev pub Goes : {X : Type 0} → ℕ → Named → (Node → X) → List ℕ → List X → List ℕ → Type 0
Goes {X = X} levels form says octets done left =
    (more : List X) → ReadEach levels form says more left → ReadEach levels form says (done ++ more) octets

pub all_left : {X : Type 0} (levels : ℕ) (form : Named) (says : Node → X) (octets : List ℕ)
    → Goes levels form says octets [] octets
all_left levels form says octets more r = r

pub one_done : {X : Type 0} (levels : ℕ) (form : Named) (says : Node → X) (octets left rest : List ℕ) (done : List X)
    (x : X) → Goes levels form says octets done left → Reads levels form says x left rest
    → Goes levels form says octets (done ++ x ∷ []) rest
one_done levels form says octets left rest done x g r more others =
    subst (λ xs. ReadEach levels form says xs octets) (sym (append_assoc done (x ∷ []) more))
    (g (x ∷ more) (read_more levels form says x more left rest r others))

pub all_done : {X : Type 0} (levels : ℕ) (form : Named) (says : Node → X) (octets left : List ℕ) (done : List X)
    → Goes levels form says octets done left → left ≡ [] → ReadEach levels form says done octets
all_done levels form says octets left done g e =
    subst (λ xs. ReadEach levels form says xs octets) (append-nil done)
    (g [] (subst (λ (o : List ℕ). ReadEach levels form says [] o) (sym e) (read_none levels form says)))

-- ---- how many octets are taken

pub read_taken : {X : Type 0} (levels : ℕ) (form : Named) (says : Node → X) (x : X) (octets rest : List ℕ) (taken : ℕ)
    → taken ≡ length octets - length rest → Reads levels form says x octets rest
    → Reads levels form says x octets (drop taken octets)
read_taken levels form says x octets rest taken e r =
    let same : rest ≡ drop taken octets = left_is r.1.part octets rest r.1.whole
    ∙ ap (λ (k : ℕ). drop k octets) (sym e) in
    (r.0, subst (λ (l : List ℕ). Spelled levels form r.0 octets l) same r.1, r.2)

-- One more is read of what is left.
pub one_more : {X : Type 0} (levels : ℕ) (form : Named) (says : Node → X) (octets left : List ℕ) (done : List X) (x : X)
    (taken : ℕ) (now : List X) → now ≡ done ++ x ∷ [] → Goes levels form says octets done left
    → Reads levels form says x left (drop taken left)
    → Goes levels form says octets now (take (length left - taken) (drop taken left))
one_more levels form says octets left done x taken now e g r =
    subst (λ (l : List ℕ). Goes levels form says octets now l) (sym (rest_here left taken))
    (subst (λ xs. Goes levels form says octets xs (drop taken left)) (sym e)
    (one_done levels form says octets left (drop taken left) done x g r))

pub mapped_end : {X Y : Type 0} (f : X → Y) (xs : List X) (x : X) (now : List X) → now ≡ xs ++ x ∷ []
    → map f now ≡ map f xs ++ f x ∷ []
mapped_end f xs x now e = ap (λ l. map f l) e ∙ map-append f xs (x ∷ [])
