-- A value under which there is room is written as an element that has a spelling: it lies no deeper than elements may, and its tags can be
-- written.
use Rattle.std.proofs.Common.{◌≡◌, ℕ, suc, ◌+◌, ◌<◌, ◌≤◌, ◌^◌, nat_lt, Bool, true, false, not, ◌&&◌, ◌==◌, List, [], ◌∷◌, ◌++◌, length, refl, sym, subst, ◌∙◌, arith, length-append}
use Rattle.std.specs.Prelude.{if◌then◌else◌}
use Rattle.std.specs.List.{find, list_all}
use Rattle.std.proofs.lemmas.Bool.{leb-true, eq-eqb}
use Rattle.std.specs.declared.option.Option.{Option}
use Rattle.std.specs.declared.option.Option.TheVariants.{None, Some}
use Rattle.x5_model.specs.Words.{in_option}
use Rattle.x5_model.proofs.Lists.{both_true}
use Rattle.x5_model_octets.specs.Elements as elements
use Rattle.x5_model_octets.specs.Elements.{Element, Elements, deepest, identifier, identifier_octets, shortest_length, canonical, canonical_all, HasCanonical, HaveCanonical}
use Rattle.x5_model_typed.specs.Nodes as nodes
use Rattle.x5_model_typed.specs.Nodes.{Node, Nodes, Vacant, Flag, Number, Oid, Bits, Octets, Chosen, Many, Nil, More}
use Rattle.x5_model_typed.specs.Named.{Named}
use Rattle.x5_model_typed.specs.Forms as forms
use Rattle.x5_model_typed.specs.Forms.{Presence, Required, Default, Code, Component, Content, Explicit, Sequence, Set, Members, Alternative, Layout, plain}
use Rattle.x5_model_typed.specs.Written.{leaf_octets, can_hold, is_marked, by_content, no_element, primitive_of, constructed_of, leaf_or, single, one_before, tagged_with, is_default, goes_on, written, written_members, written_components, canonical_octets}
use Rattle.x5_model_typed_laws.specs.Written.{HasSpelling}
use Rattle.x5_dapber.proofs.Fitting.{found_is}

-- ---- room: each part takes at most two levels, its own and that of a component's tag

abbrev mutual
  pub Room : ℕ → Node → Type 0
  Room d (Chosen tag n) = (d ≤ deepest) × Room (d + 1) n
  Room d (Many ns) = (d ≤ deepest) × RoomForAll (d + 2) ns
  Room d n = d ≤ deepest

  pub RoomForAll : ℕ → Nodes → Type 0
  RoomForAll d Nil = Unit {0}
  RoomForAll d (More n ns) = Room d n × RoomForAll d ns

mutual
  pub more_room : (c d : ℕ) (n : Node) → c ≤ d → Room d n → Room c n
  more_room c d (Chosen tag n) le r = (omega (arith, le, r.0), more_room (c + 1) (d + 1) n (omega (arith, le)) r.1)
  more_room c d (Many ns) le r = (omega (arith, le, r.0), more_for_all (c + 2) (d + 2) ns (omega (arith, le)) r.1)
  more_room c d Vacant le r = omega (arith, le, r)
  more_room c d (Flag b) le r = omega (arith, le, r)
  more_room c d (Number k) le r = omega (arith, le, r)
  more_room c d (Oid arcs) le r = omega (arith, le, r)
  more_room c d (Bits b) le r = omega (arith, le, r)
  more_room c d (Octets o) le r = omega (arith, le, r)
  more_room c d (nodes.Text t) le r = omega (arith, le, r)

  pub more_for_all : (c d : ℕ) (ns : Nodes) → c ≤ d → RoomForAll d ns → RoomForAll c ns
  more_for_all c d Nil le r = tt
  more_for_all c d (More n ns) le r = (more_room c d n le r.0, more_for_all c d ns le r.1)

-- ---- elements whose depth and tags are right

abbrev mutual
  Low : ℕ → Element → Type 0
  Low d (elements.Primitive class tag content) = (d ≤ deepest) × (class < 4) × (tag < 2 ^ 31) × (class ≡ 0 → tag ≡ 0 → ⊥)
  Low d (elements.Constructed class tag members) = (d ≤ deepest) × (class < 4) × (tag < 2 ^ 31) × AllLow (d + 1) members

  AllLow : ℕ → Elements → Type 0
  AllLow d elements.Nil = Unit {0}
  AllLow d (elements.More e es) = Low d e × AllLow d es

last_shorter : (a c : List ℕ) (k : ℕ) → length (a ++ c) < k → length c < k
last_shorter a c k h = omega (arith, h, length-append a c)

mutual
  has_canonical : (d : ℕ) (e : Element) → Low d e → length (canonical e) < 2 ^ 64 → HasCanonical d e
  has_canonical d (elements.Primitive class tag content) low short = (
    low.0,
    low.1,
    low.2,
    last_shorter (identifier_octets (identifier false class tag) ++ shortest_length (length content)) content (2 ^ 64) short,
    λ c t empty. low.3 c t,
  )
  has_canonical d (elements.Constructed class tag members) low short =
      let inner = last_shorter (identifier_octets (identifier true class tag) ++ shortest_length (length (canonical_all members)))
      (canonical_all members) (2 ^ 64) short in
      (low.0, low.1, low.2, inner, have_canonical (d + 1) members low.3 inner)

  have_canonical : (d : ℕ) (es : Elements) → AllLow d es → length (canonical_all es) < 2 ^ 64 → HaveCanonical d es
  have_canonical d elements.Nil low short = tt
  have_canonical d (elements.More e es) low short =
      let both = length-append (canonical e) (canonical_all es) in
      (has_canonical d e low.0 (omega (arith, short, both)), have_canonical d es low.1 (omega (arith, short, both)))

-- ---- tags that can be written

abbrev pub are_tags : List Component → Bool
are_tags cs = list_all (λ c. in_option true (λ t. nat_lt t (2 ^ 31)) c.tag) cs

abbrev pub is_tagged : Content → Bool
is_tagged (Sequence cs) = are_tags cs
is_tagged (Set cs) = are_tags cs
is_tagged c = true

abbrev pub is_good : Alternative → Bool
is_good a = nat_lt a.class 4 && (nat_lt a.tag (2 ^ 31) && (not ((a.class == 0) && (a.tag == 0)) && is_tagged a.content))

abbrev pub are_good : List Alternative → Bool
are_good types = list_all is_good types

record IsGood (a : Alternative) : Type 0 where
  low_class : a.class < 4
  low_tag : a.tag < 2 ^ 31
  no_end : a.class ≡ 0 → a.tag ≡ 0 → ⊥
  tags : is_tagged a.content ≡ true

not_both : (a b : Bool) → not (a && b) ≡ true → a ≡ true → b ≡ true → ⊥
not_both true true h e f = absurd (cc h)
not_both true false h e f = absurd (cc f)
not_both false b h e f = absurd (cc e)

good_so : (a : Alternative) → is_good a ≡ true → IsGood a
good_so a h =
    let w = both_true (nat_lt a.class 4) (nat_lt a.tag (2 ^ 31) && (not ((a.class == 0) && (a.tag == 0)) && is_tagged a.content)) h in
    let v = both_true (nat_lt a.tag (2 ^ 31)) (not ((a.class == 0) && (a.tag == 0)) && is_tagged a.content) w.1 in
    let u = both_true (not ((a.class == 0) && (a.tag == 0))) (is_tagged a.content) v.1 in
    record {
      low_class = leb-true (suc a.class) 4 w.0;
      low_tag = leb-true (suc a.tag) (2 ^ 31) v.0;
      no_end = λ c t. not_both (a.class == 0) (a.tag == 0) u.0 (eq-eqb a.class 0 c) (eq-eqb a.tag 0 t);
      tags = u.1;
    }

-- ---- what is written

abbrev IfSome : {X : Type 0} → (X → Type 0) → Option X → Type 0
IfSome P None = Unit {0}
IfSome P (Some x) = P x

if_found : (P : Element → Type 0) (f : Alternative → Option Element) (o : Option Alternative)
    → ((a : Alternative) → o ≡ Some a → IfSome P (f a)) → IfSome P (in_option None f o)
if_found P f None h = tt
if_found P f (Some a) h = h a refl

made_low : (d : ℕ) (a : Alternative) (es : Option Elements) → IsGood a → d ≤ deepest → IfSome (AllLow (d + 1)) es
    → IfSome (Low d) (constructed_of a es)
made_low d a None g le h = tt
made_low d a (Some es) g le h = (le, g.low_class, g.low_tag, h)

leaf_by : (d : ℕ) (a : Alternative) (es : Option Elements) (o : Option (List ℕ)) → IsGood a → d ≤ deepest
    → IfSome (AllLow (d + 1)) es → IfSome (Low d) (in_option (constructed_of a es) (λ octets. Some (primitive_of a octets)) o)
leaf_by d a es None g le h = made_low d a es g le h
leaf_by d a es (Some octets) g le h = (le, g.low_class, g.low_tag, g.no_end)

single_low : (d : ℕ) (o : Option Element) → IfSome (Low d) o → IfSome (AllLow d) (single o)
single_low d None h = tt
single_low d (Some e) h = (h, tt)

before_low : (d : ℕ) (o : Option Element) (es : Option Elements) → IfSome (Low d) o → IfSome (AllLow d) es
    → IfSome (AllLow d) (one_before o es)
before_low d None es h k = tt
before_low d (Some e) None h k = tt
before_low d (Some e) (Some es) h k = (h, k)

tagged_low : (d : ℕ) (t : Option ℕ) (o : Option Element) → d ≤ deepest → in_option true (λ k. nat_lt k (2 ^ 31)) t ≡ true
    → IfSome (Low d) o → IfSome (Low (d + 1)) o → IfSome (Low d) (tagged_with t o)
tagged_low d None o le low here below = here
tagged_low d (Some t) None le low here below = tt
tagged_low d (Some t) (Some e) le low here below = (le, omega arith, leb-true (suc t) (2 ^ 31) low, (below, tt))

either_low : (d : ℕ) (b : Bool) (x y : Option Elements) → IfSome (AllLow d) x → IfSome (AllLow d) y
    → IfSome (AllLow d) (if b then x else y)
either_low d true x y h k = h
either_low d false x y h k = k

content_low : (d : ℕ) (c : Content) (one : Named → Option Element) (all : List Component → Option Elements)
    (each : Named → Option Elements) → is_tagged c ≡ true → ((form : Named) → IfSome (Low d) (one form))
    → ((cs : List Component) → are_tags cs ≡ true → IfSome (AllLow d) (all cs)) → ((form : Named) → IfSome (AllLow d) (each form))
    → IfSome (AllLow d) (by_content c one all each)
content_low d (Explicit form) one all each t f g h = single_low d (one form) (f form)
content_low d (Sequence cs) one all each t f g h = g cs t
content_low d (Set cs) one all each t f g h = g cs t
content_low d (Members form) one all each t f g h = h form
content_low d (forms.Primitive leaf) one all each t f g h = tt
content_low d (forms.Joined leaf) one all each t f g h = tt
content_low d (forms.JoinedBits leaf) one all each t f g h = tt
content_low d forms.Never one all each t f g h = tt

named_tags : (cs : List Component) (o : Option Named) → are_tags cs ≡ true
    → are_tags (in_option cs (λ form. plain form ∷ []) o) ≡ true
named_tags cs None h = h
named_tags cs (Some form) h = refl

goes_on_tags : (p : Presence) (n : Node) (cs : List Component) → are_tags cs ≡ true → are_tags (goes_on p n cs) ≡ true
goes_on_tags Required n cs h = h
goes_on_tags (Default d) n cs h = h
goes_on_tags (Code names) (Number k) cs h = named_tags cs (names k) h
goes_on_tags (Code names) Vacant cs h = h
goes_on_tags (Code names) (Flag b) cs h = h
goes_on_tags (Code names) (Oid arcs) cs h = h
goes_on_tags (Code names) (Bits b) cs h = h
goes_on_tags (Code names) (Octets o) cs h = h
goes_on_tags (Code names) (nodes.Text t) cs h = h
goes_on_tags (Code names) (Chosen tag n) cs h = h
goes_on_tags (Code names) (Many ns) cs h = h

module _ (L : Layout) (good : (form : Named) → are_good (L form) ≡ true) where
  found_good : (p : Alternative → Bool) (types : List Alternative) (a : Alternative) → are_good types ≡ true → find p types ≡ Some a
      → IsGood a
  found_good p types a g e = good_so a (found_is is_good p types a g e)

  leaf_low : (d : ℕ) (types : List Alternative) (n : Node) → are_good types ≡ true → d ≤ deepest
      → IfSome (Low d) (in_option None (λ a. leaf_or a n None) (find (can_hold n) types))
  leaf_low d types n g le =
      if_found (Low d) (λ a. leaf_or a n None) (find (can_hold n) types)
      (λ a e. leaf_by d a None (leaf_octets a.content n) (found_good (can_hold n) types a g e) le tt)

  -- an element of a type under a tag
  one_low : (d : ℕ) (types : List Alternative) (tag : ℕ) (n : Node) → are_good types ≡ true → d ≤ deepest
      → ((form : Named) → IfSome (Low (d + 1)) (written L (L form) n))
      → IfSome (Low d) (in_option None
      (λ a. leaf_or a n (by_content a.content (λ form. written L (L form) n) (λ cs. None) (λ form. None))) (find (is_marked tag) types))
  one_low d types tag n g le f =
      if_found (Low d) (λ a. leaf_or a n (by_content a.content (λ form. written L (L form) n) (λ cs. None) (λ form. None)))
      (find (is_marked tag) types)
      (λ a e. let good_a = found_good (is_marked tag) types a g e in
      leaf_by d a (by_content a.content (λ form. written L (L form) n) (λ cs. None) (λ form. None)) (leaf_octets a.content n) good_a le
      (content_low (d + 1) a.content (λ form. written L (L form) n) (λ cs. None) (λ form. None) good_a.tags f (λ cs t. tt) (λ form. tt)))

  mutual
    low_written : (d : ℕ) (types : List Alternative) (n : Node) → are_good types ≡ true → Room d n → IfSome (Low d) (written L types n)
    low_written d types Vacant g r = leaf_low d types Vacant g r
    low_written d types (Flag b) g r = leaf_low d types (Flag b) g r
    low_written d types (Number k) g r = leaf_low d types (Number k) g r
    low_written d types (Oid arcs) g r = leaf_low d types (Oid arcs) g r
    low_written d types (Bits b) g r = leaf_low d types (Bits b) g r
    low_written d types (Octets o) g r = leaf_low d types (Octets o) g r
    low_written d types (nodes.Text t) g r = leaf_low d types (nodes.Text t) g r
    low_written d types (Many ns) g r =
        if_found (Low d)
        (λ a. leaf_or a (Many ns) (by_content a.content no_element (λ cs. written_components L cs ns) (λ form. written_members L (L form) ns)))
        (find (can_hold (Many ns)) types)
        (λ a e. let good_a = found_good (can_hold (Many ns)) types a g e in
        leaf_by d a (by_content a.content no_element (λ cs. written_components L cs ns) (λ form. written_members L (L form) ns))
        (leaf_octets a.content (Many ns)) good_a r.0
        (content_low (d + 1) a.content no_element (λ cs. written_components L cs ns) (λ form. written_members L (L form) ns) good_a.tags
        (λ form. tt) (λ cs t. components_low (d + 1) cs ns t (more_for_all (d + 1 + 1) (d + 2) ns (omega arith) r.1))
        (λ form. members_low (d + 1) form ns (more_for_all (d + 1) (d + 2) ns (omega arith) r.1))))
    low_written d types (Chosen tag (Many ns)) g r =
        if_found (Low d)
        (λ a. constructed_of a (by_content a.content (λ form. written L (L form) (Many ns)) (λ cs. written_components L cs ns) (λ form. written_members L (L form) ns)))
        (find (is_marked tag) types)
        (λ a e. let good_a = found_good (is_marked tag) types a g e in
        made_low d a (by_content a.content (λ form. written L (L form) (Many ns)) (λ cs. written_components L cs ns) (λ form. written_members L (L form) ns)) good_a r.0
        (content_low (d + 1) a.content (λ form. written L (L form) (Many ns)) (λ cs. written_components L cs ns) (λ form. written_members L (L form) ns) good_a.tags
        (λ form. low_written (d + 1) (L form) (Many ns) (good form) r.1)
        (λ cs t. components_low (d + 1) cs ns t (more_for_all (d + 1 + 1) (d + 1 + 2) ns (omega arith) r.1.1))
        (λ form. members_low (d + 1) form ns (more_for_all (d + 1) (d + 1 + 2) ns (omega arith) r.1.1))))
    low_written d types (Chosen tag Vacant) g r =
        one_low d types tag Vacant g r.0 (λ form. low_written (d + 1) (L form) Vacant (good form) r.1)
    low_written d types (Chosen tag (Flag b)) g r =
        one_low d types tag (Flag b) g r.0 (λ form. low_written (d + 1) (L form) (Flag b) (good form) r.1)
    low_written d types (Chosen tag (Number k)) g r =
        one_low d types tag (Number k) g r.0 (λ form. low_written (d + 1) (L form) (Number k) (good form) r.1)
    low_written d types (Chosen tag (Oid arcs)) g r =
        one_low d types tag (Oid arcs) g r.0 (λ form. low_written (d + 1) (L form) (Oid arcs) (good form) r.1)
    low_written d types (Chosen tag (Bits b)) g r =
        one_low d types tag (Bits b) g r.0 (λ form. low_written (d + 1) (L form) (Bits b) (good form) r.1)
    low_written d types (Chosen tag (Octets o)) g r =
        one_low d types tag (Octets o) g r.0 (λ form. low_written (d + 1) (L form) (Octets o) (good form) r.1)
    low_written d types (Chosen tag (nodes.Text t)) g r =
        one_low d types tag (nodes.Text t) g r.0 (λ form. low_written (d + 1) (L form) (nodes.Text t) (good form) r.1)
    low_written d types (Chosen tag (Chosen l m)) g r =
        one_low d types tag (Chosen l m) g r.0 (λ form. low_written (d + 1) (L form) (Chosen l m) (good form) r.1)

    members_low : (d : ℕ) (form : Named) (ns : Nodes) → RoomForAll d ns → IfSome (AllLow d) (written_members L (L form) ns)
    members_low d form Nil r = tt
    members_low d form (More n ns) r =
        before_low d (written L (L form) n) (written_members L (L form) ns) (low_written d (L form) n (good form) r.0)
        (members_low d form ns r.1)

    -- there is room below the tags of the components
    components_low : (d : ℕ) (cs : List Component) (ns : Nodes) → are_tags cs ≡ true → RoomForAll (d + 1) ns
        → IfSome (AllLow d) (written_components L cs ns)
    components_low d [] ns t r = tt
    components_low d (c ∷ cs) Nil t r = tt
    components_low d (c ∷ cs) (More n ns) t r =
        let w = both_true (in_option true (λ k. nat_lt k (2 ^ 31)) c.tag) (are_tags cs) t in
        either_low d (is_default c.presence n) (written_components L cs ns)
        (one_before (tagged_with c.tag (written L (L c.form) n)) (written_components L (goes_on c.presence n cs) ns))
        (components_low d cs ns w.1 r.1)
        (before_low d (tagged_with c.tag (written L (L c.form) n)) (written_components L (goes_on c.presence n cs) ns)
        (tagged_low d c.tag (written L (L c.form) n) (omega (arith, deep (d + 1) n r.0)) w.0
        (low_written d (L c.form) n (good c.form) (more_room d (d + 1) n (omega arith) r.0))
        (low_written (d + 1) (L c.form) n (good c.form) r.0))
        (components_low d (goes_on c.presence n cs) ns (goes_on_tags c.presence n cs w.1) r.1))

    deep : (d : ℕ) (n : Node) → Room d n → d ≤ deepest
    deep d (Chosen tag n) r = r.0
    deep d (Many ns) r = r.0
    deep d Vacant r = r
    deep d (Flag b) r = r
    deep d (Number k) r = r
    deep d (Oid arcs) r = r
    deep d (Bits b) r = r
    deep d (Octets o) r = r
    deep d (nodes.Text t) r = r

  pub has_spelling : (form : Named) (n : Node) (octets : List ℕ) → Room 1 n → canonical_octets L form n ≡ Some octets
      → length octets < 2 ^ 64 → HasSpelling L form n
  has_spelling form n octets r h short = by (written L (L form) n) refl h (low_written 1 (L form) n (good form) r)
    where
      by : (o : Option Element) → written L (L form) n ≡ o → in_option None (λ e. Some (canonical e)) o ≡ Some octets
          → IfSome (Low 1) o → HasSpelling L form n
      by None e f low = absurd (cc f)
      by (Some element) e f low =
          let same : canonical element ≡ octets = cc in
          record {
            element = element;
            is_written = e;
            has = has_canonical 1 element low (subst (λ (l : List ℕ). length l < 2 ^ 64) (sym same) short);
          }
