-- A value that an element is where there is no world, it is in any surroundings and at any place.
use Rattle.std.proofs.Common.{◌≡◌, ℕ, ◌≤◌, Bool, true, false, List, take, drop, refl}
use Rattle.std.proofs.Common.{sym, ◌∙◌, subst, arith, length-take}
use Rattle.std.proofs.lemmas.List.{take-append-drop}
use Rattle.x5_model_typed.specs.Trees.{Tree, Trees, Leaf, Branch, Bare, Row, class_of, tag_of}
use Rattle.x5_model_typed.specs.Nodes.{Node, Nodes}
use Rattle.x5_model_typed.specs.Named.{Named}
use Rattle.x5_model_typed.specs.Forms.{Alternative, Component, Content, alternatives, is_component}
use Rattle.x5_model_typed.specs.Layouts.{Surroundings, layout}
use Rattle.x5_model_typed.specs.Typed as typed
use Rattle.x5_model_typed.specs.Typed.{IsOf, Holds, AllOf, InOrder, InAnyOrder, IsPassed, IsMissing, Among, Spells}
use Rattle.x5_model_typed.specs.Typed.{OctetsOf, SegmentsOf, BitsOf, BitSegmentsOf}
use Rattle.x5_types.specs.FormView.{nowhere, table}
use Rattle.x5_direct.proofs.Anywhere.{anywhere, tags_anywhere, values_anywhere}
use Rattle.x5_direct.proofs.Moved.{moved, all_moved, class_moved, tag_moved, lies_moved}
use Rattle.x5_direct.specs.Spelled.{Spelled}

-- ---- strings in segments

mutual
  octets_moved : (by : ℕ) (t : Tree) (octets : List ℕ) → OctetsOf t octets → OctetsOf (moved by t) octets
  octets_moved by (Leaf at class tag content) octets o = o
  octets_moved by (Branch at class tag members) octets o = segments_moved by members octets o

  segments_moved : (by : ℕ) (ts : Trees) (octets : List ℕ) → SegmentsOf ts octets → SegmentsOf (all_moved by ts) octets
  segments_moved by Bare octets o = o
  segments_moved by (Row t ts) octets o = (
    class_moved by t ∙ o.0,
    tag_moved by t ∙ o.1,
    o.2,
    o.3,
    octets_moved by t o.2 o.4,
    segments_moved by ts o.3 o.5,
    o.6,
  )

mutual
  bits_moved : (by : ℕ) (t : Tree) (bits : List Bool) → BitsOf t bits → BitsOf (moved by t) bits
  bits_moved by (Leaf at class tag content) bits o = o
  bits_moved by (Branch at class tag members) bits o = bit_segments_moved by members bits o

  bit_segments_moved : (by : ℕ) (ts : Trees) (bits : List Bool) → BitSegmentsOf ts bits
      → BitSegmentsOf (all_moved by ts) bits
  bit_segments_moved by Bare bits o = o
  bit_segments_moved by (Row t Bare) bits o = (class_moved by t ∙ o.0, tag_moved by t ∙ o.1, bits_moved by t bits o.2)
  bit_segments_moved by (Row t (Row u ts)) bits o = (
    class_moved by t ∙ o.0,
    tag_moved by t ∙ o.1,
    o.2,
    o.3,
    bits_moved by t o.2 o.4,
    o.5,
    bit_segments_moved by (Row u ts) o.3 o.6,
    o.7,
  )

-- ---- components' tags

has_component : (w : Surroundings) (by : ℕ) (c : Component) (t : Tree) (b : Bool)
    → is_component (layout nowhere) (class_of t) (tag_of t) c ≡ b
    → is_component (layout w) (class_of (moved by t)) (tag_of (moved by t)) c ≡ b
has_component w by c (Leaf at class tag content) b e = sym (tags_anywhere w c.tag c.form class tag) ∙ e
has_component w by c (Branch at class tag members) b e = sym (tags_anywhere w c.tag c.form class tag) ∙ e

is_passed : (w : Surroundings) (by : ℕ) (c : Component) (ts : Trees) → IsPassed (layout nowhere) c ts
    → IsPassed (layout w) c (all_moved by ts)
is_passed w by c Bare p = tt
is_passed w by c (Row t ts) p = has_component w by c t false p

is_missing : (w : Surroundings) (by : ℕ) (c : Component) (ts : Trees) → IsMissing (layout nowhere) c ts
    → IsMissing (layout w) c (all_moved by ts)
is_missing w by c Bare p = tt
is_missing w by c (Row t ts) p = (has_component w by c t false p.0, is_missing w by c ts p.1)

among_moved : (by : ℕ) (t : Tree) (ts rest : Trees) → Among t ts rest
    → Among (moved by t) (all_moved by ts) (all_moved by rest)
among_moved by t ts rest typed.here = typed.here
among_moved by t ts rest (typed.later {ts = us} {rest = others} a) = typed.later (among_moved by t us others a)

-- ---- values

-- as a component's value
one_so : (w : Surroundings) (by : ℕ) (c : Component) (t : Tree) (n : Node)
    → IsOf (layout w) (alternatives (layout nowhere) c) (moved by t) n
    → IsOf (layout w) (alternatives (layout w) c) (moved by t) n
one_so w by c t n is = values_anywhere w c.tag c.form (layout w) (moved by t) n is

mutual
  carried : (w : Surroundings) (by : ℕ) (types : List Alternative) (t : Tree) (n : Node)
      → IsOf (layout nowhere) types t n → IsOf (layout w) types (moved by t) n
  carried w by types t n (typed.primitive a m k found reads settles) = typed.primitive a m k found reads settles
  carried w by types t n (typed.constructed {members = members} a m k found holds settles) =
      typed.constructed a m k found (held w by a.content members m holds) settles

  held : (w : Surroundings) (by : ℕ) (c : Content) (ts : Trees) (m : Node) → Holds (layout nowhere) c ts m
      → Holds (layout w) c (all_moved by ts) m
  held w by c ts m (typed.one {form = form} {t = t} is) =
      typed.one ((anywhere w form).values (layout w) (moved by t) m (carried w by (layout nowhere form) t m is))
  held w by c ts m (typed.in_order {cs = cs} {ns = ns} o) = typed.in_order (in_order_carried w by cs ts ns o)
  held w by c ts m (typed.in_any_order {cs = cs} {ns = ns} o) =
      typed.in_any_order (in_any_order_carried w by cs ts ns o)
  held w by c ts m (typed.each {form = form} {ns = ns} o) =
      typed.each (each_carried w by form (layout nowhere form) ts ns o refl)
  held w by c ts m (typed.string octets leaf o r) = typed.string octets leaf (segments_moved by ts octets o) r
  held w by c ts m (typed.bit_string bits leaf o r) = typed.bit_string bits leaf (bit_segments_moved by ts bits o) r

  each_carried : (w : Surroundings) (by : ℕ) (form : Named) (types : List Alternative) (ts : Trees) (ns : Nodes)
      → AllOf (layout nowhere) types ts ns → types ≡ layout nowhere form
      → AllOf (layout w) (layout w form) (all_moved by ts) ns
  each_carried w by form types ts ns typed.nil e = typed.nil
  each_carried w by form types ts ns (typed.more {t = t} {ts = us} {n = n} {ns = ms} is o) e =
      typed.more ((anywhere w form).values (layout w) (moved by t) n
      (subst (λ (l : List Alternative). IsOf (layout w) l (moved by t) n) e (carried w by types t n is)))
      (each_carried w by form types us ms o e)

  in_order_carried : (w : Surroundings) (by : ℕ) (cs : List Component) (ts : Trees) (ns : Nodes)
      → InOrder (layout nowhere) cs ts ns → InOrder (layout w) cs (all_moved by ts) ns
  in_order_carried w by cs ts ns typed.over = typed.over
  in_order_carried w by cs ts ns
      (typed.next {c = c} {cs = others} {rest = rest} {t = t} {ts = us} {n = n} {ns = ms} has is goes o) =
      typed.next (has_component w by c t true has)
      (one_so w by c t n (carried w by (alternatives (layout nowhere) c) t n is)) goes
      (in_order_carried w by rest us ms o)
  in_order_carried w by cs ts ns (typed.passed {c = c} {cs = others} {ns = ms} d absent p o) =
      typed.passed d absent (is_passed w by c ts p) (in_order_carried w by others ts ms o)

  in_any_order_carried : (w : Surroundings) (by : ℕ) (cs : List Component) (ts : Trees) (ns : Nodes)
      → InAnyOrder (layout nowhere) cs ts ns → InAnyOrder (layout w) cs (all_moved by ts) ns
  in_any_order_carried w by cs ts ns typed.complete = typed.complete
  in_any_order_carried w by cs ts ns
      (typed.given {c = c} {cs = others} {t = t} {rest = rest} {n = n} {ns = ms} a has gone is o) =
      typed.given (among_moved by t ts rest a) (has_component w by c t true has) (is_missing w by c rest gone)
      (one_so w by c t n (carried w by (alternatives (layout nowhere) c) t n is))
      (in_any_order_carried w by others rest ms o)
  in_any_order_carried w by cs ts ns (typed.missing {c = c} {cs = others} {ns = ms} d absent gone o) =
      typed.missing d absent (is_missing w by c ts gone) (in_any_order_carried w by others ts ms o)

-- ---- few octets

-- A part of few octets that spells the value does so wherever there is room for half as many levels.
pub part_spelled : (form : Named) (n : Node) (taken : ℕ) (octets : List ℕ) → taken ≤ 96
    → Spells table form (take taken octets) n → Spelled 48 form n octets (drop taken octets)
part_spelled form n taken octets few s = record {
  part = take taken octets;
  whole = sym (take-append-drop taken octets);
  is_element = λ depth at room. record {
    tree = moved at s.tree;
    lies = lies_moved at 48 1 depth 0 at s.tree (take taken octets) (omega arith)
        (omega (arith, few, length-take taken octets)) room s.lies;
    is_of = λ w. (anywhere w form).values (layout w) (moved at s.tree) n
        (carried w at (layout nowhere form) s.tree n s.is_of);
  };
}
