-- In a table that is closed, whatever an element is by type fits.
use Rattle.std.proofs.Common.{◌≡◌, ℕ, Bool, true, false, not, ◌==◌, List, [], ◌∷◌, refl, sym, ap, ap₂, subst, ◌∙◌}
use Rattle.std.specs.Prelude.{ℤ, pos, negsuc}
use Rattle.std.proofs.lemmas.Bool.Decides.{Decides-eqb}
use Rattle.std.proofs.lemmas.Bool.{eq-eqb}
use Rattle.std.specs.Cmp.Lexicographic.{pointwise, bytes_decides}
use Rattle.std.specs.List.{list_all}
use Rattle.std.specs.declared.option.Option.{Option}
use Rattle.std.specs.declared.option.Option.TheVariants.{None, Some}
use Rattle.x5_model.specs.Members.{In, here, there}
use Rattle.x5_model.proofs.Lists.{both_true, and_true, of_all, of_find}
use Rattle.x5_model_typed.specs.Trees.{Tree, Trees, Leaf, Branch}
use Rattle.x5_model_typed.specs.Nodes as nodes
use Rattle.x5_model_typed.specs.Nodes.{Node, Nodes, Vacant, Flag, Number, Oid, Bits, Octets, Text, Chosen, Many, same_bit, same_number, same, same_all}
use Rattle.x5_model_typed.specs.Named.{Named}
use Rattle.x5_model_typed.specs.Forms as forms
use Rattle.x5_model_typed.specs.Forms.{Presence, Required, Default, Code, Component, Content, Primitive, Joined, JoinedBits, Explicit, Sequence, Set, Members, Never, Alternative, Layout, has_tag, by_tag, context, tagged, alternatives}
use Rattle.x5_model_typed.specs.Judged.{leaf_node, bits_of_content, marked}
use Rattle.x5_model_typed.specs.Typed as typed
use Rattle.x5_model_typed.specs.Typed.{IsOf, Holds, AllOf, InOrder, InAnyOrder, Goes, Among}
use Rattle.x5_model_typed.specs.Written.{is_default}
use Rattle.x5_model_typed_laws.specs.Fits as fits
use Rattle.x5_model_typed_laws.specs.Fits.{Fits, FitsSequence, FitsSet, FitsEach}
use Rattle.x5_model_typed_laws.proofs.Strings.{bits_node}
use Rattle.x5_model_typed_laws.specs.Said.{is_octet, HasOctets, HaveOctets, IsSaid, Closes, AllClose, is_code, is_uncoded, IsClosed}

-- ---- sameness of nodes

bit_itself : (b : Bool) → same_bit b b ≡ true
bit_itself true = refl
bit_itself false = refl

bits_itself : (bs : List Bool) → pointwise same_bit bs bs ≡ true
bits_itself [] = refl
bits_itself (b ∷ bs) = and_true (same_bit b b) (pointwise same_bit bs bs) (bit_itself b) (bits_itself bs)

number_itself : (k : ℤ) → same_number k k ≡ true
number_itself (pos n) = eq-eqb n n refl
number_itself (negsuc n) = eq-eqb n n refl

mutual
  pub same_itself : (n : Node) → same n n ≡ true
  same_itself Vacant = refl
  same_itself (Flag b) = bit_itself b
  same_itself (Number k) = number_itself k
  same_itself (Oid arcs) = (bytes_decides arcs arcs).1 refl
  same_itself (Bits bs) = bits_itself bs
  same_itself (Octets o) = (bytes_decides o o).1 refl
  same_itself (Text t) = (bytes_decides t t).1 refl
  same_itself (Chosen tag n) = and_true (tag == tag) (same n n) (eq-eqb tag tag refl) (same_itself n)
  same_itself (Many ns) = all_itself ns

  all_itself : (ns : Nodes) → same_all ns ns ≡ true
  all_itself nodes.Nil = refl
  all_itself (nodes.More n ns) = and_true (same n n) (same_all ns ns) (same_itself n) (all_itself ns)

bit_is : (a b : Bool) → same_bit a b ≡ true → a ≡ b
bit_is true b h = sym h
bit_is false true h = absurd (cc h)
bit_is false false h = refl

bits_are : (a b : List Bool) → pointwise same_bit a b ≡ true → a ≡ b
bits_are [] [] h = refl
bits_are [] (b ∷ bs) h = absurd (cc h)
bits_are (a ∷ as_) [] h = absurd (cc h)
bits_are (a ∷ as_) (b ∷ bs) h =
    let w = both_true (same_bit a b) (pointwise same_bit as_ bs) h in ap₂ ◌∷◌ (bit_is a b w.0) (bits_are as_ bs w.1)

number_is : (j k : ℤ) → same_number j k ≡ true → j ≡ k
number_is (pos m) (pos n) h = ap (λ (i : ℕ). pos i) ((Decides-eqb m n).0 h)
number_is (negsuc m) (negsuc n) h = ap (λ (i : ℕ). negsuc i) ((Decides-eqb m n).0 h)
number_is (pos m) (negsuc n) h = absurd (cc h)
number_is (negsuc m) (pos n) h = absurd (cc h)

mutual
  pub same_is : (m n : Node) → same m n ≡ true → m ≡ n
  same_is Vacant Vacant h = refl
  same_is (Flag a) (Flag b) h = ap (λ (x : Bool). Flag x) (bit_is a b h)
  same_is (Number j) (Number k) h = ap (λ (x : ℤ). Number x) (number_is j k h)
  same_is (Oid a) (Oid b) h = ap (λ (x : List ℕ). Oid x) ((bytes_decides a b).0 h)
  same_is (Bits a) (Bits b) h = ap (λ (x : List Bool). Bits x) (bits_are a b h)
  same_is (Octets a) (Octets b) h = ap (λ (x : List ℕ). Octets x) ((bytes_decides a b).0 h)
  same_is (Text a) (Text b) h = ap (λ (x : List ℕ). Text x) ((bytes_decides a b).0 h)
  same_is (Chosen k a) (Chosen l b) h =
      let w = both_true (k == l) (same a b) h in ap₂ (λ (x : ℕ) (y : Node). Chosen x y) ((Decides-eqb k l).0 w.0)
      (same_is a b w.1)
  same_is (Many a) (Many b) h = ap (λ (x : Nodes). Many x) (all_same a b h)
  same_is m n h = absurd (cc h)

  all_same : (ms ns : Nodes) → same_all ms ns ≡ true → ms ≡ ns
  all_same nodes.Nil nodes.Nil h = refl
  all_same (nodes.More a ms) (nodes.More b ns) h =
      let w = both_true (same a b) (same_all ms ns) h in ap₂ (λ (x : Node) (y : Nodes). nodes.More x y)
      (same_is a b w.0) (all_same ms ns w.1)
  all_same ms ns h = absurd (cc h)

-- ---- components that may be missing

record IsLeftOut (p : Presence) (n : Node) : Type 0 where
  default : Node
  presence : p ≡ Default default
  same_as : default ≡ n

left_out_is : (p : Presence) (n : Node) → is_default p n ≡ true → IsLeftOut p n
left_out_is Required n h = absurd (cc h)
left_out_is (Default d) n h = record { default = d; presence = refl; same_as = same_is d n h }
left_out_is (Code names) n h = absurd (cc h)

default_here : (p : Presence) (d : Node) → p ≡ Default d → is_default p d ≡ true
default_here p d e = ap (λ (q : Presence). is_default q d) e ∙ same_itself d

rest_is : (p : Presence) (d n : Node) (cs rest : List Component) → p ≡ Default d → Goes cs n p rest → rest ≡ cs
rest_is Required d n cs rest e typed.required = refl
rest_is (Default d') d n cs rest e typed.default = refl
rest_is (Code names) d n cs rest e (typed.named k form f g) = absurd (cc e)

sequence_next : (layout : Layout) (c : Component) (cs rest : List Component) (n : Node) (ns : Nodes)
    → Fits layout (layout c.form) n → Goes cs n c.presence rest → FitsSequence layout rest ns
    → FitsSequence layout (c ∷ cs) (nodes.More n ns)
sequence_next layout c cs rest n ns one g inner = by (is_default c.presence n) refl
  where
    by : (b : Bool) → is_default c.presence n ≡ b → FitsSequence layout (c ∷ cs) (nodes.More n ns)
    by false e = fits.given e one g inner
    by true e =
        let w = left_out_is c.presence n e in
        subst (λ (x : Node). FitsSequence layout (c ∷ cs) (nodes.More x ns)) w.same_as
        (fits.left_out w.default w.presence (default_here c.presence w.default w.presence)
        (subst (λ (l : List Component). FitsSequence layout l ns)
        (rest_is c.presence w.default n cs rest w.presence g) inner))

stays : (p : Presence) (n : Node) (cs : List Component) → is_code p ≡ false → Goes cs n p cs
stays Required n cs h = typed.required
stays (Default d) n cs h = typed.default
stays (Code names) n cs h = absurd (cc h)

set_next : (layout : Layout) (c : Component) (cs : List Component) (n : Node) (ns : Nodes)
    → is_code c.presence ≡ false → Fits layout (layout c.form) n → FitsSet layout cs ns
    → FitsSet layout (c ∷ cs) (nodes.More n ns)
set_next layout c cs n ns uncoded one inner = by (is_default c.presence n) refl
  where
    by : (b : Bool) → is_default c.presence n ≡ b → FitsSet layout (c ∷ cs) (nodes.More n ns)
    by false e = fits.present e one (stays c.presence n cs uncoded) inner
    by true e =
        let w = left_out_is c.presence n e in
        subst (λ (x : Node). FitsSet layout (c ∷ cs) (nodes.More x ns)) w.same_as
        (fits.absent w.default w.presence (default_here c.presence w.default w.presence) inner)

-- ---- contents of octets or bits

no_bits : (leaf : forms.Leaf (List Bool)) (octets : List ℕ) → bits_of_content octets ≡ None
    → leaf_node (JoinedBits leaf) octets ≡ None
no_bits leaf octets h = rw h refl

bits_said : (layout : Layout) (leaf : forms.Leaf (List Bool)) (octets : List ℕ) (m : Node) (o : Option (List Bool))
    → bits_of_content octets ≡ o → leaf_node (JoinedBits leaf) octets ≡ Some m → IsSaid layout (JoinedBits leaf) m
bits_said layout leaf octets m None e h =
    let none : None ≡ Some m = sym (no_bits leaf octets e) ∙ h in absurd (cc none)
bits_said layout leaf octets m (Some bits) e h = (bits, sym (bits_node leaf octets bits e) ∙ h)

leaf_said : (layout : Layout) (c : Content) (octets : List ℕ) (m : Node) → list_all is_octet octets ≡ true
    → leaf_node c octets ≡ Some m → IsSaid layout c m
leaf_said layout (Primitive leaf) octets m o h = (octets, o, h)
leaf_said layout (Joined leaf) octets m o h = (octets, h)
leaf_said layout (JoinedBits leaf) octets m o h = bits_said layout leaf octets m (bits_of_content octets) refl h
leaf_said layout (Explicit form) octets m o h = absurd (cc h)
leaf_said layout (Sequence cs) octets m o h = absurd (cc h)
leaf_said layout (Set cs) octets m o h = absurd (cc h)
leaf_said layout (Members form) octets m o h = absurd (cc h)
leaf_said layout Never octets m o h = absurd (cc h)

-- ---- elements

closed_there : (layout : Layout) (types others : List Alternative) (a : Alternative) → AllClose layout types others
    → In a others → Closes layout types a
closed_there layout types [] a h i = elim i [ ]
closed_there layout types (x ∷ xs) a h here = h.0
closed_there layout types (x ∷ xs) a h (there i) = closed_there layout types xs a h.1 i

among_octets : (t : Tree) (ts rest : Trees) → Among t ts rest → HaveOctets ts → HasOctets t × HaveOctets rest
among_octets t ts rest typed.here h = (h.0, h.1)
among_octets t ts rest (typed.later a) h = let w = among_octets t _ _ a h.1 in (w.0, (h.0, w.1))

own_context : (class tag own : ℕ) (form : Named) (a : Alternative)
    → by_tag class tag (context own (Explicit form) ∷ []) ≡ Some a → a ≡ context own (Explicit form)
own_context class tag own form a h = by (has_tag class tag (context own (Explicit form))) refl h
  where
    by : (b : Bool) → has_tag class tag (context own (Explicit form)) ≡ b
        → by_tag class tag (context own (Explicit form) ∷ []) ≡ Some a → a ≡ context own (Explicit form)
    by true e k = cc
    by false e k = absurd (cc)

-- the one element under a component's own tag
explicit_fits : (layout : Layout) (own : ℕ) (form : Named) (a : Alternative) (m k : Node)
    → a ≡ context own (Explicit form) → IsSaid layout a.content m → a.settles m ≡ Some k
    → Fits layout (layout form) (marked a k)
explicit_fits layout own form a m k e said rule =
    let inner : Fits layout (layout form) m = subst (λ (x : Alternative). IsSaid layout x.content m) e said in
    let here : Some m ≡ Some k = sym (ap (λ (x : Alternative). x.settles m) e) ∙ rule in
    let same_node : m ≡ k = cc in
    let plain : marked a k ≡ k = ap (λ (x : Alternative). marked x k) e in
    subst (λ (x : Node). Fits layout (layout form) x) (same_node ∙ sym plain) inner

uncode : (b : Bool) → not b ≡ true → b ≡ false
uncode true h = absurd (cc h)
uncode false h = refl

module _ (layout : Layout) (closed : IsClosed layout) where
  uncoded_there : (types : List Alternative) (a : Alternative)
      → list_all (λ (x : Alternative). is_uncoded x.content) types ≡ true → In a types → is_uncoded a.content ≡ true
  uncoded_there types a h i = of_all (λ (x : Alternative). is_uncoded x.content) a types h i

  -- a component's element, which may have a tag of its own
  uncoded_component : (types : List Alternative) (own : Option ℕ) (form : Named) (class tag : ℕ) (a : Alternative)
      → types ≡ tagged layout own form → by_tag class tag types ≡ Some a → is_uncoded a.content ≡ true
  uncoded_component types None form class tag a e is =
      let there : by_tag class tag (layout form) ≡ Some a = ap (by_tag class tag) (sym e) ∙ is in
      uncoded_there (layout form) a (closed.uncoded form) (of_find (has_tag class tag) a (layout form) there).0
  uncoded_component types (Some own) form class tag a e is =
      ap (λ (x : Alternative). is_uncoded x.content)
      (own_context class tag own form a (ap (by_tag class tag) (sym e) ∙ is))

  said_fits : (types : List Alternative) (own : Option ℕ) (form : Named) (class tag : ℕ) (a : Alternative) (m k : Node)
      → types ≡ tagged layout own form → by_tag class tag types ≡ Some a → IsSaid layout a.content m
      → a.settles m ≡ Some k → Fits layout (layout form) (marked a k)
  said_fits types None form class tag a m k e is said rule =
      let there : by_tag class tag (layout form) ≡ Some a = ap (by_tag class tag) (sym e) ∙ is in
      closed_there layout (layout form) (layout form) a (closed.closes form)
      (of_find (has_tag class tag) a (layout form) there).0 m k said rule
  said_fits types (Some own) form class tag a m k e is said rule =
      explicit_fits layout own form a m k
      (own_context class tag own form a (ap (by_tag class tag) (sym e) ∙ is)) said rule

  mutual
    pub read_fits : (types : List Alternative) (t : Tree) (n : Node) → AllClose layout types types
        → list_all (λ (x : Alternative). is_uncoded x.content) types ≡ true → HasOctets t → IsOf layout types t n
        → Fits layout types n
    read_fits types (Leaf at class tag octets) n all plain o (typed.primitive a m k is content rule) =
        closed_there layout types types a all (of_find (has_tag class tag) a types is).0 m k
        (leaf_said layout a.content octets m o content) rule
    read_fits types (Branch at class tag ts) n all plain o (typed.constructed a m k is holds rule) =
        let i = (of_find (has_tag class tag) a types is).0 in
        closed_there layout types types a all i m k
        (content_said a.content ts m (uncoded_there types a plain i) o holds) rule

    content_said : (c : Content) (ts : Trees) (m : Node) → is_uncoded c ≡ true → HaveOctets ts → Holds layout c ts m
        → IsSaid layout c m
    content_said c ts m u o (typed.one {form = form} {t = t} h) =
        read_fits (layout form) t m (closed.closes form) (closed.uncoded form) o.0 h
    content_said c ts m u o (typed.in_order {cs = cs} {ns = ns} h) = (ns, refl, order_fits cs ts ns o h)
    content_said c ts m u o (typed.in_any_order {cs = cs} {ns = ns} h) = (ns, refl, any_order_fits cs ts ns u o h)
    content_said c ts m u o (typed.each {form = form} {ns = ns} h) =
        (ns, refl, each_fits form (layout form) ts ns refl o h)
    content_said c ts m u o (typed.string octets leaf h e) = (octets, e)
    content_said c ts m u o (typed.bit_string bits leaf h e) = (bits, e)

    component_fits : (types : List Alternative) (own : Option ℕ) (form : Named) (t : Tree) (n : Node)
        → types ≡ tagged layout own form → HasOctets t → IsOf layout types t n → Fits layout (layout form) n
    component_fits types own form (Leaf at class tag octets) n e o (typed.primitive a m k is content rule) =
        said_fits types own form class tag a m k e is (leaf_said layout a.content octets m o content) rule
    component_fits types own form (Branch at class tag ts) n e o (typed.constructed a m k is holds rule) =
        said_fits types own form class tag a m k e is
        (content_said a.content ts m (uncoded_component types own form class tag a e is) o holds) rule

    each_fits : (form : Named) (types : List Alternative) (ts : Trees) (ns : Nodes) → types ≡ layout form
        → HaveOctets ts → AllOf layout types ts ns → FitsEach layout form ns
    each_fits form types ts ns e o typed.nil = fits.none
    each_fits form types ts ns e o (typed.more {t = t} {ts = us} {n = n} {ns = ms} h hs) =
        let all : AllClose layout types types =
        subst (λ (l : List Alternative). AllClose layout l l) (sym e) (closed.closes form) in
        let plain : list_all (λ (x : Alternative). is_uncoded x.content) types ≡ true =
        ap (λ (l : List Alternative). list_all (λ (x : Alternative). is_uncoded x.content) l) e
        ∙ closed.uncoded form in
        fits.more (subst (λ (l : List Alternative). Fits layout l n) e (read_fits types t n all plain o.0 h))
        (each_fits form types us ms e o.1 hs)

    order_fits : (cs : List Component) (ts : Trees) (ns : Nodes) → HaveOctets ts → InOrder layout cs ts ns
        → FitsSequence layout cs ns
    order_fits cs ts ns o typed.over = fits.over
    order_fits cs ts ns o
        (typed.next {c = c} {cs = others} {rest = rest} {t = t} {ts = us} {n = n} {ns = ms} is h g hs) =
        sequence_next layout c others rest n ms (component_fits (alternatives layout c) c.tag c.form t n refl o.0 h) g
        (order_fits rest us ms o.1 hs)
    order_fits cs ts ns o (typed.passed {c = c} {cs = others} {ns = ms} d p absent hs) =
        fits.left_out d p (default_here c.presence d p) (order_fits others ts ms o hs)

    any_order_fits : (cs : List Component) (ts : Trees) (ns : Nodes)
        → list_all (λ (c : Component). not (is_code c.presence)) cs ≡ true → HaveOctets ts
        → InAnyOrder layout cs ts ns → FitsSet layout cs ns
    any_order_fits cs ts ns u o typed.complete = fits.all
    any_order_fits cs ts ns u o
        (typed.given {c = c} {cs = others} {t = t} {rest = rest} {n = n} {ns = ms} a is absent h hs) =
        let w =
        both_true (not (is_code c.presence)) (list_all (λ (b : Component). not (is_code b.presence)) others) u in
        let here_octets = among_octets t ts rest a o in
        set_next layout c others n ms (uncode (is_code c.presence) w.0)
        (component_fits (alternatives layout c) c.tag c.form t n refl here_octets.0 h)
        (any_order_fits others rest ms w.1 here_octets.1 hs)
    any_order_fits cs ts ns u o (typed.missing {c = c} {cs = others} {ns = ms} d p gone hs) =
        let w =
        both_true (not (is_code c.presence)) (list_all (λ (b : Component). not (is_code b.presence)) others) u in
        fits.absent d p (default_here c.presence d p) (any_order_fits others ts ms w.1 o hs)
