-- An element is one value of a type at most.
use Rattle.std.proofs.Common.{◌≡◌, ℕ, Bool, true, false, List, [], ◌∷◌, ◌++◌, refl, ap, sym, ◌∙◌, subst}
use Rattle.std.specs.declared.option.Option.{Option}
use Rattle.std.specs.declared.option.Option.TheVariants.{Some}
use Rattle.x5_model_typed.specs.Trees.{Tree, Trees, Leaf, Branch, Bare, Row, class_of, tag_of}
use Rattle.x5_model_typed.specs.Nodes as nodes
use Rattle.x5_model_typed.specs.Nodes.{Node, Nodes, Number, Many}
use Rattle.x5_model_typed.specs.Named.{Named}
use Rattle.x5_model_typed.specs.Forms.{Layout, Presence, Required, Default, Code, Component, Content, Alternative, plain, alternatives, is_component, by_tag}
use Rattle.x5_model_typed.specs.Judged.{leaf_node, bits_of_content, marked}
use Rattle.x5_model_typed.specs.Typed as typed
use Rattle.x5_model_typed.specs.Typed.{IsOf, Holds, AllOf, InOrder, InAnyOrder, Goes, Among, IsMissing, IsPassed, OctetsOf, SegmentsOf, BitsOf, BitSegmentsOf, Spells}
use Rattle.x5_model_typed.proofs.Places.{placed_once}

-- ---- strings

mutual
  octets_once : (t : Tree) (o p : List ℕ) → OctetsOf t o → OctetsOf t p → o ≡ p
  octets_once (Leaf at class tag content) o p h k = h ∙ sym k
  octets_once (Branch at class tag members) o p h k = segments_once members o p h k

  segments_once : (ts : Trees) (o p : List ℕ) → SegmentsOf ts o → SegmentsOf ts p → o ≡ p
  segments_once Bare o p h k = h ∙ sym k
  segments_once (Row t ts) o p h k =
      h.6 ∙ ap (λ (l : List ℕ). l ++ h.3) (octets_once t h.2 k.2 h.4 k.4) ∙ ap (λ (l : List ℕ). k.2 ++ l) (segments_once ts h.3 k.3 h.5 k.5) ∙ sym k.6

some_bits : (r : Option (List Bool)) (a b : List Bool) → r ≡ Some a → r ≡ Some b → a ≡ b
some_bits r a b h k = let both : Some a ≡ Some b = sym h ∙ k in cc both

mutual
  bits_once : (t : Tree) (a b : List Bool) → BitsOf t a → BitsOf t b → a ≡ b
  bits_once (Leaf at class tag content) a b h k = some_bits (bits_of_content content) a b h k
  bits_once (Branch at class tag members) a b h k = bit_segments_once members a b h k

  bit_segments_once : (ts : Trees) (a b : List Bool) → BitSegmentsOf ts a → BitSegmentsOf ts b → a ≡ b
  bit_segments_once Bare a b h k = h ∙ sym k
  bit_segments_once (Row t Bare) a b h k = bits_once t a b h.2 k.2
  bit_segments_once (Row t (Row u us)) a b h k =
      h.7 ∙ ap (λ (l : List Bool). l ++ h.3) (bits_once t h.2 k.2 h.4 k.4) ∙ ap (λ (l : List Bool). k.2 ++ l) (bit_segments_once (Row u us) h.3 k.3 h.6 k.6) ∙ sym k.7

-- ---- parts of types

some_node : (r : Option Node) (m n : Node) → r ≡ Some m → r ≡ Some n → m ≡ n
some_node r m n h k = let both : Some m ≡ Some n = sym h ∙ k in cc both

-- The components behind one value are the same.
goes_once : (p : Presence) (cs : List Component) (m n : Node) (rest rest' : List Component) → m ≡ n → Goes cs m p rest → Goes cs n p rest' → rest ≡ rest'
goes_once Required cs m n rest rest' same typed.required typed.required = refl
goes_once (Default d) cs m n rest rest' same typed.default typed.default = refl
goes_once (Code names) cs m n rest rest' same (typed.named k form is there) (typed.named k' form' is' there') =
    let numbers : Number k ≡ Number k' = sym is ∙ same ∙ is' in
    let codes : k ≡ k' = cc numbers in
    let forms : Some form ≡ Some form' = sym there ∙ ap names codes ∙ there' in
    let one : form ≡ form' = cc forms in
    ap (λ (f : Named). plain f ∷ []) one

true_false : (b : Bool) → b ≡ true → b ≡ false → {X : Type 0} → X
true_false b h k = absurd (cc (h, k))

-- A member that stands among others isn't missing.
among_missing : (layout : Layout) (c : Component) (t : Tree) (ts rest : Trees) → Among t ts rest → IsMissing layout c ts → is_component layout (class_of t) (tag_of t) c ≡ false
among_missing layout c t ts rest typed.here h = h.0
among_missing layout c t ts rest (typed.later a) h = among_missing layout c t _ _ a h.1

-- One member has a component's tag, where no other behind it has.
among_once : (layout : Layout) (c : Component) (t u : Tree) (ts rest rest' : Trees) → Among t ts rest → Among u ts rest'
    → is_component layout (class_of t) (tag_of t) c ≡ true → IsMissing layout c rest → is_component layout (class_of u) (tag_of u) c ≡ true → IsMissing layout c rest'
    → (t ≡ u) × (rest ≡ rest')
among_once layout c t u ts rest rest' typed.here typed.here is h is' h' = (refl, refl)
among_once layout c t u ts rest rest' typed.here (typed.later a) is h is' h' = true_false _ is' (among_missing layout c u _ _ a h)
among_once layout c t u ts rest rest' (typed.later a) typed.here is h is' h' = true_false _ is (among_missing layout c t _ _ a h')
among_once layout c t u ts rest rest' (typed.later {u = v} a) (typed.later a') is h is' h' =
    let more = among_once layout c t u _ _ _ a a' is h.1 is' h'.1 in
    (more.0, ap (λ (l : Trees). Row v l) more.1)

default_once : (p : Presence) (d e : Node) → p ≡ Default d → p ≡ Default e → d ≡ e
default_once p d e h k = let both : Default d ≡ Default e = sym h ∙ k in cc both

-- ---- elements

same_alternative : (o : Option Alternative) (a b : Alternative) → o ≡ Some a → o ≡ Some b → a ≡ b
same_alternative o a b h k = let both : Some a ≡ Some b = sym h ∙ k in cc both

settles_once : (a b : Alternative) (m m' n n' : Node) → a ≡ b → m ≡ m' → a.settles m ≡ Some n → b.settles m' ≡ Some n' → marked a n ≡ marked b n'
settles_once a b m m' n n' same nodes h k =
    let there : a.settles m ≡ Some n' = ap (λ (q : Node). a.settles q) nodes ∙ ap (λ (q : Alternative). q.settles m') same ∙ k in
    ap (λ (q : Node). marked a q) (some_node (a.settles m) n n' h there) ∙ ap (λ (q : Alternative). marked q n') same

mutual
  once : (layout : Layout) (types : List Alternative) (t : Tree) (m n : Node) → IsOf layout types t m → IsOf layout types t n → m ≡ n
  once layout types (Leaf at class tag octets) m n (typed.primitive a k l is content rule) (typed.primitive b k' l' is' content' rule') =
      let same : a ≡ b = same_alternative (by_tag class tag types) a b is is' in
      let contents : k ≡ k' = some_node (leaf_node a.content octets) k k' content (ap (λ (q : Alternative). leaf_node q.content octets) same ∙ content') in
      settles_once a b k k' l l' same contents rule rule'
  once layout types (Branch at class tag ts) m n (typed.constructed a k l is holds rule) (typed.constructed b k' l' is' holds' rule') =
      let same : a ≡ b = same_alternative (by_tag class tag types) a b is is' in
      let contents : k ≡ k' = holds_once layout a.content ts k k' holds (subst (λ (q : Alternative). Holds layout q.content ts k') (sym same) holds') in
      settles_once a b k k' l l' same contents rule rule'

  holds_once : (layout : Layout) (c : Content) (ts : Trees) (m n : Node) → Holds layout c ts m → Holds layout c ts n → m ≡ n
  holds_once layout c ts m n (typed.one {form = form} {t = t} h) (typed.one k) = once layout (layout form) t m n h k
  holds_once layout c ts m n (typed.in_order {cs = cs} {ns = ms} h) (typed.in_order {ns = ns} k) = ap (λ (l : Nodes). Many l) (in_order_once layout cs ts ms ns h k)
  holds_once layout c ts m n (typed.in_any_order {cs = cs} {ns = ms} h) (typed.in_any_order {ns = ns} k) = ap (λ (l : Nodes). Many l) (in_any_order_once layout cs ts ms ns h k)
  holds_once layout c ts m n (typed.each {form = form} {ns = ms} h) (typed.each {ns = ns} k) = ap (λ (l : Nodes). Many l) (all_once layout (layout form) ts ms ns h k)
  holds_once layout c ts m n (typed.string o leaf h r) (typed.string p leaf' k s) =
      some_node (leaf.reads o) m n r (ap (λ (l : List ℕ). leaf.reads l) (segments_once ts o p h k) ∙ s)
  holds_once layout c ts m n (typed.bit_string a leaf h r) (typed.bit_string b leaf' k s) =
      some_node (leaf.reads a) m n r (ap (λ (l : List Bool). leaf.reads l) (bit_segments_once ts a b h k) ∙ s)

  all_once : (layout : Layout) (types : List Alternative) (ts : Trees) (ms ns : Nodes) → AllOf layout types ts ms → AllOf layout types ts ns → ms ≡ ns
  all_once layout types ts ms ns typed.nil typed.nil = refl
  all_once layout types ts ms ns (typed.more {t = t} {ts = us} {n = m} {ns = ms'} h hs) (typed.more {n = n} {ns = ns'} k ks) =
      ap (λ (q : Node). nodes.More q ms') (once layout types t m n h k) ∙ ap (λ (l : Nodes). nodes.More n l) (all_once layout types us ms' ns' hs ks)

  in_order_once : (layout : Layout) (cs : List Component) (ts : Trees) (ms ns : Nodes) → InOrder layout cs ts ms → InOrder layout cs ts ns → ms ≡ ns
  in_order_once layout cs ts ms ns typed.over typed.over = refl
  in_order_once layout cs ts ms ns (typed.next {c = c} {cs = others} {rest = rest} {t = t} {ts = us} {n = m} {ns = ms'} is h g hs) (typed.next {rest = rest'} {n = n} {ns = ns'} is' k g' ks) =
      let same : m ≡ n = once layout (alternatives layout c) t m n h k in
      let behind : rest ≡ rest' = goes_once c.presence others m n rest rest' same g g' in
      let more : ms' ≡ ns' = in_order_once layout rest us ms' ns' hs (subst (λ (l : List Component). InOrder layout l us ns') (sym behind) ks) in
      ap (λ (q : Node). nodes.More q ms') same ∙ ap (λ (l : Nodes). nodes.More n l) more
  in_order_once layout cs ts ms ns (typed.next is h g hs) (typed.passed d p absent ks) = true_false _ is absent
  in_order_once layout cs ts ms ns (typed.passed d p absent hs) (typed.next is k g ks) = true_false _ is absent
  in_order_once layout cs ts ms ns (typed.passed {c = c} {cs = others} {ns = ms'} d p absent hs) (typed.passed {ns = ns'} e q absent' ks) =
      ap (λ (n : Node). nodes.More n ms') (default_once c.presence d e p q) ∙ ap (λ (l : Nodes). nodes.More e l) (in_order_once layout others ts ms' ns' hs ks)

  in_any_order_once : (layout : Layout) (cs : List Component) (ts : Trees) (ms ns : Nodes) → InAnyOrder layout cs ts ms → InAnyOrder layout cs ts ns → ms ≡ ns
  in_any_order_once layout cs ts ms ns typed.complete typed.complete = refl
  in_any_order_once layout cs ts ms ns (typed.given {c = c} {cs = others} {t = t} {rest = rest} {n = m} {ns = ms'} a is absent h hs) (typed.given {t = u} {rest = rest'} {n = n} {ns = ns'} a' is' absent' k ks) =
      let one = among_once layout c t u ts rest rest' a a' is absent is' absent' in
      let same : m ≡ n = once layout (alternatives layout c) t m n h (subst (λ (q : Tree). IsOf layout (alternatives layout c) q n) (sym one.0) k) in
      let more : ms' ≡ ns' = in_any_order_once layout others rest ms' ns' hs (subst (λ (l : Trees). InAnyOrder layout others l ns') (sym one.1) ks) in
      ap (λ (q : Node). nodes.More q ms') same ∙ ap (λ (l : Nodes). nodes.More n l) more
  in_any_order_once layout cs ts ms ns (typed.given {c = c} {t = t} {rest = rest} a is absent h hs) (typed.missing d p gone ks) = true_false _ is (among_missing layout c t ts rest a gone)
  in_any_order_once layout cs ts ms ns (typed.missing {c = c} d p gone hs) (typed.given {t = t} {rest = rest} a is absent k ks) = true_false _ is (among_missing layout c t ts rest a gone)
  in_any_order_once layout cs ts ms ns (typed.missing {c = c} {cs = others} {ns = ms'} d p gone hs) (typed.missing {ns = ns'} e q gone' ks) =
      ap (λ (n : Node). nodes.More n ms') (default_once c.presence d e p q) ∙ ap (λ (l : Nodes). nodes.More e l) (in_any_order_once layout others ts ms' ns' hs ks)

pub one_value : (layout : Layout) (form : Named) (octets : List ℕ) (m n : Node) → Spells layout form octets m → Spells layout form octets n → m ≡ n
one_value layout form octets m n s s' =
    let same : s.tree ≡ s'.tree = placed_once 1 0 s.tree s'.tree octets s.lies s'.lies in
    once layout (layout form) s.tree m n s.is_of (subst (λ (t : Tree). IsOf layout (layout form) t n) (sym same) s'.is_of)
