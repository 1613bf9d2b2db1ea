-- What is judged a bit string is one: its bits are those of its segments, of which only the last may
-- have unused ones.
use Rattle.std.proofs.Common.{◌≡◌, ℕ, Bool, true, false, List, [], ◌∷◌, ◌++◌, length, refl, ap, sym, ◌∙◌, subst, append_assoc, append-nil, arith, length-append}
use Rattle.std.specs.Prelude.{◌==◌, ◌%◌, ◌-◌, slice_index_or}
use Rattle.std.proofs.Math.Seq.{get_or-append_seam}
use Rattle.std.proofs.lemmas.Bool.Decides.{Decides-eqb}
use Rattle.std.specs.declared.option.Option.{Option}
use Rattle.std.specs.declared.option.Option.TheVariants.{None, Some}
use Rattle.std.specs.declared.result.Result.TheVariants.{Ok}
use Rattle.x5_model_typed.specs.Trees.{Tree, Trees, Leaf, Branch, Bare, Row, place_of, class_of, tag_of}
use Rattle.x5_model_typed.specs.Nodes.{Node, Bits, Vacant}
use Rattle.x5_model_typed.specs.Forms as forms
use Rattle.x5_model_typed.specs.Forms.{Layout, Alternative, Content, Component, JoinedBits, by_tag, universal}
use Rattle.x5_model_typed.specs.Judged.{State, Awaited, Next, judged, judged_all, judged_member, and_then, awaits, stepped, settled, ended, begun, bit_segment, bits_leaf, bits_of_content, leaf_node, joined_bits, is_ragged, last_node}
use Rattle.x5_model_typed.specs.Typed.{BitsOf, BitSegmentsOf}
use Rattle.x5_model_typed.proofs.Laws.{came}

-- Reading within a bit string, behind those segments.
abbrev pub within_bits : ℕ → forms.Leaf (List Bool) → List Component → List Node → List (Option Node) → ℕ → State
within_bits at leaf left nodes slots last = record { at = at; content = JoinedBits leaf; left = left; nodes = nodes; slots = slots; last = last }

-- The only tag of a segment.
pub bit_segment_tag : (class tag : ℕ) (a : Alternative) → by_tag class tag bit_segment ≡ Some a → (class ≡ 0) × (tag ≡ 3) × (a ≡ universal 3 (JoinedBits bits_leaf))
bit_segment_tag class tag a e = by (0 == class) (3 == tag) refl refl e
  where
    by : (b c : Bool) → (0 == class) ≡ b → (3 == tag) ≡ c → by_tag class tag bit_segment ≡ Some a → (class ≡ 0) × (tag ≡ 3) × (a ≡ universal 3 (JoinedBits bits_leaf))
    by true true is is' h = (sym ((Decides-eqb 0 class).0 is), sym ((Decides-eqb 3 tag).0 is'), cc)
    by true false is is' h = absurd (cc)
    by false c is is' h = absurd (cc)

pub bits_more : (ns ms : List Node) → joined_bits (ns ++ ms) ≡ joined_bits ns ++ joined_bits ms
bits_more [] ms = refl
bits_more (Bits b ∷ ns) ms = ap (λ (l : List Bool). b ++ l) (bits_more ns ms) ∙ sym (append_assoc b (joined_bits ns) (joined_bits ms))
bits_more (n ∷ ns) ms = bits_more ns ms

pub last_is : (ns : List Node) (n : Node) → last_node (ns ++ (n ∷ [])) ≡ n
last_is ns n =
    let one_less : length (ns ++ (n ∷ [])) - 1 ≡ length ns = omega (arith, length-append ns (n ∷ [])) in
    ap (λ (k : ℕ). slice_index_or (ns ++ (n ∷ [])) k Vacant) one_less ∙ get_or-append_seam ns n [] Vacant

abbrev pub AreBitSegments : ℕ → forms.Leaf (List Bool) → List Node → Trees → State → Type 0
AreBitSegments at leaf before ts s = (s ≡ within_bits at leaf s.left s.nodes s.slots s.last) × (b : List Bool) × (joined_bits s.nodes ≡ joined_bits before ++ b) × BitSegmentsOf ts b

abbrev pub IsBitSegment : Tree → Node → Type 0
IsBitSegment t n = (class_of t ≡ 0) × (tag_of t ≡ 3) × (b : List Bool) × (n ≡ Bits b) × BitsOf t b

bits_by : (layout : Layout) (at class tag : ℕ) (octets : List ℕ) (n : Node) (r : Option (List Bool)) → bits_of_content octets ≡ r
    → settled at (universal 3 (JoinedBits bits_leaf)) (leaf_node (JoinedBits bits_leaf) octets) ≡ Ok n → (b : List Bool) × (n ≡ Bits b) × (bits_of_content octets ≡ Some b)
bits_by layout at class tag octets n None is h = absurd (cc)
bits_by layout at class tag octets n (Some b) is h = (b, cc, is)

leaf_bits : (layout : Layout) (at class tag : ℕ) (octets : List ℕ) (n : Node) (o : Option Alternative) → by_tag class tag bit_segment ≡ o
    → judged layout bit_segment (Leaf at class tag octets) ≡ Ok n → IsBitSegment (Leaf at class tag octets) n
leaf_bits layout at class tag octets n None is h = absurd (cc)
leaf_bits layout at class tag octets n (Some a) is h =
    let f = bit_segment_tag class tag a is in
    let one : a ≡ universal 3 (JoinedBits bits_leaf) = f.2 in
    let r = bits_by layout at class tag octets n (bits_of_content octets) refl (cc) in
    (f.0, f.1, r.0, r.1, r.2)

branch_bits : (layout : Layout) (at class tag : ℕ) (members : Trees) (n : Node) (o : Option Alternative) → by_tag class tag bit_segment ≡ o
    → ((s : State) → judged_all layout (begun at (JoinedBits bits_leaf)) members ≡ Ok s → AreBitSegments at bits_leaf [] members s)
    → judged layout bit_segment (Branch at class tag members) ≡ Ok n → IsBitSegment (Branch at class tag members) n
branch_bits layout at class tag members n None is segments h = absurd (cc)
branch_bits layout at class tag members n (Some a) is segments h =
    let f = bit_segment_tag class tag a is in
    let one : by_tag class tag bit_segment ≡ Some (universal 3 (JoinedBits bits_leaf)) = is ∙ ap (λ (q : Alternative). Some q) f.2 in
    let there : and_then (λ s. settled at (universal 3 (JoinedBits bits_leaf)) (ended s)) (judged_all layout (begun at (JoinedBits bits_leaf)) members) ≡ Ok n = cc (one, h) in
    let s = came (λ s. settled at (universal 3 (JoinedBits bits_leaf)) (ended s)) (judged_all layout (begun at (JoinedBits bits_leaf)) members) n there in
    let r = segments s.0 s.1 in
    let over : settled at (universal 3 (JoinedBits bits_leaf)) (ended (within_bits at bits_leaf s.0.left s.0.nodes s.0.slots s.0.last)) ≡ Ok n = ap (λ (q : State). settled at (universal 3 (JoinedBits bits_leaf)) (ended q)) (sym r.0) ∙ s.2 in
    let bits : joined_bits s.0.nodes ≡ r.1 = r.2 in
    (f.0, f.1, r.1, cc (over, bits), r.3)

-- A bit string awaits a segment, where the last one had no unused bits.
pub not_ragged : (layout : Layout) (at : ℕ) (leaf : forms.Leaf (List Bool)) (left : List Component) (nodes : List Node) (slots : List (Option Node)) (last : ℕ) (t : Tree) (a : Awaited) (b : Bool)
    → is_ragged (last_node nodes) ≡ b → awaits layout (within_bits at leaf left nodes slots last) (place_of t) (class_of t) (tag_of t) ≡ Ok a
    → (is_ragged (last_node nodes) ≡ false) × (a ≡ record { types = bit_segment; step = Next })
not_ragged layout at leaf left nodes slots last t a true is e = absurd (cc)
not_ragged layout at leaf left nodes slots last t a false is e = (is, cc)

pub whole_octets : (b : List Bool) (r : Bool) → (length b % 8 == 0) ≡ r → is_ragged (Bits b) ≡ false → length b % 8 ≡ 0
whole_octets b true is e = (Decides-eqb (length b % 8) 0).0 is
whole_octets b false is e = absurd (cc)

-- One segment more before others.
pub segment_before : (t : Tree) (ts : Trees) (first rest : List Bool) (n : Node) → IsBitSegment t n → n ≡ Bits first → BitsOf t first → BitSegmentsOf ts rest
    → ((u : Tree) (us : Trees) → ts ≡ Row u us → is_ragged n ≡ false) → BitSegmentsOf (Row t ts) (first ++ rest)
segment_before t Bare first rest n is one of_t others ragged =
    (is.0, is.1, subst (λ (b : List Bool). BitsOf t b) (sym (append-nil first) ∙ ap (λ (l : List Bool). first ++ l) (sym others)) of_t)
segment_before t (Row u us) first rest n is one of_t others ragged =
    (is.0, is.1, first, rest, of_t, whole_octets first (length first % 8 == 0) refl (ap is_ragged (sym one) ∙ ragged u us refl), others, refl)

-- Where another segment follows, the last one had no unused bits.
pub ragged_before : (layout : Layout) (at : ℕ) (leaf : forms.Leaf (List Bool)) (left : List Component) (before : List Node) (n : Node) (slots : List (Option Node)) (last : ℕ) (ts : Trees) (u : Tree) (us : Trees) (s : State)
    → ts ≡ Row u us → judged_all layout (within_bits at leaf left (before ++ (n ∷ [])) slots last) ts ≡ Ok s → is_ragged n ≡ false
ragged_before layout at leaf left before n slots last ts u us s is e =
    let start : State = within_bits at leaf left (before ++ (n ∷ [])) slots last in
    let there : judged_all layout start (Row u us) ≡ Ok s = ap (λ (q : Trees). judged_all layout start q) (sym is) ∙ e in
    let member = came (λ later. judged_all layout later us) (judged_member layout start u) s there in
    let waits = came (λ a. and_then (stepped start (place_of u) a.step) (judged layout a.types u)) (awaits layout start (place_of u) (class_of u) (tag_of u)) member.0 member.1 in
    let so = not_ragged layout at leaf left (before ++ (n ∷ [])) slots last u waits.0 (is_ragged (last_node (before ++ (n ∷ [])))) refl waits.1 in
    ap is_ragged (sym (last_is before n)) ∙ so.0

mutual
  -- A segment is a bit string.
  pub bit_segment_is : (layout : Layout) (t : Tree) (n : Node) → judged layout bit_segment t ≡ Ok n → IsBitSegment t n
  bit_segment_is layout (Leaf at class tag octets) n e = leaf_bits layout at class tag octets n (by_tag class tag bit_segment) refl e
  bit_segment_is layout (Branch at class tag members) n e =
      branch_bits layout at class tag members n (by_tag class tag bit_segment) refl (λ s h. bit_segments_are layout at bits_leaf [] [] [] at members s h) e

  -- Segments, one after the other.
  pub bit_segments_are : (layout : Layout) (at : ℕ) (leaf : forms.Leaf (List Bool)) (left : List Component) (before : List Node) (slots : List (Option Node)) (last : ℕ) (ts : Trees) (s : State)
      → judged_all layout (within_bits at leaf left before slots last) ts ≡ Ok s
      → AreBitSegments at leaf before ts s
  bit_segments_are layout at leaf left before slots last Bare s e =
      let same : within_bits at leaf left before slots last ≡ s = cc e in
      (subst (λ (q : State). q ≡ within_bits at leaf q.left q.nodes q.slots q.last) same refl, [], ap (λ (q : State). joined_bits q.nodes) (sym same) ∙ sym (append-nil (joined_bits before)), refl)
  bit_segments_are layout at leaf left before slots last (Row t ts) s e =
      let start : State = within_bits at leaf left before slots last in
      let member = came (λ later. judged_all layout later ts) (judged_member layout start t) s e in
      let waits = came (λ a. and_then (stepped start (place_of t) a.step) (judged layout a.types t)) (awaits layout start (place_of t) (class_of t) (tag_of t)) member.0 member.1 in
      let is = not_ragged layout at leaf left before slots last t waits.0 (is_ragged (last_node before)) refl waits.1 in
      let so : and_then (stepped start (place_of t) Next) (judged layout bit_segment t) ≡ Ok member.0 =
      ap (λ (a : Awaited). and_then (stepped start (place_of t) a.step) (judged layout a.types t)) (sym is.1) ∙ waits.2 in
      let node = came (stepped start (place_of t) Next) (judged layout bit_segment t) member.0 so in
      let stands : within_bits at leaf left (before ++ (node.0 ∷ [])) slots (place_of t) ≡ member.0 = cc node.2 in
      let there : judged_all layout (within_bits at leaf left (before ++ (node.0 ∷ [])) slots (place_of t)) ts ≡ Ok s = ap (λ (q : State). judged_all layout q ts) stands ∙ member.2 in
      let first = bit_segment_is layout t node.0 node.1 in
      let rest = bit_segments_are layout at leaf left (before ++ (node.0 ∷ [])) slots (place_of t) ts s there in
      let one : joined_bits (before ++ (node.0 ∷ [])) ≡ joined_bits before ++ first.2 =
      bits_more before (node.0 ∷ []) ∙ ap (λ (n : Node). joined_bits before ++ joined_bits (n ∷ [])) first.3 ∙ ap (λ (l : List Bool). joined_bits before ++ l) (append-nil first.2) in (
        rest.0,
        first.2 ++ rest.1,
        rest.2 ∙ ap (λ (l : List Bool). l ++ rest.1) one ∙ append_assoc (joined_bits before) first.2 rest.1,
        segment_before t ts first.2 rest.1 node.0 first first.3 first.4 rest.3 (λ u us is_row. ragged_before layout at leaf left before node.0 slots (place_of t) ts u us s is_row there),
      )
