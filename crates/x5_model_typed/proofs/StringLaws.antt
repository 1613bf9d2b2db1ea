-- What is judged a string is one: its octets or bits are those of its segments.
use Rattle.std.proofs.Common.{◌≡◌, ℕ, Bool, true, false, List, [], ◌∷◌, ◌++◌, refl, ap, sym, ◌∙◌, subst, append_assoc, append-nil}
use Rattle.std.specs.Prelude.{◌==◌}
use Rattle.std.proofs.lemmas.Bool.Decides.{Decides-eqb}
use Rattle.std.specs.declared.option.Option.{Option}
use Rattle.std.specs.declared.option.Option.TheVariants.{None, Some}
use Rattle.std.specs.declared.result.Result.TheVariants.{Ok}
use Rattle.x5_model_typed.specs.Trees.{Tree, Trees, Leaf, Branch, Bare, Row, place_of, class_of, tag_of}
use Rattle.x5_model_typed.specs.Nodes.{Node, Octets}
use Rattle.x5_model_typed.specs.Forms as forms
use Rattle.x5_model_typed.specs.Forms.{Layout, Alternative, Content, Component, Joined, JoinedBits, by_tag, universal}
use Rattle.x5_model_typed.specs.Judged.{State, Next, judged, judged_all, judged_member, and_then, stepped, settled, ended, begun, segment, octets_leaf, joined}
use Rattle.x5_model_typed.specs.Typed.{OctetsOf, SegmentsOf}
use Rattle.x5_model_typed.proofs.Laws.{came}

-- Reading within a string, behind those segments.
abbrev pub within_string : ℕ → forms.Leaf (List ℕ) → List Component → List Node → List (Option Node) → ℕ → State
within_string at leaf left nodes slots last = record { at = at; content = Joined leaf; left = left; nodes = nodes; slots = slots; last = last }

-- The only tag of a segment.
pub segment_tag : (class tag : ℕ) (a : Alternative) → by_tag class tag segment ≡ Some a → (class ≡ 0) × (tag ≡ 4) × (a ≡ universal 4 (Joined octets_leaf))
segment_tag class tag a e = by (0 == class) (4 == tag) refl refl e
  where
    by : (b c : Bool) → (0 == class) ≡ b → (4 == tag) ≡ c → by_tag class tag segment ≡ Some a → (class ≡ 0) × (tag ≡ 4) × (a ≡ universal 4 (Joined octets_leaf))
    by true true is is' h = (sym ((Decides-eqb 0 class).0 is), sym ((Decides-eqb 4 tag).0 is'), cc)
    by true false is is' h = absurd (cc)
    by false c is is' h = absurd (cc)

pub joined_more : (ns ms : List Node) → joined (ns ++ ms) ≡ joined ns ++ joined ms
joined_more [] ms = refl
joined_more (Octets o ∷ ns) ms = ap (λ (l : List ℕ). o ++ l) (joined_more ns ms) ∙ sym (append_assoc o (joined ns) (joined ms))
joined_more (n ∷ ns) ms = joined_more ns ms

-- Segments that were read, behind those before.
abbrev pub AreSegments : ℕ → forms.Leaf (List ℕ) → List Node → Trees → State → Type 0
AreSegments at leaf before ts s = (s ≡ within_string at leaf s.left s.nodes s.slots s.last) × (o : List ℕ) × (joined s.nodes ≡ joined before ++ o) × SegmentsOf ts o

abbrev pub IsSegment : Tree → Node → Type 0
IsSegment t n = (class_of t ≡ 0) × (tag_of t ≡ 4) × (o : List ℕ) × (n ≡ Octets o) × OctetsOf t o

leaf_segment : (layout : Layout) (at class tag : ℕ) (octets : List ℕ) (n : Node) (o : Option Alternative) → by_tag class tag segment ≡ o
    → judged layout segment (Leaf at class tag octets) ≡ Ok n → IsSegment (Leaf at class tag octets) n
leaf_segment layout at class tag octets n None is h = absurd (cc)
leaf_segment layout at class tag octets n (Some a) is h =
    let f = segment_tag class tag a is in
    let one : a ≡ universal 4 (Joined octets_leaf) = f.2 in
    (f.0, f.1, octets, cc, refl)

branch_segment : (layout : Layout) (at class tag : ℕ) (members : Trees) (n : Node) (o : Option Alternative) → by_tag class tag segment ≡ o
    → ((s : State) → judged_all layout (begun at (Joined octets_leaf)) members ≡ Ok s → AreSegments at octets_leaf [] members s)
    → judged layout segment (Branch at class tag members) ≡ Ok n → IsSegment (Branch at class tag members) n
branch_segment layout at class tag members n None is segments h = absurd (cc)
branch_segment layout at class tag members n (Some a) is segments h =
    let f = segment_tag class tag a is in
    let one : by_tag class tag segment ≡ Some (universal 4 (Joined octets_leaf)) = is ∙ ap (λ (q : Alternative). Some q) f.2 in
    let there : and_then (λ s. settled at (universal 4 (Joined octets_leaf)) (ended s)) (judged_all layout (begun at (Joined octets_leaf)) members) ≡ Ok n = cc (one, h) in
    let s = came (λ s. settled at (universal 4 (Joined octets_leaf)) (ended s)) (judged_all layout (begun at (Joined octets_leaf)) members) n there in
    let r = segments s.0 s.1 in
    let over : settled at (universal 4 (Joined octets_leaf)) (ended (within_string at octets_leaf s.0.left s.0.nodes s.0.slots s.0.last)) ≡ Ok n = ap (λ (q : State). settled at (universal 4 (Joined octets_leaf)) (ended q)) (sym r.0) ∙ s.2 in
    let text : joined s.0.nodes ≡ r.1 = r.2 in
    (f.0, f.1, r.1, cc (over, text), r.3)

mutual
  -- A segment is an octet string.
  pub segment_is : (layout : Layout) (t : Tree) (n : Node) → judged layout segment t ≡ Ok n → IsSegment t n
  segment_is layout (Leaf at class tag octets) n e = leaf_segment layout at class tag octets n (by_tag class tag segment) refl e
  segment_is layout (Branch at class tag members) n e =
      branch_segment layout at class tag members n (by_tag class tag segment) refl (λ s h. segments_are layout at octets_leaf [] [] [] at members s h) e

  -- Segments, one after the other.
  pub segments_are : (layout : Layout) (at : ℕ) (leaf : forms.Leaf (List ℕ)) (left : List Component) (before : List Node) (slots : List (Option Node)) (last : ℕ) (ts : Trees) (s : State)
      → judged_all layout (within_string at leaf left before slots last) ts ≡ Ok s
      → AreSegments at leaf before ts s
  segments_are layout at leaf left before slots last Bare s e =
      let same : within_string at leaf left before slots last ≡ s = cc e in
      (subst (λ (q : State). q ≡ within_string at leaf q.left q.nodes q.slots q.last) same refl, [], ap (λ (q : State). joined q.nodes) (sym same) ∙ sym (append-nil (joined before)), refl)
  segments_are layout at leaf left before slots last (Row t ts) s e =
      let start : State = within_string at leaf left before slots last in
      let member = came (λ later. judged_all layout later ts) (judged_member layout start t) s e in
      let node = came (λ n. stepped start (place_of t) Next n) (judged layout segment t) member.0 member.1 in
      let stands : within_string at leaf left (before ++ (node.0 ∷ [])) slots (place_of t) ≡ member.0 = cc node.2 in
      let first = segment_is layout t node.0 node.1 in
      let rest = segments_are layout at leaf left (before ++ (node.0 ∷ [])) slots (place_of t) ts s (ap (λ (q : State). judged_all layout q ts) stands ∙ member.2) in
      let one : joined (before ++ (node.0 ∷ [])) ≡ joined before ++ first.2 =
      joined_more before (node.0 ∷ []) ∙ ap (λ (n : Node). joined before ++ joined (n ∷ [])) first.3 ∙ ap (λ (l : List ℕ). joined before ++ l) (append-nil first.2) in (
        rest.0,
        first.2 ++ rest.1,
        rest.2 ∙ ap (λ (l : List ℕ). l ++ rest.1) one ∙ append_assoc (joined before) first.2 rest.1,
        (first.0, first.1, first.2, rest.1, first.4, rest.3, refl),
      )
