-- A string's octets, and a bit string's bits, are read: segment by segment, each behind those before it.
use Rattle.std.proofs.Common.{◌≡◌, ℕ, Bool, false, not, List, [], ◌∷◌, ◌++◌, length, refl, ap, ap₂, sym, ◌∙◌, append_assoc, append-nil}
use Rattle.std.specs.Prelude.{◌%◌, if◌then◌else◌}
use Rattle.std.proofs.lemmas.Bool.{eq-eqb}
use Rattle.std.specs.declared.option.Option.{Option}
use Rattle.std.specs.declared.option.Option.TheVariants.{Some}
use Rattle.std.specs.declared.result.Result.{Result}
use Rattle.std.specs.declared.result.Result.TheVariants.{Ok}
use Rattle.x5_model.specs.Words.{in_option}
use Rattle.x5_model_typed.specs.Trees.{Tree, Trees, Leaf, Branch, Bare, Row, place_of, class_of, tag_of}
use Rattle.x5_model_typed.specs.Nodes.{Node, Octets, Bits}
use Rattle.x5_model_typed.specs.Forms as forms
use Rattle.x5_model_typed.specs.Forms.{Layout, Alternative, Component, Joined, JoinedBits, by_tag, universal}
use Rattle.x5_model_octets.specs.Breaches.{Breach}
use Rattle.x5_model_typed.specs.Judged.{State, Awaited, Next, judged, judged_all, judged_member, and_then, wrong_tag, wrong_content, stepped, settled, ended, begun, segment, octets_leaf, bit_segment, bits_leaf, bits_of_content, leaf_node, joined, joined_bits, is_ragged, last_node}
use Rattle.x5_model_typed.specs.Typed.{OctetsOf, SegmentsOf, BitsOf, BitSegmentsOf}
use Rattle.x5_model_typed.proofs.StringLaws.{within_string, joined_more}
use Rattle.x5_model_typed.proofs.BitLaws.{within_bits, bits_more, last_is}

-- ---- octets

by_segment : (class tag : ℕ) → class ≡ 0 → tag ≡ 4
    → by_tag class tag segment ≡ Some (universal 4 (Joined octets_leaf))
by_segment class tag p q = ap₂ (λ (c k : ℕ). by_tag c k segment) p q

-- Segments behind those before.
pub record SegmentsRead (layout : Layout) (at : ℕ) (leaf : forms.Leaf (List ℕ)) (before : List Node) (last : ℕ)
    (ts : Trees) (octets : List ℕ) : Type 0 where
  pub nodes : List Node
  pub end : ℕ
  pub judged_so : judged_all layout (within_string at leaf [] before [] last) ts ≡ Ok (within_string at leaf [] nodes [] end)
  pub joined_so : joined nodes ≡ joined before ++ octets

mutual
  octets_judged : (layout : Layout) (t : Tree) (octets : List ℕ) → class_of t ≡ 0 → tag_of t ≡ 4 → OctetsOf t octets
      → judged layout segment t ≡ Ok (Octets octets)
  octets_judged layout (Leaf at class tag content) octets p q h =
      ap (λ (o : Option Alternative). in_option (wrong_tag at) (λ a. settled at a (leaf_node a.content content)) o)
      (by_segment class tag p q)
      ∙ ap (λ (l : List ℕ). Ok (Octets l)) (sym h)
  octets_judged layout (Branch at class tag members) octets p q h =
      let r = segments_judged layout at octets_leaf [] at members octets h in
      ap
      (λ (o : Option Alternative). in_option (wrong_tag at) (λ a. and_then (λ s. settled at a (ended s)) (judged_all layout (begun at a.content) members)) o)
      (by_segment class tag p q)
      ∙ ap
      (λ (x : Result State Breach). and_then
      (λ s. settled at (universal 4 (Joined octets_leaf)) (ended s)) x) r.judged_so
      ∙ ap (λ (l : List ℕ). Ok (Octets l)) r.joined_so

  pub segments_judged : (layout : Layout) (at : ℕ) (leaf : forms.Leaf (List ℕ)) (before : List Node) (last : ℕ)
      (ts : Trees) (octets : List ℕ)
      → SegmentsOf ts octets → SegmentsRead layout at leaf before last ts octets
  segments_judged layout at leaf before last Bare octets h = record {
    nodes = before;
    end = last;
    judged_so = refl;
    joined_so = sym (append-nil (joined before)) ∙ ap (λ (l : List ℕ). joined before ++ l) (sym h);
  }
  segments_judged layout at leaf before last (Row t ts) octets h =
      let start : State = within_string at leaf [] before [] last in
      let first = octets_judged layout t h.2 h.0 h.1 h.4 in
      let rest = segments_judged layout at leaf (before ++ (Octets h.2 ∷ [])) (place_of t) ts h.3 h.5 in
      let one : joined (before ++ (Octets h.2 ∷ [])) ≡ joined before ++ h.2 =
      joined_more before (Octets h.2 ∷ []) ∙ ap (λ (l : List ℕ). joined before ++ l) (append-nil h.2) in
      record {
        nodes = rest.nodes;
        end = rest.end;
        judged_so =
            ap
            (λ (r : Result Node Breach). and_then (λ later. judged_all layout later ts)
            (and_then (stepped start (place_of t) Next) r)) first
            ∙ rest.judged_so;
        joined_so =
            rest.joined_so ∙ ap (λ (l : List ℕ). l ++ h.3) one ∙ append_assoc (joined before) h.2 h.3
            ∙ ap (λ (l : List ℕ). joined before ++ l) (sym h.6);
      }

-- ---- bits

by_bit_segment : (class tag : ℕ) → class ≡ 0 → tag ≡ 3
    → by_tag class tag bit_segment ≡ Some (universal 3 (JoinedBits bits_leaf))
by_bit_segment class tag p q = ap₂ (λ (c k : ℕ). by_tag c k bit_segment) p q

pub bits_node : (leaf : forms.Leaf (List Bool)) (octets : List ℕ) (bits : List Bool)
    → bits_of_content octets ≡ Some bits → leaf_node (JoinedBits leaf) octets ≡ leaf.reads bits
bits_node leaf octets bits h = rw h refl

not_ragged : (bits : List Bool) → length bits % 8 ≡ 0 → is_ragged (Bits bits) ≡ false
not_ragged bits h = ap not (eq-eqb (length bits % 8) 0 h)

pub record BitsRead (layout : Layout) (at : ℕ) (leaf : forms.Leaf (List Bool)) (before : List Node) (last : ℕ)
    (ts : Trees) (bits : List Bool) : Type 0 where
  pub nodes : List Node
  pub end : ℕ
  pub judged_so : judged_all layout (within_bits at leaf [] before [] last) ts ≡ Ok (within_bits at leaf [] nodes [] end)
  pub joined_so : joined_bits nodes ≡ joined_bits before ++ bits

-- one segment more, where the last one is whole octets
bit_member : (layout : Layout) (at : ℕ) (leaf : forms.Leaf (List Bool)) (before : List Node) (last : ℕ) (t : Tree)
    (bits : List Bool)
    → is_ragged (last_node before) ≡ false → judged layout bit_segment t ≡ Ok (Bits bits)
    → judged_member layout (within_bits at leaf [] before [] last) t ≡ Ok (within_bits at leaf [] (before ++ (Bits bits ∷ [])) [] (place_of t))
bit_member layout at leaf before last t bits whole h =
    let start : State = within_bits at leaf [] before [] last in
    ap
    (λ (b : Bool). and_then (λ (a : Awaited). and_then (stepped start (place_of t) a.step) (judged layout a.types t))
    (if b then wrong_content last else Ok (record { types = bit_segment; step = Next }))) whole
    ∙ ap (λ (r : Result Node Breach). and_then (stepped start (place_of t) Next) r) h

one_bits : (before : List Node) (bits : List Bool)
    → joined_bits (before ++ (Bits bits ∷ [])) ≡ joined_bits before ++ bits
one_bits before bits =
    bits_more before (Bits bits ∷ []) ∙ ap (λ (l : List Bool). joined_bits before ++ l) (append-nil bits)

mutual
  bits_judged : (layout : Layout) (t : Tree) (bits : List Bool) → class_of t ≡ 0 → tag_of t ≡ 3 → BitsOf t bits
      → judged layout bit_segment t ≡ Ok (Bits bits)
  bits_judged layout (Leaf at class tag content) bits p q h =
      ap (λ (o : Option Alternative). in_option (wrong_tag at) (λ a. settled at a (leaf_node a.content content)) o)
      (by_bit_segment class tag p q)
      ∙ ap (λ (o : Option Node). settled at (universal 3 (JoinedBits bits_leaf)) o)
      (bits_node bits_leaf content bits h)
  bits_judged layout (Branch at class tag members) bits p q h =
      let r = bit_segments_judged layout at bits_leaf [] at members bits refl h in
      ap
      (λ (o : Option Alternative). in_option (wrong_tag at) (λ a. and_then (λ s. settled at a (ended s)) (judged_all layout (begun at a.content) members)) o)
      (by_bit_segment class tag p q)
      ∙ ap
      (λ (x : Result State Breach). and_then
      (λ s. settled at (universal 3 (JoinedBits bits_leaf)) (ended s)) x) r.judged_so
      ∙ ap (λ (l : List Bool). Ok (Bits l)) r.joined_so

  pub bit_segments_judged : (layout : Layout) (at : ℕ) (leaf : forms.Leaf (List Bool)) (before : List Node)
      (last : ℕ) (ts : Trees) (bits : List Bool)
      → is_ragged (last_node before) ≡ false → BitSegmentsOf ts bits
      → BitsRead layout at leaf before last ts bits
  bit_segments_judged layout at leaf before last Bare bits whole h = record {
    nodes = before;
    end = last;
    judged_so = refl;
    joined_so = sym (append-nil (joined_bits before)) ∙ ap (λ (l : List Bool). joined_bits before ++ l) (sym h);
  }
  bit_segments_judged layout at leaf before last (Row t Bare) bits whole h = record {
    nodes = before ++ (Bits bits ∷ []);
    end = place_of t;
    judged_so =
        ap (λ (r : Result State Breach). and_then (λ later. judged_all layout later Bare) r)
        (bit_member layout at leaf before last t bits whole (bits_judged layout t bits h.0 h.1 h.2));
    joined_so = one_bits before bits;
  }
  bit_segments_judged layout at leaf before last (Row t (Row u us)) bits whole h =
      let first = bits_judged layout t h.2 h.0 h.1 h.4 in
      let rest =
      bit_segments_judged layout at leaf (before ++ (Bits h.2 ∷ [])) (place_of t) (Row u us) h.3
      (ap is_ragged (last_is before (Bits h.2)) ∙ not_ragged h.2 h.5) h.6 in
      record {
        nodes = rest.nodes;
        end = rest.end;
        judged_so =
            ap (λ (r : Result State Breach). and_then (λ later. judged_all layout later (Row u us)) r)
            (bit_member layout at leaf before last t h.2 whole first)
            ∙ rest.judged_so;
        joined_so =
            rest.joined_so ∙ ap (λ (l : List Bool). l ++ h.3) (one_bits before h.2)
            ∙ append_assoc (joined_bits before) h.2 h.3 ∙ ap (λ (l : List Bool). joined_bits before ++ l) (sym h.7);
      }
