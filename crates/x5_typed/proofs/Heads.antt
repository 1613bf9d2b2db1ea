-- The header of an element that lies somewhere in octets, and where its content stands.
use Rattle.std.proofs.Common.{◌≡◌, ℕ, ◌+◌, ◌<◌, ◌≤◌, true, false, List, [], ◌∷◌, ◌++◌, length, take, drop, refl, ap}
use Rattle.std.proofs.Common.{sym, ◌∙◌, subst, arith, append_assoc, length-append, length-drop}
use Rattle.std.proofs.Math.Seq.{take-append_seam}
use Rattle.std.specs.Option.{option_map}
use Rattle.std.specs.declared.option.Option.TheVariants.{None, Some}
use Rattle.std.specs.declared.result.Result.TheVariants.{Ok}
use Rattle.x5_model_octets.specs.Headers.{IsHeader, Identifier}
use Rattle.x5_model_octets.specs.Elements.{identifier}
use Rattle.x5_model_octets.specs.Faults.{Head, head_at, outermost, runs_out, begins_with_end}
use Rattle.x5_model_octets.proofs.FaultLaws.{header_head, header_some, begins_tests, drop_past}
use Rattle.x5_ber.specs.Reading.{Stands}
use Rattle.x5_model_typed.specs.Trees as trees
use Rattle.x5_model_typed.specs.Trees.{Tree, Trees, Leaf, Branch, Bare, Row, Lies, LieAll, Frames, plain}
use Rattle.x5_model_typed.proofs.Places.{lies_spells}
use Rattle.x5_typed.specs.Places.{EndsAt, behind}

pub stands_at : (input : List ℕ) (at : ℕ) (octets rest : List ℕ) → drop at input ≡ octets ++ rest → at ≤ length input
    → Stands input at octets
stands_at input at octets rest e inside = record {
  split = e ∙ ap (λ (l : List ℕ). octets ++ l) (sym (drop_past at input octets rest e));
  there = omega (arith, simp (length-drop, length-append) at (ap length e));
}

-- Of two parts that stand there, each does.
pub stands_front : (input : List ℕ) (at : ℕ) (a b octets : List ℕ) → octets ≡ a ++ b → Stands input at octets
    → Stands input at a
stands_front input at a b octets e s =
    stands_at input at a (b ++ drop (at + length octets) input) (s.split
    ∙ ap (λ (l : List ℕ). l ++ drop (at + length octets) input) e
    ∙ append_assoc a b (drop (at + length octets) input)) (omega (arith, s.there))

pub stands_behind : (input : List ℕ) (at : ℕ) (a b octets : List ℕ) → octets ≡ a ++ b → Stands input at octets
    → Stands input (at + length a) b
stands_behind input at a b octets e s =
    let apart : drop at input ≡ a ++ (b ++ drop (at + length octets) input) =
    s.split ∙ ap (λ (l : List ℕ). l ++ drop (at + length octets) input) e
    ∙ append_assoc a b (drop (at + length octets) input) in
    stands_at input (at + length a) b (drop (at + length octets) input)
    (drop_past at input a (b ++ drop (at + length octets) input) apart)
    (omega (arith, s.there, ap length e, length-append a b))

-- No end-of-contents octets stand where an element lies.
pub lies_tests : (bytes : List ℕ) (depth at : ℕ) (t : Tree) (octets : List ℕ) → Lies depth at t octets
    → Stands bytes at octets
    → (runs_out false (drop at bytes) ≡ false) × (begins_with_end (drop at bytes) ≡ false)
lies_tests bytes depth at t octets l s =
    begins_tests depth false (drop at bytes) (record {
      member = plain t;
      spelling = octets;
      rest = drop (at + length octets) bytes;
      spells = lies_spells depth at t
          octets l;
      whole = s.split;
    })

pub header_here : (bytes : List ℕ) (depth at : ℕ) (t : Tree) (octets header rest : List ℕ) (i : Identifier) (n : _)
    → Lies depth at t octets → Stands bytes at octets
    → IsHeader i n header → octets ≡ header ++ rest → (n ≡ None → i.constructed ≡ true)
    → head_at outermost bytes at ≡ Ok (record { identifier = i; extent = n; content = at + length header })
header_here bytes depth at t octets header rest i n l s is whole form =
    let tests = lies_tests bytes depth at t octets l s in
    let apart : drop at bytes ≡ header ++ (rest ++ drop (at + length octets) bytes) =
    s.split ∙ ap (λ (o : List ℕ). o ++ drop (at + length octets) bytes) whole
    ∙ append_assoc header rest (drop (at + length octets) bytes) in
    header_head outermost bytes at i n header (rest ++ drop (at + length octets) bytes) is apart
    (header_some i n header is) (omega arith) tests.0 tests.1 (may n form)
  where
    may : (m : _) → (m ≡ None → i.constructed ≡ true)
        → Rattle.x5_model_octets.specs.Faults.may_extend None
        (record { identifier = i; extent = m; content = at + length header }) ≡ true
    may None f = f refl
    may (Some k) f = refl

pub record LeafIs (bytes : List ℕ) (at : ℕ) (head : Head) (t : Tree) (octets : List ℕ) : Type 0 where
  pub content : List ℕ
  pub tree : t ≡ Leaf at head.identifier.class head.identifier.tag content
  pub extent : head.extent ≡ Some (length content)
  pub part : take (length content) (drop head.content bytes) ≡ content
  pub next : head.content + length content ≡ at + length octets

pub record BranchIs (bytes : List ℕ) (depth at : ℕ) (head : Head) (t : Tree) (octets : List ℕ) : Type 0 where
  pub members : Trees
  pub content : List ℕ
  pub tree : t ≡ Branch at head.identifier.class head.identifier.tag members
  pub lie : LieAll (depth + 1) head.content members content
  pub stand : Stands bytes head.content content
  pub ends : EndsAt bytes (option_map (λ n. head.content + n) head.extent) (head.content + length content)
  pub next : behind (option_map (λ n. head.content + n) head.extent) (head.content + length content) ≡ at
      + length octets

leaf_head : (at class tag : ℕ) (header content : List ℕ) → Head
leaf_head at class tag header content = record {
  identifier = identifier false class tag;
  extent =
      Some (length content);
  content = at + length header;
}

heads_same : (bytes : List ℕ) (at : ℕ) (h k : Head) → head_at outermost bytes at ≡ Ok h
    → head_at outermost bytes at ≡ Ok k → h ≡ k
heads_same bytes at h k p q = let e : Ok h ≡ Ok k = sym p ∙ q in cc

-- What a primitive element that lies there is.
pub leaf_is : (bytes : List ℕ) (depth at : ℕ) (head : Head) (t : Tree) (octets : List ℕ) → Lies depth at t octets
    → Stands bytes at octets → head_at outermost bytes at ≡ Ok head
    → head.identifier.constructed ≡ false → LeafIs bytes at head t octets
leaf_is bytes depth at head (Leaf place class tag content) octets l s e form =
    let p = l.1 in
    let known = header_here bytes depth at (Leaf place class tag content) octets p.header content
    (identifier false class tag) (Some (length content)) l s p.is_header p.whole (λ n. absurd (cc n)) in
    let same = heads_same bytes at head (record {
      identifier = identifier false class tag;
      extent =
          Some (length content);
      content = at + length p.header;
    }) e known in
    let inner = stands_behind bytes at p.header content octets p.whole s in
    let place_is : place ≡ at = l.0 in
    subst (λ (h : Head). LeafIs bytes at h (Leaf place class tag content) octets) (sym same) (record {
      content = content;
      tree = ap (λ (k : ℕ). Leaf k class tag content) place_is;
      extent = refl;
      part = ap (λ (o : List ℕ). take (length content) o) inner.split
          ∙ take-append_seam content (drop (at + length p.header + length content) bytes);
      next = omega (arith, ap length p.whole, length-append p.header content);
    })
leaf_is bytes depth at head (Branch place class tag members) octets l s e form = absurd (not_one l.5)
  where
    not_one : Frames l.2 class tag l.3 octets → ⊥
    not_one (trees.definite is whole) =
        let known = header_here bytes depth at (Branch place class tag members) octets l.2 l.3
        (identifier true class tag) (Some (length l.3)) l s is whole (λ n. refl) in
        let same = heads_same bytes at head (record {
          identifier = identifier true class tag;
          extent =
              Some (length l.3);
          content = at + length l.2;
        }) e known in
        let t : true ≡ false = sym (ap (λ (h : Head). h.identifier.constructed) same) ∙ form in
        cc
    not_one (trees.indefinite is whole) =
        let known = header_here bytes depth at (Branch place class tag members) octets l.2 (l.3 ++ (0 ∷ 0 ∷ []))
        (identifier true class tag) None l s is whole (λ n. refl) in
        let same = heads_same bytes at head (record {
          identifier = identifier true class tag;
          extent = None;
          content =
              at + length l.2;
        }) e known in
        let t : true ≡ false = sym (ap (λ (h : Head). h.identifier.constructed) same) ∙ form in
        cc

-- What a constructed one is.
pub branch_is : (bytes : List ℕ) (depth at : ℕ) (head : Head) (t : Tree) (octets : List ℕ) → Lies depth at t octets
    → Stands bytes at octets → head_at outermost bytes at ≡ Ok head
    → head.identifier.constructed ≡ true → BranchIs bytes depth at head t octets
branch_is bytes depth at head (Leaf place class tag content) octets l s e form =
    let p = l.1 in
    let known = header_here bytes depth at (Leaf place class tag content) octets p.header content
    (identifier false class tag) (Some (length content)) l s p.is_header p.whole (λ n. absurd (cc n)) in
    let same = heads_same bytes at head (record {
      identifier = identifier false class tag;
      extent =
          Some (length content);
      content = at + length p.header;
    }) e known in
    let t : false ≡ true = sym (ap (λ (h : Head). h.identifier.constructed) same) ∙ form in
    absurd (cc t)
branch_is bytes depth at head (Branch place class tag members) octets l s e form = by_frames l.5
  where
    place_is : place ≡ at
    place_is = l.0

    by_frames : Frames l.2 class tag l.3 octets → BranchIs bytes depth at head (Branch place class tag members) octets
    by_frames (trees.definite is whole) =
        let known = header_here bytes depth at (Branch place class tag members) octets l.2 l.3
        (identifier true class tag) (Some (length l.3)) l s is whole (λ n. refl) in
        let same = heads_same bytes at head (record {
          identifier = identifier true class tag;
          extent =
              Some (length l.3);
          content = at + length l.2;
        }) e known in
        subst (λ (h : Head). BranchIs bytes depth at h (Branch place class tag members) octets) (sym same) (record {
          members = members;
          content = l.3;
          tree = ap (λ (k : ℕ). Branch k class tag members) place_is;
          lie = l.4;
          stand = stands_behind bytes at l.2 l.3 octets whole s;
          ends = refl;
          next = omega (arith, ap length whole, length-append l.2 l.3);
        })
    by_frames (trees.indefinite is whole) =
        let known = header_here bytes depth at (Branch place class tag members) octets l.2 (l.3 ++ (0 ∷ 0 ∷ []))
        (identifier true class tag) None l s is whole (λ n. refl) in
        let same = heads_same bytes at head (record {
          identifier = identifier true class tag;
          extent = None;
          content =
              at + length l.2;
        }) e known in
        let inner = stands_behind bytes at l.2 (l.3 ++ (0 ∷ 0 ∷ [])) octets whole s in
        subst (λ (h : Head). BranchIs bytes depth at h (Branch place class tag members) octets) (sym same) (record {
          members = members;
          content = l.3;
          tree = ap (λ (k : ℕ). Branch k class tag members) place_is;
          lie = l.4;
          stand = stands_front bytes (at + length l.2) l.3 (0 ∷ 0 ∷ []) (l.3 ++ (0 ∷ 0 ∷ [])) refl inner;
          ends = stands_behind bytes (at + length l.2) l.3 (0 ∷ 0 ∷ []) (l.3 ++ (0 ∷ 0 ∷ [])) refl inner;
          next = omega (
            arith,
            ap length whole,
            length-append l.2 (l.3 ++ (0 ∷ 0 ∷ [])),
            length-append l.3
                (0 ∷ 0 ∷ []),
          );
        })

-- There is a header where an element lies, and its content begins behind it.
pub some_head : (bytes : List ℕ) (depth at : ℕ) (t : Tree) (octets : List ℕ) → Lies depth at t octets
    → Stands bytes at octets
    → (head : Head) × (head_at outermost bytes at ≡ Ok head) × (at < head.content) × (head.content ≤ length bytes)
some_head bytes depth at (Leaf place class tag content) octets l s =
    let p = l.1 in (
      record {
        identifier = identifier false class tag;
        extent = Some (length content);
        content = at + length p.header;
      },
      header_here bytes depth at (Leaf place class tag content) octets p.header content (identifier false class tag)
          (Some (length content)) l s p.is_header p.whole (λ n. absurd (cc n)),
      omega (arith, header_some _ _ p.header p.is_header),
      omega (arith, s.there, ap length p.whole, length-append p.header content),
    )
some_head bytes depth at (Branch place class tag members) octets l s = by_frames l.5
  where
    by_frames : Frames l.2 class tag l.3 octets → (head : Head) × (head_at outermost bytes at ≡ Ok head)
        × (at < head.content) × (head.content ≤ length bytes)
    by_frames (trees.definite is whole) = (
      record { identifier = identifier true class tag; extent = Some (length l.3); content = at + length l.2 },
      header_here bytes depth at (Branch place class tag members) octets l.2 l.3 (identifier true class tag)
          (Some (length l.3)) l s is whole (λ n. refl),
      omega (arith, header_some _ _ l.2 is),
      omega (arith, s.there, ap length whole, length-append l.2 l.3),
    )
    by_frames (trees.indefinite is whole) = (
      record { identifier = identifier true class tag; extent = None; content = at + length l.2 },
      header_here bytes depth at (Branch place class tag members) octets l.2 (l.3 ++ (0 ∷ 0 ∷ []))
          (identifier true class tag) None l s is whole (λ n. refl),
      omega (arith, header_some _ _ l.2 is),
      omega (arith, s.there, ap length whole, length-append l.2 (l.3 ++ (0 ∷ 0 ∷ []))),
    )
