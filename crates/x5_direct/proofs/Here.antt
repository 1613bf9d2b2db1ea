-- In some surroundings, too, what is found of an element and its members makes a spelling of the whole.
use Rattle.std.proofs.Common.{◌≡◌, ℕ, ◌+◌, ◌-◌, ◌≤◌, ◌<◌, ◌%◌, ℤ, Bool, true, false, List, [], ◌∷◌, ◌++◌, length, take, drop, map, refl}
use Rattle.std.proofs.Common.{ap, sym, ◌∙◌, subst, arith, append_assoc, append-nil}
use Rattle.std.specs.declared.option.Option.{Option}
use Rattle.std.specs.declared.option.Option.TheVariants.{None, Some}
use Rattle.x5_model_octets.specs.Headers.{Identifier, IsHeader, identifier_of}
use Rattle.x5_model_octets.specs.Elements.{deepest, identifier}
use Rattle.x5_model_typed.specs.Trees as trees
use Rattle.x5_model_typed.specs.Trees.{Tree, Leaf, Branch, Bare, Row, class_of, tag_of}
use Rattle.x5_model_typed.specs.Nodes.{Node, Number, Many, row}
use Rattle.x5_model_typed.specs.Named.{Named}
use Rattle.x5_model_typed.specs.Forms.{Component, Explicit, Sequence, Members, Alternative, by_tag, code, may_be_tagged, or, plain}
use Rattle.x5_model_typed.specs.Judged.{leaf_node, marked}
use Rattle.x5_model_typed.specs.Layouts.{Surroundings, layout}
use Rattle.x5_model_typed.specs.Typed as typed
use Rattle.x5_direct.specs.Spelled.{Opens, Reads, Spelled}
use Rattle.x5_direct.specs.Here.{AllHere, ContentHere, EachHere, ElementHere, OrderHere, ReadEachHere, ReadsHere, SpelledHere}
use Rattle.x5_direct.proofs.Heads.{left_is, rest_here}
use Rattle.x5_direct.proofs.Spelling.{has_tag}

header_is : (first : ℕ) (i : Identifier) (content octets rest : List ℕ) (o : Opens first content octets rest)
    → identifier_of first (first % 32) ≡ i → IsHeader i (Some (length content)) (first ∷ o.lengths)
header_is first i content octets rest o e =
    subst (λ (j : Identifier). IsHeader j (Some (length content)) (first ∷ o.lengths)) e o.is_header

not_zero : (first : ℕ) (more : List ℕ) → 0 < first → first ∷ more ≡ 0 ∷ 0 ∷ [] → ⊥
not_zero first more some e = let zero_is : first ≡ 0 = cc e in omega (arith, some, zero_is)

apart : (first : ℕ) (content octets rest : List ℕ) (o : Opens first content octets rest)
    → octets ≡ ((first ∷ o.lengths) ++ content) ++ rest
apart first content octets rest o = o.whole ∙ sym (append_assoc (first ∷ o.lengths) content rest)

-- The rest is what is left.
pub opens_taken : (first : ℕ) (content octets rest : List ℕ) (taken : ℕ) → taken ≡ length octets - length rest
    → Opens first content octets rest → Opens first content octets (drop taken octets)
opens_taken first content octets rest taken e o =
    subst (λ (l : List ℕ). Opens first content octets l)
    (left_is ((first ∷ o.lengths) ++ content) octets rest (apart first content octets rest o)
    ∙ ap (λ (k : ℕ). drop k octets) (sym e)) o

module _ (w : Surroundings) where
  -- What is spelled in all surroundings is here.
  pub here : (levels : ℕ) (form : Named) (n : Node) (octets rest : List ℕ) → Spelled levels form n octets rest
      → SpelledHere w levels form n octets rest
  here levels form n octets rest s = record {
    part = s.part;
    whole = s.whole;
    is_element = λ depth at room.
        let e = s.is_element depth at room in
        record { tree = e.tree; lies = e.lies; is_of = e.is_of w };
  }

  pub reads_here : {X : Type 0} (levels : ℕ) (form : Named) (says : Node → X) (x : X) (octets rest : List ℕ)
      → Reads levels form says x octets rest → ReadsHere w levels form says x octets rest
  reads_here levels form says x octets rest r = (r.0, here levels form r.0 octets rest r.1, r.2)

  pub higher : (levels more : ℕ) (form : Named) (n : Node) (octets rest : List ℕ) → levels ≤ more
      → SpelledHere w levels form n octets rest → SpelledHere w more form n octets rest
  higher levels more form n octets rest less s = record {
    part = s.part;
    whole = s.whole;
    is_element = λ depth at room. s.is_element depth at (omega (arith, less, room));
  }

  -- ---- one element

  pub leaf_here : (form : Named) (first class tag : ℕ) (a : Alternative) (m n : Node) (content octets rest : List ℕ)
      → Opens first content octets rest → identifier_of first (first % 32) ≡ identifier false class tag → 0 < first
      → by_tag class tag (layout w form) ≡ Some a → leaf_node a.content content ≡ Some m → a.settles m ≡ Some n
      → SpelledHere w 0 form (marked a n) octets rest
  leaf_here form first class tag a m n content octets rest o is some tagged reads settles = record {
    part = (first ∷ o.lengths) ++ content;
    whole = apart first content octets rest o;
    is_element = λ depth at room. record {
      tree = Leaf at class tag content;
      lies = (
        refl,
        record {
          deep = omega (arith, room);
          header = first ∷ o.lengths;
          is_header = header_is first (identifier false class tag) content octets rest o is;
          whole = refl;
          no_end = λ e. not_zero first (o.lengths ++ content) some e;
        },
      );
      is_of = typed.primitive a m n tagged reads settles;
    };
  }

  pub branch_here : (levels : ℕ) (form : Named) (first class tag : ℕ) (a : Alternative) (m n : Node)
      (content octets rest : List ℕ) → Opens first content octets rest
      → identifier_of first (first % 32) ≡ identifier true class tag → by_tag class tag (layout w form) ≡ Some a
      → ContentHere w levels a.content m content → a.settles m ≡ Some n
      → SpelledHere w (levels + 1) form (marked a n) octets rest
  branch_here levels form first class tag a m n content octets rest o is tagged inner settles = record {
    part = (first ∷ o.lengths) ++ content;
    whole = apart first content octets rest o;
    is_element = λ depth at room.
        let all = inner (depth + 1) (at + length (first ∷ o.lengths)) (omega (arith, room)) in
        record {
          tree = Branch at class tag all.members;
          lies = (
            refl,
            omega (arith, room),
            first ∷ o.lengths,
            content,
            all.lie,
            trees.definite (header_is first (identifier true class tag) content octets rest o is) refl,
          );
          is_of = typed.constructed a m n tagged all.hold settles;
        };
  }

  -- One element of the type.
  pub one_here : (levels : ℕ) (form : Named) (n : Node) (octets rest : List ℕ) → rest ≡ []
      → SpelledHere w levels form n octets rest → ContentHere w levels (Explicit form) n octets
  one_here levels form n octets rest over s depth at room =
      let e = s.is_element depth at room in
      record {
        members = Row e.tree Bare;
        lie = (s.part, [], e.lies, refl, s.whole ∙ ap (λ (l : List ℕ). s.part ++ l) over);
        hold = typed.one e.is_of;
      }

  -- ---- members of one type

  pub none_here : (levels : ℕ) (form : Named) → EachHere w levels form [] []
  none_here levels form depth at room = record { members = Bare; lie = refl; all_of = typed.nil }

  pub each_more_here : (levels : ℕ) (form : Named) (n : Node) (ns : List Node) (octets rest : List ℕ)
      → SpelledHere w levels form n octets rest → EachHere w levels form ns rest → EachHere w levels form (n ∷ ns) octets
  each_more_here levels form n ns octets rest s others depth at room =
      let e = s.is_element depth at room in
      let more = others depth (at + length s.part) room in
      record {
        members = Row e.tree more.members;
        lie = (s.part, rest, e.lies, more.lie, s.whole);
        all_of = typed.more e.is_of more.all_of;
      }

  pub each_in_here : (levels : ℕ) (form : Named) (ns : List Node) (octets : List ℕ) → EachHere w levels form ns octets
      → ContentHere w levels (Members form) (Many (row ns)) octets
  each_in_here levels form ns octets all depth at room =
      let e = all depth at room in
      record { members = e.members; lie = e.lie; hold = typed.each e.all_of }

  -- ---- components in their order

  pub over_here : (levels : ℕ) → OrderHere w levels [] [] []
  over_here levels depth at room = record { members = Bare; lie = refl; in_order = typed.over }

  pub next_here : (levels : ℕ) (form : Named) (cs : List Component) (n : Node) (ns : List Node) (octets rest : List ℕ)
      → SpelledHere w levels form n octets rest → OrderHere w levels cs ns rest
      → OrderHere w levels (plain form ∷ cs) (n ∷ ns) octets
  next_here levels form cs n ns octets rest s others depth at room =
      let e = s.is_element depth at room in
      let more = others depth (at + length s.part) room in
      record {
        members = Row e.tree more.members;
        lie = (s.part, rest, e.lies, more.lie, s.whole);
        in_order = typed.next (has_tag (layout w) (layout w form) e.tree n e.is_of) e.is_of typed.required more.in_order;
      }

  -- A component that might be missing, and one that is.
  pub given_here : (levels : ℕ) (form : Named) (d : Node) (cs : List Component) (n : Node) (ns : List Node)
      (octets rest : List ℕ) → SpelledHere w levels form n octets rest → OrderHere w levels cs ns rest
      → OrderHere w levels (or d (plain form) ∷ cs) (n ∷ ns) octets
  given_here levels form d cs n ns octets rest s others depth at room =
      let e = s.is_element depth at room in
      let more = others depth (at + length s.part) room in
      record {
        members = Row e.tree more.members;
        lie = (s.part, rest, e.lies, more.lie, s.whole);
        in_order = typed.next (has_tag (layout w) (layout w form) e.tree n e.is_of) e.is_of typed.default more.in_order;
      }

  pub last_missing_here : (levels : ℕ) (form : Named) (d : Node) → OrderHere w levels (or d (plain form) ∷ []) (d ∷ []) []
  last_missing_here levels form d depth at room =
      record { members = Bare; lie = refl; in_order = typed.passed d refl tt typed.over }

  -- A code, and what it names.
  pub code_here : (levels : ℕ) (form : Named) (names : ℤ → Option Named) (k : ℤ) (said : Named) (n : Node)
      (octets behind rest : List ℕ) → names k ≡ Some said → SpelledHere w levels form (Number k) octets behind
      → rest ≡ [] → SpelledHere w levels said n behind rest
      → OrderHere w levels (code form names ∷ []) (Number k ∷ n ∷ []) octets
  code_here levels form names k said n octets behind rest is s over inner depth at room =
      let e = s.is_element depth at room in
      let last = subst (λ (l : List ℕ). SpelledHere w levels said n behind l) over inner in
      let more = next_here levels said [] n [] behind [] last (over_here levels) depth (at + length s.part) room in
      record {
        members = Row e.tree more.members;
        lie = (s.part, behind, e.lies, more.lie, s.whole);
        in_order = typed.next (has_tag (layout w) (layout w form) e.tree (Number k) e.is_of) e.is_of
            (typed.named k said refl is) more.in_order;
      }

  pub order_in_here : (levels : ℕ) (cs : List Component) (ns : List Node) (octets : List ℕ) → OrderHere w levels cs ns octets
      → ContentHere w levels (Sequence cs) (Many (row ns)) octets
  order_in_here levels cs ns octets all depth at room =
      let e = all depth at room in
      record { members = e.members; lie = e.lie; hold = typed.in_order e.in_order }

  -- ---- what is said of members of one type

  abbrev pub GoesHere : {X : Type 0} → ℕ → Named → (Node → X) → List ℕ → List X → List ℕ → Type 0
  GoesHere {X = X} levels form says octets done left =
      (more : List X) → ReadEachHere w levels form says more left → ReadEachHere w levels form says (done ++ more) octets

  pub one_more_here : {X : Type 0} (levels : ℕ) (form : Named) (says : Node → X) (octets left : List ℕ) (done : List X)
      (x : X) (taken : ℕ) (now : List X) → now ≡ done ++ x ∷ [] → GoesHere levels form says octets done left
      → ReadsHere w levels form says x left (drop taken left)
      → GoesHere levels form says octets now (take (length left - taken) (drop taken left))
  one_more_here levels form says octets left done x taken now e g r =
      subst (λ (l : List ℕ). GoesHere levels form says octets now l) (sym (rest_here left taken))
      (subst (λ xs. GoesHere levels form says octets xs (drop taken left)) (sym e)
      (λ more others.
      subst (λ xs. ReadEachHere w levels form says xs octets) (sym (append_assoc done (x ∷ []) more))
      (g (x ∷ more) (
        r.0 ∷ others.0,
        each_more_here levels form r.0 others.0 left (drop taken left) r.1 others.1,
        ap (λ y. y ∷ more) r.2 ∙ ap (λ ys. says r.0 ∷ ys) others.2,
      ))))

  pub all_done_here : {X : Type 0} (levels : ℕ) (form : Named) (says : Node → X) (octets left : List ℕ) (done : List X)
      → GoesHere levels form says octets done left → left ≡ [] → ReadEachHere w levels form says done octets
  all_done_here levels form says octets left done g e =
      subst (λ xs. ReadEachHere w levels form says xs octets) (append-nil done)
      (g [] (subst (λ (o : List ℕ). ReadEachHere w levels form says [] o) (sym e) ([], none_here levels form, refl)))

  -- ---- how many octets are taken

  pub spelled_taken_here : (levels : ℕ) (form : Named) (n : Node) (octets rest : List ℕ) (taken : ℕ)
      → taken ≡ length octets - length rest → SpelledHere w levels form n octets rest
      → SpelledHere w levels form n octets (drop taken octets)
  spelled_taken_here levels form n octets rest taken e s =
      subst (λ (l : List ℕ). SpelledHere w levels form n octets l)
      (left_is s.part octets rest s.whole ∙ ap (λ (k : ℕ). drop k octets) (sym e)) s

  pub taken_here : {X : Type 0} (levels : ℕ) (form : Named) (says : Node → X) (x : X) (octets rest : List ℕ) (taken : ℕ)
      → taken ≡ length octets - length rest → ReadsHere w levels form says x octets rest
      → ReadsHere w levels form says x octets (drop taken octets)
  taken_here levels form says x octets rest taken e r =
      (r.0, spelled_taken_here levels form r.0 octets rest taken e r.1, r.2)
