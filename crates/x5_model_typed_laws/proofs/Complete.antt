-- Wherever an element is a value of a type, reading by type comes to that value.
use Rattle.std.proofs.Common.{◌≡◌, ℕ, ◌+◌, Bool, true, false, ◌&&◌, List, [], ◌∷◌, ◌++◌, length, map, take, drop, refl, ap, ap₂, sym, ◌∙◌, arith, append_assoc, append-nil, inl, inr}
use Rattle.std.specs.Prelude.{if◌then◌else◌}
use Rattle.std.proofs.Math.Seq.{take-append_seam, drop-append_seam}
use Rattle.std.proofs.lemmas.List.{map-append}
use Rattle.std.proofs.lemmas.List.Folds.{list_all-append}
use Rattle.std.specs.List.{list_all}
use Rattle.std.specs.declared.option.Option.{Option}
use Rattle.std.specs.declared.option.Option.TheVariants.{None, Some}
use Rattle.std.specs.declared.result.Result.{Result}
use Rattle.std.specs.declared.result.Result.TheVariants.{Ok}
use Rattle.x5_model.specs.Words.{in_option}
use Rattle.x5_model_typed.specs.Trees.{Tree, Trees, Leaf, Branch, Bare, Row, place_of, class_of, tag_of}
use Rattle.x5_model_typed.specs.Nodes.{Node, Nodes, Many, list, row}
use Rattle.x5_model_typed.specs.Named.{Named}
use Rattle.x5_model_typed.specs.Forms.{Layout, Presence, Required, Default, Code, Alternative, Component, Content, Explicit, by_tag, alternatives, is_component}
use Rattle.x5_model_octets.specs.Breaches.{Breach}
use Rattle.x5_model_typed.specs.Judged.{State, Awaited, Next, InPlace, judged, judged_all, judged_member, and_then, wrong_tag, or_wrong, stepped, settled, ended, begun, marked, leaf_node, sequence_awaits, unless_required, in_place, behind_code, left_behind, default_of, may_be_missing, some_many}
use Rattle.x5_model_typed.specs.Typed as typed
use Rattle.x5_model_typed.specs.Typed.{IsOf, Holds, AllOf, InOrder, InAnyOrder, Goes, IsPassed}
use Rattle.x5_model_typed.proofs.Laws.{Skipped, in_sequence, default_is}
use Rattle.x5_model_typed.proofs.Soundness.{row_list, among_members}
use Rattle.x5_model_typed_laws.proofs.Strings.{segments_judged, bit_segments_judged}
use Rattle.x5_model_typed_laws.proofs.Sets.{Filling, set_judged}

-- ---- the rule of the whole

settled_so : (at : ℕ) (a : Alternative) (m n : Node) → a.settles m ≡ Some n → settled at a (Some m) ≡ Ok (marked a n)
settled_so at a m n h = ap (λ (o : Option Node). or_wrong at (in_option None (λ k. Some (marked a k)) o)) h

-- What a content comes to.
record ComesTo (layout : Layout) (c : Content) (at : ℕ) (ts : Trees) (m : Node) : Type 0 where
  state : State
  judged_so : judged_all layout (begun at c) ts ≡ Ok state
  over : ended state ≡ Some m

leaf_so : (layout : Layout) (types : List Alternative) (at class tag : ℕ) (octets : List ℕ) (a : Alternative)
    (m n : Node)
    → by_tag class tag types ≡ Some a → leaf_node a.content octets ≡ Some m → a.settles m ≡ Some n
    → judged layout types (Leaf at class tag octets) ≡ Ok (marked a n)
leaf_so layout types at class tag octets a m n is content rule =
    ap (λ (o : Option Alternative). in_option (wrong_tag at) (λ b. settled at b (leaf_node b.content octets)) o) is
    ∙ ap (λ (o : Option Node). settled at a o) content ∙ settled_so at a m n rule

branch_so : (layout : Layout) (types : List Alternative) (at class tag : ℕ) (ts : Trees) (a : Alternative)
    (m n : Node)
    → by_tag class tag types ≡ Some a → ComesTo layout a.content at ts m → a.settles m ≡ Some n
    → judged layout types (Branch at class tag ts) ≡ Ok (marked a n)
branch_so layout types at class tag ts a m n is content rule =
    ap
    (λ (o : Option Alternative). in_option (wrong_tag at)
    (λ b. and_then (λ s. settled at b (ended s)) (judged_all layout (begun at b.content) ts)) o) is
    ∙ ap (λ (r : Result State Breach). and_then (λ s. settled at a (ended s)) r) content.judged_so
    ∙ ap (λ (o : Option Node). settled at a o) content.over ∙ settled_so at a m n rule

-- ---- SEQUENCE

sequence_awaited : (layout : Layout) (at class tag i : ℕ) (passed rest : List Component) (c : Component)
    → Skipped layout class tag passed → is_component layout class tag c ≡ true
    → sequence_awaits layout at class tag i (passed ++ (c ∷ rest)) ≡ Ok (record { types = alternatives layout c; step = InPlace (i + length passed) })
sequence_awaited layout at class tag i [] rest c s is =
    let e : i ≡ i + 0 = omega arith in
    ap
    (λ (b : Bool). if b then Ok
    (record { types = alternatives layout c; step = InPlace i }) else unless_required c.presence
    (sequence_awaits layout at class tag (i + 1) rest) at) is
    ∙ ap (λ (k : ℕ). Ok (record { types = alternatives layout c; step = InPlace k })) e
sequence_awaited layout at class tag i (b ∷ passed) rest c s is =
    let e : i + 1 + length passed ≡ i + length (b ∷ passed) = omega arith in
    let others = sequence_awaits layout at class tag (i + 1) (passed ++ (c ∷ rest)) in
    ap
    (λ (x : Bool). if x then Ok
    (record { types = alternatives layout b; step = InPlace i }) else unless_required b.presence others at) s.1
    ∙ ap (λ (p : Presence). unless_required p others at) s.0.1
    ∙ sequence_awaited layout at class tag (i + 1) passed rest c s.2 is
    ∙ ap (λ (k : ℕ). Ok (record { types = alternatives layout c; step = InPlace k })) e

left_so : (p : Presence) (n : Node) (cs rest : List Component) (at : ℕ) → Goes cs n p rest
    → left_behind p n cs at ≡ Ok rest
left_so Required n cs rest at typed.required = refl
left_so (Default d) n cs rest at typed.default = refl
left_so (Code names) n cs rest at (typed.named k form e h) =
    ap (λ (m : Node). left_behind (Code names) m cs at) e ∙ ap (λ (o : Option Named). behind_code o k) h

-- one member of a SEQUENCE, behind components that may be missing
sequence_member : (layout : Layout) (at : ℕ) (cs passed rest later : List Component) (c : Component)
    (before : List Node) (last : ℕ) (t : Tree) (n : Node)
    → Skipped layout (class_of t) (tag_of t) passed
    → is_component layout (class_of t) (tag_of t) c ≡ true → judged layout (alternatives layout c) t ≡ Ok n
    → Goes rest n c.presence later
    → judged_member layout (in_sequence at cs (passed ++ (c ∷ rest)) before [] last) t ≡ Ok (in_sequence at cs later (before ++ (map default_of passed ++ (n ∷ []))) [] (place_of t))
sequence_member layout at cs passed rest later c before last t n s is h g =
    let start : State = in_sequence at cs (passed ++ (c ∷ rest)) before [] last in
    let i : 0 + length passed ≡ length passed = omega arith in
    let cut : take (0 + length passed) (passed ++ (c ∷ rest)) ≡ passed =
    ap (λ (k : ℕ). take k (passed ++ (c ∷ rest))) i ∙ take-append_seam passed (c ∷ rest) in
    let others : drop (0 + length passed) (passed ++ (c ∷ rest)) ≡ c ∷ rest =
    ap (λ (k : ℕ). drop k (passed ++ (c ∷ rest))) i ∙ drop-append_seam passed (c ∷ rest) in
    ap
    (λ (r : Result Awaited Breach). and_then (λ (a : Awaited). and_then (stepped start (place_of t) a.step) (judged layout a.types t)) r)
    (sequence_awaited layout (place_of t) (class_of t) (tag_of t) 0 passed rest c s is)
    ∙ ap (λ (r : Result Node Breach). and_then (stepped start (place_of t) (InPlace (0 + length passed))) r) h
    ∙ ap₂ (λ (l m : List Component). in_place start (place_of t) l m n) cut others
    ∙ ap
    (λ (r : Result (List Component) Breach). and_then (λ left. Ok (record start { left = left; nodes = before ++ (map default_of passed ++ (n ∷ [])); last = place_of t })) r)
    (left_so c.presence n rest later (place_of t) g)

-- components that may be missing, and that the next member isn't
abbrev IsSkipped : Layout → List Component → Trees → Type 0
IsSkipped layout passed Bare = list_all may_be_missing passed ≡ true
IsSkipped layout passed (Row t ts) = Skipped layout (class_of t) (tag_of t) passed

one_missing : (c : Component) (d : Node) → c.presence ≡ Default d → may_be_missing c ≡ true
one_missing c d h = rw h refl

more_skipped : (layout : Layout) (class tag : ℕ) (passed : List Component) (c : Component) (d : Node)
    → Skipped layout class tag passed → c.presence ≡ Default d → is_component layout class tag c ≡ false
    → Skipped layout class tag (passed ++ (c ∷ []))
more_skipped layout class tag [] c d s p is = ((d, p), is, tt)
more_skipped layout class tag (b ∷ passed) c d s p is = (s.0, s.1, more_skipped layout class tag passed c d s.2 p is)

skipped_more : (layout : Layout) (passed : List Component) (c : Component) (d : Node) (ts : Trees)
    → IsSkipped layout passed ts → c.presence ≡ Default d → IsPassed layout c ts
    → IsSkipped layout (passed ++ (c ∷ [])) ts
skipped_more layout passed c d Bare s p is =
    list_all-append may_be_missing passed (c ∷ []) ∙ ap₂ (λ (x y : Bool). x && (y && true)) s (one_missing c d p)
skipped_more layout passed c d (Row t ts) s p is = more_skipped layout (class_of t) (tag_of t) passed c d s p is

none_skipped : (layout : Layout) (ts : Trees) → IsSkipped layout [] ts
none_skipped layout Bare = refl
none_skipped layout (Row t ts) = tt

record SequenceRead (layout : Layout) (at : ℕ) (cs left : List Component) (before : List Node) (last : ℕ)
    (ts : Trees) (total : List Node) : Type 0 where
  later : List Component
  nodes : List Node
  end : ℕ
  judged_so : judged_all layout (in_sequence at cs left before [] last) ts ≡ Ok (in_sequence at cs later nodes [] end)
  missing : list_all may_be_missing later ≡ true
  all : nodes ++ map default_of later ≡ total

-- ---- SEQUENCE OF and SET OF

record MembersRead (layout : Layout) (at : ℕ) (form : Named) (before : List Node) (last : ℕ) (ts : Trees)
    (total : List Node) : Type 0 where
  end : ℕ
  judged_so : judged_all layout (among_members at form [] before [] last) ts ≡ Ok (among_members at form [] total [] end)

some_row : (b : Bool) (ns : List Node) → b ≡ true → some_many b ns ≡ Some (Many (row ns))
some_row true ns h = refl
some_row false ns h = absurd (cc h)

mutual
  pub judged_so : (layout : Layout) (types : List Alternative) (t : Tree) (n : Node) → IsOf layout types t n
      → judged layout types t ≡ Ok n
  judged_so layout types (Leaf at class tag octets) n (typed.primitive a m k is content rule) =
      leaf_so layout types at class tag octets a m k is content rule
  judged_so layout types (Branch at class tag ts) n (typed.constructed a m k is holds rule) =
      branch_so layout types at class tag ts a m k is (content_so layout a.content ts m holds at) rule

  content_so : (layout : Layout) (c : Content) (ts : Trees) (m : Node) → Holds layout c ts m → (at : ℕ)
      → ComesTo layout c at ts m
  content_so layout c ts m (typed.one {form = form} {t = t} h) at =
      let start : State = begun at (Explicit form) in
      record {
        state = record start { nodes = m ∷ []; last = place_of t };
        judged_so =
            ap
            (λ (r : Result Node Breach). and_then (λ later. judged_all layout later Bare) (and_then (stepped start (place_of t) Next) r))
            (judged_so layout (layout form) t m h);
        over = refl;
      }
  content_so layout c ts m (typed.in_order {cs = cs} {ns = ns} h) at =
      let r = in_order_so layout cs ts ns h at cs [] [] at (none_skipped layout ts) in
      record {
        state = in_sequence at cs r.later r.nodes [] r.end;
        judged_so = r.judged_so;
        over =
            some_row (list_all may_be_missing r.later) (r.nodes ++ map default_of r.later) r.missing
            ∙ ap (λ (l : List Node). Some (Many (row l))) r.all ∙ ap (λ (l : Nodes). Some (Many l)) (row_list ns);
      }
  content_so layout c ts m (typed.in_any_order {cs = cs} {ns = ns} h) at =
      let r = set_judged layout at cs (map (λ b. None) cs) at ts (list ns) (any_order_so layout cs ts ns h) in
      record {
        state = _;
        judged_so = r.judged_so;
        over =
            some_row _ _ r.complete ∙ ap (λ (l : List Node). Some (Many (row l))) r.nodes
            ∙ ap (λ (l : Nodes). Some (Many l)) (row_list ns);
      }
  content_so layout c ts m (typed.each {form = form} {ns = ns} h) at =
      let r = all_so layout form (layout form) ts ns h refl at [] at in
      record {
        state = among_members at form [] (list ns) [] r.end;
        judged_so = r.judged_so;
        over = ap (λ (l : Nodes). Some (Many l)) (row_list ns);
      }
  content_so layout c ts m (typed.string octets leaf h e) at =
      let r = segments_judged layout at leaf [] at ts octets h in
      record { state = _; judged_so = r.judged_so; over = ap leaf.reads r.joined_so ∙ e }
  content_so layout c ts m (typed.bit_string bits leaf h e) at =
      let r = bit_segments_judged layout at leaf [] at ts bits refl h in
      record { state = _; judged_so = r.judged_so; over = ap leaf.reads r.joined_so ∙ e }

  all_so : (layout : Layout) (form : Named) (types : List Alternative) (ts : Trees) (ns : Nodes)
      → AllOf layout types ts ns → types ≡ layout form → (at : ℕ) (before : List Node) (last : ℕ)
      → MembersRead layout at form before last ts (before ++ list ns)
  all_so layout form types ts ns typed.nil same at before last =
      record {
        end = last;
        judged_so = ap (λ (l : List Node). Ok (among_members at form [] l [] last))
            (sym (append-nil before));
      }
  all_so layout form types ts ns (typed.more {t = t} {ts = us} {n = n} {ns = ms} h hs) same at before last =
      let start : State = among_members at form [] before [] last in
      let first : judged layout (layout form) t ≡ Ok n =
      ap (λ (l : List Alternative). judged layout l t) (sym same) ∙ judged_so layout types t n h in
      let rest = all_so layout form types us ms hs same at (before ++ (n ∷ [])) (place_of t) in
      record {
        end = rest.end;
        judged_so =
            ap
            (λ (r : Result Node Breach). and_then (λ later. judged_all layout later us)
            (and_then (stepped start (place_of t) Next) r)) first
            ∙ rest.judged_so
            ∙ ap (λ (l : List Node). Ok (among_members at form [] l [] rest.end))
            (append_assoc before (n ∷ []) (list ms));
      }

  in_order_so : (layout : Layout) (left : List Component) (ts : Trees) (ns : Nodes) → InOrder layout left ts ns
      → (at : ℕ) (cs passed : List Component) (before : List Node) (last : ℕ) → IsSkipped layout passed ts
      → SequenceRead layout at cs (passed ++ left) before last ts (before ++ (map default_of passed ++ list ns))
  in_order_so layout left ts ns typed.over at cs passed before last s = record {
    later = passed ++ [];
    nodes = before;
    end = last;
    judged_so = refl;
    missing = ap (λ (l : List Component). list_all may_be_missing l) (append-nil passed) ∙ s;
    all = ap (λ (l : List Node). before ++ l) (map-append default_of passed []);
  }
  in_order_so layout left ts ns
      (typed.next {c = c} {cs = others} {rest = rest} {t = t} {ts = us} {n = n} {ns = ms} is h g hs) at cs passed before last s =
      let r =
      in_order_so layout rest us ms hs at cs [] (before ++ (map default_of passed ++ (n ∷ []))) (place_of t)
      (none_skipped layout us) in
      record {
        later = r.later;
        nodes = r.nodes;
        end = r.end;
        judged_so =
            ap (λ (q : Result State Breach). and_then (λ later. judged_all layout later us) q)
            (sequence_member layout at cs passed others rest c before last t n s is
            (judged_so layout (alternatives layout c) t n h) g)
            ∙ r.judged_so;
        missing = r.missing;
        all =
            r.all ∙ append_assoc before (map default_of passed ++ (n ∷ [])) (list ms)
            ∙ ap (λ (l : List Node). before ++ l) (append_assoc (map default_of passed) (n ∷ []) (list ms));
      }
  in_order_so layout left ts ns
      (typed.passed {c = c} {cs = others} {ns = ms} d p absent hs) at cs passed before last s =
      let r =
      in_order_so layout others ts ms hs at cs (passed ++ (c ∷ [])) before last
      (skipped_more layout passed c d ts s p absent) in
      let sum : before ++ (map default_of (passed ++ (c ∷ [])) ++ list ms)
      ≡ before ++ (map default_of passed ++ (d ∷ list ms)) =
      ap (λ (l : List Node). before ++ l)
      (ap (λ (l : List Node). l ++ list ms) (map-append default_of passed (c ∷ []))
      ∙ append_assoc (map default_of passed) (default_of c ∷ []) (list ms)
      ∙ ap (λ (x : Node). map default_of passed ++ (x ∷ list ms)) (default_is c d p)) in
      record {
        later = r.later;
        nodes = r.nodes;
        end = r.end;
        judged_so =
            ap (λ (l : List Component). judged_all layout (in_sequence at cs l before [] last) ts)
            (sym (append_assoc passed (c ∷ []) others))
            ∙ r.judged_so;
        missing = r.missing;
        all = r.all ∙ sum;
      }

  any_order_so : (layout : Layout) (cs : List Component) (ts : Trees) (ns : Nodes) → InAnyOrder layout cs ts ns
      → Filling layout cs (map (λ c. None) cs) ts (list ns)
  any_order_so layout cs ts ns typed.complete = (refl, refl)
  any_order_so layout cs ts ns
      (typed.given {c = c} {cs = others} {t = t} {rest = rest} {n = n} {ns = ms} a is absent h hs) =
      let here = judged_so layout (alternatives layout c) t n h in
      inl (t, rest, n, list ms, a, is, absent, here, refl, any_order_so layout others rest ms hs)
  any_order_so layout cs ts ns (typed.missing {c = c} {cs = others} {ns = ms} d p gone hs) =
      inr (d, list ms, p, gone, refl, any_order_so layout others ts ms hs)
