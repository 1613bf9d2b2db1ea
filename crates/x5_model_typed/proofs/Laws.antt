-- What is judged a value is one: the step for SEQUENCE OF and SET OF.
use Rattle.std.proofs.Common.{◌≡◌, ℕ, ◌+◌, Bool, true, false, List, [], ◌∷◌, ◌++◌, length, map, take, drop, refl, ap, sym, ◌∙◌, subst, append_assoc, append-nil, arith}
use Rattle.std.specs.Prelude.{ℤ, if◌then◌else◌}
use Rattle.std.specs.List.{list_all}
use Rattle.std.proofs.Math.Seq.{take-append_seam, drop-append_seam}
use Rattle.std.specs.declared.option.Option.{Option}
use Rattle.std.specs.declared.option.Option.TheVariants.{None, Some}
use Rattle.std.specs.declared.result.Result.{Result}
use Rattle.std.specs.declared.result.Result.TheVariants.{Ok, Err}
use Rattle.x5_model_typed.specs.Trees.{Tree, Trees, Bare, Row, place_of, class_of, tag_of}
use Rattle.x5_model_typed.specs.Nodes as nodes
use Rattle.x5_model_typed.specs.Nodes.{Node, Nodes, Number, Many, list, row, both}
use Rattle.x5_model_typed.specs.Named.{Named}
use Rattle.x5_model_typed.specs.Forms.{Layout, Presence, Required, Default, Code, Alternative, Members, Sequence, Component, plain, alternatives, is_component}
use Rattle.x5_model_octets.specs.Breaches.{Breach}
use Rattle.x5_model_typed.specs.Judged.{State, Awaited, Next, InPlace, judged, judged_all, judged_member, and_then, awaits, stepped, Step, sequence_awaits, unless_required, in_place, behind_code, left_behind, default_of, may_be_missing}
use Rattle.x5_model_typed.specs.Typed as typed
use Rattle.x5_model_typed.specs.Typed.{IsOf, AllOf, InOrder, Goes}

-- What comes through came from something.
pub came : {X Y : Type 0} (f : X → Result Y Breach) (e : Result X Breach) (y : Y) → and_then f e ≡ Ok y → (x : X) × (e ≡ Ok x) × (f x ≡ Ok y)
came f (Ok x) y h = (x, refl, h)
came f (Err b) y h = absurd (cc h)

-- What the members are judged to be, they are.
abbrev pub AreSound : Layout → Trees → Type 0
AreSound layout Bare = Unit {0}
AreSound layout (Row t ts) = ((types : List Alternative) (n : Node) → judged layout types t ≡ Ok n → IsOf layout types t n) × AreSound layout ts

-- Every member, one after the other.
pub each_is : (layout : Layout) (form : Named) (at : ℕ) (before : List Node) (left : List Component) (slots : List _) (last : ℕ) (ts : Trees) (s : State)
    → AreSound layout ts
    → judged_all layout (record { at = at; content = Members form; left = left; nodes = before; slots = slots; last = last }) ts ≡ Ok s
    → (ms : Nodes) × (s.nodes ≡ before ++ list ms) × AllOf layout (layout form) ts ms
each_is layout form at before left slots last Bare s sound e =
    let same : record { at = at; content = Members form; left = left; nodes = before; slots = slots; last = last } ≡ s = cc e in
    (nodes.Nil, ap (λ (q : State). q.nodes) (sym same) ∙ sym (append-nil before), typed.nil)
each_is layout form at before left slots last (Row t ts) s sound e =
    let start : State = record { at = at; content = Members form; left = left; nodes = before; slots = slots; last = last } in
    let member = came (λ later. judged_all layout later ts) (judged_member layout start t) s e in
    let node = came (λ n. stepped start (place_of t) Next n) (judged layout (layout form) t) member.0 member.1 in
    let there : State = record { at = at; content = Members form; left = left; nodes = before ++ (node.0 ∷ []); slots = slots; last = place_of t } in
    let stands : there ≡ member.0 = cc node.2 in
    let rest = each_is layout form at (before ++ (node.0 ∷ [])) left slots (place_of t) ts s sound.1 (ap (λ (q : State). judged_all layout q ts) stands ∙ member.2) in
    (nodes.More node.0 rest.0, rest.1 ∙ append_assoc before (node.0 ∷ []) (list rest.0), typed.more (sound.0 (layout form) node.0 node.1) rest.2)

-- ---- SEQUENCE

abbrev pub Skipped : Layout → ℕ → ℕ → List Component → Type 0
Skipped layout class tag [] = Unit {0}
Skipped layout class tag (c ∷ cs) = ((d : Node) × (c.presence ≡ Default d)) × (is_component layout class tag c ≡ false) × Skipped layout class tag cs

-- The component that has the tag, behind those that may be missing.
pub record Found (layout : Layout) (class tag i : ℕ) (cs : List Component) (a : Awaited) : Type 0 where
  pub passed : List Component
  pub c : Component
  pub rest : List Component
  pub whole : cs ≡ passed ++ (c ∷ rest)
  pub skipped : Skipped layout class tag passed
  pub is : is_component layout class tag c ≡ true
  pub types : a.types ≡ alternatives layout c
  pub step : a.step ≡ InPlace (i + length passed)

pub found_by : (layout : Layout) (at class tag i : ℕ) (c : Component) (cs : List Component) (a : Awaited) (b : Bool) (p : Presence)
    → is_component layout class tag c ≡ b → c.presence ≡ p
    → (sequence_awaits layout at class tag (i + 1) cs ≡ Ok a → Found layout class tag (i + 1) cs a)
    → (if b then Ok (record { types = alternatives layout c; step = InPlace i }) else unless_required p (sequence_awaits layout at class tag (i + 1) cs) at) ≡ Ok a
    → Found layout class tag i (c ∷ cs) a
found_by layout at class tag i c cs a true p is presence more e =
    let same : record { types = alternatives layout c; step = InPlace i } ≡ a = cc e in
    let zero_more : i + 0 ≡ i = omega arith in
    record {
      passed = [];
      c = c;
      rest = cs;
      whole = refl;
      skipped = tt;
      is = is;
      types = ap (λ (q : Awaited). q.types) (sym same);
      step = ap (λ (q : Awaited). q.step) (sym same) ∙ ap (λ (k : ℕ). InPlace k) (sym zero_more);
    }
found_by layout at class tag i c cs a false (Default d) is presence more e =
    let f = more e in
    let sum : i + 1 + length f.passed ≡ i + length (c ∷ f.passed) = omega arith in
    record {
      passed = c ∷ f.passed;
      c = f.c;
      rest = f.rest;
      whole = ap (λ (l : List Component). c ∷ l) f.whole;
      skipped = ((d, presence), is, f.skipped);
      is = f.is;
      types = f.types;
      step = f.step ∙ ap (λ (k : ℕ). InPlace k) sum;
    }
found_by layout at class tag i c cs a false Required is presence more e = absurd (cc e)
found_by layout at class tag i c cs a false (Code names) is presence more e = absurd (cc e)

pub found : (layout : Layout) (at class tag i : ℕ) (cs : List Component) (a : Awaited) → sequence_awaits layout at class tag i cs ≡ Ok a → Found layout class tag i cs a
found layout at class tag i [] a e = absurd (cc e)
found layout at class tag i (c ∷ cs) a e = found_by layout at class tag i c cs a (is_component layout class tag c) c.presence refl refl (found layout at class tag (i + 1) cs a) e

-- The components behind one.
pub named_goes : (names : ℤ → Option Named) (o : Option Named) (k : ℤ) (cs left : List Component) → names k ≡ o → behind_code o k ≡ Ok left → Goes cs (Number k) (Code names) left
named_goes names None k cs left is e = absurd (cc e)
named_goes names (Some form) k cs left is e =
    let same : plain form ∷ [] ≡ left = cc e in subst (λ (l : List Component). Goes cs (Number k) (Code names) l) same (typed.named k form refl is)

pub goes : (p : Presence) (n : Node) (cs left : List Component) (at : ℕ) → left_behind p n cs at ≡ Ok left → Goes cs n p left
goes Required n cs left at e = let same : cs ≡ left = cc e in subst (λ (l : List Component). Goes cs n Required l) same typed.required
goes (Default d) n cs left at e = let same : cs ≡ left = cc e in subst (λ (l : List Component). Goes cs n (Default d) l) same typed.default
goes (Code names) (Number k) cs left at e = named_goes names (names k) k cs left refl e
goes (Code names) n cs left at e = absurd (cc e)

pub list_row : (ns : List Node) → list (row ns) ≡ ns
list_row [] = refl
list_row (n ∷ ns) = ap (λ (l : List Node). n ∷ l) (list_row ns)

pub both_list : (ns : List Node) (ms : Nodes) → list (both (row ns) ms) ≡ ns ++ list ms
both_list [] ms = refl
both_list (n ∷ ns) ms = ap (λ (l : List Node). n ∷ l) (both_list ns ms)

pub default_is : (c : Component) (d : Node) → c.presence ≡ Default d → default_of c ≡ d
default_is c d e = rw e refl

-- Components that may be missing before the one that stands there.
pub skip : (layout : Layout) (passed cs : List Component) (t : Tree) (ts : Trees) (ns : Nodes) → Skipped layout (class_of t) (tag_of t) passed → InOrder layout cs (Row t ts) ns
    → InOrder layout (passed ++ cs) (Row t ts) (both (row (map default_of passed)) ns)
skip layout [] cs t ts ns s o = o
skip layout (c ∷ passed) cs t ts ns s o =
    subst (λ (n : Node). InOrder layout (c ∷ (passed ++ cs)) (Row t ts) (nodes.More n (both (row (map default_of passed)) ns))) (sym (default_is c s.0.0 s.0.1))
    (typed.passed s.0.0 s.0.1 s.1 (skip layout passed cs t ts ns s.2 o))

-- All that are left may be missing.
pub missing_by : (layout : Layout) (c : Component) (cs : List Component) (p : Presence) → c.presence ≡ p → (list_all may_be_missing cs ≡ true → InOrder layout cs Bare (row (map default_of cs)))
    → list_all may_be_missing (c ∷ cs) ≡ true → InOrder layout (c ∷ cs) Bare (row (map default_of (c ∷ cs)))
missing_by layout c cs (Default d) is more e =
    let rest : list_all may_be_missing cs ≡ true = (let f : may_be_missing c ≡ true = rw is refl in cc (f, e)) in
    subst (λ (n : Node). InOrder layout (c ∷ cs) Bare (nodes.More n (row (map default_of cs)))) (sym (default_is c d is)) (typed.passed d is tt (more rest))
missing_by layout c cs Required is more e = let f : may_be_missing c ≡ false = rw is refl in absurd (cc (f, e))
missing_by layout c cs (Code names) is more e = let f : may_be_missing c ≡ false = rw is refl in absurd (cc (f, e))

pub all_missing : (layout : Layout) (cs : List Component) → list_all may_be_missing cs ≡ true → InOrder layout cs Bare (row (map default_of cs))
all_missing layout [] e = typed.over
all_missing layout (c ∷ cs) e = missing_by layout c cs c.presence refl (all_missing layout cs) e

abbrev pub in_sequence : ℕ → List Component → List Component → List Node → List (Option Node) → ℕ → State
in_sequence at cs left nodes slots last = record { at = at; content = Sequence cs; left = left; nodes = nodes; slots = slots; last = last }

-- One member of a SEQUENCE: the component that it is, its value, and how reading goes on.
pub record Stood (layout : Layout) (at : ℕ) (cs left : List Component) (before : List Node) (slots : List (Option Node)) (t : Tree) (ts : Trees) (s : State) : Type 0 where
  pub passed : List Component
  pub c : Component
  pub rest : List Component
  pub whole : left ≡ passed ++ (c ∷ rest)
  pub skipped : Skipped layout (class_of t) (tag_of t) passed
  pub is : is_component layout (class_of t) (tag_of t) c ≡ true
  pub n : Node
  pub judged_so : judged layout (alternatives layout c) t ≡ Ok n
  pub later : List Component
  pub goes_on : Goes rest n c.presence later
  pub others : judged_all layout (in_sequence at cs later (before ++ (map default_of passed ++ (n ∷ []))) slots (place_of t)) ts ≡ Ok s

pub taken : (passed rest : List Component) (c : Component) (left : List Component) → left ≡ passed ++ (c ∷ rest) → (take (length passed) left ≡ passed) × (drop (length passed) left ≡ c ∷ rest)
taken passed rest c left whole =
    (ap (λ (l : List Component). take (length passed) l) whole ∙ take-append_seam passed (c ∷ rest), ap (λ (l : List Component). drop (length passed) l) whole ∙ drop-append_seam passed (c ∷ rest))

pub placed : (s u : State) (at : ℕ) (passed rest : List Component) (c : Component) (n : Node) → s.left ≡ passed ++ (c ∷ rest) → stepped s at (InPlace (0 + length passed)) n ≡ Ok u → in_place s at passed (c ∷ rest) n ≡ Ok u
placed s u at passed rest c n whole e =
    let i : 0 + length passed ≡ length passed = omega arith in
    let cut = taken passed rest c s.left whole in
    ap (λ (l : List Component). in_place s at passed l n) (sym cut.1) ∙ ap (λ (l : List Component). in_place s at l (drop (length passed) s.left) n) (sym cut.0)
    ∙ ap (λ (k : ℕ). stepped s at (InPlace k) n) (sym i) ∙ e

pub stood : (layout : Layout) (at : ℕ) (cs left : List Component) (before : List Node) (slots : List (Option Node)) (last : ℕ) (t : Tree) (ts : Trees) (s : State)
    → judged_all layout (in_sequence at cs left before slots last) (Row t ts) ≡ Ok s → Stood layout at cs left before slots t ts s
stood layout at cs left before slots last t ts s e =
    let start : State = in_sequence at cs left before slots last in
    let member = came (λ later. judged_all layout later ts) (judged_member layout start t) s e in
    let waits = came (λ a. and_then (stepped start (place_of t) a.step) (judged layout a.types t)) (awaits layout start (place_of t) (class_of t) (tag_of t)) member.0 member.1 in
    let node = came (stepped start (place_of t) waits.0.step) (judged layout waits.0.types t) member.0 waits.2 in
    let f = found layout (place_of t) (class_of t) (tag_of t) 0 left waits.0 waits.1 in
    let at_place : in_place start (place_of t) f.passed (f.c ∷ f.rest) node.0 ≡ Ok member.0 =
    placed start member.0 (place_of t) f.passed f.rest f.c node.0 f.whole (ap (λ (k : Step). stepped start (place_of t) k node.0) (sym f.step) ∙ node.2) in
    let behind = came (λ more. Ok (in_sequence at cs more (before ++ (map default_of f.passed ++ (node.0 ∷ []))) slots (place_of t))) (left_behind f.c.presence node.0 f.rest (place_of t)) member.0 at_place in
    let there : in_sequence at cs behind.0 (before ++ (map default_of f.passed ++ (node.0 ∷ []))) slots (place_of t) ≡ member.0 = cc behind.2 in
    record {
      passed = f.passed;
      c = f.c;
      rest = f.rest;
      whole = f.whole;
      skipped = f.skipped;
      is = f.is;
      n = node.0;
      judged_so = ap (λ (types : List Alternative). judged layout types t) (sym f.types) ∙ node.1;
      later = behind.0;
      goes_on = goes f.c.presence node.0 f.rest behind.0 (place_of t) behind.1;
      others = ap (λ (q : State). judged_all layout q ts) there ∙ member.2;
    }

pub one_more : (layout : Layout) (passed left rest : List Component) (c : Component) (before total : List Node) (t : Tree) (ts : Trees) (n : Node) (ms : Nodes)
    → left ≡ passed ++ (c ∷ rest) → Skipped layout (class_of t) (tag_of t) passed → InOrder layout (c ∷ rest) (Row t ts) (nodes.More n ms)
    → total ≡ (before ++ (map default_of passed ++ (n ∷ []))) ++ list ms
    → (ns : Nodes) × (total ≡ before ++ list ns) × InOrder layout left (Row t ts) ns
one_more layout passed left rest c before total t ts n ms whole skipped there sum = (
  both (row (map default_of passed)) (nodes.More n ms),
  sum ∙ append_assoc before (map default_of passed ++ (n ∷ [])) (list ms) ∙ ap (λ (l : List Node). before ++ l) (append_assoc (map default_of passed) (n ∷ []) (list ms) ∙ sym (both_list (map default_of passed) (nodes.More n ms))),
  subst (λ (l : List Component). InOrder layout l (Row t ts) (both (row (map default_of passed)) (nodes.More n ms))) (sym whole) (skip layout passed (c ∷ rest) t ts (nodes.More n ms) skipped there),
)

-- A SEQUENCE's members are its components in their order.
pub in_order_is : (layout : Layout) (at : ℕ) (cs left : List Component) (before : List Node) (slots : List (Option Node)) (last : ℕ) (ts : Trees) (s : State)
    → AreSound layout ts
    → judged_all layout (in_sequence at cs left before slots last) ts ≡ Ok s
    → list_all may_be_missing s.left ≡ true
    → (ms : Nodes) × (s.nodes ++ map default_of s.left ≡ before ++ list ms) × InOrder layout left ts ms
in_order_is layout at cs left before slots last Bare s sound e ends =
    let same : in_sequence at cs left before slots last ≡ s = cc e in
    let is_left : s.left ≡ left = ap (λ (q : State). q.left) (sym same) in
    let is_before : s.nodes ≡ before = ap (λ (q : State). q.nodes) (sym same) in (
      row (map default_of left),
      ap (λ (l : List Node). l ++ map default_of s.left) is_before ∙ ap (λ (l : List Component). before ++ map default_of l) is_left ∙ ap (λ (l : List Node). before ++ l) (sym (list_row (map default_of left))),
      all_missing layout left (ap (λ (l : List Component). list_all may_be_missing l) (sym is_left) ∙ ends),
    )
in_order_is layout at cs left before slots last (Row t ts) s sound e ends =
    let p = stood layout at cs left before slots last t ts s e in
    let rest = in_order_is layout at cs p.later (before ++ (map default_of p.passed ++ (p.n ∷ []))) slots (place_of t) ts s sound.1 p.others ends in
    one_more layout p.passed left p.rest p.c before (s.nodes ++ map default_of s.left) t ts p.n rest.0 p.whole p.skipped
    (typed.next p.is (sound.0 (alternatives layout p.c) p.n p.judged_so) p.goes_on rest.2) rest.1
