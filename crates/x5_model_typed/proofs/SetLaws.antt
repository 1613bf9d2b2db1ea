-- What is judged a SET is one: its components stand in any order, each once.
use Rattle.std.proofs.Common.{◌≡◌, ℕ, ◌+◌, Bool, true, false, List, [], ◌∷◌, ◌++◌, length, map, refl, ap, sym, ◌∙◌, subst, arith, ◌⊎◌, inl, inr}
use Rattle.std.specs.Prelude.{slice_set, if◌then◌else◌}
use Rattle.std.proofs.Math.Seq.{set-append_seam}
use Rattle.std.specs.declared.option.Option.{Option}
use Rattle.std.specs.declared.option.Option.TheVariants.{None, Some}
use Rattle.std.specs.declared.result.Result.TheVariants.{Ok, Err}
use Rattle.x5_model.specs.Words.{in_option}
use Rattle.x5_model_typed.specs.Trees.{Tree, Trees, Bare, Row, place_of, class_of, tag_of}
use Rattle.x5_model_typed.specs.Nodes.{Node, row}
use Rattle.x5_model_typed.specs.Forms.{Layout, Presence, Required, Default, Code, Alternative, Set, Component, alternatives, is_component}
use Rattle.x5_model_octets.specs.Breaches.{Breach, Ber}
use Rattle.x5_model_typed.specs.Judged.{State, Awaited, Step, InSlot, judged, judged_all, judged_member, and_then, awaits, stepped, set_awaits, default_of, may_be_missing, is_filled, all_filled, filled}
use Rattle.x5_model_typed.specs.Typed as typed
use Rattle.x5_model_typed.specs.Typed.{IsOf, InAnyOrder, IsMissing, Among}
use Rattle.x5_model_typed.proofs.Laws.{came, default_is, AreSound}

-- The members fill the slots that are empty, and no one is of a component whose slot is full.
abbrev pub Fills : Layout → List Component → List (Option Node) → Trees → List Node → Type 0
Fills layout [] os ts ns = (ts ≡ Bare) × (ns ≡ [])
Fills layout (c ∷ cs) [] ts ns = ⊥
Fills layout (c ∷ cs) (Some n ∷ os) ts ns = IsMissing layout c ts × (ms : List Node) × (ns ≡ n ∷ ms) × Fills layout cs os ts ms
Fills layout (c ∷ cs) (None ∷ os) ts ns =
    ((t : Tree) × (rest : Trees) × (n : Node) × (ms : List Node) × Among t ts rest × (is_component layout (class_of t) (tag_of t) c ≡ true) × IsMissing layout c rest × IsOf layout (alternatives layout c) t n × (ns ≡ n ∷ ms) × Fills layout cs os rest ms)
    ⊎ ((d : Node) × (ms : List Node) × (c.presence ≡ Default d) × IsMissing layout c ts × (ns ≡ d ∷ ms) × Fills layout cs os ts ms)

-- None of the components has the tag.
abbrev pub AreOthers : Layout → ℕ → ℕ → List Component → Type 0
AreOthers layout class tag [] = Unit {0}
AreOthers layout class tag (c ∷ cs) = (is_component layout class tag c ≡ false) × AreOthers layout class tag cs

-- The empty slot of the component that has the tag.
pub record Slot (layout : Layout) (class tag k : ℕ) (cs : List Component) (os : List (Option Node)) (a : Awaited) : Type 0 where
  pub before : List Component
  pub c : Component
  pub after : List Component
  pub slots_before : List (Option Node)
  pub slots_after : List (Option Node)
  pub whole : cs ≡ before ++ (c ∷ after)
  pub slots : os ≡ slots_before ++ (None ∷ slots_after)
  pub alike : length slots_before ≡ length before
  pub others : AreOthers layout class tag before
  pub is : is_component layout class tag c ≡ true
  pub types : a.types ≡ alternatives layout c
  pub step : a.step ≡ InSlot (k + length before)

pub slot_by : (layout : Layout) (at class tag k : ℕ) (c : Component) (cs : List Component) (o : Option Node) (os : List (Option Node)) (a : Awaited) (b : Bool)
    → is_component layout class tag c ≡ b
    → (set_awaits layout at class tag (k + 1) cs os ≡ Ok a → Slot layout class tag (k + 1) cs os a)
    → (if b then in_option (Ok (record { types = alternatives layout c; step = InSlot k })) (λ n. Err (Ber (Rattle.x5_model_octets.specs.Faults.BadContent at))) o else set_awaits layout at class tag (k + 1) cs os) ≡ Ok a
    → Slot layout class tag k (c ∷ cs) (o ∷ os) a
slot_by layout at class tag k c cs None os a true is more e =
    let same : record { types = alternatives layout c; step = InSlot k } ≡ a = cc e in
    let zero_more : k + 0 ≡ k = omega arith in
    record {
      before = [];
      c = c;
      after = cs;
      slots_before = [];
      slots_after = os;
      whole = refl;
      slots = refl;
      alike = refl;
      others = tt;
      is = is;
      types = ap (λ (q : Awaited). q.types) (sym same);
      step = ap (λ (q : Awaited). q.step) (sym same) ∙ ap (λ (i : ℕ). InSlot i) (sym zero_more);
    }
slot_by layout at class tag k c cs (Some n) os a true is more e = absurd (cc e)
slot_by layout at class tag k c cs o os a false is more e =
    let s = more e in
    let sum : k + 1 + length s.before ≡ k + length (c ∷ s.before) = omega arith in
    let alike : length (o ∷ s.slots_before) ≡ length (c ∷ s.before) = omega (arith, s.alike) in
    record {
      before = c ∷ s.before;
      c = s.c;
      after = s.after;
      slots_before = o ∷ s.slots_before;
      slots_after = s.slots_after;
      whole = ap (λ (l : List Component). c ∷ l) s.whole;
      slots = ap (λ (l : List (Option Node)). o ∷ l) s.slots;
      alike = alike;
      others = (is, s.others);
      is = s.is;
      types = s.types;
      step = s.step ∙ ap (λ (i : ℕ). InSlot i) sum;
    }

pub slot : (layout : Layout) (at class tag k : ℕ) (cs : List Component) (os : List (Option Node)) (a : Awaited) → set_awaits layout at class tag k cs os ≡ Ok a → Slot layout class tag k cs os a
slot layout at class tag k [] os a e = absurd (cc e)
slot layout at class tag k (c ∷ cs) [] a e = absurd (cc e)
slot layout at class tag k (c ∷ cs) (o ∷ os) a e = slot_by layout at class tag k c cs o os a (is_component layout class tag c) refl (slot layout at class tag (k + 1) cs os a) e

-- The member that fills a slot, in front of the others.
pub put_first : (layout : Layout) (before after : List Component) (c : Component) (os later : List (Option Node)) (t : Tree) (ts : Trees) (n : Node) (ns : List Node)
    → length os ≡ length before → AreOthers layout (class_of t) (tag_of t) before → is_component layout (class_of t) (tag_of t) c ≡ true → IsOf layout (alternatives layout c) t n
    → Fills layout (before ++ (c ∷ after)) (os ++ (Some n ∷ later)) ts ns → Fills layout (before ++ (c ∷ after)) (os ++ (None ∷ later)) (Row t ts) ns
put_first layout [] after c [] later t ts n ns alike others is is_of f = inl (t, ts, n, f.1, typed.here, is, f.0, is_of, f.2, f.3)
put_first layout [] after c (o ∷ os) later t ts n ns alike others is is_of f = absurd (omega (arith, alike))
put_first layout (b ∷ before) after c [] later t ts n ns alike others is is_of f = absurd (omega (arith, alike))
put_first layout (b ∷ before) after c (Some m ∷ os) later t ts n ns alike others is is_of f =
    ((others.0, f.0), f.1, f.2, put_first layout before after c os later t ts n f.1 (omega (arith, alike)) others.1 is is_of f.3)
put_first layout (b ∷ before) after c (None ∷ os) later t ts n ns alike others is is_of (inl g) =
    inl (g.0, Row t g.1, g.2, g.3, typed.later g.4, g.5, (others.0, g.6), g.7, g.8, put_first layout before after c os later t g.1 n g.3 (omega (arith, alike)) others.1 is is_of g.9)
put_first layout (b ∷ before) after c (None ∷ os) later t ts n ns alike others is is_of (inr g) =
    inr (g.0, g.1, g.2, (others.0, g.3), g.4, put_first layout before after c os later t ts n g.1 (omega (arith, alike)) others.1 is is_of g.5)

-- All slots are full, or empty where nothing has to be.
pub full_by : (layout : Layout) (c : Component) (cs : List Component) (os : List (Option Node)) (p : Presence) → c.presence ≡ p
    → (all_filled cs os ≡ true → Fills layout cs os Bare (filled cs os)) → all_filled (c ∷ cs) (None ∷ os) ≡ true → Fills layout (c ∷ cs) (None ∷ os) Bare (filled (c ∷ cs) (None ∷ os))
full_by layout c cs os (Default d) is more e =
    let rest : all_filled cs os ≡ true = (let f : may_be_missing c ≡ true = rw is refl in cc (f, e)) in
    inr (d, filled cs os, is, tt, ap (λ (n : Node). n ∷ filled cs os) (default_is c d is), more rest)
full_by layout c cs os Required is more e = let f : may_be_missing c ≡ false = rw is refl in absurd (cc (f, e))
full_by layout c cs os (Code names) is more e = let f : may_be_missing c ≡ false = rw is refl in absurd (cc (f, e))

pub full : (layout : Layout) (cs : List Component) (os : List (Option Node)) → all_filled cs os ≡ true → Fills layout cs os Bare (filled cs os)
full layout [] os e = (refl, refl)
full layout (c ∷ cs) [] e = absurd (cc e)
full layout (c ∷ cs) (Some n ∷ os) e = (tt, filled cs os, refl, full layout cs os e)
full layout (c ∷ cs) (None ∷ os) e = full_by layout c cs os c.presence refl (full layout cs os) e

abbrev pub in_a_set : ℕ → List Component → List (Option Node) → ℕ → State
in_a_set at cs slots last = record { at = at; content = Set cs; left = cs; nodes = []; slots = slots; last = last }

-- One member of a SET: the slot that it fills, and how reading goes on.
pub record Placed (layout : Layout) (at : ℕ) (cs : List Component) (slots : List (Option Node)) (t : Tree) (ts : Trees) (s : State) : Type 0 where
  pub before : List Component
  pub c : Component
  pub after : List Component
  pub slots_before : List (Option Node)
  pub slots_after : List (Option Node)
  pub whole : cs ≡ before ++ (c ∷ after)
  pub slots_are : slots ≡ slots_before ++ (None ∷ slots_after)
  pub alike : length slots_before ≡ length before
  pub others : AreOthers layout (class_of t) (tag_of t) before
  pub is : is_component layout (class_of t) (tag_of t) c ≡ true
  pub n : Node
  pub judged_so : judged layout (alternatives layout c) t ≡ Ok n
  pub goes_on : judged_all layout (in_a_set at cs (slots_before ++ (Some n ∷ slots_after)) (place_of t)) ts ≡ Ok s

pub put_in : (before : List (Option Node)) (after slots : List (Option Node)) (n : Node) (i : ℕ) → slots ≡ before ++ (None ∷ after) → i ≡ length before → slice_set slots i (Some n) ≡ before ++ (Some n ∷ after)
put_in before after slots n i e is =
    ap (λ (k : ℕ). slice_set slots k (Some n)) is ∙ ap (λ (l : List (Option Node)). slice_set l (length before) (Some n)) e ∙ set-append_seam before None after (Some n)

pub set_placed : (layout : Layout) (at : ℕ) (cs : List Component) (slots : List (Option Node)) (last : ℕ) (t : Tree) (ts : Trees) (s : State)
    → judged_all layout (in_a_set at cs slots last) (Row t ts) ≡ Ok s → Placed layout at cs slots t ts s
set_placed layout at cs slots last t ts s e =
    let start : State = in_a_set at cs slots last in
    let member = came (λ later. judged_all layout later ts) (judged_member layout start t) s e in
    let waits = came (λ a. and_then (stepped start (place_of t) a.step) (judged layout a.types t)) (awaits layout start (place_of t) (class_of t) (tag_of t)) member.0 member.1 in
    let node = came (stepped start (place_of t) waits.0.step) (judged layout waits.0.types t) member.0 waits.2 in
    let f = slot layout (place_of t) (class_of t) (tag_of t) 0 cs slots waits.0 waits.1 in
    let i : 0 + length f.before ≡ length f.slots_before = omega (arith, f.alike) in
    let there : stepped start (place_of t) (InSlot (0 + length f.before)) node.0 ≡ Ok member.0 = ap (λ (k : Step). stepped start (place_of t) k node.0) (sym f.step) ∙ node.2 in
    let stands : in_a_set at cs (slice_set slots (0 + length f.before) (Some node.0)) (place_of t) ≡ member.0 = cc there in
    let slots_now = put_in f.slots_before f.slots_after slots node.0 (0 + length f.before) f.slots i in
    record {
      before = f.before;
      c = f.c;
      after = f.after;
      slots_before = f.slots_before;
      slots_after = f.slots_after;
      whole = f.whole;
      slots_are = f.slots;
      alike = f.alike;
      others = f.others;
      is = f.is;
      n = node.0;
      judged_so = ap (λ (types : List Alternative). judged layout types t) (sym f.types) ∙ node.1;
      goes_on = ap (λ (l : List (Option Node)). judged_all layout (in_a_set at cs l (place_of t)) ts) (sym slots_now) ∙ ap (λ (q : State). judged_all layout q ts) stands ∙ member.2;
    }

pub fills_is : (layout : Layout) (at : ℕ) (cs : List Component) (slots : List (Option Node)) (last : ℕ) (ts : Trees) (s : State)
    → AreSound layout ts
    → judged_all layout (in_a_set at cs slots last) ts ≡ Ok s → all_filled cs s.slots ≡ true → Fills layout cs slots ts (filled cs s.slots)
fills_is layout at cs slots last Bare s sound e ends =
    let same : in_a_set at cs slots last ≡ s = cc e in
    let are : slots ≡ s.slots = ap (λ (q : State). q.slots) same in
    subst (λ (l : List (Option Node)). Fills layout cs l Bare (filled cs s.slots)) (sym are) (full layout cs s.slots ends)
fills_is layout at cs slots last (Row t ts) s sound e ends =
    let p = set_placed layout at cs slots last t ts s e in
    let rest : Fills layout cs (p.slots_before ++ (Some p.n ∷ p.slots_after)) ts (filled cs s.slots) = fills_is layout at cs (p.slots_before ++ (Some p.n ∷ p.slots_after)) (place_of t) ts s sound.1 p.goes_on ends in
    let ns : List Node = filled cs s.slots in
    let here : Fills layout (p.before ++ (p.c ∷ p.after)) (p.slots_before ++ (None ∷ p.slots_after)) (Row t ts) ns =
    put_first layout p.before p.after p.c p.slots_before p.slots_after t ts p.n ns p.alike p.others p.is (sound.0 (alternatives layout p.c) p.n p.judged_so)
    (subst (λ (l : List Component). Fills layout l (p.slots_before ++ (Some p.n ∷ p.slots_after)) ts ns) p.whole rest) in
    subst (λ (l : List Component). Fills layout l slots (Row t ts) ns) (sym p.whole) (subst (λ (l : List (Option Node)). Fills layout (p.before ++ (p.c ∷ p.after)) l (Row t ts) ns) (sym p.slots_are) here)

-- Where no slot was full, the members are the components in some order.
pub in_any_order : (layout : Layout) (cs : List Component) (ts : Trees) (ns : List Node) → Fills layout cs (map (λ c. None) cs) ts ns → InAnyOrder layout cs ts (row ns)
in_any_order layout [] ts ns f = rw (f.0, f.1) typed.complete
in_any_order layout (c ∷ cs) ts ns (inl g) = rw g.8 (typed.given g.4 g.5 g.6 g.7 (in_any_order layout cs g.1 g.3 g.9))
in_any_order layout (c ∷ cs) ts ns (inr g) = rw g.4 (typed.missing g.0 g.2 g.3 (in_any_order layout cs ts g.1 g.5))
