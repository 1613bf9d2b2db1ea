-- A SET's members are read in their own order, each into the slot of its component.
use Rattle.std.proofs.Common.{◌≡◌, ℕ, ◌+◌, Bool, true, false, ◌&&◌, List, [], ◌∷◌, ◌++◌, length, refl, ap, ap₂, sym, ◌∙◌, arith, ◌⊎◌, inl, inr}
use Rattle.std.specs.Prelude.{slice_set, if◌then◌else◌}
use Rattle.std.specs.declared.option.Option.{Option}
use Rattle.std.specs.declared.option.Option.TheVariants.{None, Some}
use Rattle.std.specs.declared.result.Result.{Result}
use Rattle.std.specs.declared.result.Result.TheVariants.{Ok}
use Rattle.x5_model.specs.Words.{in_option}
use Rattle.x5_model_typed.specs.Trees.{Tree, Trees, Bare, Row, place_of, class_of, tag_of}
use Rattle.x5_model_typed.specs.Nodes.{Node}
use Rattle.x5_model_typed.specs.Forms.{Layout, Default, Component, alternatives, is_component}
use Rattle.x5_model_octets.specs.Breaches.{Breach}
use Rattle.x5_model_typed.specs.Judged.{State, Awaited, InSlot, judged, judged_all, and_then, wrong_content, stepped, set_awaits, may_be_missing, all_filled, filled}
use Rattle.x5_model_typed.specs.Typed as typed
use Rattle.x5_model_typed.specs.Typed.{IsMissing, Among}
use Rattle.x5_model_typed.proofs.Laws.{default_is}
use Rattle.x5_model_typed.proofs.SetLaws.{AreOthers, in_a_set, put_in}

-- The members, each of which is judged a value, fill the slots that are empty, and no one is of a component whose
-- slot is full.
abbrev pub Filling : Layout → List Component → List (Option Node) → Trees → List Node → Type 0
Filling layout [] os ts ns = (ts ≡ Bare) × (ns ≡ [])
Filling layout (c ∷ cs) [] ts ns = ⊥
Filling layout (c ∷ cs) (Some n ∷ os) ts ns =
    IsMissing layout c ts × (ms : List Node) × (ns ≡ n ∷ ms) × Filling layout cs os ts ms
Filling layout (c ∷ cs) (None ∷ os) ts ns =
    ((t : Tree) × (rest : Trees) × (n : Node) × (ms : List Node) × Among t ts rest × (is_component layout (class_of t)
    (tag_of t) c ≡ true) × IsMissing layout c rest × (judged layout
    (alternatives layout c) t ≡ Ok n) × (ns ≡ n ∷ ms) × Filling layout cs os rest ms)
    ⊎ ((d : Node) × (ms : List Node) × (c.presence ≡ Default d) × IsMissing layout c ts × (ns ≡ d ∷ ms) × Filling layout cs os ts ms)

-- The first member's component, whose slot is empty, and how it goes on with that slot full.
record Seat (layout : Layout) (cs : List Component) (os : List (Option Node)) (t : Tree) (ts : Trees)
    (ns : List Node) : Type 0 where
  before : List Component
  c : Component
  after : List Component
  slots_before : List (Option Node)
  slots_after : List (Option Node)
  whole : cs ≡ before ++ (c ∷ after)
  slots : os ≡ slots_before ++ (None ∷ slots_after)
  alike : length slots_before ≡ length before
  others : AreOthers layout (class_of t) (tag_of t) before
  is : is_component layout (class_of t) (tag_of t) c ≡ true
  n : Node
  judged_so : judged layout (alternatives layout c) t ≡ Ok n
  rest : Filling layout cs (slots_before ++ (Some n ∷ slots_after)) ts ns

later_seat : (layout : Layout) (c : Component) (cs : List Component) (o : Option Node) (os : List (Option Node))
    (t : Tree) (ts us : Trees) (ns ms : List Node)
    → is_component layout (class_of t) (tag_of t) c ≡ false
    → (s : Seat layout cs os t us ms)
    → Filling layout (c ∷ cs) (o ∷ (s.slots_before ++ (Some s.n ∷ s.slots_after))) ts ns
    → Seat layout (c ∷ cs) (o ∷ os) t ts ns
later_seat layout c cs o os t ts us ns ms other s rest = record {
  before = c ∷ s.before;
  c = s.c;
  after = s.after;
  slots_before = o ∷ s.slots_before;
  slots_after = s.slots_after;
  whole = ap (λ (l : List Component). c ∷ l) s.whole;
  slots = ap (λ (l : List (Option Node)). o ∷ l) s.slots;
  alike = (let e = s.alike in omega arith);
  others = (other, s.others);
  is = s.is;
  n = s.n;
  judged_so = s.judged_so;
  rest = rest;
}

no_row : (t : Tree) (ts : Trees) → Row t ts ≡ Bare → ⊥
no_row t ts e = cc

given_seat : (layout : Layout) (c : Component) (cs : List Component) (os : List (Option Node)) (t : Tree)
    (ts : Trees) (ns : List Node) (u : Tree) (rest : Trees) (n : Node) (ms : List Node)
    → ((left : Trees) (ks : List Node) → Filling layout cs os (Row t left) ks → Seat layout cs os t left ks)
    → Among u (Row t ts) rest
    → is_component layout (class_of u) (tag_of u) c ≡ true → IsMissing layout c rest
    → judged layout (alternatives layout c) u ≡ Ok n → ns ≡ n ∷ ms → Filling layout cs os rest ms
    → Seat layout (c ∷ cs) (None ∷ os) t ts ns
given_seat layout c cs os t ts ns u rest n ms more typed.here is missing j e f = record {
  before = [];
  c = c;
  after = cs;
  slots_before = [];
  slots_after = os;
  whole = refl;
  slots = refl;
  alike = refl;
  others = tt;
  is = is;
  n = n;
  judged_so = j;
  rest = (missing, ms, e, f);
}
given_seat layout c cs os t ts ns u rest n ms more (typed.later {rest = left} a) is missing j e f =
    let s = more left ms f in
    later_seat layout c cs None os t ts left ns ms missing.0 s (inl (u, left, n, ms, a, is, missing.1, j, e, s.rest))

seat : (layout : Layout) (cs : List Component) (os : List (Option Node)) (t : Tree) (ts : Trees) (ns : List Node)
    → Filling layout cs os (Row t ts) ns → Seat layout cs os t ts ns
seat layout [] os t ts ns f = absurd (no_row t ts f.0)
seat layout (c ∷ cs) [] t ts ns f = absurd f
seat layout (c ∷ cs) (Some n ∷ os) t ts ns f =
    let s = seat layout cs os t ts f.1 f.3 in
    later_seat layout c cs (Some n) os t ts ts ns f.1 f.0.0 s (f.0.1, f.1, f.2, s.rest)
seat layout (c ∷ cs) (None ∷ os) t ts ns (inl g) =
    given_seat layout c cs os t ts ns g.0 g.1 g.2 g.3
    (λ left ks f. seat layout cs os t left ks f) g.4 g.5 g.6 g.7 g.8 g.9
seat layout (c ∷ cs) (None ∷ os) t ts ns (inr g) =
    let s = seat layout cs os t ts g.1 g.5 in
    later_seat layout c cs None os t ts ts ns g.1 g.3.0 s (inr (g.0, g.1, g.2, g.3.1, g.4, s.rest))

-- ---- what reading awaits there

awaited : (layout : Layout) (at class tag k : ℕ) (before after : List Component) (c : Component)
    (slots_before slots_after : List (Option Node))
    → length slots_before ≡ length before → AreOthers layout class tag before
    → is_component layout class tag c ≡ true
    → set_awaits layout at class tag k (before ++ (c ∷ after))
    (slots_before ++ (None ∷ slots_after)) ≡ Ok (record { types = alternatives layout c; step = InSlot (k + length before) })
awaited layout at class tag k [] after c [] later alike others is =
    let e : k ≡ k + 0 = omega arith in
    ap
    (λ (b : Bool). if b then Ok
    (record { types = alternatives layout c; step = InSlot k }) else set_awaits layout at class tag
    (k + 1) after later) is
    ∙ ap (λ (i : ℕ). Ok (record { types = alternatives layout c; step = InSlot i })) e
awaited layout at class tag k [] after c (o ∷ os) later alike others is = absurd (omega (arith, alike))
awaited layout at class tag k (b ∷ before) after c [] later alike others is = absurd (omega (arith, alike))
awaited layout at class tag k (b ∷ before) after c (o ∷ os) later alike others is =
    let e : k + 1 + length before ≡ k + length (b ∷ before) = omega arith in
    ap
    (λ (x : Bool). if x then in_option (Ok (record { types = alternatives layout b; step = InSlot k }))
    (λ n. wrong_content at) o else set_awaits layout at class tag (k + 1) (before ++ (c ∷ after))
    (os ++ (None ∷ later))) others.0
    ∙ awaited layout at class tag (k + 1) before after c os later (omega (arith, alike)) others.1 is
    ∙ ap (λ (i : ℕ). Ok (record { types = alternatives layout c; step = InSlot i })) e

-- ---- at the end

all_full : (layout : Layout) (cs : List Component) (os : List (Option Node)) (ns : List Node)
    → Filling layout cs os Bare ns → (all_filled cs os ≡ true) × (filled cs os ≡ ns)
all_full layout [] os ns f = (refl, sym f.1)
all_full layout (c ∷ cs) [] ns f = absurd f
all_full layout (c ∷ cs) (Some n ∷ os) ns f =
    let w = all_full layout cs os f.1 f.3 in
    (w.0, ap (λ (l : List Node). n ∷ l) w.1 ∙ sym f.2)
all_full layout (c ∷ cs) (None ∷ os) ns (inl g) = absurd (none_among g.0 g.1 g.4)
  where
    none_among : (t : Tree) (rest : Trees) → Among t Bare rest → ⊥
    none_among t rest a = elim a [ ]
all_full layout (c ∷ cs) (None ∷ os) ns (inr g) =
    let w = all_full layout cs os g.1 g.5 in
    let may : may_be_missing c ≡ true = rw g.2 refl in (
      ap₂ (λ (x y : Bool). x && y) may w.0,
      ap₂ (λ (x : Node) (l : List Node). x ∷ l)
          (default_is c g.0 g.2) w.1 ∙ sym g.4,
    )

pub record SetRead (layout : Layout) (at : ℕ) (cs : List Component) (slots : List (Option Node)) (last : ℕ)
    (ts : Trees) (ns : List Node) : Type 0 where
  pub full : List (Option Node)
  pub end : ℕ
  pub judged_so : judged_all layout (in_a_set at cs slots last) ts ≡ Ok (in_a_set at cs full end)
  pub complete : all_filled cs full ≡ true
  pub nodes : filled cs full ≡ ns

pub set_judged : (layout : Layout) (at : ℕ) (cs : List Component) (slots : List (Option Node)) (last : ℕ)
    (ts : Trees) (ns : List Node)
    → Filling layout cs slots ts ns → SetRead layout at cs slots last ts ns
set_judged layout at cs slots last Bare ns f =
    let w = all_full layout cs slots ns f in
    record { full = slots; end = last; judged_so = refl; complete = w.0; nodes = w.1 }
set_judged layout at cs slots last (Row t ts) ns f =
    let s = seat layout cs slots t ts ns f in
    let start : State = in_a_set at cs slots last in
    let rest = set_judged layout at cs (s.slots_before ++ (Some s.n ∷ s.slots_after)) (place_of t) ts ns s.rest in
    let waits : set_awaits layout (place_of t) (class_of t) (tag_of t) 0 cs slots ≡ Ok
    (record { types = alternatives layout s.c; step = InSlot (0 + length s.before) }) =
    ap₂
    (λ (l : List Component) (os : List (Option Node)). set_awaits layout (place_of t) (class_of t)
    (tag_of t) 0 l os) s.whole s.slots
    ∙ awaited layout (place_of t) (class_of t)
    (tag_of t) 0 s.before s.after s.c s.slots_before s.slots_after s.alike s.others s.is in
    let i : 0 + length s.before ≡ length s.slots_before = (let e = s.alike in omega arith) in
    let put : slice_set slots (0 + length s.before) (Some s.n) ≡ s.slots_before ++ (Some s.n ∷ s.slots_after) =
    put_in s.slots_before s.slots_after slots s.n (0 + length s.before) s.slots i in
    record {
      full = rest.full;
      end = rest.end;
      judged_so =
          ap
          (λ (r : Result Awaited Breach). and_then (λ later. judged_all layout later ts)
          (and_then
          (λ (a : Awaited). and_then (stepped start (place_of t) a.step) (judged layout a.types t)) r)) waits
          ∙ ap
          (λ (r : Result Node Breach). and_then (λ later. judged_all layout later ts)
          (and_then (stepped start (place_of t) (InSlot (0 + length s.before))) r)) s.judged_so
          ∙ ap (λ (os : List (Option Node)). judged_all layout (in_a_set at cs os (place_of t)) ts) put
          ∙ rest.judged_so;
      complete = rest.complete;
      nodes = rest.nodes;
    }
