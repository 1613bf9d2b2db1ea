-- Components of a SET, spelled in the order of their tags, are its value; so are those of a SEQUENCE that may be
-- missing.
use Rattle.std.proofs.Common.{◌≡◌, ℕ, ◌+◌, ◌≤◌, ◌<◌, ◌%◌, ◌==◌, cond, Bool, true, false, List, [], ◌∷◌, ◌++◌}
use Rattle.std.proofs.Common.{length, refl, ap}
use Rattle.std.proofs.Common.{sym, ◌∙◌, subst, arith, append_assoc, ℤ, inl, inr}
use Rattle.std.proofs.lemmas.Bool.{eq-eqb}
use Rattle.std.specs.declared.option.Option.{Option}
use Rattle.std.specs.declared.option.Option.TheVariants.{None, Some}
use Rattle.std.specs.Option.{is_some}
use Rattle.x5_model_octets.specs.Headers.{Identifier, IsHeader, identifier_of}
use Rattle.x5_model_octets.specs.Elements.{identifier}
use Rattle.x5_model_typed.specs.Trees as trees
use Rattle.x5_model_typed.specs.Trees.{Tree, Trees, Leaf, Branch, Bare, Row, Lies, LieAll, class_of, tag_of}
use Rattle.x5_model_typed.specs.Nodes.{Node, Number, Many, row}
use Rattle.x5_model_typed.specs.Named.{Named}
use Rattle.x5_model_typed.specs.Forms.{Presence, Default, Component, Set, Explicit, Layout, by_tag}
use Rattle.x5_model_typed.specs.Forms.{plain, at, or, code}
use Rattle.x5_model_typed.specs.Forms.{is_component, context}
use Rattle.x5_model_typed.specs.Layouts.{layout}
use Rattle.x5_model_typed.specs.Typed as typed
use Rattle.x5_model_typed.specs.Typed.{IsMissing}
use Rattle.x5_direct.specs.Spelled.{Opens, Spelled, SpelledIn, SpelledInOrder, Reads}
use Rattle.x5_direct.proofs.Spelling.{has_tag, spelled_higher, order_over, order_given}
use Rattle.x5_dapreply.specs.Components.{AreFrom, SpelledComponents, ReadsTagged, MayReadTagged, ReadsLast, MayOpen}
use Rattle.x5_dapreply.specs.Components.{MayRead}

abbrev tagged_one : ℕ → Named → Presence → Component
tagged_one k form p = record { tag = Some k; form = form; presence = p }

other_tag : (a b : ℕ) → a < b → (a == b) ≡ false
other_tag a b less = grind arith

missing_one : (L : Layout) (k : ℕ) (form : Named) (p : Presence) (class tag : ℕ) → class ≡ 2 → k < tag
    → is_component L class tag (tagged_one k form p) ≡ false
missing_one L k form p class tag is less =
    subst (λ (c : ℕ). is_component L c tag (tagged_one k form p) ≡ false) (sym is)
    (ap (λ (b : Bool). is_some (cond b (Some (context k (Explicit form))) None)) (other_tag k tag less))

missing : (L : Layout) (k low : ℕ) (form : Named) (p : Presence) → k < low → (ts : Trees) → AreFrom low ts
    → IsMissing L (tagged_one k form p) ts
missing L k low form p less Bare h = tt
missing L k low form p less (Row t ts) h =
    (missing_one L k form p (class_of t) (tag_of t) h.0 (omega (arith, less, h.1)), missing L k low form p less ts h.2)

from_lower : (low high : ℕ) → low ≤ high → (ts : Trees) → AreFrom high ts → AreFrom low ts
from_lower low high less Bare h = tt
from_lower low high less (Row t ts) h = (h.0, omega (arith, less, h.1), from_lower low high less ts h.2)

own_tag : (k : ℕ) (form : Named) → by_tag 2 k (context k (Explicit form) ∷ []) ≡ Some (context k (Explicit form))
own_tag k form = ap (λ (b : Bool). cond b (Some (context k (Explicit form))) None) (eq-eqb k k refl)

pub components_over : (levels low : ℕ) → SpelledComponents levels low [] [] []
components_over levels low depth at room =
    record { members = Bare; lie = refl; from = tt; in_any_order = λ w. typed.complete }

-- One that is there, in an element of its tag.
pub component_next : (levels low k first : ℕ) (form : Named) (p : Presence) (cs : List Component) (n : Node)
    (ns : List Node)
    (content octets rest : List ℕ) → low ≤ k → Opens first content octets rest
    → identifier_of first (first % 32) ≡ identifier true 2 k → Spelled levels form n content []
    → SpelledComponents (levels + 1) (k + 1) cs ns rest
    → SpelledComponents (levels + 1) low (record { tag = Some k; form = form; presence = p } ∷ cs) (n ∷ ns) octets
component_next levels low k first form p cs n ns content octets rest less o is s others depth at room =
    let header = first ∷ o.lengths in
    let inner = s.is_element (depth + 1) (at + length header) (omega (arith, room)) in
    let more = others depth (at + length (header ++ content)) room in
    let c = context k (Explicit form) in
    let t = Branch at 2 k (Row inner.tree Bare) in
    record {
      members = Row t more.members;
      lie = (
        header ++ content,
        rest,
        (
          refl,
          omega (arith, room),
          header,
          content,
          (s.part, [], inner.lies, refl, s.whole),
          trees.definite (subst (λ (j : Identifier). IsHeader j (Some (length content)) header) is o.is_header) refl,
        ),
        more.lie,
        o.whole ∙ sym (append_assoc header content rest),
      );
      from = (refl, less, from_lower low (k + 1) (omega (arith, less)) more.members more.from);
      in_any_order = λ w.
          typed.given typed.here (ap is_some (own_tag k form))
          (missing (layout w) k (k + 1) form p (omega arith) more.members more.from)
          (typed.constructed c n n (own_tag k form) (typed.one (inner.is_of w)) refl)
          (more.in_any_order w);
    }

-- One that isn't.
pub component_missing : (levels low k : ℕ) (form : Named) (d : Node) (cs : List Component) (ns : List Node)
    (octets : List ℕ)
    → k < low → SpelledComponents levels low cs ns octets
    → SpelledComponents levels low (record { tag = Some k; form = form; presence = Default d } ∷ cs) (d ∷ ns) octets
component_missing levels low k form d cs ns octets less others depth at room =
    let more = others depth at room in
    record {
      members = more.members;
      lie = more.lie;
      from = more.from;
      in_any_order = λ w.
          typed.missing d refl (missing (layout w) k low form (Default d) less more.members more.from)
          (more.in_any_order w);
    }

pub components_lower : (levels low high : ℕ) (cs : List Component) (ns : List Node) (octets : List ℕ) → low ≤ high
    → SpelledComponents levels high cs ns octets → SpelledComponents levels low cs ns octets
components_lower levels low high cs ns octets less all depth at room =
    let e = all depth at room in
    record {
      members = e.members;
      lie = e.lie;
      from = from_lower low high less e.members e.from;
      in_any_order =
          e.in_any_order;
    }

pub components_in : (levels low : ℕ) (cs : List Component) (ns : List Node) (octets : List ℕ)
    → SpelledComponents levels low cs ns octets → SpelledIn levels (Set cs) (Many (row ns)) octets
components_in levels low cs ns octets all depth at room =
    let e = all depth at room in
    record { members = e.members; lie = e.lie; hold = λ w. typed.in_any_order (e.in_any_order w) }

-- ---- what is said of components

abbrev pub reads_higher : {X : Type 0} (levels more : ℕ) (form : Named) (says : Node → X) (x : X) (octets rest : List ℕ)
    → levels ≤ more → Reads levels form says x octets rest → Reads more form says x octets rest
reads_higher levels more form says x octets rest less r =
    (r.0, spelled_higher levels more form r.0 octets rest less r.1, r.2)

abbrev pub tagged_higher : {X : Type 0} (levels more k : ℕ) (form : Named) (says : Node → X) (x : X)
    (octets rest : List ℕ)
    → levels ≤ more → ReadsTagged levels k form says x octets rest → ReadsTagged more k form says x octets rest
tagged_higher levels more k form says x octets rest less r =
    (r.0, r.1, reads_higher levels more form says x r.0 [] less r.2)

-- A component that is there, with its tag.
pub tagged_next : {X : Type 0} (levels low k : ℕ) (form : Named) (p : Presence) (says : Node → X) (x : X)
    (cs : List Component) (ns : List Node) (octets rest : List ℕ) → low ≤ k
    → identifier_of (160 + k) ((160 + k) % 32) ≡ identifier true 2 k
    → (r : ReadsTagged levels k form says x octets rest) → SpelledComponents (levels + 1) (k + 1) cs ns rest
    → SpelledComponents (levels + 1) low (record { tag = Some k; form = form; presence = p } ∷ cs) (r.2.0 ∷ ns) octets
tagged_next levels low k form p says x cs ns octets rest less is r others =
    component_next levels low k (160 + k) form p cs r.2.0 ns r.0 octets rest less r.1 is r.2.1 others

-- One that may be missing.
pub maybe_next : {X : Type 0} (levels low k : ℕ) (form : Named) (d : Node) (says : Node → X) (x : X)
    (cs : List Component)
    (ns : List Node) (octets rest : List ℕ) → low ≤ k → identifier_of (160 + k) ((160 + k) % 32) ≡ identifier true 2 k
    → MayReadTagged levels k form says d x octets rest → SpelledComponents (levels + 1) (k + 1) cs ns rest
    → (n : Node) × SpelledComponents (levels + 1) low (or d (at k form) ∷ cs) (n ∷ ns) octets × (x ≡ says n)
maybe_next {X = X} levels low k form d says x cs ns octets rest less is r others =
    elim r as (λ v. (n : Node) × SpelledComponents (levels + 1) low (or d (at k form) ∷ cs) (n ∷ ns) octets ×
    (x ≡ says n)) [
      | inl t ↦ (t.2.0, tagged_next levels low k form (Default d) says x cs ns octets rest less is t others, t.2.2)
      | inr t ↦ (
        d,
        subst (λ (o : List ℕ). SpelledComponents (levels + 1) low (or d (at k form) ∷ cs) (d ∷ ns) o) (sym t.1)
            (components_lower (levels + 1) low (k + 1) (or d (at k form) ∷ cs) (d ∷ ns) rest (omega (arith, less))
            (component_missing (levels + 1) (k + 1) k form d cs ns rest (omega arith) others)),
        t.0,
      )
    ]

-- ---- components of a SEQUENCE that may be missing, and one behind a code

pub order_missing : (levels : ℕ) (form : Named) (d : Node) → SpelledInOrder levels (or d (plain form) ∷ []) (d ∷ []) []
order_missing levels form d depth at room =
    record { members = Bare; lie = refl; in_order = λ w. typed.passed d refl tt typed.over }

pub order_coded : (levels : ℕ) (form : Named) (names : ℤ → Option Named) (k : ℤ) (inner : Named) (ns : List Node)
    (octets rest : List ℕ) → names k ≡ Some inner → Spelled levels form (Number k) octets rest
    → SpelledInOrder levels (plain inner ∷ []) ns rest
    → SpelledInOrder levels (code form names ∷ []) (Number k ∷ ns) octets
order_coded levels form names k inner ns octets rest named s others depth at room =
    let e = s.is_element depth at room in
    let more = others depth (at + length s.part) room in
    record {
      members = Row e.tree more.members;
      lie = (s.part, rest, e.lies, more.lie, s.whole);
      in_order = λ w.
          typed.next (has_tag (layout w) (layout w form) e.tree (Number k) (e.is_of w)) (e.is_of w)
          (typed.named k inner refl named) (more.in_order w);
    }

-- ---- what is said of a last component

pub last_missing : {X : Type 0} (levels : ℕ) (form : Named) (d : Node) (says : Node → X) (x : X) → x ≡ says d
    → ReadsLast levels (or d (plain form)) says x []
last_missing levels form d says x e = (d, order_missing levels form d, e)

pub last_given : {X : Type 0} (levels : ℕ) (form : Named) (d : Node) (says : Node → X) (x : X) (octets : List ℕ)
    → Reads levels form says x octets [] → ReadsLast levels (or d (plain form)) says x octets
last_given levels form d says x octets r =
    (r.0, order_given levels form d [] r.0 [] octets [] r.1 (order_over levels), r.2)

pub may_tagged : {X : Type 0} (there : Bool) (levels k : ℕ) (form : Named) (says : Node → X) (d : Node) (x : X)
    (content octets rest : List ℕ) → MayOpen there (160 + k) content octets rest
    → MayRead there levels form says d x content → MayReadTagged levels k form says d x octets rest
may_tagged true levels k form says d x content octets rest o r = inl (content, o, r)
may_tagged false levels k form says d x content octets rest o r = inr (r, o)

pub may_there : {X : Type 0} (there : Bool) (levels : ℕ) (form : Named) (says : Node → X) (d : Node) (x : X)
    (content : List ℕ)
    → there ≡ true → Reads levels form says x content [] → MayRead there levels form says d x content
may_there true levels form says d x content e r = r
may_there false levels form says d x content e r = absurd (cc e)

pub may_none : {X : Type 0} (there : Bool) (levels : ℕ) (form : Named) (says : Node → X) (d : Node) (x : X)
    (content : List ℕ)
    → there ≡ false → x ≡ says d → MayRead there levels form says d x content
may_none true levels form says d x content e r = absurd (cc e)
may_none false levels form says d x content e r = r
