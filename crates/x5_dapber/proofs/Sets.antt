-- Components of a SET that stand in the order of their context tags make a spelling of it: behind each no other has its
-- tag.
use Rattle.std.proofs.Common.{◌≡◌, ℕ, ◌+◌, ◌-◌, ◌/◌, ◌≤◌, ◌<◌, ◌%◌, ◌==◌, Bool, cond, true, false, List, [], ◌∷◌, ◌++◌, length}
use Rattle.std.proofs.Common.{refl, ap, sym, ◌∙◌, subst, arith, append_assoc, append-nil}
use Rattle.std.proofs.lemmas.Bool.{ne_eqb, eq-eqb}
use Rattle.std.specs.declared.option.Option.{Option}
use Rattle.std.specs.declared.option.Option.TheVariants.{None, Some}
use Rattle.x5_model_octets.specs.Headers.{Identifier, IsHeader, identifier_of}
use Rattle.x5_model_octets.specs.Elements.{deepest, identifier}
use Rattle.x5_model_typed.specs.Trees as trees
use Rattle.x5_model_typed.specs.Trees.{Tree, Trees, Branch, Bare, Row, Lies, class_of, tag_of}
use Rattle.x5_model_typed.specs.Nodes.{Node, Many, row}
use Rattle.x5_model_typed.specs.Named.{Named}
use Rattle.x5_model_typed.specs.Forms.{Presence, Default, Component, Set, Explicit, Alternative, by_tag, context}
use Rattle.x5_model_typed.specs.Forms.{is_component}
use Rattle.x5_model_typed.specs.Layouts.{Surroundings, layout}
use Rattle.x5_model_typed.specs.Typed as typed
use Rattle.x5_model_typed.specs.Typed.{IsOf, IsMissing}
use Rattle.x5_direct.specs.Spelled.{Opens, Spelled, SpelledIn, Reads}
use Rattle.x5_direct.proofs.Spelling.{spelled_higher}
use Rattle.x5_dapber.specs.Direct.{AreFrom, SpelledInSet, ReadsNext}

abbrev behind_tag : ℕ → Named → Alternative
behind_tag k form = context k (Explicit form)

-- The octets are an element with the context tag, that holds the value of the type.
pub record IsTagged (k : ℕ) (form : Named) (n : Node) (octets : List ℕ) (depth at : ℕ) : Type 0 where
  pub tree : Tree
  pub lies : Lies depth at tree octets
  pub class_is : class_of tree ≡ 2
  pub tag_is : tag_of tree ≡ k
  pub is_of : (w : Surroundings) → IsOf (layout w) (behind_tag k form ∷ []) tree n

-- The first octets are, wherever there is room.
pub record Tagged (levels k : ℕ) (form : Named) (n : Node) (octets rest : List ℕ) : Type 0 where
  pub part : List ℕ
  pub whole : octets ≡ part ++ rest
  pub is_element : (depth at : ℕ) → depth + levels ≤ deepest → IsTagged k form n part depth at

-- what is spelled of all octets
all_spelled : (levels : ℕ) (form : Named) (n : Node) (octets : List ℕ) (s : Spelled levels form n octets [])
    → octets ≡ s.part
all_spelled levels form n octets s = s.whole ∙ append-nil s.part

pub tagged : (levels k : ℕ) (form : Named) (first : ℕ) (n : Node) (content octets rest : List ℕ)
    → Opens first content octets rest → identifier_of first (first % 32) ≡ identifier true 2 k
    → by_tag 2 k (behind_tag k form ∷ []) ≡ Some (behind_tag k form)
    → Spelled levels form n content [] → Tagged (levels + 1) k form n octets rest
tagged levels k form first n content octets rest o is found s = record {
  part = (first ∷ o.lengths) ++ content;
  whole = o.whole ∙ sym (append_assoc (first ∷ o.lengths) content rest);
  is_element = λ depth at room.
      let e = s.is_element (depth + 1) (at + length (first ∷ o.lengths)) (omega (arith, room)) in
      let header : IsHeader (identifier true 2 k) (Some (length content)) (first ∷ o.lengths) =
      subst (λ (j : Identifier). IsHeader j (Some (length content)) (first ∷ o.lengths)) is o.is_header in
      record {
        tree = Branch at 2 k (Row e.tree Bare);
        lies = (
          refl,
          omega (arith, room),
          first ∷ o.lengths,
          content,
          (s.part, [], e.lies, refl, s.whole),
          trees.definite header refl,
        );
        class_is = refl;
        tag_is = refl;
        is_of = λ w. typed.constructed (behind_tag k form) n n found (typed.one (e.is_of w)) refl;
      };
}

-- ---- components

are_from_less : (low less : ℕ) (ts : Trees) → less ≤ low → AreFrom low ts → AreFrom less ts
are_from_less low less Bare e h = tt
are_from_less low less (Row t ts) e h =
    (h.0, omega (arith, e, h.1), are_from_less low less ts e h.2)

abbrev pub tagged_as : ℕ → Named → Presence → Component
tagged_as k form presence = record { tag = Some k; form = form; presence = presence }

other_tag : (w : Surroundings) (k : ℕ) (form : Named) (p : Presence) (class tag : ℕ) → class ≡ 2 → k < tag
    → is_component (layout w) class tag (tagged_as k form p) ≡ false
other_tag w k form p class tag e less =
    let apart : (k == tag) ≡ false = ne_eqb k tag (λ f. omega (arith, less, f)) in rw (e, apart) refl

own_tag : (w : Surroundings) (k : ℕ) (form : Named) (p : Presence) (class tag : ℕ) → class ≡ 2 → tag ≡ k
    → by_tag 2 k (behind_tag k form ∷ []) ≡ Some (behind_tag k form)
    → is_component (layout w) class tag (tagged_as k form p) ≡ true
own_tag w k form p class tag e f found =
    rw (e, f) (ap (λ (o : Option Alternative). Rattle.std.specs.Option.is_some o) found)

all_missing : (w : Surroundings) (k low : ℕ) (form : Named) (p : Presence) (ts : Trees) → k < low → AreFrom low ts
    → IsMissing (layout w) (tagged_as k form p) ts
all_missing w k low form p Bare less h = tt
all_missing w k low form p (Row t ts) less h = (
  other_tag w k form p (class_of t) (tag_of t) h.0 (omega (arith, less, h.1)),
  all_missing w k low form p ts less h.2,
)

pub set_over : (levels low : ℕ) → SpelledInSet levels low [] [] []
set_over levels low depth at room =
    record { members = Bare; lie = refl; any_order = λ w. typed.complete; are_from = tt }

pub set_given : (levels k low : ℕ) (form : Named) (p : Presence) (cs : List Component) (n : Node) (ns : List Node)
    (octets rest : List ℕ) → k < low → by_tag 2 k (behind_tag k form ∷ []) ≡ Some (behind_tag k form)
    → Tagged levels k form n octets rest → SpelledInSet levels low cs ns rest
    → SpelledInSet levels k (tagged_as k form p ∷ cs) (n ∷ ns) octets
set_given levels k low form p cs n ns octets rest less found s others depth at room =
    let e = s.is_element depth at room in
    let more = others depth (at + length s.part) room in
    record {
      members = Row e.tree more.members;
      lie = (s.part, rest, e.lies, more.lie, s.whole);
      any_order = λ w.
          typed.given typed.here (own_tag w k form p (class_of e.tree) (tag_of e.tree) e.class_is e.tag_is found)
          (all_missing w k low form p more.members less more.are_from) (e.is_of w) (more.any_order w);
      are_from = (
        e.class_is,
        omega (arith, e.tag_is),
        are_from_less low k more.members (omega (arith, less)) more.are_from,
      );
    }

-- One that's missing before one that isn't.
pub set_missing : (levels k low : ℕ) (form : Named) (d : Node) (cs : List Component) (ns : List Node) (octets : List ℕ)
    → k < low → SpelledInSet levels low cs ns octets
    → SpelledInSet levels k (tagged_as k form (Default d) ∷ cs) (d ∷ ns) octets
set_missing levels k low form d cs ns octets less others depth at room =
    let more = others depth at room in
    record {
      members = more.members;
      lie = more.lie;
      any_order = λ w.
          typed.missing d refl (all_missing w k low form (Default d) more.members less more.are_from)
          (more.any_order w);
      are_from = are_from_less low k more.members (omega (arith, less)) more.are_from;
    }

pub set_in : (levels low : ℕ) (cs : List Component) (ns : List Node) (octets : List ℕ)
    → SpelledInSet levels low cs ns octets → SpelledIn levels (Set cs) (Many (row ns)) octets
set_in levels low cs ns octets all depth at room =
    let e = all depth at room in
    record { members = e.members; lie = e.lie; hold = λ w. typed.in_any_order (e.any_order w) }

-- ---- what is said of components

-- the identifier octet of a constructed element with a context tag
tag_octet : (first : ℕ) → 160 ≤ first → first < 191
    → identifier_of first (first % 32) ≡ identifier true 2 (first - 160)
tag_octet first low high =
    let class : first / 64 ≡ 2 = omega (arith, low, high) in
    let constructed : first / 32 % 2 ≡ 1 = omega (arith, low, high) in
    let tag : first % 32 ≡ first - 160 = omega (arith, low, high) in
    rw (class, constructed, tag) refl

found_tag : (k : ℕ) (form : Named) → by_tag 2 k (behind_tag k form ∷ []) ≡ Some (behind_tag k form)
found_tag k form = ap (λ (b : Bool). cond b (Some (behind_tag k form)) None) (eq-eqb k k refl)

-- A component that stands there.
pub next_given : {X : Type 0} (levels first : ℕ) (form : Named) (p : Presence) (says : Node → X) (x : X)
    (content octets rest : List ℕ) → 160 ≤ first → first < 191 → Opens first content octets rest
    → Reads levels form says x content []
    → ReadsNext (levels + 1) (first - 160) (tagged_as (first - 160) form p) says x octets rest
next_given levels first form p says x content octets rest low high o r = (
  r.0,
  λ least cs ns less others.
      set_given (levels + 1) (first - 160) least form p cs r.0 ns octets rest less (found_tag (first - 160) form)
      (tagged levels (first - 160) form first r.0 content octets rest o (tag_octet first low high)
      (found_tag (first - 160) form) r.1) others,
  r.2,
)

-- One that's missing.
pub next_missing : {X : Type 0} (levels k : ℕ) (form : Named) (d : Node) (says : Node → X) (x : X) (octets : List ℕ)
    → x ≡ says d → ReadsNext levels k (tagged_as k form (Default d)) says x octets octets
next_missing levels k form d says x octets e =
    (d, λ least cs ns less others. set_missing levels k least form d cs ns octets less others, e)

pub reads_higher : {X : Type 0} (levels more : ℕ) (form : Named) (says : Node → X) (x : X) (octets rest : List ℕ)
    → levels ≤ more → Reads levels form says x octets rest → Reads more form says x octets rest
reads_higher levels more form says x octets rest less r =
    (r.0, spelled_higher levels more form r.0 octets rest less r.1, r.2)
