-- What was passed on asks the same as the message for which it was sent: a reference of name resolution has no completed
-- name, and the supplier of a copy is asked for the same completed one.
use Rattle.std.proofs.Common.{◌≡◌, ℕ, ◌+◌, Bool, true, false, not, ◌&&◌, inl, inr, List, [], ◌∷◌, length, refl, sym, ap, subst, ◌∙◌, Option, Some, None, if◌then◌else◌}
use Rattle.std.specs.Option.{is_some, is_none}
use Rattle.x5_model.specs.Words.{in_option, when, is_empty}
use Rattle.x5_model.specs.Members.{In, here}
use Rattle.x5_model.specs.Keys.{Key}
use Rattle.x5_model.specs.Values.{Name, key_of}
use Rattle.x5_model.specs.Requests.{Request}
use Rattle.x5_model.specs.References.{Progress, Start, Next, Done, RefType, Superior, Supplier, Cross, Subordinate, NonSpecific, Reference, Chained}
use Rattle.x5_model.specs.Statics.{fault_of}
use Rattle.x5_model.proofs.KeyLaws.{key_decides}
use Rattle.x5_model.proofs.Lists.{both_true, not_true, in_first, in_either}
use Rattle.x5_model_tree.specs.World.{Specific}
use Rattle.x5_model_tree.specs.Tree.{Tree, lowest}
use Rattle.x5_model_run.specs.Journal.{Line, same_name, is_done, is_wide}
use Rattle.x5_model_run.specs.Holdings.{Copy, Holdings, usable_agents, subordinates, held_at, copy_at, served, known_pin}
use Rattle.x5_model_run.specs.Needs.{others, reference, proceeding, copy_answers, resolves_by, resolves, falls_short, is_unable, to_superior, superior_needs, to_nssr, from_lowest, nssr_at, multicast_needs, supplier_needs, specific_at, to_specific, specific_needs, foreign_needs, known_needs, pin_needs, resolution_needs, by_pin, subset_of, to_supplier, copied_needs}
use Rattle.x5_model_run.specs.History.{Point, knowledge_at, tree_at, holdings_at}
use Rattle.x5_model_run.specs.Chain.{Scene, IsCarried}
use Rattle.x5_model_run.specs.Covers.{touched, answer_at_pin, told}
use Rattle.x5_model_tree.specs.Ask.{ask_marked}
use Rattle.x5_model_theory.specs.Leading.{IsSound}
use Rattle.x5_model_theory.proofs.Stages.{same_progress_is}
use Rattle.x5_model_theory.proofs.Rows.{resolution_leads}
use Rattle.x5_model_parts.specs.Parts.{asks_for}
use Rattle.x5_model_parts.proofs.Onward.{same_is_passed_on}
use Rattle.x5_model_serve.specs.Finding.{Onward, find}
use Rattle.x5_model_serve.specs.Serving.{hand_of, line_for}
use Rattle.x5_model_serve.proofs.Needing.{onward_resolution}
use Rattle.x5_model_find.proofs.Needing.{false_true, last_false, and_left}
use Rattle.x5_model_verdicts.proofs.Refused.{not_done}
use Rattle.x5_model_passing.specs.Passing.{PassedOn, IsSame, SameIsAsked}

-- ---- the references by which a name goes on

abbrev Each : (Reference → Type 0) → List Reference → Type 0
Each P rs = (r : Reference) → In r rs → P r

none : (P : Reference → Type 0) → Each P []
none P r i = elim i [ ]

one : (P : Reference → Type 0) (q : Reference) → P q → Each P (q ∷ [])
one P q e r i = elim (in_first r q [] i) [ inl s ↦ subst P (sym s) e | inr j ↦ elim j [ ] ]

maybe : (P : Reference → Type 0) (b : Bool) (q : Reference) → P q → Each P (when b q)
maybe P true q e = one P q e
maybe P false q e = none P

option : (P : Reference → Type 0) {X : Type 0} (ys : List Reference) (f : X → List Reference) (o : Option X) → Each P ys
    → ((x : X) → Each P (f x)) → Each P (in_option ys f o)
option P ys f None g h = g
option P ys f (Some x) g h = h x

-- it is early, and a nonSpecific one goes on below an entry
abbrev pub IsEarly : Chained → Reference → Type 0
IsEarly m r = (is_done r.progress ≡ false)
    × (is_wide r.kind ≡ true → (x : Name) × (agents : List ℕ) × (r ≡ proceeding (length x + 1) x m.target NonSpecific agents))

-- one to the supplier of a copy is by a completed name
abbrev pub IsLate : Chained → Reference → Type 0
IsLate m r = (a : ℕ) × (r ≡ reference m.target Done Supplier (a ∷ []))

-- a reference by which a name goes on
pub data Ways (h : Holdings) (m : Chained) (r : Reference) : Type 0 where
  early : In r (resolution_needs h m) → resolves h m ≡ true → IsEarly m r → Ways h m r
  late : In r (copied_needs h m) → by_pin m ≡ true → IsLate m r → Ways h m r

module _ (h : Holdings) (m : Chained) where
  narrow_one : (q : Reference) → is_done q.progress ≡ false → is_wide q.kind ≡ false → IsEarly m q
  narrow_one q e f = (e, λ w. absurd (false_true (sym f ∙ w)))

  pin_early : Each (IsEarly m) (pin_needs h m (known_pin m.request h (key_of m.target)))
  pin_early =
      option (IsEarly m) (superior_needs h m) (known_needs h m) (known_pin m.request h (key_of m.target))
      (option (IsEarly m) [] (to_superior m.target) h.superior (none (IsEarly m))
      (λ s. one (IsEarly m) (reference m.target Start Superior (s ∷ []))
      (narrow_one (reference m.target Start Superior (s ∷ [])) refl refl)))
      (λ p. option (IsEarly m) (foreign_needs h m p) (multicast_needs h m) (held_at h.own p)
      (option (IsEarly m) (specific_needs h m p) (supplier_needs h m) (copy_at h p)
      (option (IsEarly m) (in_option [] (to_specific m Cross) (specific_at h.cross p)) (to_specific m Subordinate)
      (specific_at (subordinates m.request h) p)
      (option (IsEarly m) [] (to_specific m Cross) (specific_at h.cross p) (none (IsEarly m)) (λ k. specific Cross refl k))
      (λ k. specific Subordinate refl k))
      (λ c. maybe (IsEarly m) (not (copy_answers h m c))
      (proceeding (length c.held.prefix) c.held.prefix m.target Supplier (c.supplier ∷ []))
      (narrow_one (proceeding (length c.held.prefix) c.held.prefix m.target Supplier (c.supplier ∷ [])) refl refl)))
      (λ c. option (IsEarly m) [] (from_lowest h m c) (lowest c.entries (key_of m.target)) (none (IsEarly m))
      (λ e. option (IsEarly m) [] (to_nssr h m e) (nssr_at c.nssrs (key_of e.name)) (none (IsEarly m)) (λ n.
      maybe (IsEarly m) (not (same_name e.name m.target) && not (is_empty (others h.me n.agents)))
      (proceeding (length e.name + 1) e.name m.target NonSpecific (others h.me n.agents))
      (refl, λ w. (e.name, others h.me n.agents, refl))))))
    where
      specific : (kind : RefType) → is_wide kind ≡ false → (k : Specific) → Each (IsEarly m) (to_specific m kind k)
      specific kind f k = one (IsEarly m) (proceeding (length k.pin) k.pin m.target kind (usable_agents m.request k.access))
          (narrow_one (proceeding (length k.pin) k.pin m.target kind (usable_agents m.request k.access)) refl f)

  of_resolution : (r : Reference) → In r (resolution_needs h m) → Ways h m r
  of_resolution r i = go (resolves h m) refl i
    where
      go : (b : Bool) → resolves h m ≡ b → In r (if b then pin_needs h m (known_pin m.request h (key_of m.target)) else []) → Ways h m r
      go true e j = early i e (pin_early r j)
      go false e j = elim j [ ]

  made : (b : Bool) (x r : Reference) → In r (when b x) → r ≡ x
  made true x r i = elim (in_first r x [] i) [ inl e ↦ e | inr j ↦ elim j [ ] ]
  made false x r i = elim i [ ]

  of_copied : (r : Reference) → In r (copied_needs h m) → Ways h m r
  of_copied r i = go (by_pin m && is_some (subset_of m)) refl i
    where
      at : (x : Option Copy) → In r (in_option [] (to_supplier h m) x) → IsLate m r
      at None j = elim j [ ]
      at (Some c) j = (
        c.supplier,
        made (is_none (held_at (served m.request h) (key_of m.target)))
            (reference m.target Done Supplier (c.supplier ∷ [])) r j,
      )

      go : (b : Bool) → (by_pin m && is_some (subset_of m)) ≡ b
          → In r (if b then in_option [] (to_supplier h m) (copy_at h (key_of m.target)) else []) → Ways h m r
      go true e j = late i (both_true (by_pin m) (is_some (subset_of m)) e).0 (at (copy_at h (key_of m.target)) j)
      go false e j = elim j [ ]

  pub the_way : (r : Reference) → find h m ≡ Onward r → Ways h m r
  the_way r e =
      elim (in_either r (resolution_needs h m) (copied_needs h m)
      (subst (λ (rs : List Reference). In r rs) (sym (onward_resolution h m r e)) here)) [
        | inl i ↦ of_resolution r i
        | inr i ↦ of_copied r i
      ]

-- ---- what a tree tells, and who can proceed

going : (copies : Key → Bool) (t : Tree) (m : Chained) → is_done m.progress ≡ false → told copies t m ≡ ask_marked copies t m.request
going copies t m e = rw e refl

pinned : (copies : Key → Bool) (t : Tree) (m : Chained) → is_done m.progress ≡ true → is_wide m.kind ≡ false
    → told copies t m ≡ answer_at_pin copies t m.request m.request.body
pinned copies t m e f = rw (e, f) refl

goes_far : (h : Holdings) (n : Key) (x : Progress) → resolves_by h n x ≡ true → falls_short h n x ≡ false
goes_far h n Start e = refl
goes_far h n (Next k) e = ap not e
goes_far h n Done e = refl

able_by : (h : Holdings) (m : Chained) → falls_short h (key_of m.target) m.progress ≡ false → is_unable h m ≡ false
able_by h m e = last_false _ (is_none (fault_of m.request.body)) (is_wide m.kind) (falls_short h (key_of m.target) m.progress) e

-- The one by which a name goes on is as complete as the message, whose receiver could proceed; and a completed name goes
-- to the supplier of its copy.
pub way_able : (h : Holdings) (m : Chained) (r : Reference) → Ways h m r → is_unable h m ≡ false
way_able h m r (early i e f) = able_by h m (goes_far h (key_of m.target) m.progress e)
way_able h m r (late i pin f) =
    able_by h m (ap (falls_short h (key_of m.target))
    (same_progress_is m.progress Done (both_true (is_done m.progress) (not (is_wide m.kind)) pin).0))

pub way_phase : (h : Holdings) (m : Chained) (r : Reference) → Ways h m r → is_done r.progress ≡ is_done m.progress
way_phase h m r (early i e f) = f.0 ∙ sym (not_done h m e)
way_phase h m r (late i pin f) = ap (λ (y : Reference). is_done y.progress) f.1
    ∙ sym (both_true (is_done m.progress) (not (is_wide m.kind)) pin).0

pub way_done : (h : Holdings) (m : Chained) (r : Reference) → Ways h m r → is_done m.progress ≡ true → (is_wide m.kind ≡ false)
    × IsLate m r
way_done h m r (early i e f) d = absurd (false_true (sym (not_done h m e) ∙ d))
way_done h m r (late i pin f) d = (not_true (is_wide m.kind) (both_true (is_done m.progress) (not (is_wide m.kind)) pin).1, f)

pub way_wide : (h : Holdings) (m : Chained) (r : Reference) → Ways h m r → is_wide r.kind ≡ true → (x : Name) × (agents : List ℕ)
    × (r ≡ proceeding (length x + 1) x m.target NonSpecific agents)
way_wide h m r (early i e f) w = f.1 w
way_wide h m r (late i pin f) w = absurd (false_true (sym (ap (λ (y : Reference). is_wide y.kind) f.1) ∙ w))

-- its target is the message's
pub way_kept : (p : Point) (o : ℕ) (m : Chained) (r : Reference) (a : ℕ) → IsSound p → Ways (holdings_at p o) m r → In a r.agents
    → key_of r.target ≡ key_of m.target
way_kept p o m r a sound (late i pin f) ia = ap (λ (y : Reference). key_of y.target) f.1
way_kept p o m r a sound (early i e f) ia = elim (resolution_leads p o m r a sound i ia).keeps [
  | inl y ↦ absurd (false_true (sym (and_left (is_done r.progress) _ f.0) ∙ y))
  | inr y ↦ y.0
]

on_line : (from : Option ℕ) (l : Line) (r : Reference) (m : Chained) → IsCarried from (line_for (hand_of l)) r m → IsCarried from l r m
on_line from l r m c = record {
  target_is = c.target_is;
  progress_is = c.progress_is;
  kind_is = c.kind_is;
  exclusions_are = c.exclusions_are;
  trace_is = c.trace_is;
  request_is = c.request_is;
}

-- ---- the same question

module _ (p : Point) (s : Scene) (l k : Line) (from : Option ℕ) (r : Reference) (lines : List Line)
    (x : PassedOn p s l k from r lines) where
  abbrev h : Holdings
  h = holdings_at p l.receiver

  sound : IsSound p
  sound = record { described = x.setting.by_keys.described; consistent = x.setting.by_keys.consistent }

  way : Ways (holdings_at p l.receiver) l.message r
  way = the_way (holdings_at p l.receiver) l.message r x.found

  on : (k.message.request ≡ l.message.request)
      × ((touched (knowledge_at p) (tree_at p) k.receiver k.message ≡ touched (knowledge_at p) (tree_at p) l.receiver l.message)
      × ((e : Key) → asks_for k.message e ≡ asks_for l.message e))
  on =
      same_is_passed_on p l from r k.message k.receiver sound x.looked.1
      (subst (λ (rs : List Reference). In r rs) (sym (onward_resolution (holdings_at p l.receiver) l.message r x.found)) here) x.agent
      (on_line from l r k.message x.carried)

  phase : is_done k.message.progress ≡ is_done l.message.progress
  phase = ap is_done x.carried.progress_is ∙ way_phase (holdings_at p l.receiver) l.message r way

  new : is_done l.message.progress ≡ true → is_wide k.message.kind ≡ false
  new d = ap is_wide x.carried.kind_is ∙ ap (λ (y : Reference). is_wide y.kind) (way_done (holdings_at p l.receiver) l.message r way d).1.1

  old : is_done l.message.progress ≡ true → is_wide l.message.kind ≡ false
  old d = (way_done (holdings_at p l.receiver) l.message r way d).0

  tells : (copies : Key → Bool) (t : Tree) → told copies t k.message ≡ told copies t l.message
  tells copies t = by (is_done l.message.progress) refl
    where
      by : (b : Bool) → is_done l.message.progress ≡ b → told copies t k.message ≡ told copies t l.message
      by true e =
          pinned copies t k.message (phase ∙ e) (new e) ∙ ap (λ (y : Request). answer_at_pin copies t y y.body) on.0
          ∙ sym (pinned copies t l.message e (old e))
      by false e = going copies t k.message (phase ∙ e) ∙ ap (ask_marked copies t) on.0 ∙ sym (going copies t l.message e)

  pub asked_same : IsSame p l k × (is_unable (s.holdings l.receiver) l.message ≡ false)
  asked_same = (
    record {
      request = on.0;
      target = sym ((key_decides (key_of r.target) (key_of k.message.target)).0 x.carried.target_is)
          ∙ way_kept p l.receiver l.message r k.receiver sound way x.agent;
      phase = phase;
      narrow = old;
      looks = on.1.0;
      tells = tells;
    },
    ap (λ (f : ℕ → Holdings). is_unable (f l.receiver) l.message) x.setting.holdings ∙ way_able (holdings_at p l.receiver) l.message r way,
  )

pub same_is_asked : SameIsAsked
same_is_asked p s l k from r lines x = asked_same p s l k from r lines x
