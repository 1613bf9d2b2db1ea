-- Where no agent of an NSSR goes as far, the one tree has no lower entry either: a lower one would be in a context just
-- below, which one of these agents masters and so holds.
use Rattle.std.proofs.Common.{◌≡◌, ℕ, ◌+◌, ◌-◌, ◌≤◌, Bool, true, false, cond, not, ◌&&◌, nat_le, ◌⊎◌, inl, inr, List, [], ◌∷◌, ◌++◌, length, map, take, drop, refl, sym, ap, subst, ◌∙◌, Option, Some, None, arith}
use Rattle.std.specs.Option.{is_none, is_some}
use Rattle.std.proofs.lemmas.Bool.Decides.{leb_tells}
use Rattle.std.proofs.Math.Seq.{take-append_seam, take-length}
use Rattle.x5_model.specs.Words.{in_option, when, is_empty}
use Rattle.x5_model.specs.Members.{In, here}
use Rattle.x5_model.specs.Keys.{Key, IsPrefix, is_prefix, is_root}
use Rattle.x5_model.specs.Values.{Name, key_of}
use Rattle.x5_model.specs.Entries.{Named}
use Rattle.x5_model.specs.References.{Progress, Start, Next, Done, Reference, NonSpecific, Supplier, Chained}
use Rattle.x5_model.proofs.Lists.{in_first, in_left, in_map, none_of, and_true}
use Rattle.x5_model.proofs.Prefixes.{prefix_decides}
use Rattle.x5_model_tree.specs.World.{Specific, Nssr, Agent}
use Rattle.x5_model_tree.specs.Tree.{key_at, lowest}
use Rattle.x5_model_tree.specs.Masters.{Mastered, pin_of, numbered, mastered}
use Rattle.x5_model_tree.proofs.Longest.{IsLongest, longest_right, IsLowest, lowest_right}
use Rattle.x5_model_run.specs.Journal.{same_name, is_done, is_wide}
use Rattle.x5_model_run.specs.Holdings.{Held, Copy, Holdings, subordinates, served, known_pins, known_pin, held_at, copy_at, holds_within, prefixes}
use Rattle.x5_model_run.specs.Needs.{others, resolves, reference, proceeding, nssr_at, specific_at, multicast_needs, copy_answers, specific_needs, by_pin, subset_of, copied_needs}
use Rattle.x5_model_run.specs.History.{Point, knowledge_at, tree_at, world_at, own_context, holdings_at}
use Rattle.x5_model_theory.proofs.Holding.{of_place}
use Rattle.x5_model_theory.proofs.Longest.{respelled_key}
use Rattle.x5_model_theory.proofs.Stages.{key_length}
use Rattle.x5_model_updates.specs.Standing as updates
use Rattle.x5_model_updates.proofs.Goods.{was_mastered}
use Rattle.x5_model_updates.proofs.Own.{held_of}
use Rattle.x5_model_serve.specs.Finding.{Found, Here, CopyHere, Root, Below, Onward, Nowhere, Stuck, by_first, in_own, in_copy, at_pin, resolved, completed, completed_copy, completed_own, find, IsLooked}
use Rattle.x5_model_serve.specs.Answering.{above_next}
use Rattle.x5_model_find.specs.Finds.{NobodyIsTold}
use Rattle.x5_model_find.proofs.Needing.{copied_ask, Path, resolving, stopped, wide, done, path, false_true}
use Rattle.x5_model_find.proofs.Nowhere.{Told, listed, me_is, own_with}

-- ---- members

pub in_cond : {A : Type 0} (b : Bool) (xs : List A) (y : A) → In y (cond b xs []) → In y xs
in_cond true xs y i = i
in_cond false xs y i = elim i [ ]

in_opt : {A B : Type 0} (f : A → List B) (o : Option A) (y : B) → In y (in_option [] f o) → (x : A) × (o ≡ Some x) × In y (f x)
in_opt f None y i = elim i [ ]
in_opt f (Some x) y i = (x, refl, i)

in_when : {A : Type 0} (b : Bool) (x y : A) → In y (when b x) → y ≡ x
in_when true x y i = elim (in_first y x [] i) [ inl e ↦ e | inr j ↦ elim j [ ] ]
in_when false x y i = elim i [ ]

of_first : (rs : List Reference) (other : Found) (r : Reference) → by_first rs other ≡ Onward r → In r rs ⊎ (other ≡ Onward r)
of_first [] other r e = inr e
of_first (q ∷ rs) other r e = (let same : q ≡ r = cc in inl (subst (λ (x : Reference). In x (q ∷ rs)) same here))

wide_of : (x r : Reference) → Onward x ≡ Onward r → is_wide x.kind ≡ false → is_wide r.kind ≡ false
wide_of x r e w = (let same : x ≡ r = cc in subst (λ (y : Reference). is_wide y.kind ≡ false) same w)

abbrev multi_ask : Holdings → Chained → Named → Nssr → List Reference
multi_ask h m e n =
    when (not (same_name e.name m.target) && not (is_empty (others h.me n.agents)))
    (proceeding (length e.name + 1) e.name m.target NonSpecific (others h.me n.agents))

abbrev multi_from : Holdings → Chained → Held → Named → List Reference
multi_from h m c e = in_option [] (multi_ask h m e) (nssr_at c.nssrs (key_of e.name))

multicast_is : (h : Holdings) (m : Chained) (c : Held) (r : Reference) → In r (multicast_needs h m c)
    → (e : Named) × (lowest c.entries (key_of m.target) ≡ Some e) × (n : Nssr) × (nssr_at c.nssrs (key_of e.name) ≡ Some n) × (r ≡ proceeding (length e.name + 1) e.name m.target NonSpecific (others h.me n.agents))
multicast_is h m c r i =
    let e = in_opt (multi_from h m c) (lowest c.entries (key_of m.target)) r i in
    let n = in_opt (multi_ask h m e.0) (nssr_at c.nssrs (key_of e.0.name)) r e.2 in
    (e.0, e.1, n.0, n.1, in_when (not (same_name e.0.name m.target) && not (is_empty (others h.me n.0.agents))) (proceeding (length e.0.name + 1) e.0.name m.target NonSpecific (others h.me n.0.agents)) r n.2)

-- ---- every other reference is narrow

module _ (h : Holdings) (m : Chained) (r : Reference) where
  copied_narrow : In r (copied_needs h m) → is_wide r.kind ≡ false
  copied_narrow i =
      let a : In r (in_option [] (copied_ask h m) (copy_at h (key_of m.target))) = in_cond (by_pin m && is_some (subset_of m)) (in_option [] (copied_ask h m) (copy_at h (key_of m.target))) r i in
      let c = in_opt (copied_ask h m) (copy_at h (key_of m.target)) r a in
      let w : r ≡ reference m.target Done Supplier (c.0.supplier ∷ []) = in_when (is_none (held_at (served m.request h) (key_of m.target))) (reference m.target Done Supplier (c.0.supplier ∷ [])) r c.2 in
      ap (λ (x : Reference). is_wide x.kind) w

  completed_narrow : completed h m ≡ Onward r → is_wide r.kind ≡ false
  completed_narrow e = by (held_at h.own (key_of m.target)) refl
    where
      by_copy : (x : Option Copy) → completed_copy h m x ≡ Onward r → is_wide r.kind ≡ false
      by_copy None z = (let f : Stuck ≡ Onward r = z in cc)
      by_copy (Some c) z = elim (of_first (copied_needs h m) (CopyHere c) r z) [ inl i ↦ copied_narrow i | inr w ↦ cc ]

      by : (x : Option Held) → held_at h.own (key_of m.target) ≡ x → is_wide r.kind ≡ false
      by None q = by_copy (copy_at h (key_of m.target)) (subst (λ (x : Option Held). completed_own h m x ≡ Onward r) q e)
      by (Some c) q = (let f : Here c ≡ Onward r = subst (λ (x : Option Held). completed_own h m x ≡ Onward r) q e in cc)

  copy_narrow : (c : Copy) → in_copy h m c ≡ Onward r → is_wide r.kind ≡ false
  copy_narrow c e = by (copy_answers h m c) refl
    where
      by : (b : Bool) → copy_answers h m c ≡ b → is_wide r.kind ≡ false
      by true q = (let f : CopyHere c ≡ Onward r = rw q at e in cc)
      by false q = wide_of (proceeding (length c.held.prefix) c.held.prefix m.target Supplier (c.supplier ∷ [])) r (rw q at e) refl

  specific_narrow : (q : Key) → by_first (specific_needs h m q) Stuck ≡ Onward r → is_wide r.kind ≡ false
  specific_narrow q e = by (specific_at (subordinates m.request h) q) refl
    where
      by_cross : specific_at (subordinates m.request h) q ≡ None → (x : Option Specific) → specific_at h.cross q ≡ x → is_wide r.kind ≡ false
      by_cross k None z = (let f : Stuck ≡ Onward r = rw (k, z) at e in cc)
      by_cross k (Some x) z = wide_of _ r (rw (k, z) at e) refl

      by : (x : Option Specific) → specific_at (subordinates m.request h) q ≡ x → is_wide r.kind ≡ false
      by None z = by_cross z (specific_at h.cross q) refl
      by (Some x) z = wide_of _ r (rw z at e) refl

  -- so a wide one is found at a context of its own
  pin_wide : (x : Option Key) → at_pin h m x ≡ Onward r → is_wide r.kind ≡ true → (q : Key) × (x ≡ Some q) × (c : Held) × (held_at h.own q ≡ Some c) × (in_own h m c ≡ Onward r)
  pin_wide None e broad = absurd (by h.superior refl)
    where
      root : (b : Bool) → cond b Root (Nowhere []) ≡ Onward r → ⊥
      root true z = cc
      root false z = cc

      by : (x : Option ℕ) → h.superior ≡ x → ⊥
      by None z = root (is_root (key_of m.target)) (rw z at e)
      by (Some s) z = false_true (sym (wide_of _ r (rw z at e) refl) ∙ broad)
  pin_wide (Some q) e broad = by_own (held_at h.own q) refl
    where
      by_copy : held_at h.own q ≡ None → (x : Option Copy) → copy_at h q ≡ x → ⊥
      by_copy k None z = false_true (sym (specific_narrow q (rw (k, z) at e)) ∙ broad)
      by_copy k (Some c) z = false_true (sym (copy_narrow c (rw (k, z) at e)) ∙ broad)

      by_own : (x : Option Held) → held_at h.own q ≡ x → (y : Key) × (Some q ≡ Some y) × (c : Held) × (held_at h.own y ≡ Some c) × (in_own h m c ≡ Onward r)
      by_own None z = absurd (by_copy z (copy_at h q) refl)
      by_own (Some c) z = (q, refl, c, z, rw z at e)

  own_wide : (c : Held) → in_own h m c ≡ Onward r → (e : Named) × (lowest c.entries (key_of m.target) ≡ Some e) × (same_name e.name m.target ≡ false) × In r (multicast_needs h m c)
  own_wide c f = by (lowest c.entries (key_of m.target)) refl
    where
      at : (e : Named) → lowest c.entries (key_of m.target) ≡ Some e → (b : Bool) → same_name e.name m.target ≡ b → (same_name e.name m.target ≡ false) × In r (multicast_needs h m c)
      at e z true k = (let w : Here c ≡ Onward r = rw (z, k) at f in cc)
      at e z false k = (k, elim (of_first (multicast_needs h m c) (Nowhere e.name) r (rw (z, k) at f)) [ inl i ↦ i | inr w ↦ cc ])

      by : (x : Option Named) → lowest c.entries (key_of m.target) ≡ x → (e : Named) × (lowest c.entries (key_of m.target) ≡ Some e) × (same_name e.name m.target ≡ false) × In r (multicast_needs h m c)
      by None z = (let w : Nowhere [] ≡ Onward r = rw z at f in cc)
      by (Some e) z = (let w = at e z (same_name e.name m.target) refl in (e, z, w.0, w.1))

some_named : (x y : Named) → Some x ≡ Some y → x ≡ y
some_named x y e = cc

next_is : (a b : ℕ) → Next a ≡ Next b → a ≡ b
next_is a b e = cc

path_wide : (h : Holdings) (m : Chained) (r : Reference) → find h m ≡ Onward r → is_wide r.kind ≡ true → resolved h m ≡ Onward r
path_wide h m r e broad = by (path h m)
  where
    by : Path h m → resolved h m ≡ Onward r
    by (resolving g b k begins) = sym k ∙ e
    by (stopped g b k begins) = (let w : Stuck ≡ Onward r = sym k ∙ e in cc)
    by (wide g b k) = (let w : Below ≡ Onward r = sym k ∙ e in cc)
    by (done g k begins) = absurd (false_true (sym (completed_narrow h m r (sym k ∙ e)) ∙ broad))

goes_on : (h : Holdings) (m : Chained) → resolves h m ≡ true → is_done m.progress ≡ false
goes_on h m e = by m.progress refl
  where
    by : (x : Progress) → m.progress ≡ x → is_done m.progress ≡ false
    by Start q = rw q refl
    by (Next k) q = rw q refl
    by Done q = (let w : false ≡ true = rw q at e in absurd (false_true w))

path_goes : (h : Holdings) (m : Chained) (r : Reference) → find h m ≡ Onward r → is_wide r.kind ≡ true → is_done m.progress ≡ false
path_goes h m r e broad = by (path h m)
  where
    by : Path h m → is_done m.progress ≡ false
    by (resolving g b k begins) = goes_on h m g
    by (stopped g b k begins) = (let w : Stuck ≡ Onward r = sym k ∙ e in cc)
    by (wide g b k) = (let w : Below ≡ Onward r = sym k ∙ e in cc)
    by (done g k begins) = absurd (false_true (sym (completed_narrow h m r (sym k ∙ e)) ∙ broad))

-- the name above what is still to be resolved is the entry's
above_is : (xs ys : Name) → take (length xs + 1 - 1) (take (length xs + 1 - 1) xs ++ drop (length xs + 1 - 1) ys) ≡ xs
above_is xs ys =
    let z : length xs + 1 - 1 ≡ length xs = omega arith in
    ap (λ (n : ℕ). take n (take n xs ++ drop n ys)) z
    ∙ ap (λ (x : Name). take (length xs) (x ++ drop (length xs) ys)) (take-length xs)
    ∙ take-append_seam xs (drop (length xs) ys)

module _ (p : Point) (s : updates.StandsWhole p) (o : ℕ) (m : Chained) (looked : IsLooked m) (going : is_done m.progress ≡ false) (a : Agent) (ia : In (o, a) (numbered (knowledge_at p)))
    (q : Key) (c : Held) (best : IsLongest (map key_of (known_pins m.request (holdings_at p o))) (key_of m.target) (Some q)) (found : held_at (holdings_at p o).own q ≡ Some c)
    (e : Named) (low : lowest c.entries (key_of m.target) ≡ Some e) (other : same_name e.name m.target ≡ false) (n : Nssr) (at : nssr_at c.nssrs (key_of e.name) ≡ Some n) where
  abbrev asked : Reference
  asked = proceeding (length e.name + 1) e.name m.target NonSpecific (others (holdings_at p o).me n.agents)

  on_way : IsPrefix (key_of e.name) (key_of m.target)
  on_way = (subst (λ (x : Option Named). IsLowest c.entries (key_of m.target) (length (key_of m.target)) x) low (lowest_right c.entries (key_of m.target))).1.0

  target_is : key_of asked.target ≡ key_of m.target
  target_is = respelled_key (length e.name + 1 - 1) e.name m.target (omega arith) on_way

  no_further : (k : ℕ) → k ≡ length e.name + 1 → ((b : ℕ) → In b asked.agents → holds_within (holdings_at p b) (key_of asked.target) k ≡ false)
      → (d : Mastered) → In d (mastered (world_at p)) → In d.master asked.agents → IsPrefix (pin_of d) (key_of m.target) → length (pin_of d) ≤ length (key_at e)
  no_further k is none d i j on =
      let w = was_mastered p s d i in
      let mine : w.0.master ≡ d.master = ap (λ (x : Mastered). x.master) (sym w.2) in
      let h = held_of p s m.request d.master w.0 w.1 mine in
      let held : Held = own_context (tree_at p) h.0 w.0.context in
      let there_is : In w.0.context.prefix (prefixes (holdings_at p d.master)) =
      in_left w.0.context.prefix (map (λ (x : Held). x.prefix) (holdings_at p d.master).own) (map (λ (x : Copy). x.held.prefix) (holdings_at p d.master).copies)
      (in_map (λ (x : Held). x.prefix) (own_context (tree_at p) h.0 w.0.context) (holdings_at p d.master).own h.2) in
      let off = none_of (λ (x : Name). is_prefix (key_of x) (key_of asked.target) && nat_le k (length x)) w.0.context.prefix (prefixes (holdings_at p d.master)) (none d.master j) there_is in
      let pin : pin_of w.0 ≡ pin_of d = ap pin_of (sym w.2) in
      let on_target : IsPrefix (pin_of w.0) (key_of asked.target) = subst (λ (x : Key). IsPrefix x (key_of asked.target)) (sym pin) (subst (λ (x : Key). IsPrefix (pin_of d) x) (sym target_is) on) in
      elim (leb_tells k (length w.0.context.prefix)) [
        | inl le ↦ absurd (false_true (sym off ∙ and_true (is_prefix (pin_of w.0) (key_of asked.target)) (nat_le k (length w.0.context.prefix)) ((prefix_decides (pin_of w.0) (key_of asked.target)).1 on_target) le.0))
        | inr less ↦
            let more = less.1 in
            let u = key_length w.0.context.prefix in
            let v = key_length e.name in
            let x : length (pin_of w.0) ≡ length (pin_of d) = ap length pin in
            omega arith
      ]

  told_there : (k : ℕ) → asked.progress ≡ Next k → ((b : ℕ) → In b asked.agents → holds_within (holdings_at p b) (key_of asked.target) k ≡ false)
      → Told p s o m looked going asked.agents (above_next asked)
  told_there k is none =
      let same : k ≡ length e.name + 1 = sym (next_is (length e.name + 1) k is) in
      let agents : others o n.agents ≡ asked.agents = ap (λ (x : ℕ). others x n.agents) (sym (me_is p o)) in
      let alone : listed o (nssr_at c.nssrs (key_of e.name)) ≡ asked.agents = ap (λ (x : Option Nssr). listed o x) at ∙ agents in
      subst (λ (x : Name). Told p s o m looked going asked.agents x) (sym (above_is e.name m.target))
      (own_with p s o m looked going a ia e.name q c best found e low other asked.agents alone (no_further k same none))

pub nobody_is_told : NobodyIsTold
nobody_is_told p o m r k s agent looked e broad next none =
    let going = path_goes (holdings_at p o) m r e broad in
    let w = pin_wide (holdings_at p o) m r (known_pin m.request (holdings_at p o) (key_of m.target)) (path_wide (holdings_at p o) m r e broad) broad in
    let best : IsLongest (map key_of (known_pins m.request (holdings_at p o))) (key_of m.target) (Some w.0) = subst (λ (x : Option Key). IsLongest (map key_of (known_pins m.request (holdings_at p o))) (key_of m.target) x) w.1 (longest_right (map key_of (known_pins m.request (holdings_at p o))) (key_of m.target)) in
    let x = own_wide (holdings_at p o) m r w.2 w.4 in
    let y = multicast_is (holdings_at p o) m w.2 r x.3 in
    let same : x.0 ≡ y.0 = some_named x.0 y.0 (sym x.1 ∙ y.1) in
    let other : same_name y.0.name m.target ≡ false = subst (λ (z : Named). same_name z.name m.target ≡ false) same x.2 in
    subst (λ (z : Reference). z.progress ≡ Next k → ((b : ℕ) → In b z.agents → holds_within (holdings_at p b) (key_of z.target) k ≡ false) → Told p s o m looked going z.agents (above_next z)) (sym y.4)
    (λ n f. told_there p s o m looked going agent.0 (of_place (knowledge_at p) o agent.0 agent.1) w.0 w.2 best w.3 y.0 y.1 other y.2 y.3 k n f) next none
