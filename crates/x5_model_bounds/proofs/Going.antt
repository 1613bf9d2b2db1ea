-- A reference of name resolution, or to the supplier of a copy that can't be used: it leads to a later level, or at the
-- same one to a smaller distance, so what is asked by it costs less by its agents.
use Rattle.std.proofs.Common.{◌≡◌, ℕ, ◌+◌, ◌-◌, ◌*◌, ◌<◌, ◌≤◌, min, Bool, true, false, not, ◌&&◌, ◌⊎◌, inl, inr, List, [], ◌∷◌, ◌++◌, length, refl, sym, ap, subst, ◌∙◌, arith, Option, Some, None, if◌then◌else◌}
use Rattle.std.proofs.lemmas.Nat.{mul-le}
use Rattle.std.specs.Option.{is_some}
use Rattle.x5_model.specs.Words.{has}
use Rattle.x5_model.specs.Members.{In, here}
use Rattle.x5_model.specs.Keys.{same_key}
use Rattle.x5_model.specs.Values.{key_of}
use Rattle.x5_model.specs.Requests.{Base, OneLevel, Body, Read, Compare, ListBelow, Search, AddEntry, RemoveEntry, ModifyEntry, ModifyDn, Request}
use Rattle.x5_model.specs.References.{Progress, Reference, Chained}
use Rattle.x5_model.specs.Statics.{fault_of}
use Rattle.x5_model.proofs.KeyLaws.{key_decides}
use Rattle.x5_model.proofs.Lists.{in_either, in_left, in_right}
use Rattle.x5_model_tree.specs.World.{World}
use Rattle.x5_model_tree.specs.Ask.{is_update}
use Rattle.x5_model_tree.specs.Masters.{pin_of, mastered}
use Rattle.x5_model_run.specs.Holdings.{Holdings}
use Rattle.x5_model_run.specs.History.{Point, knowledge_at, tree_at, holdings_at}
use Rattle.x5_model_run.specs.Journal.{item_of, is_done, is_wide}
use Rattle.x5_model_run.specs.Chain.{Scene, IsCarried}
use Rattle.x5_model_run.specs.Covers.{touched}
use Rattle.x5_model_run.specs.Needs.{by_pin, subset_of, new_name, resolution_needs, part_needs, copied_needs, passing_needs}
use Rattle.x5_model_run.specs.Placed.{is_query_below}
use Rattle.x5_model_run.specs.Stage.{stage_of}
use Rattle.x5_model_tree.proofs.Stored.{pins_short}
use Rattle.x5_model_theory.specs.Leading.{IsSound, item_for, level_of, Leads}
use Rattle.x5_model_theory.proofs.Bounding.{same_level}
use Rattle.x5_model_theory.proofs.Following.{followed_is_placed}
use Rattle.x5_model_theory.proofs.Parts.{copies_lead_on}
use Rattle.x5_model_theory.proofs.Rows.{resolved, resolution_leads}
use Rattle.x5_model_theory.proofs.Stages.{key_length, stage_by_key}
use Rattle.x5_model_parts.proofs.Onward.{same_is_passed_on}
use Rattle.x5_model_serve.specs.Finding.{Onward, find, IsLooked}
use Rattle.x5_model_serve.specs.Serving.{Hand, hand, line_for}
use Rattle.x5_model_serve.specs.Claims.{Setting}
use Rattle.x5_model_serve.proofs.Needing.{onward_resolution}
use Rattle.x5_model_bounds.specs.Costs.{total, width, hops, left_of, pairs_in, part_cost, parts_cost, probes_cost, serving_cost, whole_cost}
use Rattle.x5_model_bounds.specs.Bounds.{Ready, Payable, asks_of, cost_of, ResolutionPays}
use Rattle.x5_model_bounds.proofs.Unables.{false_true}
use Rattle.x5_model_bounds.proofs.Whole.{late_distance, hops_within, serving_small}
use Rattle.x5_model_bounds.proofs.Steps.{Step, resolution_step, copied_step}

-- ---- a later level pays for a reference's agents and four suppliers, a supplier for one more

abbrev pub left_for : World → ℕ → Reference → ℕ
left_for w a r = (min (length r.target) 16 - level_of (item_for a r)) * width w + hops w (item_for a r)

level_pays : (len w l k size now after : ℕ) → l < k → k ≤ size → len + 8 ≤ w → after ≤ 4 → len + ((size - k) * w + after) ≤ (size - l) * w + now
level_pays len w l k size now after less le few near =
    let a : (size - k + 1) * w ≤ (size - l) * w = mul-le (size - k + 1) w (size - l) w (omega arith) (omega arith) in
    add ((size - k) * w) ((size - l) * w) (times (size - k) a)
  where
    times : (n : ℕ) → (n + 1) * w ≤ (size - l) * w → n * w + w ≤ (size - l) * w
    times n h = omega arith

    add : (a b : ℕ) → a + w ≤ b → len + (a + after) ≤ b + now
    add a b h = omega arith

same_pays : (len w l k size now after : ℕ) → l ≡ k → len ≡ 1 → after < now → len + ((size - k) * w + after) ≤ (size - l) * w + now
same_pays len w l k size now after e one near =
    let same : (size - k) * w ≡ (size - l) * w = ap (λ (n : ℕ). (size - n) * w) (sym e) in
    add ((size - k) * w) ((size - l) * w) same
  where
    add : (a b : ℕ) → a ≡ b → len + (a + after) ≤ b + now
    add a b h = omega arith

step_pays : (p : Point) (o a : ℕ) (m : Chained) (r : Reference) → In a r.agents → (is_done m.progress && is_wide m.kind) ≡ false → Leads p o m r a → Step p o m r
    → length r.agents + left_for (knowledge_at p) a r ≤ left_of (knowledge_at p) o m
step_pays p o a m r ia flat lead step =
    let w : World = knowledge_at p in
    let size : length m.target ≡ length r.target = sym (key_length m.target) ∙ ap length (sym step.kept) ∙ key_length r.target in
    let mine : hops (knowledge_at p) (item_of o m) ≡ (stage_of (knowledge_at p) (item_of o m)).distance = ap (λ (b : Bool). if b then 0 else (stage_of (knowledge_at p) (item_of o m)).distance) flat in
    let its : hops (knowledge_at p) (item_for a r) ≤ (stage_of (knowledge_at p) (item_for a r)).distance = hops_within (knowledge_at p) (item_for a r) in
    subst (λ (n : ℕ). length r.agents + ((min (length r.target) 16 - level_of (item_for a r)) * width (knowledge_at p) + hops (knowledge_at p) (item_for a r)) ≤ (min n 16 - level_of (item_of o m)) * width (knowledge_at p) + hops (knowledge_at p) (item_of o m)) (sym size)
    (elim lead.further [
      | inl less ↦
          let near : (stage_of (knowledge_at p) (item_for a r)).distance ≤ 4 = late_distance (knowledge_at p) (item_for a r) (omega arith) in
          level_pays (length r.agents) (width (knowledge_at p)) (level_of (item_of o m)) (level_of (item_for a r)) (min (length r.target) 16) (hops (knowledge_at p) (item_of o m)) (hops (knowledge_at p) (item_for a r)) less (step.inside a ia less) step.few (omega arith)
      | inr same ↦ elim step.late [
        | inl one ↦
            same_pays (length r.agents) (width (knowledge_at p)) (level_of (item_of o m)) (level_of (item_for a r)) (min (length r.target) 16) (hops (knowledge_at p) (item_of o m)) (hops (knowledge_at p) (item_for a r)) same.0 one (closer (hops (knowledge_at p) (item_for a r)) (stage_of (knowledge_at p) (item_for a r)).distance (hops (knowledge_at p) (item_of o m)) (stage_of (knowledge_at p) (item_of o m)).distance mine its same.1)
        | inr f ↦ (let less : level_of (item_of o m) < level_of (item_for a r) = f a in let e : level_of (item_of o m) ≡ level_of (item_for a r) = same.0 in absurd (omega arith))
      ]
    ])
  where
    closer : (a b c d : ℕ) → c ≡ d → a ≤ b → b < d → a < c
    closer a b c d e f g = omega arith

-- what is carried is where its reference says
pub left_carried : (w : World) (a : ℕ) (sender : Option ℕ) (o : Hand) (r : Reference) (m : Chained) → IsCarried sender (line_for o) r m → left_of w a m ≡ left_for w a r
left_carried w a sender o r m carried =
    let target : key_of m.target ≡ key_of r.target = sym ((key_decides (key_of r.target) (key_of m.target)).0 carried.target_is) in
    let size : length m.target ≡ length r.target = sym (key_length m.target) ∙ ap length target ∙ key_length r.target in
    let wide : is_wide m.kind ≡ is_wide r.kind = ap is_wide carried.kind_is in
    let level : level_of (item_of a m) ≡ level_of (item_for a r) =
    same_level a m.target r.target m.progress (is_wide m.kind) size
    ∙ ap (λ (x : Progress). level_of (record { agent = a; target = r.target; progress = x; wide = is_wide m.kind })) carried.progress_is
    ∙ ap (λ (b : Bool). level_of (record { agent = a; target = r.target; progress = r.progress; wide = b })) wide in
    let near : (stage_of w (item_of a m)).distance ≡ (stage_of w (item_for a r)).distance =
    ap (λ s. s.distance) (stage_by_key w a m.target r.target m.progress (is_wide m.kind) target)
    ∙ ap (λ (x : Progress). (stage_of w (record { agent = a; target = r.target; progress = x; wide = is_wide m.kind })).distance) carried.progress_is
    ∙ ap (λ (b : Bool). (stage_of w (record { agent = a; target = r.target; progress = r.progress; wide = b })).distance) wide in
    let flag : (is_done m.progress && is_wide m.kind) ≡ (is_done r.progress && is_wide r.kind) = (λ i. is_done (carried.progress_is i) && wide i) in
    let hop : hops w (item_of a m) ≡ hops w (item_for a r) = (λ i. if flag i then 0 else near i) in
    (λ i. (min (size i) 16 - level i) * width w + hop i)

-- ---- the evaluation costs the same

pub some_subset : (m : Chained) → is_some (subset_of m) ≡ is_query_below m.request.body
some_subset m = go m.request.body
  where
    pick : (b : Bool) → is_some (if b then Some Base else Some OneLevel) ≡ true
    pick true = refl
    pick false = refl

    go : (b : Body) → is_some (subset_of (record m { request = record m.request { body = b } })) ≡ is_query_below b
    go (Read name selection) = refl
    go (Compare name assertion) = refl
    go (ListBelow name) = pick (by_pin m)
    go (Search base subset f selection) = refl
    go (AddEntry name attributes) = refl
    go (RemoveEntry name) = refl
    go (ModifyEntry name changes) = refl
    go (ModifyDn name rdn drops) = refl

pub same_total : {X : Type 0} (f g : X → ℕ) (xs : List X) → ((x : X) → f x ≡ g x) → total f xs ≡ total g xs
same_total f g [] e = refl
same_total f g (x ∷ xs) e = (let h : total f xs ≡ total g xs = same_total f g xs e in (λ i. e x i + h i))

abbrev evaluation : Point → ℕ → Chained → ℕ
evaluation p to m = (if is_some (subset_of m) then parts_cost p to m else 0) + probes_cost p m

same_evaluation : (p : Point) (a o : ℕ) (m n : Chained) → m.request ≡ n.request → touched (knowledge_at p) (tree_at p) a m ≡ touched (knowledge_at p) (tree_at p) o n → by_pin m ≡ by_pin n → key_of m.target ≡ key_of n.target
    → evaluation p a m ≡ evaluation p o n
same_evaluation p a o m n request looks pin target =
    let asked : is_some (subset_of m) ≡ is_some (subset_of n) = some_subset m ∙ ap (λ (r : Request). is_query_below r.body) request ∙ sym (some_subset n) in
    let parts : parts_cost p a m ≡ parts_cost p o n =
    same_total (part_cost p a m) (part_cost p o n) (mastered (knowledge_at p))
    (λ c i. if has same_key (looks i) (pin_of c) then ((if pin i && same_key (pin_of c) (target i) then 0 else width (knowledge_at p)) + pairs_in c) else 0) in
    let probes : probes_cost p m ≡ probes_cost p n = ap (λ (r : Request). if is_some (new_name r.body) then 5 * width (knowledge_at p) else 0) request in
    (λ i. (if asked i then parts i else 0) + probes i)

-- ---- the reference is paid

is_passing : (h : Holdings) (m : Chained) (r : Reference) → fault_of m.request.body ≡ None → In r (resolution_needs h m) ⊎ In r (copied_needs h m) → In r (passing_needs h m)
is_passing h m r e i = go (is_some (fault_of m.request.body)) (ap is_some e)
  where
    both : In r ((resolution_needs h m ++ part_needs h m) ++ copied_needs h m)
    both = elim i [ inl j ↦ in_left r (resolution_needs h m ++ part_needs h m) (copied_needs h m) (in_left r (resolution_needs h m) (part_needs h m) j) | inr j ↦ in_right r (resolution_needs h m ++ part_needs h m) (copied_needs h m) j ]

    go : (b : Bool) → b ≡ false → In r (if b then [] else ((resolution_needs h m ++ part_needs h m) ++ copied_needs h m))
    go true f = cc
    go false f = both

pub sound_by : (p : Point) (s : Scene) → Setting p s → IsSound p
sound_by p s set = record { described = set.by_keys.described; consistent = set.by_keys.consistent }

module _ (p : Point) (s : Scene) (from : Option ℕ) (k : Hand) (r : Reference) (set : Setting p s) (ready : Ready p s k) (looked : IsLooked k.message)
    (needed : In r (resolution_needs (holdings_at p k.receiver) k.message ++ copied_needs (holdings_at p k.receiver) k.message)) (passing : In r (passing_needs (holdings_at p k.receiver) k.message))
    (flat : (is_done k.message.progress && is_wide k.message.kind) ≡ false) (step : Step p k.receiver k.message r) (leads : (a : ℕ) → In a r.agents → Leads p k.receiver k.message r a) where
  abbrev left : ℕ
  left = left_of (knowledge_at p) k.receiver k.message

  abbrev rest : ℕ
  rest = evaluation p k.receiver k.message

  pays_one : (a : ℕ) → In a r.agents → length r.agents + left_for (knowledge_at p) a r ≤ left_of (knowledge_at p) k.receiver k.message
  pays_one a i = step_pays p k.receiver a k.message r i flat (leads a i) step

  fitting : (xs : List ℕ) → r.agents ≡ xs → length r.agents ≤ left_of (knowledge_at p) k.receiver k.message
  fitting [] e = (let z : length r.agents ≡ 0 = ap length e in omega arith)
  fitting (a ∷ xs) e = (let h : length r.agents + left_for (knowledge_at p) a r ≤ left_of (knowledge_at p) k.receiver k.message = pays_one a (subst (λ (ys : List ℕ). In a ys) (sym e) here) in omega arith)

  target_is : (m : Chained) → IsCarried from (line_for k) r m → key_of m.target ≡ key_of k.message.target
  target_is m c = sym ((key_decides (key_of r.target) (key_of m.target)).0 c.target_is) ∙ step.kept

  passed_on : (a : ℕ) → In a r.agents → (m : Chained) → IsCarried from (line_for k) r m → (m.request ≡ k.message.request) × (touched (knowledge_at p) (tree_at p) a m ≡ touched (knowledge_at p) (tree_at p) k.receiver k.message)
  passed_on a i m c = (let x = same_is_passed_on p (line_for k) from r m a (sound_by p s set) looked.1 needed i c in (x.0, x.1.0))

  is_ready : (a : ℕ) → In a r.agents → (m : Chained) → IsCarried from (line_for k) r m → Ready p s (hand a m)
  is_ready a i m c =
      let x = passed_on a i m c in
      let target = target_is m c in
      record {
        placed = followed_is_placed p from (line_for k) r m a (sound_by p s set) passing i c ready.placed;
        updates = λ e. target ∙ ready.updates (ap (λ (y : Request). is_update y.body) (sym x.0) ∙ e);
      }

  is_within : (a : ℕ) → In a r.agents → (m : Chained) → IsCarried from (line_for k) r m → serving_cost p a m ≤ (left - length r.agents) + rest
  is_within a i m c =
      let x = passed_on a i m c in
      let pin : by_pin m ≡ by_pin k.message = (λ j. is_done (c.progress_is j) && not (is_wide (c.kind_is j))) ∙ step.pinned in
      let same : evaluation p a m ≡ evaluation p k.receiver k.message = same_evaluation p a k.receiver m k.message x.0 x.1 pin (target_is m c) in
      let its : left_of (knowledge_at p) a m ≡ left_for (knowledge_at p) a r = left_carried (knowledge_at p) a from k r m c in
      add (length r.agents) (left_of (knowledge_at p) a m) (left_for (knowledge_at p) a r) (left_of (knowledge_at p) k.receiver k.message) (evaluation p a m) (evaluation p k.receiver k.message) its (pays_one a i) same
    where
      add : (n l f k e g : ℕ) → l ≡ f → n + f ≤ k → e ≡ g → l + e ≤ (k - n) + g
      add n l f k e g p q r = omega arith

  paid_by : Payable p s from k r (cost_of p k) (asks_of k)
  paid_by = record {
    each = (left - length r.agents) + rest;
    few = enough (length r.agents) (left_of (knowledge_at p) k.receiver k.message) (evaluation p k.receiver k.message) (fitting r.agents refl);
    small = less (length r.agents) (left_of (knowledge_at p) k.receiver k.message) (evaluation p k.receiver k.message) (whole_cost p) (serving_small p k.receiver k.message);
    carries = record {
      ready = is_ready;
      within = is_within;
      asking = λ a i m c. ap (λ (x : Request). is_update x.body) (passed_on a i m c).0;
    };
  }
    where
      enough : (n l e : ℕ) → n ≤ l → n + ((l - n) + e) ≤ l + e
      enough n l e h = omega arith

      less : (n l e w : ℕ) → 2 + (l + e) ≤ w → (l - n) + e ≤ w
      less n l e w h = omega arith

pub resolution_pays : ResolutionPays
resolution_pays p s from k r set ready looked e =
    let o : ℕ = k.receiver in
    let sound = sound_by p s set in
    let found : find (holdings_at p k.receiver) k.message ≡ Onward r = ap (λ (h : ℕ → Holdings). find (h k.receiver) k.message) (sym set.holdings) ∙ e in
    let one : resolution_needs (holdings_at p k.receiver) k.message ++ copied_needs (holdings_at p k.receiver) k.message ≡ r ∷ [] = onward_resolution (holdings_at p k.receiver) k.message r found in
    let needed : In r (resolution_needs (holdings_at p k.receiver) k.message ++ copied_needs (holdings_at p k.receiver) k.message) = subst (λ (xs : List Reference). In r xs) (sym one) here in
    elim (in_either r (resolution_needs (holdings_at p k.receiver) k.message) (copied_needs (holdings_at p k.receiver) k.message) needed) [
      | inl i ↦
          let x = resolution_step p k.receiver k.message sound (pins_short (knowledge_at p) sound.described) r i in
          let early : is_done k.message.progress ≡ false = resolved (holdings_at p k.receiver) k.message (λ y. is_done y ≡ false) x.0 refl (λ j d. refl) in
          paid_by p s from k r set ready looked needed (is_passing (holdings_at p k.receiver) k.message r looked.0 (inl i)) (ap (λ (b : Bool). b && is_wide k.message.kind) early) x.1
          (λ a ia. resolution_leads p k.receiver k.message r a sound i ia)
      | inr i ↦
          let x = copied_step p k.receiver k.message sound (pins_short (knowledge_at p) sound.described) r i in
          paid_by p s from k r set ready looked needed (is_passing (holdings_at p k.receiver) k.message r looked.0 (inr i)) (narrow (is_done k.message.progress) (is_wide k.message.kind) x.0) x.1
          (λ a ia. copies_lead_on p k.receiver k.message r a sound i ia)
    ]
  where
    narrow : (a b : Bool) → (a && not b) ≡ true → (a && b) ≡ false
    narrow true true e = absurd (false_true e)
    narrow true false e = refl
    narrow false b e = refl
