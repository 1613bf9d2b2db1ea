-- What follows a needed reference is placed.
use Rattle.std.proofs.Common.{◌≡◌, ℕ, ◌-◌, nat_le, Bool, true, false, ◌&&◌, inl, inr, List, [], ◌∷◌, ◌++◌, length, take, refl, sym, ap, subst, ◌∙◌, not, ◌||◌, if◌then◌else◌, ◌⊎◌, Option}
use Rattle.x5_model.specs.Members.{In, here, there}
use Rattle.x5_model.specs.Keys.{Key}
use Rattle.x5_model.specs.Values.{key_of, Name}
use Rattle.x5_model.specs.Requests.{Body, Read, Compare, ListBelow, Search, AddEntry, RemoveEntry, ModifyEntry, ModifyDn, Request}
use Rattle.std.specs.Option.{is_some}
use Rattle.x5_model_tree.specs.Ask.{is_update}
use Rattle.x5_model_theory.proofs.Tests.{false_true}
use Rattle.x5_model.specs.References.{Progress, Start, Next, Done, RefType, Reference, TraceItem, Chained}
use Rattle.x5_model.proofs.KeyLaws.{key_decides}
use Rattle.x5_model.proofs.Lists.{both_true, in_first, in_either, of_all, all_in}
use Rattle.x5_model_tree.specs.World.{World}
use Rattle.x5_model_tree.specs.Tree.{is_there}
use Rattle.x5_model_tree.specs.Masters.{holds}
use Rattle.x5_model_run.specs.History.{Point, knowledge_at, tree_at, holdings_at}
use Rattle.x5_model_run.specs.Journal.{item_of, is_wide, Line, is_done, same_name}
use Rattle.x5_model_run.specs.Needs.{target_of, subset_of, resolution_needs, part_needs, copied_needs, passing_needs}
use Rattle.x5_model_run.specs.Placed.{is_brought, stands_at, fits, is_query_below}
use Rattle.x5_model_run.specs.Stage.{Stage, stage_of, is_lower}
use Rattle.x5_model_theory.specs.Leading.{IsSound, item_for, Leads, FollowedIsPlaced, IsRising, TracesRise, NoItemTwice}
use Rattle.x5_model_theory.proofs.Stages.{stage_by_key, key_length, lower_chain, never_lower, same_stage}
use Rattle.x5_model_theory.proofs.Rows.{resolution_leads}
use Rattle.x5_model_theory.proofs.Parts.{parts_lead_on, copies_lead_on}
use Rattle.x5_model_run.specs.Chain.{IsCarried, probe_request, is_probe, part_body, part_request, asks_part, is_user}
use Rattle.x5_model.specs.Statics.{fault_of}

-- a message's place is told by keys
brought_by_key : (p : Point) (m n : Chained) (a : ℕ) (x : Progress) (kind : RefType) → key_of m.target ≡ key_of n.target
    → is_brought p (record m { progress = x; kind = kind }) a ≡ true → is_brought p (record n { progress = x; kind = kind }) a ≡ true
brought_by_key p m n a Start kind e b = refl
brought_by_key p m n a (Next k) kind e b =
    let l : length m.target ≡ length n.target = sym (key_length m.target) ∙ ap length e ∙ key_length n.target in
    go (is_wide kind) l b
  where
    next : Chained → Bool → Bool
    next x false = nat_le k (length x.target) && holds (knowledge_at p) a (take k (key_of x.target))
    next x true = is_there (tree_at p).entries (take (k - 1) (key_of x.target))

    go : (c : Bool) → length m.target ≡ length n.target → next m c ≡ true → next n c ≡ true
    go false l t = subst (λ (y : Key). (nat_le k (length n.target) && holds (knowledge_at p) a (take k y)) ≡ true) e (subst (λ (y : ℕ). (nat_le k y && holds (knowledge_at p) a (take k (key_of m.target))) ≡ true) l t)
    go true l t = subst (λ (y : Key). is_there (tree_at p).entries (take (k - 1) y) ≡ true) e t
brought_by_key p m n a Done kind e b = go (is_wide kind) b
  where
    last : Chained → Bool → Bool
    last x false = holds (knowledge_at p) a (key_of x.target)
    last x true = stands_at (knowledge_at p) (key_of x.target) a

    go : (c : Bool) → last m c ≡ true → last n c ≡ true
    go false t = subst (λ (y : Key). holds (knowledge_at p) a y ≡ true) e t
    go true t = subst (λ (y : Key). stands_at (knowledge_at p) y a ≡ true) e t

pub leads_on : (p : Point) (o : ℕ) (m : Chained) (r : Reference) (a : ℕ) → IsSound p → In r (passing_needs (holdings_at p o) m) → In a r.agents → Leads p o m r a
leads_on p o m r a sound i j = go (is_some (fault_of m.request.body)) i
  where
    go : (b : Bool) → In r (if b then [] else (resolution_needs (holdings_at p o) m ++ part_needs (holdings_at p o) m ++ copied_needs (holdings_at p o) m)) → Leads p o m r a
    go true k = elim k [ ]
    go false k =
        elim (in_either r (resolution_needs (holdings_at p o) m ++ part_needs (holdings_at p o) m) (copied_needs (holdings_at p o) m) k) [
          | inr l ↦ copies_lead_on p o m r a sound l j
          | inl l ↦ elim (in_either r (resolution_needs (holdings_at p o) m) (part_needs (holdings_at p o) m) l) [
            | inl x ↦ resolution_leads p o m r a sound x j
            | inr x ↦ parts_lead_on p o m r a sound x j
          ]
        ]

-- ---- what is asked fits

-- a list or search
pub query_of : (m : Chained) → is_some (subset_of m) ≡ true → is_query_below m.request.body ≡ true
query_of m e = go m.request.body e
  where
    go : (b : Body) → is_some (subset_of (record m { request = record m.request { body = b } })) ≡ true → is_query_below b ≡ true
    go (Read name selection) e = e
    go (Compare name assertion) e = e
    go (ListBelow name) e = refl
    go (Search base subset f selection) e = refl
    go (AddEntry name attributes) e = e
    go (RemoveEntry name) e = e
    go (ModifyEntry name changes) e = e
    go (ModifyDn name rdn drops) e = e

-- which is no update, and whose part asks for the part's base
pub part_fits : (by_user wide : Bool) (t : Name) (r : Request) → is_query_below r.body ≡ true
    → (is_update r.body ≡ false) × (target_of (part_request by_user wide t r).body ≡ t) × (is_query_below (part_request by_user wide t r).body ≡ true)
part_fits by_user wide t r e = go r.body e
  where
    go : (b : Body) → is_query_below b ≡ true → (is_update b ≡ false) × (target_of (part_body wide t b) ≡ t) × (is_query_below (part_body wide t b) ≡ true)
    go (Read name selection) e = absurd (false_true e)
    go (Compare name assertion) e = absurd (false_true e)
    go (ListBelow name) e = (refl, refl, refl)
    go (Search base subset f selection) e = (refl, refl, refl)
    go (AddEntry name attributes) e = absurd (false_true e)
    go (RemoveEntry name) e = absurd (false_true e)
    go (ModifyEntry name changes) e = absurd (false_true e)
    go (ModifyDn name rdn drops) e = absurd (false_true e)

-- by the two tests that a request with a reference goes by
pub pick_part : (probe part : Bool) (x y z : Request) → probe ≡ false → part ≡ true → (if probe then x else (if part then y else z)) ≡ y
pick_part true part x y z p q = absurd (false_true (sym p))
pick_part false true x y z p q = refl
pick_part false false x y z p q = absurd (false_true q)

pub pick_same : (probe part : Bool) (x y z : Request) → probe ≡ false → part ≡ false → (if probe then x else (if part then y else z)) ≡ z
pick_same true part x y z p q = absurd (false_true (sym p))
pick_same false true x y z p q = absurd (false_true (sym q))
pick_same false false x y z p q = refl

pub no_update : (b : Bool) (c : Bool) → b ≡ false → (b && c) ≡ false
no_update true c e = absurd (false_true (sym e))
no_update false c e = refl

pub same_target : (b c : Bool) → c ≡ true → (b && not c) ≡ false
same_target true true e = refl
same_target false c e = refl
same_target true false e = absurd (false_true e)

true_both : (b c : Bool) → b ≡ true → c ≡ true → (b && c) ≡ true
true_both true c x y = y
true_both false c x y = absurd (false_true x)

not_done_or : (d q : Bool) → (d ≡ false) ⊎ (q ≡ true) → (not d || q) ≡ true
not_done_or true q (inl e) = absurd (false_true (sym e))
not_done_or false q o = refl
not_done_or true q (inr e) = e

followed_fits : (p : Point) (sender : Option ℕ) (opener : Line) (r : Reference) (m : Chained) (a : ℕ) → Leads p opener.receiver opener.message r a
    → IsCarried sender opener r m → fits opener.message ≡ true → fits m ≡ true
followed_fits p sender opener r m a lead carried fit =
    let asked : Request = opener.message.request in
    let f = both_true (same_name (target_of asked.body) opener.message.target) _ fit in
    let before : key_of (target_of asked.body) ≡ key_of opener.message.target = (key_decides (key_of (target_of asked.body)) (key_of opener.message.target)).0 f.0 in
    let named : key_of r.target ≡ key_of m.target = (key_decides (key_of r.target) (key_of m.target)).0 carried.target_is in
    let user : Bool = is_user sender in
    let part : Request = part_request user (is_wide r.kind) m.target asked in
    let probe : Bool = is_probe asked.body m.target in
    let late : (is_done m.progress ≡ false) ⊎ (is_query_below asked.body ≡ true) =
    elim lead.late [ inl e ↦ inl (ap is_done carried.progress_is ∙ e) | inr e ↦ inr (query_of opener.message e) ] in
    elim lead.keeps [
      | inl parts ↦
          let query : is_query_below asked.body ≡ true = elim lead.late [
            | inl e ↦ absurd (false_true (sym (both_asks r parts e) ∙ parts))
            | inr e ↦ query_of opener.message e
          ] in
          let g = part_fits user (is_wide r.kind) m.target asked query in
          let is : m.request ≡ part = carried.request_is ∙ pick_part probe (asks_part r) (probe_request m.target) part asked (no_update (is_update asked.body) (not (same_name (target_of asked.body) m.target)) g.0) parts in
          let target : same_name (target_of m.request.body) m.target ≡ true =
          (key_decides (key_of (target_of m.request.body)) (key_of m.target)).1 (ap (λ (x : Request). key_of (target_of x.body)) is ∙ ap key_of g.1) in
          true_both (same_name (target_of m.request.body) m.target) _ target
          (not_done_or (is_done m.progress) (is_query_below m.request.body) (inr (ap (λ (x : Request). is_query_below x.body) is ∙ g.2)))
      | inr keeps ↦
          let same : same_name (target_of asked.body) m.target ≡ true = (key_decides (key_of (target_of asked.body)) (key_of m.target)).1 (before ∙ sym keeps.0 ∙ named) in
          let is : m.request ≡ asked = carried.request_is ∙ pick_same probe (asks_part r) (probe_request m.target) part asked (same_target (is_update asked.body) (same_name (target_of asked.body) m.target) same) keeps.1 in
          let target : same_name (target_of m.request.body) m.target ≡ true = ap (λ (x : Request). same_name (target_of x.body) m.target) is ∙ same in
          true_both (same_name (target_of m.request.body) m.target) _ target
          (not_done_or (is_done m.progress) (is_query_below m.request.body)
          (elim late [ inl e ↦ inl e | inr e ↦ inr (ap (λ (x : Request). is_query_below x.body) is ∙ e) ]))
    ]
  where
    both_asks : (r : Reference) → asks_part r ≡ true → is_done r.progress ≡ false → asks_part r ≡ false
    both_asks r e d = no_update (is_done r.progress) _ d

pub followed_is_placed : FollowedIsPlaced
followed_is_placed p sender opener r m a sound i j carried placed =
    let v : World = knowledge_at p in
    let o : ℕ = opener.receiver in
    let lead : Leads p o opener.message r a = leads_on p o opener.message r a sound i j in
    let target : key_of r.target ≡ key_of m.target = (key_decides (key_of r.target) (key_of m.target)).0 carried.target_is in
    let wide : is_wide r.kind ≡ is_wide m.kind = ap is_wide (sym carried.kind_is) in
    let stage : stage_of v (item_for a r) ≡ stage_of v (item_of a m) =
    stage_by_key v a r.target m.target r.progress (is_wide r.kind) target
    ∙ ap (λ (x : Progress). stage_of v (record { agent = a; target = m.target; progress = x; wide = is_wide r.kind })) (sym carried.progress_is)
    ∙ ap (λ (b : Bool). stage_of v (record { agent = a; target = m.target; progress = m.progress; wide = b })) wide in
    let own : is_lower (stage_of v (item_of o opener.message)) (stage_of v (item_of a m)) ≡ true = subst (λ (s : Stage). is_lower (stage_of v (item_of o opener.message)) s ≡ true) stage lead.lower in
    let each : (t : TraceItem) → In t m.trace → is_lower (stage_of v t) (stage_of v (item_of a m)) ≡ true = λ t it.
    elim (in_either t opener.message.trace (item_of o opener.message ∷ []) (subst (λ (xs : List TraceItem). In t xs) carried.trace_is it)) [
      | inl k ↦ lower_chain (stage_of v t) (stage_of v (item_of o opener.message)) (stage_of v (item_of a m))
          (of_all (λ (x : TraceItem). is_lower (stage_of v x) (stage_of v (item_of o opener.message))) t opener.message.trace placed.lower k) own
      | inr k ↦ elim (in_first t (item_of o opener.message) [] k) [
        | inl e ↦ subst (λ (x : TraceItem). is_lower (stage_of v x) (stage_of v (item_of a m)) ≡ true) (sym e) own
        | inr l ↦ elim l [ ]
      ]
    ] in
    let named : Chained = record m { target = r.target } in
    let first : is_brought p (record named { progress = r.progress; kind = r.kind }) a ≡ true = lead.brought in
    let second : is_brought p (record m { progress = r.progress; kind = r.kind }) a ≡ true = brought_by_key p named m a r.progress r.kind target first in
    let third : is_brought p (record m { kind = r.kind }) a ≡ true = subst (λ (x : Progress). is_brought p (record m { progress = x; kind = r.kind }) a ≡ true) (sym carried.progress_is) second in
    record {
      fit = followed_fits p sender opener r m a lead carried placed.fit;
      lower = all_in (λ (t : TraceItem). is_lower (stage_of v t) (stage_of v (item_of a m))) m.trace each;
      brought = subst (λ (x : RefType). is_brought p (record m { kind = x }) a ≡ true) (sym carried.kind_is) third;
    }

-- ---- traces rise

rising_more : (p : Point) (is : List TraceItem) (j : TraceItem) → IsRising p is → ((i : TraceItem) → In i is → is_lower (stage_of (knowledge_at p) i) (stage_of (knowledge_at p) j) ≡ true) → IsRising p (is ++ j ∷ [])
rising_more p [] j h f = (λ i k. elim k [ ], tt)
rising_more p (x ∷ is) j h f = (
  λ i k. elim (in_either i is (j ∷ []) k) [
    | inl l ↦ h.0 i l
    | inr l ↦ elim (in_first i j [] l) [ inl e ↦ subst (λ (y : TraceItem). is_lower (stage_of (knowledge_at p) x) (stage_of (knowledge_at p) y) ≡ true) (sym e) (f x here) | inr z ↦ elim z [ ] ]
  ],
  rising_more p is j h.1 (λ i k. f i (there k)),
)

pub traces_rise : TracesRise
traces_rise p sender opener r m placed rising carried =
    subst (IsRising p) (sym carried.trace_is)
    (rising_more p opener.message.trace (item_of opener.receiver opener.message) rising
    (λ i k. of_all (λ (x : TraceItem). is_lower (stage_of (knowledge_at p) x) (stage_of (knowledge_at p) (item_of opener.receiver opener.message))) i opener.message.trace placed.lower k))

pub no_item_twice : NoItemTwice
no_item_twice p [] after i j h k same =
    let w : World = knowledge_at p in
    never_lower (stage_of w j) (subst (λ (s : Stage). is_lower s (stage_of w j) ≡ true) (same_stage w i j same) (h.0 j k))
no_item_twice p (x ∷ before) after i j h k same = no_item_twice p before after i j h.1 k same
