-- What the definition of name resolution says case by case: of the longest known pin on the way, of what is known of
-- it, and of a
-- completed name.
use Rattle.std.proofs.Common.{◌≡◌, ℕ, ◌+◌, Bool, true, false, not, ◌&&◌, ◌||◌, ◌==◌, if◌then◌else◌, inl, inr, List}
use Rattle.std.proofs.Common.{[], ◌∷◌, map, length, Option, Some, None, refl, sym, ap, subst, ◌∙◌}
use Rattle.std.specs.List.{filter, list_any}
use Rattle.std.specs.Option.{is_some, is_none}
use Rattle.x5_model.specs.Members.{In}
use Rattle.x5_model.specs.Words.{is_empty, distinct}
use Rattle.x5_model.specs.Keys.{Key, same_key, is_root}
use Rattle.x5_model.specs.Values.{key_of}
use Rattle.x5_model.specs.Entries.{Named}
use Rattle.x5_model.specs.Requests.{Request, Body, Read, Compare, ListBelow, Search, AddEntry, RemoveEntry}
use Rattle.x5_model.specs.Requests.{ModifyEntry, ModifyDn}
use Rattle.x5_model.specs.References.{Progress, Start, Done, Superior, Subordinate, Cross}
use Rattle.x5_model.specs.References.{NonSpecific, Supplier, Chained}
use Rattle.x5_model.proofs.KeyLaws.{key_decides}
use Rattle.x5_model.proofs.Lists.{both_true, in_map, of_map, of_find, not_found, once_map, in_filter}
use Rattle.x5_model.proofs.Lists.{of_filter, in_right, in_either}
use Rattle.x5_model.proofs.Decide.{once_decides}
use Rattle.x5_model_tree.specs.World.{Specific, Nssr}
use Rattle.x5_model_tree.specs.Tree.{is_there, lowest}
use Rattle.x5_model_run.specs.Holdings.{Held, Copy, Holdings, held_at, copy_at, masters_pin, may_copy, usable_agents}
use Rattle.x5_model_run.specs.Holdings.{usable_copies, served, subordinates, known_pin}
use Rattle.x5_model_run.specs.Journal.{same_name, is_done, is_wide}
use Rattle.x5_model_run.specs.Needs.{others, reference, proceeding, nssr_at, specific_at, copy_answers}
use Rattle.x5_model_run.specs.Needs.{subset_of, subset_in, by_pin}
use Rattle.x5_model_run.specs.Needs.{target_of}
use Rattle.x5_model_run.specs.Placed.{fits, is_query_below}
use Rattle.x5_model_serve.specs.Finding as finding

module _ (h : Holdings) (m : Chained) where
  pub by_known : (o : Option Key) → known_pin m.request h (key_of m.target) ≡ o → finding.resolved h m ≡
      finding.at_pin h m o
  by_known o e = ap (λ (p : Option Key). finding.at_pin h m p) e

  -- ---- nothing is known

  pub to_superior : (s : ℕ) → h.superior ≡ Some s → finding.at_pin h m None ≡ finding.Onward
      (reference m.target Start Superior (s ∷ []))
  to_superior s e = rw e refl

  pub at_root : h.superior ≡ None → is_root (key_of m.target) ≡ true → finding.at_pin h m None ≡ finding.Root
  at_root e r = rw (e, r) refl

  pub at_nothing : h.superior ≡ None → is_root (key_of m.target) ≡ false → finding.at_pin h m None ≡ finding.Nowhere []
  at_nothing e r = rw (e, r) refl

  -- ---- what is known of a pin

  pub at_own : (p : Key) (c : Held) → held_at h.own p ≡ Some c → finding.at_pin h m (Some p) ≡ finding.in_own h m c
  at_own p c e = rw e refl

  pub at_copy : (p : Key) (c : Copy) → held_at h.own p ≡ None → copy_at h p ≡ Some c → finding.at_pin h m (Some p) ≡
      finding.in_copy h m c
  at_copy p c e f = rw (e, f) refl

  pub at_subordinate : (p : Key) (k : Specific) → held_at h.own p ≡ None → copy_at h p ≡ None → specific_at
      (subordinates m.request h) p ≡ Some k
      → finding.at_pin h m (Some p) ≡ finding.Onward
      (proceeding (length k.pin) k.pin m.target Subordinate (usable_agents m.request k.access))
  at_subordinate p k e f g = rw (e, f, g) refl

  pub at_cross : (p : Key) (k : Specific) → held_at h.own p ≡ None → copy_at h p ≡ None → specific_at
      (subordinates m.request h) p ≡ None → specific_at h.cross p ≡ Some k
      → finding.at_pin h m (Some p) ≡ finding.Onward
      (proceeding (length k.pin) k.pin m.target Cross (usable_agents m.request k.access))
  at_cross p k e f g i = rw (e, f, g, i) refl

  -- ---- in a context that is mastered

  module _ (c : Held) (e : Named) (low : lowest c.entries (key_of m.target) ≡ Some e) where
    pub own_here : same_name e.name m.target ≡ true → finding.in_own h m c ≡ finding.Here c
    own_here s = rw (low, s) refl

    pub own_wide : (n : Nssr) → same_name e.name m.target ≡ false → nssr_at c.nssrs (key_of e.name) ≡ Some n →
        is_empty (others h.me n.agents) ≡ false
        → finding.in_own h m c ≡ finding.Onward
        (proceeding (length e.name + 1) e.name m.target NonSpecific (others h.me n.agents))
    own_wide n s a o = rw (low, s, low, a, s, o) refl

    pub own_alone : (n : Nssr) → same_name e.name m.target ≡ false → nssr_at c.nssrs (key_of e.name) ≡ Some n →
        is_empty (others h.me n.agents) ≡ true → finding.in_own h m c ≡ finding.Nowhere e.name
    own_alone n s a o = rw (low, s, low, a, s, o) refl

    pub own_nowhere : same_name e.name m.target ≡ false → nssr_at c.nssrs (key_of e.name) ≡ None → finding.in_own h m
        c ≡ finding.Nowhere e.name
    own_nowhere s a = rw (low, s, low, a) refl

  -- ---- in a copy

  pub to_its_supplier : (c : Copy) → copy_answers h m c ≡ false → finding.in_copy h m c ≡ finding.Onward
      (proceeding (length c.held.prefix) c.held.prefix m.target Supplier (c.supplier ∷ []))
  to_its_supplier c e = rw e refl

  pub lacks : (c : Copy) → is_there c.held.entries (key_of m.target) ≡ false → copy_answers h m c ≡ false
  lacks c e = rw e (nothing (is_some (held_at (usable_copies m.request h) (key_of c.held.prefix))))
    where
      nothing : (b : Bool) → (b && false) ≡ false
      nothing true = refl
      nothing false = refl

  pub unusable : (c : Copy) → held_at (usable_copies m.request h) (key_of c.held.prefix) ≡ None → copy_answers h m c ≡
      false
  unusable c e = rw e refl

-- ---- copies that may be used

pub none_usable : (r : Request) (h : Holdings) (key : Key) → may_copy r ≡ false → held_at (usable_copies r h) key ≡ None
none_usable r h key e = rw e refl

module _ (r : Request) (h : Holdings) (key : Key) (c : Copy)
    (once : distinct same_key (map (λ (d : Copy). key_of d.held.prefix) h.copies) ≡ true)
    (at : copy_at h key ≡ Some c) where
  its_key : key_of c.held.prefix ≡ key
  its_key = (key_decides (key_of c.held.prefix) key).0
      (of_find (λ (d : Copy). same_key (key_of d.held.prefix) key) c h.copies at).1

  its_place : In c h.copies
  its_place = (of_find (λ (d : Copy). same_key (key_of d.held.prefix) key) c h.copies at).0

  abbrev copies_used : List Held
  copies_used = map (λ (d : Copy). d.held) (filter (λ (d : Copy). is_some d.stamp) h.copies)

  not_brought : c.stamp ≡ None → held_at copies_used key ≡ None
  not_brought e = by (held_at copies_used key) refl
    where
      by : (o : Option Held) → held_at copies_used key ≡ o → o ≡ None
      by None f = refl
      by (Some x) f =
          let w = of_find (λ (d : Held). same_key (key_of d.prefix) key) x copies_used f in
          let v = of_map (λ (d : Copy). d.held) x (filter (λ (d : Copy). is_some d.stamp) h.copies) w.0 in
          let u = of_filter (λ (d : Copy). is_some d.stamp) v.0 h.copies v.1 in
          let k : key_of v.0.held.prefix ≡ key_of c.held.prefix = ap (λ (d : Held). key_of d.prefix) (sym v.2) ∙
          ((key_decides (key_of x.prefix) key).0 w.1 ∙ sym its_key) in
          let one : v.0 ≡ c = once_map (λ (d : Copy). key_of d.held.prefix) h.copies v.0 c
          ((once_decides same_key key_decides (map (λ (d : Copy). key_of d.held.prefix) h.copies)).0 once) u.0
          its_place k in
          let t : is_some c.stamp ≡ true = subst (λ (d : Copy). is_some d.stamp ≡ true) one u.1 in
          let g : is_some c.stamp ≡ false = ap (λ (o : Option ℕ). is_some o) e in
          absurd (let z : true ≡ false = sym t ∙ g in cc)

  pub not_usable : c.stamp ≡ None → held_at (usable_copies r h) key ≡ None
  not_usable e = by (may_copy r) refl
    where
      by : (b : Bool) → may_copy r ≡ b → held_at (usable_copies r h) key ≡ None
      by true f = rw f (not_brought e)
      by false f = rw f refl

  in_used : is_some c.stamp ≡ true → In c.held copies_used
  in_used e = in_map (λ (d : Copy). d.held) c (filter (λ (d : Copy). is_some d.stamp) h.copies)
      (in_filter (λ (d : Copy). is_some d.stamp) c h.copies its_place e)

  found_in : (xs : List Held) → In c.held xs → is_none (held_at xs key) ≡ false
  found_in xs i = by (held_at xs key) refl
    where
      by : (o : Option Held) → held_at xs key ≡ o → is_none o ≡ false
      by (Some x) f = refl
      by None f = absurd (let s : same_key (key_of c.held.prefix) key ≡ false = not_found
          (λ (d : Held). same_key (key_of d.prefix) key) c.held xs f i in let t : same_key (key_of c.held.prefix) key
          ≡ true = (key_decides (key_of c.held.prefix) key).1 its_key in cc)

  module _ (no_own : held_at h.own key ≡ None) where
    other_pin : masters_pin h (key_of c.held.prefix) ≡ false
    other_pin = ap (λ (k : Key). masters_pin h k) its_key ∙ ap (λ (o : Option Held). is_some o) no_own

    -- where it may be used, the context is served
    pub is_served : may_copy r ≡ true → is_some c.stamp ≡ true → is_none (held_at (served r h) key) ≡ false
    is_served may e = found_in (served r h)
        (in_right c.held h.own (filter (λ (d : Held). not (masters_pin h (key_of d.prefix))) (usable_copies r h))
        (in_filter (λ (d : Held). not (masters_pin h (key_of d.prefix))) c.held (usable_copies r h)
        (rw may (in_used e)) (ap not other_pin)))

    -- where it may not, it isn't
    pub not_served : held_at (usable_copies r h) key ≡ None → is_none (held_at (served r h) key) ≡ true
    not_served e = by (held_at (served r h) key) refl
      where
        by : (o : Option Held) → held_at (served r h) key ≡ o → is_none (held_at (served r h) key) ≡ true
        by None f = ap (λ (o : Option Held). is_none o) f
        by (Some x) f =
            let w = of_find (λ (d : Held). same_key (key_of d.prefix) key) x (served r h) f in
            absurd (elim (in_either x h.own
            (filter (λ (d : Held). not (masters_pin h (key_of d.prefix))) (usable_copies r h)) w.0) [
              | inl i ↦ (let s : same_key (key_of x.prefix) key ≡ false = not_found
                  (λ (d : Held). same_key (key_of d.prefix) key) x h.own no_own i in let t = w.1 in cc)
              | inr i ↦ (let u = of_filter (λ (d : Held). not (masters_pin h (key_of d.prefix))) x (usable_copies r h)
                  i in
                  let s : same_key (key_of x.prefix) key ≡ false = not_found
                  (λ (d : Held). same_key (key_of d.prefix) key) x (usable_copies r h) e u.0 in let t = w.1 in cc)
            ])

-- ---- a completed name

module _ (h : Holdings) (m : Chained) (done : m.progress ≡ Done) (specific : is_wide m.kind ≡ false) where
  pub completes : finding.find h m ≡ finding.completed h m
  completes = ap (λ (p : Progress). finding.found_by h m p) done ∙ ap
      (λ (b : Bool). if b then finding.Below else finding.completed h m) specific

  pub completed_here : (c : Held) → held_at h.own (key_of m.target) ≡ Some c → finding.completed h m ≡ finding.Here c
  completed_here c e = rw e refl

  pub completed_stuck : held_at h.own (key_of m.target) ≡ None → copy_at h (key_of m.target) ≡ None →
      finding.completed h m ≡ finding.Stuck
  completed_stuck e f = rw (e, f) refl

  queried : fits m ≡ true → is_query_below m.request.body ≡ true
  queried f =
      let w = both_true (same_name (target_of m.request.body) m.target)
      (not (is_done m.progress) || is_query_below m.request.body) f in
      ap (λ (p : Progress). not (is_done p) || is_query_below m.request.body) (sym done) ∙ w.1

  has_subset : (b : Bool) (body : Body) → is_query_below body ≡ true → is_some (subset_in b body) ≡ true
  has_subset true (ListBelow n) e = refl
  has_subset false (ListBelow n) e = refl
  has_subset b (Search n s f l) e = refl
  has_subset b (Read n s) e = cc
  has_subset b (Compare n a) e = cc
  has_subset b (AddEntry n a) e = cc
  has_subset b (RemoveEntry n) e = cc
  has_subset b (ModifyEntry n a) e = cc
  has_subset b (ModifyDn n a d) e = cc

  asks : fits m ≡ true → (by_pin m && is_some (subset_of m)) ≡ true
  asks f =
      ap (λ (b : Bool). b && is_some (subset_of m)) pinned ∙ has_subset (by_pin m) m.request.body (queried f)
    where
      pinned : by_pin m ≡ true
      pinned = ap (λ (p : Progress). is_done p && not (is_wide m.kind)) done ∙ ap not specific

  module _ (c : Copy) (fit : fits m ≡ true) (no_own : held_at h.own (key_of m.target) ≡ None)
      (at : copy_at h (key_of m.target) ≡ Some c) where
    pub completed_in_copy : is_none (held_at (served m.request h) (key_of m.target)) ≡ false → finding.completed h m ≡
        finding.CopyHere c
    completed_in_copy e = rw (no_own, at, asks fit, at, e) refl

    pub completed_supplier : is_none (held_at (served m.request h) (key_of m.target)) ≡ true → finding.completed h m ≡
        finding.Onward (reference m.target Done Supplier (c.supplier ∷ []))
    completed_supplier e = rw (no_own, at, asks fit, at, e) refl

-- ---- other agents

pub any_other : (me : ℕ) (agents : List ℕ) → not (is_empty (others me agents)) ≡ list_any (λ a. not (a == me)) agents
any_other me [] = refl
any_other me (a ∷ agents) = by (not (a == me)) refl (any_other me agents)
  where
    by : (b : Bool) → not (a == me) ≡ b → not (is_empty (others me agents)) ≡ list_any (λ a. not (a == me)) agents →
        not (is_empty (others me (a ∷ agents))) ≡ list_any (λ a. not (a == me)) (a ∷ agents)
    by true e rest =
        ap (λ (b : Bool). not (is_empty (if b then a ∷ others me agents else others me agents))) e ∙ sym
        (ap (λ (b : Bool). b || list_any (λ a. not (a == me)) agents) e)
    by false e rest =
        ap (λ (b : Bool). not (is_empty (if b then a ∷ others me agents else others me agents))) e
        ∙ (rest ∙ sym (ap (λ (b : Bool). b || list_any (λ a. not (a == me)) agents) e))
