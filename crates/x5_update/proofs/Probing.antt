-- The probe that is due, at the master of the target: that of the NSSR just above the new name, if there is one.
use Rattle.std.proofs.Common.{◌≡◌, ℕ, zero, suc, ◌+◌, ◌-◌, ◌<◌, ◌≤◌, Bool, true, false, not, ◌||◌, List, [], ◌∷◌, ◌++◌, length, take, drop, refl, sym, ap, subst, ◌∙◌, arith, Option, Some, None, Ok, if◌then◌else◌}
use Rattle.std.specs.Option.{is_some}
use Rattle.std.specs.Result.{is_err}
use Rattle.x5_model.specs.Words.{in_option}
use Rattle.x5_model.specs.Keys.{Key, is_root}
use Rattle.x5_model.specs.Values.{Name, Rdn, key_of, last_rdn}
use Rattle.x5_model.specs.Entries.{Named}
use Rattle.x5_model.specs.Requests.{Body, Read, Compare, ListBelow, Search, AddEntry, RemoveEntry, ModifyEntry, ModifyDn}
use Rattle.x5_model.specs.References.{Progress, Start, Next, Done, Reference, Chained}
use Rattle.x5_model.specs.Answers.{DirError}
use Rattle.x5_model.specs.Statics.{fault_of}
use Rattle.x5_model.proofs.KeyLaws.{key_decides}
use Rattle.x5_model.proofs.Lists.{and_true, both_true}
use Rattle.x5_model_tree.specs.Ask.{is_update}
use Rattle.x5_model_tree.specs.Tree.{is_there, lowest}
use Rattle.x5_model_tree.specs.Apply.{UpdatedEntries}
use Rattle.x5_model_run.specs.Journal.{is_done, same_name}
use Rattle.x5_model_run.specs.Holdings.{Held, Copy, Holdings, held_at, copy_at, holds_within, known_pin}
use Rattle.x5_model_run.specs.Needs.{resolves, target_of, new_name, is_refused_here, probe_of, probe_at_master, probe_due, probe_needs, due_probes, multicast_needs, superior_needs, specific_needs, supplier_needs, copy_answers}
use Rattle.x5_model_run.specs.Placed.{fits, is_query_below}
use Rattle.x5_model_serve.specs.Finding.{Found, Here, CopyHere, Root, Below, Onward, Nowhere, Stuck, by_first, at_pin, in_own, in_copy, resolved, found_by}
use Rattle.x5_model_serve.specs.Finding as finding
use Rattle.x5_update.specs.Judging.{probes_from}

-- ---- which probes are due

module _ (h : Holdings) (m : Chained) (c : Held) (p : Key) where
  abbrev at_held : Name → Option Held → List Reference
  at_held name o = in_option {X = Held} {Y = List Reference} [] (probe_at_master h m name) o

  abbrev at_known : Name → Option Key → List Reference
  at_known name o = in_option {X = Key} {Y = List Reference} [] (λ q. at_held name (held_at h.own q)) o

  abbrev if_resolved : Name → Bool → List Reference
  if_resolved name b = if b then at_known name (known_pin m.request h (key_of m.target)) else []

  abbrev for_name : Option Name → List Reference
  for_name o = in_option {X = Name} {Y = List Reference} [] (probe_due h m) o

  pub due_is : fault_of m.request.body ≡ None → resolves h m ≡ true → known_pin m.request h (key_of m.target) ≡ Some p
      → held_at h.own p ≡ Some c → is_there c.entries (key_of m.target) ≡ true → is_refused_here h m.request ≡ false
      → due_probes h m ≡ probes_from h c (new_name m.request.body)
  due_is none resolving known held there passed =
      ap (λ (o : Option DirError). if is_some o then [] else probe_needs h m) none ∙ by (new_name m.request.body)
    where
      by : (o : Option Name) → for_name o ≡ probes_from h c o
      by None = refl
      by (Some name) =
          ap (if_resolved name) resolving ∙ ap (at_known name) known ∙ ap (at_held name) held
          ∙ ap (λ (b : Bool). if b then probe_of h name c else [])
          (and_true (is_there c.entries (key_of m.target)) (not (is_refused_here h m.request)) there (ap not passed))

-- what is passed isn't refused
pub not_refused : (o : UpdatedEntries) (made : List Named) → o ≡ Ok made → is_err o ≡ false
not_refused o made q = ap (λ (x : UpdatedEntries). is_err x) q

-- ---- where the target is found, its name is resolved, in the context of the longest known pin

abbrev pub IsFoundIn : Holdings → Chained → Held → Type 0
IsFoundIn h m c = (p : Key) × (known_pin m.request h (key_of m.target) ≡ Some p) × (held_at h.own p ≡ Some c)
    × (e : Named) × (lowest c.entries (key_of m.target) ≡ Some e) × (same_name e.name m.target ≡ true)

abbrev here_of : Held → Found → Held
here_of d (Here c) = c
here_of d other = d

pub not_done : (m : Chained) → is_update m.request.body ≡ true → fits m ≡ true → is_done m.progress ≡ false
not_done m update fit =
    by (is_done m.progress) (is_query_below m.request.body)
    (both_true (same_name (target_of m.request.body) m.target) (not (is_done m.progress) || is_query_below m.request.body) fit).1
    (no_query m.request.body update)
  where
    no_query : (b : Body) → is_update b ≡ true → is_query_below b ≡ false
    no_query (Read name selection) u = cc
    no_query (Compare name assertion) u = cc
    no_query (ListBelow name) u = cc
    no_query (Search base subset f selection) u = cc
    no_query (AddEntry name attributes) u = refl
    no_query (RemoveEntry name) u = refl
    no_query (ModifyEntry name changes) u = refl
    no_query (ModifyDn name rdn drops) u = refl

    by : (a b : Bool) → (not a || b) ≡ true → b ≡ false → a ≡ false
    by true true q f = cc
    by true false q f = cc
    by false b q f = refl

pub target_is : (m : Chained) → fits m ≡ true → key_of (target_of m.request.body) ≡ key_of m.target
target_is m fit =
    (key_decides (key_of (target_of m.request.body)) (key_of m.target)).0
    (both_true (same_name (target_of m.request.body) m.target) (not (is_done m.progress) || is_query_below m.request.body) fit).0

module _ (h : Holdings) (m : Chained) (c : Held) where
  never_first : (rs : List Reference) (o : Found) → (o ≡ Here c → ⊥) → by_first rs o ≡ Here c → ⊥
  never_first [] o n q = n q
  never_first (r ∷ rs) o n q = cc

  abbrev own_by : Held → Option Named → Found
  own_by d None = Nowhere []
  own_by d (Some e) = if same_name e.name m.target then Here d else by_first (multicast_needs h m d) (Nowhere e.name)

  of_own : (d : Held) → in_own h m d ≡ Here c → (d ≡ c) × ((e : Named) × (lowest d.entries (key_of m.target) ≡ Some e) × (same_name e.name m.target ≡ true))
  of_own d q = by (lowest d.entries (key_of m.target)) refl q
    where
      inside : {x y : Held} → Here x ≡ Here y → x ≡ y
      inside s = ap (here_of d) s

      by_test : (e : Named) (b : Bool) → lowest d.entries (key_of m.target) ≡ Some e → same_name e.name m.target ≡ b
          → (if b then Here d else by_first (multicast_needs h m d) (Nowhere e.name)) ≡ Here c
          → (d ≡ c) × ((e : Named) × (lowest d.entries (key_of m.target) ≡ Some e) × (same_name e.name m.target ≡ true))
      by_test e true l s r = (inside r, (e, l, s))
      by_test e false l s r = absurd (never_first (multicast_needs h m d) (Nowhere e.name) (λ t. cc) r)

      by : (o : Option Named) → lowest d.entries (key_of m.target) ≡ o → in_own h m d ≡ Here c
          → (d ≡ c) × ((e : Named) × (lowest d.entries (key_of m.target) ≡ Some e) × (same_name e.name m.target ≡ true))
      by None l r = absurd (let s : Nowhere [] ≡ Here c = sym (ap (own_by d) l) ∙ r in cc)
      by (Some e) l r = by_test e (same_name e.name m.target) l refl (sym (ap (own_by d) l) ∙ r)

  of_copy : (d : Copy) → in_copy h m d ≡ Here c → ⊥
  of_copy d q = by (copy_answers h m d) refl q
    where
      by : (b : Bool) → copy_answers h m d ≡ b → in_copy h m d ≡ Here c → ⊥
      by true e r = (let s : CopyHere d ≡ Here c = sym (rw e refl) ∙ r in cc)
      by false e r =
          never_first (supplier_needs h m d) Stuck (λ t. cc) (sym (ap (λ (b : Bool). if b then CopyHere d else by_first (supplier_needs h m d) Stuck) e) ∙ r)

  of_pin : (o : Option Key) → known_pin m.request h (key_of m.target) ≡ o → at_pin h m o ≡ Here c → IsFoundIn h m c
  of_pin None k q =
      absurd (never_first (superior_needs h m) (if is_root (key_of m.target) then Root else Nowhere []) (no_root (is_root (key_of m.target))) q)
    where
      no_root : (b : Bool) → (if b then Root else Nowhere []) ≡ Here c → ⊥
      no_root true t = cc
      no_root false t = cc
  of_pin (Some p) k q = by (held_at h.own p) refl q
    where
      by_none : (o : Option Copy) → copy_at h p ≡ o → held_at h.own p ≡ None → at_pin h m (Some p) ≡ Here c → IsFoundIn h m c
      by_none None e n r = absurd (never_first (specific_needs h m p) Stuck (λ t. cc) (sym (rw (n, e) refl) ∙ r))
      by_none (Some d) e n r = absurd (of_copy d (sym (rw (n, e) refl) ∙ r))

      by : (o : Option Held) → held_at h.own p ≡ o → at_pin h m (Some p) ≡ Here c → IsFoundIn h m c
      by None n r = by_none (copy_at h p) refl n r
      by (Some d) n r =
          let w = of_own d (sym (rw n refl) ∙ r) in
          let e : d ≡ c = w.0 in
          (p, k, n ∙ ap (λ (x : Held). Some x) e, w.1.0, subst (λ (x : Held). lowest x.entries (key_of m.target) ≡ Some w.1.0) e w.1.1, w.1.2)

  pub found_in : is_done m.progress ≡ false → finding.find h m ≡ Here c → IsFoundIn h m c × (resolves h m ≡ true)
  found_in left q = by m.progress refl left q
    where
      by_held : (k : ℕ) (b : Bool) → holds_within h (key_of m.target) k ≡ b → (if b then resolved h m else Stuck) ≡ Here c
          → IsFoundIn h m c × (b ≡ true)
      by_held k true e r = (of_pin (known_pin m.request h (key_of m.target)) refl r, refl)
      by_held k false e r = absurd (let s : Stuck ≡ Here c = r in cc)

      by : (x : Progress) → m.progress ≡ x → is_done m.progress ≡ false → finding.find h m ≡ Here c
          → IsFoundIn h m c × (resolves h m ≡ true)
      by Start e l r =
          (of_pin (known_pin m.request h (key_of m.target)) refl (sym (ap (λ (y : Progress). found_by h m y) e) ∙ r), rw e refl)
      by (Next k) e l r =
          let w = by_held k (holds_within h (key_of m.target) k) refl (sym (ap (λ (y : Progress). found_by h m y) e) ∙ r) in
          (w.0, rw e w.1)
      by Done e l r = absurd (let f : true ≡ false = sym (ap (λ (y : Progress). is_done y) e) ∙ l in cc)

-- ---- the reference's target

pub last_piece : (name : Name) → 0 < length name → drop (length name - 1) name ≡ last_rdn name ∷ []
last_piece [] l = absurd (omega arith)
last_piece (r ∷ []) l = ap (λ (n : ℕ). drop n (r ∷ [])) (let e : length (r ∷ []) - 1 ≡ 0 = omega arith in e)
last_piece (r ∷ q ∷ rest) l =
    let e : length (r ∷ q ∷ rest) - 1 ≡ suc (length (q ∷ rest) - 1) = omega arith in
    ap (λ (n : ℕ). drop n (r ∷ q ∷ rest)) e ∙ last_piece (q ∷ rest) (omega arith)

take_whole : (n : ℕ) (name : Name) → length name ≤ n → take n name ≡ name
take_whole n [] l = nothing n
  where
    nothing : (k : ℕ) → take {A = Rdn} k [] ≡ []
    nothing zero = refl
    nothing (suc k) = refl
take_whole zero (r ∷ name) l = absurd (omega arith)
take_whole (suc n) (r ∷ name) l = ap (λ (ns : Name). r ∷ ns) (take_whole n name (omega arith))

pub below_kept : (name kept : Name) → 0 < length name → length kept + 1 ≡ length name
    → take (length name - 1) kept ++ drop (length name - 1) name ≡ kept ++ last_rdn name ∷ []
below_kept name kept full long = (λ i. take_whole (length name - 1) kept (omega arith) i ++ last_piece name full i)
