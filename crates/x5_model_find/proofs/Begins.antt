-- A list or search begins exactly where its base is found: each way that name resolution may take (`Way`) is followed
-- in `find` and in `begins_at` side by side.
use Rattle.std.proofs.Common.{◌≡◌, ℕ, Bool, true, false, cond, not, ◌&&◌, ◌||◌, List, [], ◌∷◌, length, refl, sym, ap, subst, ◌∙◌, Option, Some, None}
use Rattle.std.specs.List.{filter}
use Rattle.std.specs.Option.{is_none, is_some}
use Rattle.x5_model.specs.Words.{in_option, is_empty}
use Rattle.x5_model.specs.Members.{In}
use Rattle.x5_model.specs.Keys.{Key, same_key, is_root}
use Rattle.x5_model.specs.Values.{key_of}
use Rattle.x5_model.specs.Entries.{Named}
use Rattle.x5_model.specs.Requests.{Subset}
use Rattle.x5_model.specs.References.{Progress, Start, Next, Done, Reference, Supplier, Chained}
use Rattle.x5_model.proofs.KeyLaws.{key_decides}
use Rattle.x5_model.proofs.Lists.{both_true, and_true, or_right, or_left, in_left, in_right, in_filter, of_find, any_in, once_map}
use Rattle.x5_model_tree.specs.Tree.{key_at, is_there, lowest}
use Rattle.x5_model_tree.proofs.Longest.{IsLowest, lowest_right}
use Rattle.x5_model_run.specs.Journal.{same_name, is_done, is_wide}
use Rattle.x5_model_run.specs.Holdings.{Held, Copy, Holdings, usable_copies, served, masters_pin, known_pin, held_at, copy_at, holds_within, is_first_level}
use Rattle.x5_model_run.specs.Needs.{fails, resolves, reference, multicast_needs, supplier_needs, copy_answers, specific_needs, by_pin, subset_of, begins_at, answers_root, copied_needs}
use Rattle.x5_model_tree.specs.Ask.{ask}
use Rattle.x5_model_tree.specs.Tree.{tree_of}
use Rattle.x5_model_theory.proofs.Holding.{usable_is}
use Rattle.x5_model_serve.specs.Finding.{Found, Here, CopyHere, Root, Below, Onward, Nowhere, Stuck, by_first, in_own, in_copy, at_pin, resolved, completed, completed_copy, completed_own, find, IsLooked}
use Rattle.x5_model_serve.specs.Serving.{hand, begins_parts}
use Rattle.x5_model_find.specs.Finds.{Orderly, BeginsAlike}
use Rattle.x5_model_find.proofs.Needing.{is_based, false_true, begin_found, copied_ask, completed_free}
use Rattle.x5_model_find.proofs.Deciding.{free_by, root_stopped}

abbrev here_by : Holdings → Chained → Subset → Bool
here_by h m subset = (is_done m.progress && is_wide m.kind) || (answers_root h m || not (is_empty (begins_at h m subset)))

-- the ways through `find`
data Way (h : Holdings) (m : Chained) : Type 0 where
  going : (is_done m.progress && is_wide m.kind) ≡ false → resolves h m ≡ true → find h m ≡ resolved h m
      → ((subset : Subset) → begins_at h m subset ≡ begin_found h m subset (known_pin m.request h (key_of m.target))) → Way h m
  halted : (is_done m.progress && is_wide m.kind) ≡ false → resolves h m ≡ false → find h m ≡ Stuck → ((subset : Subset) → begins_at h m subset ≡ []) → Way h m
  spread : (is_done m.progress && is_wide m.kind) ≡ true → find h m ≡ Below → Way h m
  came : (is_done m.progress && is_wide m.kind) ≡ false → resolves h m ≡ false → by_pin m ≡ true → find h m ≡ completed h m
      → ((subset : Subset) → begins_at h m subset ≡ filter (λ c. same_key (key_of c.prefix) (key_of m.target)) (served m.request h)) → Way h m

way : (h : Holdings) (m : Chained) → Way h m
way h m = by m.progress refl
  where
    next : (k : ℕ) → m.progress ≡ Next k → (b : Bool) → holds_within h (key_of m.target) k ≡ b → Way h m
    next k q true w = going (rw q refl) (rw (q, w) refl) (rw (q, w) refl) (λ subset. rw (q, w) refl)
    next k q false w = halted (rw q refl) (rw (q, w) refl) (rw (q, w) refl) (λ subset. rw (q, w) refl)

    at_done : m.progress ≡ Done → (b : Bool) → is_wide m.kind ≡ b → Way h m
    at_done q true w = spread (rw (q, w) refl) (rw (q, w) refl)
    at_done q false w = came (rw (q, w) refl) (rw q refl) (rw (q, w) refl) (rw (q, w) refl) (λ subset. rw (q, w) refl)

    by : (x : Progress) → m.progress ≡ x → Way h m
    by Start q = going (rw q refl) (rw q refl) (rw q refl) (λ subset. rw q refl)
    by (Next k) q = next k q (holds_within h (key_of m.target) k) refl
    by Done q = at_done q (is_wide m.kind) refl

first_unbased : (rs : List Reference) (other f : Found) → by_first rs other ≡ f → is_based other ≡ false → is_based f ≡ false
first_unbased [] other f e n = ap is_based (sym e) ∙ n
first_unbased (r ∷ rs) other f e n = ap is_based (sym e)

some_member : {A : Type 0} (test : A → Bool) (xs : List A) (x : A) → In x xs → test x ≡ true → not (is_empty (filter test xs)) ≡ true
some_member {A} test xs x i e = by (filter test xs) (in_filter test x xs i e)
  where
    by : (ys : List A) → In x ys → not (is_empty ys) ≡ true
    by [] j = elim j [ ]
    by (y ∷ ys) j = refl

pub some_is : {A : Type 0} (o : Option A) → is_some o ≡ true → (x : A) × (o ≡ Some x)
some_is None e = absurd (false_true e)
some_is (Some x) e = (x, refl)

module _ (h : Holdings) (m : Chained) (ord : Orderly h) (looked : IsLooked m) (subset : Subset) (query : subset_of m ≡ Some subset) where
  unbased : (f g : Found) → g ≡ f → is_based f ≡ true → is_based g ≡ false → ⊥
  unbased f g e b n = false_true (sym n ∙ ap is_based e ∙ b)

  abbrev Begun : Option Key → Type 0
  Begun x = (answers_root h m || not (is_empty (begin_found h m subset x))) ≡ true

  of_served : (q : Key) (c : Held) → In c (served m.request h) → key_of c.prefix ≡ q → is_there c.entries (key_of m.target) ≡ true → Begun (Some q)
  of_served q c i k t =
      or_right (answers_root h m) (not (is_empty (begin_found h m subset (Some q))))
      (some_member (λ (d : Held). same_key (key_of d.prefix) q && is_there d.entries (key_of m.target)) (served m.request h) c i (and_true (same_key (key_of c.prefix) q) (is_there c.entries (key_of m.target)) ((key_decides (key_of c.prefix) q).1 k) t))

  own_served : (c : Held) → In c h.own → In c (served m.request h)
  own_served c i = in_left c h.own (filter (λ (x : Held). not (masters_pin h (key_of x.prefix))) (usable_copies m.request h)) i

  begun : (x : Option Key) (f : Found) → known_pin m.request h (key_of m.target) ≡ x → resolves h m ≡ true → at_pin h m x ≡ f → is_based f ≡ true → Begun x
  begun None f known go e based = by h.superior refl
    where
      root : (b : Bool) → is_root (key_of m.target) ≡ b → h.superior ≡ None → cond b Root (Nowhere []) ≡ f → Begun None
      root true q top g =
          or_left (answers_root h m) (not (is_empty (begin_found h m subset None)))
          (and_true (is_some (subset_of m)) _ (ap (λ (x : Option Subset). is_some x) query)
          (and_true (is_first_level h) _ (ap (λ (x : Option ℕ). is_none x) top)
          (and_true (is_root (key_of m.target)) _ q
          (and_true (resolves h m) (is_none (known_pin m.request h (key_of m.target))) go (ap (λ (x : Option Key). is_none x) known)))))
      root false q top g = absurd (unbased f (Nowhere []) g based refl)

      by : (x : Option ℕ) → h.superior ≡ x → Begun None
      by None q = root (is_root (key_of m.target)) refl q (rw q at e)
      by (Some s) q = (let g : Onward _ ≡ f = rw q at e in absurd (unbased f (Onward _) g based refl))
  begun (Some q) f known go e based = by_own (held_at h.own q) refl
    where
      in_one : (c : Held) → held_at h.own q ≡ Some c → in_own h m c ≡ f → Begun (Some q)
      in_one c found g = by (lowest c.entries (key_of m.target)) refl
        where
          at : (x : Named) → lowest c.entries (key_of m.target) ≡ Some x → (b : Bool) → same_name x.name m.target ≡ b → Begun (Some q)
          at x z true k =
              let w = of_find (λ (y : Held). same_key (key_of y.prefix) q) c h.own found in
              let l = subst (λ (y : Option Named). IsLowest c.entries (key_of m.target) (length (key_of m.target)) y) z (lowest_right c.entries (key_of m.target)) in
              of_served q c (own_served c w.0) ((key_decides (key_of c.prefix) q).0 w.1) (any_in (λ (y : Named). same_key (key_at y) (key_of m.target)) x c.entries l.0 k)
          at x z false k = absurd (false_true (sym (first_unbased (multicast_needs h m c) (Nowhere x.name) f (rw (z, k) at g) refl) ∙ based))

          by : (x : Option Named) → lowest c.entries (key_of m.target) ≡ x → Begun (Some q)
          by None z = (let w : Nowhere [] ≡ f = rw z at g in absurd (unbased f (Nowhere []) w based refl))
          by (Some x) z = at x z (same_name x.name m.target) refl

      in_some : (c : Copy) → held_at h.own q ≡ None → copy_at h q ≡ Some c → in_copy h m c ≡ f → Begun (Some q)
      in_some c none found g = by (copy_answers h m c) refl
        where
          by : (b : Bool) → copy_answers h m c ≡ b → Begun (Some q)
          by true k =
              let a = both_true (is_some (held_at (usable_copies m.request h) (key_of c.held.prefix))) (is_there c.held.entries (key_of m.target) && not (fails (ask (tree_of c.held.entries []) m.request))) k in
              let d = some_is (held_at (usable_copies m.request h) (key_of c.held.prefix)) a.0 in
              let w = of_find (λ (y : Held). same_key (key_of y.prefix) (key_of c.held.prefix)) d.0 (usable_copies m.request h) d.1 in
              let x = usable_is m.request h d.0 w.0 in
              let v = of_find (λ (y : Copy). same_key (key_of y.held.prefix) q) c h.copies found in
              let dk : key_of d.0.prefix ≡ key_of c.held.prefix = (key_decides (key_of d.0.prefix) (key_of c.held.prefix)).0 w.1 in
              let ck : key_of c.held.prefix ≡ q = (key_decides (key_of c.held.prefix) q).0 v.1 in
              let same : x.0 ≡ c = once_map (λ (y : Copy). key_of y.held.prefix) h.copies x.0 c ord.copies_once x.1 v.0 (ap (λ (y : Held). key_of y.prefix) (sym x.2) ∙ dk) in
              let is : c.held ≡ d.0 = ap (λ (y : Copy). y.held) (sym same) ∙ sym x.2 in
              let t : is_there d.0.entries (key_of m.target) ≡ true = subst (λ (y : Held). is_there y.entries (key_of m.target) ≡ true) is (both_true (is_there c.held.entries (key_of m.target)) (not (fails (ask (tree_of c.held.entries []) m.request))) a.1).0 in
              let free : not (masters_pin h (key_of d.0.prefix)) ≡ true = ap (λ (y : Key). not (masters_pin h y)) (dk ∙ ck) ∙ ap (λ (y : Option Held). not (is_some y)) none in
              of_served q d.0 (in_right d.0 h.own (filter (λ (y : Held). not (masters_pin h (key_of y.prefix))) (usable_copies m.request h)) (in_filter (λ (y : Held). not (masters_pin h (key_of y.prefix))) d.0 (usable_copies m.request h) w.0 free)) (dk ∙ ck) t
          by false k =
              absurd (false_true (sym (first_unbased (supplier_needs h m c) Stuck f (subst (λ (b : Bool). cond b (CopyHere c) (by_first (supplier_needs h m c) Stuck) ≡ f) k g) refl) ∙ based))

      by_copy : held_at h.own q ≡ None → (x : Option Copy) → copy_at h q ≡ x → Begun (Some q)
      by_copy n None z = absurd (false_true (sym (first_unbased (specific_needs h m q) Stuck f (rw (n, z) at e) refl) ∙ based))
      by_copy n (Some c) z = in_some c n z (rw (n, z) at e)

      by_own : (x : Option Held) → held_at h.own q ≡ x → Begun (Some q)
      by_own None z = by_copy z (copy_at h q) refl
      by_own (Some c) z = in_one c z (rw z at e)

  abbrev pinned : List Held
  pinned = filter (λ c. same_key (key_of c.prefix) (key_of m.target)) (served m.request h)

  arrived : (f : Found) → by_pin m ≡ true → completed h m ≡ f → is_based f ≡ true → not (is_empty (filter (λ c. same_key (key_of c.prefix) (key_of m.target)) (served m.request h))) ≡ true
  arrived f pin e based = by (held_at h.own (key_of m.target)) refl
    where
      by_copy : (x : Option Copy) → copy_at h (key_of m.target) ≡ x → completed_copy h m x ≡ f → not (is_empty pinned) ≡ true
      by_copy None z g = absurd (unbased f Stuck g based refl)
      by_copy (Some c) z g = at (held_at (served m.request h) (key_of m.target)) refl
        where
          asks : held_at (served m.request h) (key_of m.target) ≡ None → copied_needs h m ≡ reference m.target Done Supplier (c.supplier ∷ []) ∷ []
          asks n =
              ap (λ (b : Bool). cond (b && is_some (subset_of m)) (in_option [] (copied_ask h m) (copy_at h (key_of m.target))) []) pin
              ∙ ap (λ (x : Option Subset). cond (is_some x) (in_option [] (copied_ask h m) (copy_at h (key_of m.target))) []) query
              ∙ ap (λ (x : Option Copy). in_option [] (copied_ask h m) x) z
              ∙ rw n refl

          at : (x : Option Held) → held_at (served m.request h) (key_of m.target) ≡ x → not (is_empty pinned) ≡ true
          at None n = (let w : Onward _ ≡ f = ap (λ (rs : List Reference). by_first rs (CopyHere c)) (sym (asks n)) ∙ g in absurd (unbased f (Onward _) w based refl))
          at (Some d) n = (let w = of_find (λ (y : Held). same_key (key_of y.prefix) (key_of m.target)) d (served m.request h) n in some_member (λ (y : Held). same_key (key_of y.prefix) (key_of m.target)) (served m.request h) d w.0 w.1)

      by : (x : Option Held) → held_at h.own (key_of m.target) ≡ x → not (is_empty pinned) ≡ true
      by None q = by_copy (copy_at h (key_of m.target)) refl (subst (λ (x : Option Held). completed_own h m x ≡ f) q e)
      by (Some c) q = (let w = of_find (λ (y : Held). same_key (key_of y.prefix) (key_of m.target)) c h.own q in some_member (λ (y : Held). same_key (key_of y.prefix) (key_of m.target)) (served m.request h) c (own_served c w.0) w.1)

  neither : (a b c : Bool) → a ≡ false → b ≡ false → c ≡ false → (a || (b || c)) ≡ false
  neither a b c x y z = rw (x, y, z) refl

  yes : (f : Found) → find h m ≡ f → is_based f ≡ true → here_by h m subset ≡ true
  yes f e based = by (way h m)
    where
      by : Way h m → here_by h m subset ≡ true
      by (going n r k begins) =
          or_right (is_done m.progress && is_wide m.kind) (answers_root h m || not (is_empty (begins_at h m subset)))
          (ap (λ (cs : List Held). answers_root h m || not (is_empty cs)) (begins subset) ∙ begun (known_pin m.request h (key_of m.target)) f refl r (sym k ∙ e) based)
      by (halted n r k begins) = absurd (unbased f Stuck (sym k ∙ e) based refl)
      by (spread n k) = or_left (is_done m.progress && is_wide m.kind) (answers_root h m || not (is_empty (begins_at h m subset))) n
      by (came n r pin k begins) =
          or_right (is_done m.progress && is_wide m.kind) (answers_root h m || not (is_empty (begins_at h m subset)))
          (or_right (answers_root h m) (not (is_empty (begins_at h m subset))) (ap (λ (cs : List Held). not (is_empty cs)) (begins subset) ∙ arrived f pin (sym k ∙ e) based))

  never : (f : Found) → find h m ≡ f → is_based f ≡ false → here_by h m subset ≡ false
  never f e free = by (way h m)
    where
      by : Way h m → here_by h m subset ≡ false
      by (going n r k begins) =
          let w = free_by h m ord looked (known_pin m.request h (key_of m.target)) f refl (sym k ∙ e) free in
          neither _ (answers_root h m) _ n w.root (ap (λ (cs : List Held). not (is_empty cs)) (begins subset ∙ w.begins subset query))
      by (halted n r k begins) = neither _ (answers_root h m) _ n (root_stopped h m ord looked r) (ap (λ (cs : List Held). not (is_empty cs)) (begins subset))
      by (spread n k) = absurd (false_true (sym free ∙ ap is_based (sym e ∙ k)))
      by (came n r pin k begins) = neither _ (answers_root h m) _ n (root_stopped h m ord looked r) (ap (λ (cs : List Held). not (is_empty cs)) (begins subset ∙ completed_free h m f (sym k ∙ e) free))

  alike : (o : ℕ) (f : Found) → find h m ≡ f → begins_parts (hand o m) f ≡ here_by h m subset
  alike o (Here c) e = ap (λ (x : Option Subset). not (is_none x)) query ∙ sym (yes (Here c) e refl)
  alike o (CopyHere c) e = ap (λ (x : Option Subset). not (is_none x)) query ∙ sym (yes (CopyHere c) e refl)
  alike o Root e = ap (λ (x : Option Subset). not (is_none x)) query ∙ sym (yes Root e refl)
  alike o Below e = sym (yes Below e refl)
  alike o (Onward r) e = sym (never (Onward r) e refl)
  alike o (Nowhere n) e = sym (never (Nowhere n) e refl)
  alike o Stuck e = sym (never Stuck e refl)

pub begins_alike : BeginsAlike
begins_alike h m o ord looked some =
    let q = some_is (subset_of m) some in
    alike h m ord looked q.0 q.1 o (find h m) refl ∙ sym (ap (λ (x : Option Subset). in_option false (here_by h m) x) q.1)
