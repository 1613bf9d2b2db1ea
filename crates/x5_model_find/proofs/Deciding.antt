-- What is found decides what is needed. Where no base is found no part begins, and where the name isn't there no probe
-- is due; so of all that may be needed only the reference of name resolution is left, or nothing.
use Rattle.std.proofs.Common.{◌≡◌, ℕ, ◌<◌, ◌≤◌, ◌==◌, Bool, true, false, cond, not, ◌&&◌, inl, inr, List, [], ◌∷◌, ◌++◌, length, map, refl, sym, ap, subst, ◌∙◌, Option, Some, None, arith, if◌then◌else◌}
use Rattle.std.specs.List.{filter}
use Rattle.std.specs.Option.{is_none, is_some}
use Rattle.std.proofs.lemmas.List.{append-nil}
use Rattle.x5_model.specs.Words.{in_option}
use Rattle.x5_model.specs.Members.{In}
use Rattle.x5_model.specs.Keys.{Key, same_key, is_root}
use Rattle.x5_model.specs.Values.{Name, key_of}
use Rattle.x5_model.specs.Entries.{Named}
use Rattle.x5_model.specs.Requests.{Subset, Base, OneLevel, Body, Read, Compare, ListBelow, Search, AddEntry, RemoveEntry, ModifyEntry, ModifyDn, Request}
use Rattle.x5_model.specs.References.{Reference, Chained}
use Rattle.x5_model.specs.Answers.{DirError}
use Rattle.x5_model.proofs.KeyLaws.{key_decides}
use Rattle.x5_model.proofs.Lists.{both_true, true_or_false, in_map, of_map, of_find, once_map, or_right, not_found, not_true}
use Rattle.x5_model.proofs.Ascending.{in_sorted}
use Rattle.x5_model.proofs.Prefixes.{prefix_length}
use Rattle.x5_model_tree.specs.Tree.{Tree, key_at, keys_of, named_below, sorted_entries, is_there, lowest, tree_of}
use Rattle.x5_model_tree.specs.Ask.{Told, Refuses, ask, ask_body, limited_list, limited_found, just_below, searched, absent, in_subset}
use Rattle.x5_model_tree.proofs.Longest.{IsLongest, longest_right}
use Rattle.x5_model_run.specs.Journal.{same_name}
use Rattle.x5_model_run.specs.Holdings.{Held, Copy, Holdings, usable_copies, served, masters_pin, known_pins, known_pin, held_at, copy_at, is_first_level}
use Rattle.x5_model_run.specs.Needs.{target_of, fails, resolves, superior_needs, multicast_needs, supplier_needs, copy_answers, specific_needs, resolution_needs, by_pin, subset_of, answers_root, part_needs, copied_needs, new_name, probe_needs, passing_needs, due_probes, needs}
use Rattle.x5_model_theory.proofs.Holding.{usable_is}
use Rattle.x5_model_theory.proofs.Views.{there_decides}
use Rattle.x5_model_serve.specs.Finding.{Found, Here, CopyHere, Root, Below, Onward, Nowhere, Stuck, by_first, in_own, in_copy, at_pin, find, IsLooked}
use Rattle.x5_model_serve.specs.Serving.{hand, begins_parts}
use Rattle.x5_model_serve.proofs.Needing.{onward_resolution}
use Rattle.x5_model_find.specs.Finds.{Orderly, OnwardNeeds, NothingNeeded, HereNeeds, PartsNeeded}
use Rattle.x5_model_find.proofs.Absent.{absent_of, not_there}
use Rattle.x5_model_find.proofs.Needing.{is_onward, is_based, false_true, last_false, mid_false, and_left, and_right, begin_found, part_of, due_by, Path, resolving, stopped, wide, done, path, part_none, probe_none, probe_stopped, own_none, of_served, served_none, begins_none, completed_free, passing}

abbrev is_wide_found : Found → Bool
is_wide_found Below = true
is_wide_found other = false

abbrev pub subset_by : Chained → Body → Option Subset
subset_by m (Read name selection) = None
subset_by m (Compare name assertion) = None
subset_by m (ListBelow name) = if by_pin m then Some Base else Some OneLevel
subset_by m (Search base subset f selection) = Some subset
subset_by m (AddEntry name attributes) = None
subset_by m (RemoveEntry name) = None
subset_by m (ModifyEntry name changes) = None
subset_by m (ModifyDn name rdn drops) = None

abbrev pub first_refused : Tree → Request → Option DirError → Told
first_refused t r (Some x) = Refuses x
first_refused t r None = ask_body (λ key. false) t r r.body

some_held : (x y : Held) → Some x ≡ Some y → x ≡ y
some_held x y e = cc

-- a list or search of what is there gives no error
body_fails : (m : Chained) (t : Tree) (r : Request) (b : Body) (subset : Subset) (key : Key) → subset_by m b ≡ Some subset → key_of (target_of b) ≡ key → is_there t.entries key ≡ true → fails (ask_body (λ key. false) t r b) ≡ false
body_fails m t r (Read name selection) subset key q same there = cc
body_fails m t r (Compare name a) subset key q same there = cc
body_fails m t r (ListBelow name) subset key q same there =
    ap (λ (b : Bool). fails (cond b (limited_list (λ key. false) r.controls.size (just_below t name)) (absent t name))) (or_right (is_root (key_of name)) (is_there t.entries (key_of name)) (subst (λ (k : Key). is_there t.entries k ≡ true) (sym same) there))
body_fails m t r (Search base s f selection) subset key q same there =
    ap (λ (b : Bool). fails (cond b (limited_found (λ key. false) r.controls.size selection (searched t base s f)) (absent t base))) (or_right (is_root (key_of base)) (is_there t.entries (key_of base)) (subst (λ (k : Key). is_there t.entries k ≡ true) (sym same) there))
body_fails m t r (AddEntry name attributes) subset key q same there = cc
body_fails m t r (RemoveEntry name) subset key q same there = cc
body_fails m t r (ModifyEntry name changes) subset key q same there = cc
body_fails m t r (ModifyDn name rdn drops) subset key q same there = cc

pub there_sorted : (entries : List Named) (key : Key) → is_there entries key ≡ true → is_there (sorted_entries entries) key ≡ true
there_sorted entries key h =
    let i = (there_decides entries key).0 h in
    let e = of_map key_at key entries i in
    (there_decides (sorted_entries entries) key).1 (subst (λ (k : Key). In k (keys_of (sorted_entries entries))) (sym e.2) (in_map key_at e.0 (sorted_entries entries) (in_sorted named_below e.0 entries e.1)))

module _ (h : Holdings) (m : Chained) (ord : Orderly h) (looked : IsLooked m) where
  same_target : key_of (target_of m.request.body) ≡ key_of m.target
  same_target = (key_decides (key_of (target_of m.request.body)) (key_of m.target)).0 (both_true (same_name (target_of m.request.body) m.target) _ looked.1).0

  never_fails : (entries : List Named) (subset : Subset) → subset_of m ≡ Some subset → is_there entries (key_of m.target) ≡ true → fails (ask (tree_of entries []) m.request) ≡ false
  never_fails entries subset q there_is =
      ap (λ (o : Option DirError). fails (first_refused (tree_of entries []) m.request o)) looked.0
      ∙ body_fails m (tree_of entries []) m.request m.request.body subset (key_of m.target) q same_target (there_sorted entries (key_of m.target) there_is)

  pub record Free (x : Option Key) : Type 0 where
    pub root : answers_root h m ≡ false
    pub begins : (subset : Subset) → subset_of m ≡ Some subset → begin_found h m subset x ≡ []
    pub own : (q : Key) (c : Held) → x ≡ Some q → held_at h.own q ≡ Some c → is_there c.entries (key_of m.target) ≡ false

  not_based : (f g : Found) → is_based f ≡ false → g ≡ f → is_based g ≡ true → ⊥
  not_based f g free e b = false_true (sym free ∙ ap is_based (sym e) ∙ b)

  pin_root : (q : Key) → known_pin m.request h (key_of m.target) ≡ Some q → answers_root h m ≡ false
  pin_root q k =
      last_false (is_some (subset_of m)) (is_first_level h) (is_root (key_of m.target)) (resolves h m && is_none (known_pin m.request h (key_of m.target)))
      (and_right (resolves h m) (is_none (known_pin m.request h (key_of m.target))) (ap (λ (x : Option Key). is_none x) k))

  -- in a context of its own
  own_absent : (q : Key) (c : Held) (f : Found) → known_pin m.request h (key_of m.target) ≡ Some q → held_at h.own q ≡ Some c → in_own h m c ≡ f → is_based f ≡ false → is_there c.entries (key_of m.target) ≡ false
  own_absent q c f known found e free = by (lowest c.entries (key_of m.target)) refl
    where
      best : IsLongest (map key_of (known_pins m.request h)) (key_of m.target) (Some q)
      best = subst (λ (x : Option Key). IsLongest (map key_of (known_pins m.request h)) (key_of m.target) x) known (longest_right (map key_of (known_pins m.request h)) (key_of m.target))

      full : 0 < length (key_of m.target)
      full =
          let w = of_find (λ (x : Held). same_key (key_of x.prefix) q) c h.own found in
          let a : 0 < length (key_of c.prefix) = ord.filled c w.0 in
          let b : length (key_of c.prefix) ≡ length q = ap length ((key_decides (key_of c.prefix) q).0 w.1) in
          let l : length q ≤ length (key_of m.target) = prefix_length q (key_of m.target) best.1.0 in
          omega arith

      at : (x : Named) → lowest c.entries (key_of m.target) ≡ Some x → (b : Bool) → same_name x.name m.target ≡ b → is_there c.entries (key_of m.target) ≡ false
      at x z true s = (let g : Here c ≡ f = rw (z, s) at e in absurd (not_based f (Here c) free g refl))
      at x z false s = not_there c.entries (key_of m.target) (absent_of c.entries (key_of m.target) (Some x) z full (λ y k is.
          let same : x ≡ y = cc in
          false_true (sym s ∙ (key_decides (key_of x.name) (key_of m.target)).1 (subst (λ (n : Named). key_at n ≡ key_of m.target) (sym same) is))))

      by : (x : Option Named) → lowest c.entries (key_of m.target) ≡ x → is_there c.entries (key_of m.target) ≡ false
      by None z = not_there c.entries (key_of m.target) (absent_of c.entries (key_of m.target) None z full (λ y k is. cc))
      by (Some x) z = at x z (same_name x.name m.target) refl

  pin_free : (q : Key) (f : Found) → known_pin m.request h (key_of m.target) ≡ Some q → at_pin h m (Some q) ≡ f → is_based f ≡ false → Free (Some q)
  pin_free q f known e free = by_own (held_at h.own q) refl
    where
      pins : (x : Key) → Some q ≡ Some x → q ≡ x
      pins x z = cc

      by_copy : held_at h.own q ≡ None → (x : Option Copy) → copy_at h q ≡ x → Free (Some q)
      by_copy none None z = record {
        root = pin_root q known;
        begins = λ subset s. begins_none h m subset q (λ d i k. absurd (served_none h m q none z d i k));
        own = λ x c p found. (let g : held_at h.own q ≡ Some c = subst (λ (y : Key). held_at h.own y ≡ Some c) (sym (pins x p)) found in
            let w : None ≡ Some c = sym none ∙ g in cc);
      }
      by_copy none (Some c) z = record {
        root = pin_root q known;
        begins = λ subset s. begins_none h m subset q (λ d i k. copied subset s d i k);
        own = λ x c p found. (let g : held_at h.own q ≡ Some c = subst (λ (y : Key). held_at h.own y ≡ Some c) (sym (pins x p)) found in
            let w : None ≡ Some c = sym none ∙ g in cc);
      }
        where
          silent : (b : Bool) → copy_answers h m c ≡ b → copy_answers h m c ≡ false
          silent true k = (let g : in_copy h m c ≡ f = rw (none, z) at e in
              absurd (not_based f (CopyHere c) free (ap (λ (b : Bool). cond b (CopyHere c) (by_first (supplier_needs h m c) Stuck)) (sym k) ∙ g) refl))
          silent false k = k

          copied : (subset : Subset) → subset_of m ≡ Some subset → (d : Held) → In d (served m.request h) → key_of d.prefix ≡ q → is_there d.entries (key_of m.target) ≡ false
          copied subset s d i k =
              elim (of_served h m d i) [
                | inl j ↦ absurd (own_none h m q none d j k)
                | inr j ↦
                    let x = usable_is m.request h d j.1 in
                    let w = of_find (λ (y : Copy). same_key (key_of y.held.prefix) q) c h.copies z in
                    let ck : key_of c.held.prefix ≡ q = (key_decides (key_of c.held.prefix) q).0 w.1 in
                    let xk : key_of x.0.held.prefix ≡ q = ap (λ (y : Held). key_of y.prefix) (sym x.2) ∙ k in
                    let same : x.0 ≡ c = once_map (λ (y : Copy). key_of y.held.prefix) h.copies x.0 c ord.copies_once x.1 w.0 (xk ∙ sym ck) in
                    let is : d ≡ c.held = x.2 ∙ ap (λ (y : Copy). y.held) same in
                    let found : is_some (held_at (usable_copies m.request h) (key_of c.held.prefix)) ≡ true = met (usable_copies m.request h) d (key_of c.held.prefix) j.1 (k ∙ sym ck) in
                    elim (true_or_false (is_there d.entries (key_of m.target))) [
                      | inr no_such ↦ no_such
                      | inl there_is ↦
                          let t : is_there c.held.entries (key_of m.target) ≡ true = subst (λ (y : Held). is_there y.entries (key_of m.target) ≡ true) is there_is in
                          let v : fails (ask (tree_of c.held.entries []) m.request) ≡ false = never_fails c.held.entries subset s t in
                          let answers : copy_answers h m c ≡ true = rw (found, t, v) refl in
                          absurd (false_true (sym (silent (copy_answers h m c) refl) ∙ answers))
                    ]
              ]
            where
              met : (cs : List Held) (d : Held) (p : Key) → In d cs → key_of d.prefix ≡ p → is_some (held_at cs p) ≡ true
              met cs d p i k = by (held_at cs p) refl
                where
                  by : (o : Option Held) → held_at cs p ≡ o → is_some o ≡ true
                  by None z = absurd (false_true (sym (not_found (λ (y : Held). same_key (key_of y.prefix) p) d cs z i) ∙ (key_decides (key_of d.prefix) p).1 k))
                  by (Some y) z = refl

      by_own : (x : Option Held) → held_at h.own q ≡ x → Free (Some q)
      by_own None z = by_copy z (copy_at h q) refl
      by_own (Some c) z =
          let off : is_there c.entries (key_of m.target) ≡ false = own_absent q c f known z (rw z at e) free in
          let w = of_find (λ (y : Held). same_key (key_of y.prefix) q) c h.own z in
          let ck : key_of c.prefix ≡ q = (key_decides (key_of c.prefix) q).0 w.1 in
          record {
            root = pin_root q known;
            begins = λ subset s. begins_none h m subset q (λ d i k. elim (of_served h m d i) [
              | inl j ↦ subst (λ (y : Held). is_there y.entries (key_of m.target) ≡ false) (sym (once_map (λ (y : Held). key_of y.prefix) h.own d c ord.own_once j w.0 (k ∙ sym ck))) off
              | inr j ↦ (let met : masters_pin h (key_of d.prefix) ≡ true = ap (λ (y : Key). is_some (held_at h.own y)) k ∙ ap (λ (y : Option Held). is_some y) z in absurd (false_true (sym j.0 ∙ met)))
            ]);
            own = λ x d p found. (let g : held_at h.own q ≡ Some d = subst (λ (y : Key). held_at h.own y ≡ Some d) (sym (pins x p)) found in
                subst (λ (y : Held). is_there y.entries (key_of m.target) ≡ false) (some_held c d (sym z ∙ g)) off);
          }

  unknown_free : (f : Found) → known_pin m.request h (key_of m.target) ≡ None → at_pin h m None ≡ f → is_based f ≡ false → Free None
  unknown_free f known e free = record {
    root = mid_false (is_some (subset_of m)) (is_first_level h) (is_root (key_of m.target)) (resolves h m && is_none (known_pin m.request h (key_of m.target))) low;
    begins = λ subset s. ap (λ (b : Bool). cond b (filter (λ (c : Held). (length c.prefix == 1) && in_subset subset (key_of m.target) (key_of c.prefix)) (served m.request h)) []) low;
    own = λ q c p. cc;
  }
    where
      by_root : (b : Bool) → is_root (key_of m.target) ≡ b → cond b Root (Nowhere []) ≡ f → is_root (key_of m.target) ≡ false
      by_root true z k = absurd (not_based f Root free k refl)
      by_root false z k = z

      by : (x : Option ℕ) → h.superior ≡ x → (is_first_level h && is_root (key_of m.target)) ≡ false
      by None z = and_right (is_first_level h) (is_root (key_of m.target)) (by_root (is_root (key_of m.target)) refl (rw z at e))
      by (Some s) z = and_left (is_first_level h) (is_root (key_of m.target)) (ap (λ (x : Option ℕ). is_none x) z)

      low : (is_first_level h && is_root (key_of m.target)) ≡ false
      low = by h.superior refl

  pub free_by : (x : Option Key) (f : Found) → known_pin m.request h (key_of m.target) ≡ x → at_pin h m x ≡ f → is_based f ≡ false → Free x
  free_by None f known e free = unknown_free f known e free
  free_by (Some q) f known e free = pin_free q f known e free

  -- ---- no part, and no probe, where no base is found
  pub root_stopped : resolves h m ≡ false → answers_root h m ≡ false
  root_stopped r =
      last_false (is_some (subset_of m)) (is_first_level h) (is_root (key_of m.target)) (resolves h m && is_none (known_pin m.request h (key_of m.target)))
      (and_left (resolves h m) (is_none (known_pin m.request h (key_of m.target))) r)

  nothing_below : (f : Found) → find h m ≡ f → is_based f ≡ false → (part_needs h m ≡ []) × (probe_needs h m ≡ [])
  nothing_below f e free = by (path h m)
    where
      by : Path h m → (part_needs h m ≡ []) × (probe_needs h m ≡ [])
      by (resolving r b k begins) =
          let w = free_by (known_pin m.request h (key_of m.target)) f refl (sym k ∙ e) free in
          (part_none h m w.root (λ subset s. begins subset ∙ w.begins subset s), probe_none h m w.own)
      by (stopped r b k begins) = (part_none h m (root_stopped r) (λ subset s. begins subset), probe_stopped h m r)
      by (wide r b k) = absurd (not_based f Below free (sym k ∙ e) refl)
      by (done r k begins) = (part_none h m (root_stopped r) (λ subset s. begins subset ∙ completed_free h m f (sym k ∙ e) free), probe_stopped h m r)

-- ---- what is needed, from its parts

module _ (h : Holdings) (m : Chained) (looked : IsLooked m) where
  abbrev passes : Option DirError → List Reference
  passes o = cond (is_some o) [] (resolution_needs h m ++ part_needs h m ++ copied_needs h m)

  passing_is : passing_needs h m ≡ resolution_needs h m ++ part_needs h m ++ copied_needs h m
  passing_is = ap passes looked.0

  pub probes_are : due_probes h m ≡ probe_needs h m
  probes_are = ap (λ (o : Option DirError). cond (is_some o) [] (probe_needs h m)) looked.0

  pub needs_are : (rs ps cs ds : List Reference) → resolution_needs h m ≡ rs → part_needs h m ≡ ps → copied_needs h m ≡ cs → probe_needs h m ≡ ds → needs h m ≡ (rs ++ ps ++ cs) ++ ds
  needs_are rs ps cs ds r q c d =
      ap (λ (xs : List Reference). xs ++ due_probes h m) passing_is
      ∙ ap (λ (xs : List Reference). (xs ++ part_needs h m ++ copied_needs h m) ++ due_probes h m) r
      ∙ ap (λ (xs : List Reference). (rs ++ xs ++ copied_needs h m) ++ due_probes h m) q
      ∙ ap (λ (xs : List Reference). (rs ++ ps ++ xs) ++ due_probes h m) c
      ∙ ap (λ (xs : List Reference). (rs ++ ps ++ cs) ++ xs) (probes_are ∙ d)

pub onward_needs : OnwardNeeds
onward_needs h m r ord looked e =
    let n = nothing_below h m ord looked (Onward r) e refl in
    needs_are h m looked (resolution_needs h m) [] (copied_needs h m) [] refl n.0 refl n.1
    ∙ append-nil (resolution_needs h m ++ [] ++ copied_needs h m)
    ∙ ap (λ (xs : List Reference). xs ++ copied_needs h m) (append-nil (resolution_needs h m))
    ∙ onward_resolution h m r e

pub nothing_needed : NothingNeeded
nothing_needed h m ord looked (inl w) =
    let n = nothing_below h m ord looked (Nowhere w.0) w.1 refl in
    let g = passing h m (Nowhere w.0) w.1 refl in
    needs_are h m looked [] [] [] [] g.0 n.0 g.1 n.1
nothing_needed h m ord looked (inr e) =
    let n = nothing_below h m ord looked Stuck e refl in
    let g = passing h m Stuck e refl in
    needs_are h m looked [] [] [] [] g.0 n.0 g.1 n.1

pub here_needs : HereNeeds
here_needs h m c looked e none =
    let g = passing h m (Here c) e refl in
    let n : part_needs h m ≡ [] = ap (λ (o : Option Subset). in_option [] (part_of h m) o) none in
    needs_are h m looked [] [] [] (probe_needs h m) g.0 n g.1 refl ∙ sym (probes_are h m looked)

-- a list or search needs no probe
query_unnamed : (m : Chained) (b : Body) → is_none (subset_by m b) ≡ false → new_name b ≡ None
query_unnamed m (Read name selection) e = refl
query_unnamed m (Compare name a) e = refl
query_unnamed m (ListBelow name) e = refl
query_unnamed m (Search base s f selection) e = refl
query_unnamed m (AddEntry name attributes) e = cc
query_unnamed m (RemoveEntry name) e = refl
query_unnamed m (ModifyEntry name changes) e = refl
query_unnamed m (ModifyDn name rdn drops) e = cc

pub parts_needed : PartsNeeded
parts_needed h m o looked begins = by (find h m) refl begins
  where
    parts : (f : Found) → find h m ≡ f → is_onward f ≡ false → probe_needs h m ≡ [] → needs h m ≡ part_needs h m
    parts f e stays quiet =
        let g = passing h m f e stays in
        needs_are h m looked [] (part_needs h m) [] [] g.0 refl g.1 quiet ∙ append-nil (part_needs h m ++ []) ∙ append-nil (part_needs h m)

    query : not (is_none (subset_of m)) ≡ true → probe_needs h m ≡ []
    query b = ap (λ (n : Option Name). in_option [] (due_by h m) n) (query_unnamed m m.request.body (not_true (is_none (subset_of m)) b))

    below : find h m ≡ Below → probe_needs h m ≡ []
    below e = by_path (path h m)
      where
        by_path : Path h m → probe_needs h m ≡ []
        by_path (resolving r b k begins) = absurd (resolved_above (known_pin m.request h (key_of m.target)) (sym k ∙ e))
          where
            other_below : (rs : List Reference) (x : Found) → by_first rs x ≡ Below → is_wide_found x ≡ false → ⊥
            other_below [] x z n = false_true (sym n ∙ ap is_wide_found z)
            other_below (r ∷ rs) x z n = (let w : Onward r ≡ Below = z in cc)

            resolved_above : (x : Option Key) → at_pin h m x ≡ Below → ⊥
            resolved_above None z = other_below (superior_needs h m) _ z (root (is_root (key_of m.target)))
              where
                root : (b : Bool) → is_wide_found (cond b Root (Nowhere [])) ≡ false
                root true = refl
                root false = refl
            resolved_above (Some q) z = by_own (held_at h.own q) refl
              where
                by_copy : held_at h.own q ≡ None → (x : Option Copy) → copy_at h q ≡ x → ⊥
                by_copy n None y = other_below (specific_needs h m q) Stuck (rw (n, y) at z) refl
                by_copy n (Some c) y = at (copy_answers h m c) refl
                  where
                    f : in_copy h m c ≡ Below
                    f = rw (n, y) at z

                    at : (b : Bool) → copy_answers h m c ≡ b → ⊥
                    at true k = (let w : CopyHere c ≡ Below = ap (λ (b : Bool). cond b (CopyHere c) (by_first (supplier_needs h m c) Stuck)) (sym k) ∙ f in cc)
                    at false k = other_below (supplier_needs h m c) Stuck (ap (λ (b : Bool). cond b (CopyHere c) (by_first (supplier_needs h m c) Stuck)) (sym k) ∙ f) refl

                by_own : (x : Option Held) → held_at h.own q ≡ x → ⊥
                by_own None n = by_copy n (copy_at h q) refl
                by_own (Some c) n = at (lowest c.entries (key_of m.target)) refl
                  where
                    f : in_own h m c ≡ Below
                    f = rw n at z

                    there : (x : Named) → lowest c.entries (key_of m.target) ≡ Some x → (b : Bool) → same_name x.name m.target ≡ b → ⊥
                    there x l true s = (let w : Here c ≡ Below = rw (l, s) at f in cc)
                    there x l false s = other_below (multicast_needs h m c) (Nowhere x.name) (rw (l, s) at f) refl

                    at : (x : Option Named) → lowest c.entries (key_of m.target) ≡ x → ⊥
                    at None l = (let w : Nowhere [] ≡ Below = rw l at f in cc)
                    at (Some x) l = there x l (same_name x.name m.target) refl
        by_path (stopped r b k begins) = probe_stopped h m r
        by_path (wide r b k) = probe_stopped h m r
        by_path (done r k begins) = probe_stopped h m r

    by : (f : Found) → find h m ≡ f → begins_parts (hand o m) f ≡ true → needs h m ≡ part_needs h m
    by (Here c) e b = parts (Here c) e refl (query b)
    by (CopyHere c) e b = parts (CopyHere c) e refl (query b)
    by Root e b = parts Root e refl (query b)
    by Below e b = parts Below e refl (below e)
    by (Onward r) e b = absurd (false_true b)
    by (Nowhere n) e b = absurd (false_true b)
    by Stuck e b = absurd (false_true b)
