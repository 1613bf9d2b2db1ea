-- Where resolution ends in a context that is mastered, and in a copy: what the code finds in its nodes is what the
-- definition finds
-- among the entries.
use Rattle.std.proofs.Common.{◌≡◌, ℕ, zero, suc, ◌-◌, ◌<◌, Bool, true, false, not, if◌then◌else◌, ◌||◌}
use Rattle.std.proofs.Common.{◌==◌, inl, inr, List, [], ◌∷◌, ◌++◌, map, take, drop, length, Option, Some, None, Bor}
use Rattle.std.proofs.Common.{refl, sym, ap, subst, ◌∙◌, arith}
use Rattle.std.proofs.lemmas.List.{length-map}
use Rattle.std.specs.Prelude.{slice_get}
use Rattle.std.specs.List.{list_any}
use Rattle.std.specs.Option.{is_some, option_map}
use Rattle.x5_model.specs.Words.{first_of, is_empty}
use Rattle.x5_model.specs.Keys.{Key, IsPrefix, same_key, is_prefix}
use Rattle.x5_model.specs.Values.{Name, key_of, key_of_rdn}
use Rattle.x5_model.specs.Entries.{Named}
use Rattle.x5_model.specs.Requests.{Request}
use Rattle.x5_model.specs.References.{Progress, Start, Next, Done, Supplier, Chained}
use Rattle.x5_model.proofs.KeyLaws.{key_decides}
use Rattle.x5_model.proofs.Prefixes.{prefix_decides, prefix_itself, same_by_length}
use Rattle.x5_model.proofs.Lists.{true_or_false, of_find}
use Rattle.x5_model_tree.specs.World as world
use Rattle.x5_model_tree.specs.Tree.{key_at, is_there, lowest}
use Rattle.x5_model_run.specs.Journal.{same_name, is_done, is_wide}
use Rattle.x5_model_run.specs.Holdings.{Held, Copy, held_at, copy_at, may_copy, usable_copies}
use Rattle.x5_model_run.specs.Needs.{others, reference, proceeding, nssr_at}
use Rattle.x5_model_run.specs.Placed.{fits}
use Rattle.x5_model_serve.specs.Finding as finding
use Rattle.x5_ops.specs.declared.knowledge.Nssr.{Nssr}
use Rattle.x5_ops.specs.KnowledgeViews.{nssr_view}
use Rattle.x5_dse.specs.declared.node.NodeId.{NodeId}
use Rattle.x5_dse.specs.Linked.{Node, id_of, entries_of, node_key, node_at, node_with, prefix_of, length_in}
use Rattle.x5_dse.specs.Linked.{IsLowest, IsLinked}
use Rattle.x5_holdings.specs.State.{Kept, CopyKept, State, IsKept, IsBrought, held_view, copy_view, holdings_view}
use Rattle.x5_holdings.specs.State.{are_once, brought_for, brought_entries, stamp_of}
use Rattle.x5_find.specs.Finds as finds
use Rattle.x5_find.specs.Ways.{IsResolved, IsOwnPin, IsCopyPin}
use Rattle.x5_find.proofs.Lowest.{lowest_entry, named_at, as_long, at_name, first_at}
use Rattle.x5_find.proofs.Places.{own_goes, own_on_way, copy_goes, copy_found, copy_key, copies_once}
use Rattle.x5_find.proofs.Ways.{own_here, own_wide, own_alone, own_nowhere, to_its_supplier, lacks, unusable}
use Rattle.x5_find.proofs.Ways.{none_usable, not_usable, is_served, not_served, completes, completed_here}
use Rattle.x5_find.proofs.Ways.{completed_in_copy, completed_supplier, any_other}

-- ---- in a context that is mastered

keys_taken : (n : ℕ) (name : Name) → key_of (take n name) ≡ take n (key_of name)
keys_taken zero name = refl
keys_taken (suc n) [] = refl
keys_taken (suc n) (r ∷ name) = ap (λ (k : Key). key_of_rdn r ∷ k) (keys_taken n name)

pub record IsEnd (s : State) (m : Chained) (own : ℕ) (kept : Kept) (id : NodeId) (n : ℕ) : Type 0 where
  pub resolved : IsResolved s m
  pub pin : IsOwnPin s m own
  pub held : slice_get s.own own ≡ Some kept
  pub kept_well : IsKept kept
  pub low : IsLowest kept.nodes.nodes (key_of m.target) id
  pub long : option_map length_in (node_with kept.nodes.nodes id) ≡ Some n
  pub linked : IsLinked kept.nodes.nodes

module _ (s : State) (m : Chained) (own : ℕ) (kept : Kept) (id : NodeId) (n : ℕ) (e : IsEnd s m own kept id n) where
  abbrev entry : Named
  entry = e.low.node.named

  prefixed : is_prefix (prefix_of kept.nodes.nodes) (key_of m.target) ≡ true
  prefixed = own_on_way s m own e.pin kept e.held e.kept_well

  full : 0 < length (prefix_of kept.nodes.nodes)
  full =
      let l : length (prefix_of kept.nodes.nodes) ≡ length (key_of kept.prefix) = ap length e.kept_well.prefixed in
      omega (arith, length-map kept.prefix key_of_rdn, e.kept_well.below_root)

  low_entry : lowest (entries_of kept.nodes.nodes) (key_of m.target) ≡ Some entry
  low_entry = lowest_entry kept.nodes.nodes e.linked (key_of m.target) id e.low prefixed full

  size : length entry.name ≡ n
  size = as_long kept.nodes.nodes e.linked (key_of m.target) id e.low prefixed full n e.long

  above : IsPrefix (key_at entry) (key_of m.target)
  above = (prefix_decides (key_at entry) (key_of m.target)).0 e.low.is_above

  goes : finding.find (holdings_view s) m ≡ finding.in_own (holdings_view s) m (held_view kept)
  goes = e.resolved.resolves ∙ own_goes s m own e.pin kept e.held

  is_lowest : finds.IsLowest s own id entry
  is_lowest = record {
    kept = kept;
    held = e.held;
    at = named_at kept.nodes.nodes e.linked (key_of m.target) id e.low
        prefixed full;
  }

  pub here_found : n ≡ length m.target → finds.IsHere s m own id
  here_found l = record {
    kept = kept;
    held = e.held;
    found = goes ∙ own_here (holdings_view s) m (held_view kept) entry low_entry
        ((key_decides (key_at entry) (key_of m.target)).1 same);
    at = at_name kept.nodes.nodes e.linked (key_of m.target) id e.low prefixed full same;
  }
    where
      same : key_at entry ≡ key_of m.target
      same =
          same_by_length (key_at entry) (key_of m.target) (key_of m.target) above (prefix_itself (key_of m.target))
          (omega (arith, length-map entry.name key_of_rdn, length-map m.target key_of_rdn, size))

  module _ (other : n ≡ length m.target → ⊥) where
    not_same : same_name entry.name m.target ≡ false
    not_same =
        elim (true_or_false (same_name entry.name m.target)) [
          | inl t ↦ absurd (let k : length (key_at entry) ≡ length (key_of m.target) = ap length
              ((key_decides (key_at entry) (key_of m.target)).0 t) in
              other (omega (arith, length-map entry.name key_of_rdn, length-map m.target key_of_rdn, size)))
          | inr f ↦ f
        ]

    its_key : key_of (take n m.target) ≡ key_of entry.name
    its_key =
        keys_taken n m.target
        ∙ ((let l : n ≡ length (key_at entry) = omega (arith, length-map entry.name key_of_rdn, size) in ap
        (λ (k : ℕ). take k (key_of m.target)) l) ∙ above)

    module _ (rdns : Name) (front : rdns ≡ take n m.target) (o : Option world.Nssr)
        (found : o ≡ nssr_at (map nssr_view kept.nssrs) (key_of rdns)) where
      at_entry : nssr_at (held_view kept).nssrs (key_of entry.name) ≡ o
      at_entry = sym (found ∙ ap (λ (k : Key). nssr_at (map nssr_view kept.nssrs) k) (ap key_of front ∙ its_key))

      pub wide_found : (nssr : Nssr) → o ≡ Some (nssr_view nssr) → list_any (λ a. not (a == s.me)) nssr.agents ≡ true
          → finds.IsMulticast s m own id nssr.agents
      wide_found nssr i a = record {
        named = entry;
        lowest = is_lowest;
        found = goes ∙ own_wide (holdings_view s) m (held_view kept) entry low_entry (nssr_view nssr) not_same
            (at_entry ∙ i) (full_of (is_empty (others s.me nssr.agents)) (any_other s.me nssr.agents ∙ a));
      }
        where
          full_of : (b : Bool) → not b ≡ true → b ≡ false
          full_of true h = cc
          full_of false h = refl

      pub alone_found : (nssr : Nssr) → o ≡ Some (nssr_view nssr) → list_any (λ a. not (a == s.me)) nssr.agents ≡
          false → finds.IsNowhere s m own id
      alone_found nssr i a = record {
        named = entry;
        lowest = is_lowest;
        found = goes ∙ own_alone (holdings_view s) m (held_view kept) entry low_entry (nssr_view nssr) not_same
            (at_entry ∙ i) (empty_of (is_empty (others s.me nssr.agents)) (any_other s.me nssr.agents ∙ a));
      }
        where
          empty_of : (b : Bool) → not b ≡ false → b ≡ true
          empty_of true h = refl
          empty_of false h = cc

      pub nowhere_found : o ≡ None → finds.IsNowhere s m own id
      nowhere_found i = record {
        named = entry;
        lowest = is_lowest;
        found = goes ∙ own_nowhere (holdings_view s) m (held_view kept) entry low_entry not_same (at_entry ∙ i);
      }

-- ---- in a copy

none_there : (nodes : List Node) (key : Key) → node_at nodes key ≡ None → is_there (entries_of nodes) key ≡ false
none_there [] key e = refl
none_there (n ∷ nodes) key e = by (same_key (node_key n) key) refl (none_there nodes key)
  where
    by : (b : Bool) → same_key (node_key n) key ≡ b →
        (node_at nodes key ≡ None → is_there (entries_of nodes) key ≡ false) → is_there (entries_of (n ∷ nodes)) key ≡
        false
    by true f rest = absurd (let g : Some n ≡ None = sym
        (ap (λ (b : Bool). if b then Some n else node_at nodes key) f) ∙ e in cc)
    by false f rest =
        ap (λ (b : Bool). b || is_there (entries_of nodes) key) f ∙ rest
        (sym (ap (λ (b : Bool). if b then Some n else node_at nodes key) f) ∙ e)

-- what a request may be answered from
pub brought_is : (r : Request) (c : CopyKept) (k : Kept) → Some k ≡ brought_for r c → (may_copy r ≡ true) ×
    (b : Kept × ℕ) × (c.refreshed ≡ Some b) × (b.0 ≡ k)
brought_is r c k e = by (may_copy r) refl e
  where
    inside : (o : Option (Kept × ℕ)) → Some k ≡ option_map (λ (s : Kept × ℕ). s.0) o → (b : Kept × ℕ) × (o ≡ Some b) ×
        (b.0 ≡ k)
    inside None f = cc
    inside (Some b) f = (b, refl, same f)
      where
        same : Some k ≡ Some b.0 → b.0 ≡ k
        same g = cc

    by : (b : Bool) → may_copy r ≡ b → Some k ≡ (if b then option_map (λ (s : Kept × ℕ). s.0) c.refreshed else None) →
        (may_copy r ≡ true) × (b : Kept × ℕ) × (c.refreshed ≡ Some b) × (b.0 ≡ k)
    by true m f = (let w = inside c.refreshed f in (m, w.0, w.1, w.2))
    by false m f = cc

pub same_prefix : (r : Request) (c : CopyKept) (k : Kept) → Some k ≡ brought_for r c → IsBrought c.prefix c.refreshed
    → key_of k.prefix ≡ key_of c.prefix
same_prefix r c k e h =
    let w = brought_is r c k e in
    let b : IsBrought c.prefix (Some w.1) = subst (λ (o : Option (Kept × ℕ)). IsBrought c.prefix o) w.2 h in
    ap (λ (x : Kept). key_of x.prefix) (sym w.3) ∙ b

-- a node that isn't found
pub no_node : (o : Option Node) → None ≡ option_map id_of o → o ≡ None
no_node None e = refl
no_node (Some n) e = cc

-- nothing is brought
pub none_brought : (r : Request) (s : State) (key : Key) (c : CopyKept) → are_once s.copies ≡ true → copy_at
    (holdings_view s) key ≡ Some (copy_view c) → None ≡ brought_for r c → held_at (usable_copies r (holdings_view s))
    key ≡ None
none_brought r s key c once at e = by (may_copy r) refl e
  where
    unstamped : (o : Option (Kept × ℕ)) → None ≡ option_map (λ (s : Kept × ℕ). s.0) o → stamp_of o ≡ None
    unstamped None f = refl
    unstamped (Some b) f = cc

    by : (b : Bool) → may_copy r ≡ b → None ≡ (if b then option_map (λ (s : Kept × ℕ). s.0) c.refreshed else None) →
        held_at (usable_copies r (holdings_view s)) key ≡ None
    by true m f = not_usable r (holdings_view s) key (copy_view c) (copies_once s once) at (unstamped c.refreshed f)
    by false m f = none_usable r (holdings_view s) key m

-- the reference to its supplier, as the code tells it
pub by_supplier : (c : CopyKept) (target : Name) (k : ℕ) (known : Bor Name) (a : ℕ) → k ≡ length c.prefix → known.now
    ≡ c.prefix → a ≡ c.supplier
    → proceeding (length c.prefix) c.prefix target Supplier (c.supplier ∷ []) ≡ reference
    (take (k - 1) known.now ++ drop (k - 1) target) (Next k) Supplier (a ∷ [])
by_supplier c target k known a e f g = sym
    (λ i. reference (take (e i - 1) (f i) ++ drop (e i - 1) target) (Next (e i)) Supplier (g i ∷ []))

module _ (s : State) (m : Chained) (copy : ℕ) (kept : CopyKept) (resolved : IsResolved s m) (pin : IsCopyPin s m copy)
    (held : slice_get s.copies copy ≡ Some kept) where
  goes_on : finding.find (holdings_view s) m ≡ finding.in_copy (holdings_view s) m (copy_view kept)
  goes_on = resolved.resolves ∙ copy_goes s m copy pin kept held

  pub copy_here : (k : Kept) (id : NodeId) → Some k ≡ brought_for m.request kept → option_map id_of
      (node_at k.nodes.nodes (key_of m.target)) ≡ Some id → finds.IsCopyHere s m copy id
  copy_here k id e f =
      let w = brought_is m.request kept k e in
      record {
        kept = kept;
        brought = w.1;
        held = held;
        refreshed = w.2;
        usable = w.0;
        found = goes_on ∙ sym (ap
            (λ (b : Bool). if b then finding.CopyHere (copy_view kept) else finding.in_copy (holdings_view s) m
            (copy_view kept)) resolved.left);
        at = subst (λ (c : Kept). option_map id_of (node_at c.nodes.nodes (key_of m.target)) ≡ Some id) (sym w.3) f;
      }

  pub copy_lacks : (k : Kept) → Some k ≡ brought_for m.request kept → node_at k.nodes.nodes (key_of m.target) ≡ None →
      finding.find (holdings_view s) m ≡ finding.Onward
      (proceeding (length kept.prefix) kept.prefix m.target Supplier (kept.supplier ∷ []))
  copy_lacks k e f =
      let w = brought_is m.request kept k e in
      let none : is_there (brought_entries kept.refreshed) (key_of m.target) ≡ false =
      ap (λ (o : Option (Kept × ℕ)). is_there (brought_entries o) (key_of m.target)) w.2 ∙
      (ap (λ (c : Kept). is_there (entries_of c.nodes.nodes) (key_of m.target)) w.3 ∙ none_there k.nodes.nodes
      (key_of m.target) f) in
      goes_on ∙ to_its_supplier (holdings_view s) m (copy_view kept) (lacks (holdings_view s) m (copy_view kept) none)

  pub copy_unusable : are_once s.copies ≡ true → None ≡ brought_for m.request kept → finding.find (holdings_view s) m
      ≡ finding.Onward (proceeding (length kept.prefix) kept.prefix m.target Supplier (kept.supplier ∷ []))
  copy_unusable once e =
      goes_on
      ∙ to_its_supplier (holdings_view s) m (copy_view kept) (unusable (holdings_view s) m (copy_view kept)
      (subst (λ (k : Key). held_at (usable_copies m.request (holdings_view s)) k ≡ None)
      (sym (copy_key s m copy pin kept held))
      (none_brought m.request s pin.key kept once (copy_found s m copy pin kept held) e)))

-- ---- a completed name

pub done_is : (p : Progress) → is_done p ≡ true → p ≡ Done
done_is Done e = refl
done_is (Next k) e = cc
done_is Start e = cc

module _ (s : State) (m : Chained) (done : m.progress ≡ Done) (specific : is_wide m.kind ≡ false) where
  pub done_here : (own : ℕ) (kept : Kept) (id : NodeId) → slice_get s.own own ≡ Some kept → held_at
      (holdings_view s).own (key_of m.target) ≡ Some (held_view kept) → IsKept kept
      → option_map id_of (first_of kept.nodes.nodes) ≡ Some id → finds.IsHere s m own id
  done_here own kept id at e k f = record {
    kept = kept;
    held = at;
    found = completes (holdings_view s) m done specific ∙ completed_here (holdings_view s) m done specific
        (held_view kept) e;
    at = first_at kept.nodes.nodes (key_of m.target) id f
        (k.prefixed ∙ (key_decides (key_of kept.prefix) (key_of m.target)).0
        (of_find (λ (c : Held). same_key (key_of c.prefix) (key_of m.target)) (held_view kept) (holdings_view s).own
        e).1);
  }

  module _ (fit : fits m ≡ true) (no_own : held_at (holdings_view s).own (key_of m.target) ≡ None) (copy : ℕ)
      (kept : CopyKept) (held : slice_get s.copies copy ≡ Some kept)
      (at : copy_at (holdings_view s) (key_of m.target) ≡ Some (copy_view kept)) (once : are_once s.copies ≡ true) where
    pub done_in_copy : (k : Kept) (id : NodeId) → Some k ≡ brought_for m.request kept → IsKept k → key_of k.prefix ≡
        key_of kept.prefix → option_map id_of (first_of k.nodes.nodes) ≡ Some id → finds.IsCopyHere s m copy id
    done_in_copy k id e ok same f =
        let w = brought_is m.request kept k e in
        let stamped : is_some (stamp_of kept.refreshed) ≡ true = ap (λ (o : Option (Kept × ℕ)). is_some (stamp_of o))
        w.2 in
        let key : key_of kept.prefix ≡ key_of m.target = (key_decides (key_of kept.prefix) (key_of m.target)).0
        (of_find (λ (c : Copy). same_key (key_of c.held.prefix) (key_of m.target)) (copy_view kept)
        (holdings_view s).copies at).1 in
        record {
          kept = kept;
          brought = w.1;
          held = held;
          refreshed = w.2;
          usable = w.0;
          found = completes (holdings_view s) m done specific
              ∙ (completed_in_copy (holdings_view s) m done specific (copy_view kept) fit no_own at
              (is_served m.request (holdings_view s) (key_of m.target) (copy_view kept) (copies_once s once) at
              no_own w.0 stamped)
              ∙ sym (ap (λ (p : Progress). if is_done p then finding.CopyHere (copy_view kept) else finding.in_copy
              (holdings_view s) m (copy_view kept)) done));
          at = subst (λ (c : Kept). option_map id_of (node_at c.nodes.nodes (key_of m.target)) ≡ Some id) (sym w.3)
              (first_at k.nodes.nodes (key_of m.target) id f (ok.prefixed ∙ (same ∙ key)));
        }

    pub done_supplier : None ≡ brought_for m.request kept → finding.find (holdings_view s) m ≡ finding.Onward
        (reference m.target Done Supplier (kept.supplier ∷ []))
    done_supplier e =
        completes (holdings_view s) m done specific
        ∙ completed_supplier (holdings_view s) m done specific (copy_view kept) fit no_own at
        (not_served m.request (holdings_view s) (key_of m.target) (copy_view kept) (copies_once s once) at no_own
        (none_brought m.request s (key_of m.target) kept once at e))
