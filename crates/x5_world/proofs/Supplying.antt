-- What a supplier sends is within the limits of messages, as what it holds and keeps of changes is; and so is the stamp
-- that goes with it.
use Rattle.std.proofs.Common.{◌≡◌, ℕ, inl, inr, true, false, not, nat_lt, Bool, List, map, refl, sym, ap, subst, ◌∙◌, Option, Some, None, Ok}
use Rattle.std.specs.List.{filter}
use Rattle.std.specs.Option.{is_some, option_map}
use Rattle.x5_model.specs.Words.{in_option}
use Rattle.x5_model.specs.Members.{In}
use Rattle.x5_model.specs.Keys.{Key, parent, same_key}
use Rattle.x5_model.specs.Values.{key_of}
use Rattle.x5_model.proofs.Lists.{in_either, in_map, of_filter, of_find, of_map}
use Rattle.x5_model_tree.specs.World.{Specific as ModelSpecific}
use Rattle.x5_model_tree.specs.Tree.{is_there}
use Rattle.x5_model_fitting.specs.Names.{Each}
use Rattle.x5_model_fitting.specs.Requests.{CountWithin, IfThere}
use Rattle.x5_model_limits.specs.Holding.{BoundedCopy, BoundedHoldings, BoundedSpecific}
use Rattle.x5_model_limits.specs.Steps.{BoundedStep}
use Rattle.x5_ops.specs.declared.knowledge.Content.{Content}
use Rattle.x5_ops.specs.declared.knowledge.Specific.{Specific}
use Rattle.x5_ops.specs.declared.knowledge.Step.{Step as CodeStep}
use Rattle.x5_ops.specs.KnowledgeViews.{specific_view}
use Rattle.x5_dse.specs.Linked.{entries_of}
use Rattle.x5_holdings.specs.declared.log.Logged.{Logged}
use Rattle.x5_holdings.specs.State.{CopyKept, Kept, State, copy_view, held_view, holdings_view}
use Rattle.x5_supply.specs.Supplied.{content_of_copy, content_of_master, copy_of, mastered_of, of_master, or_else, or_inactive, others, reference, reference_to, supplied, total_of}
use Rattle.x5_supply.specs.Supplied as supply
use Rattle.x5_consume.specs.Steps.{step_view, steps_view}
use Rattle.x5_refresh.specs.declared.brought.Brought.{Brought}
use Rattle.x5_refresh.specs.declared.brought.Brought.TheVariants.{Total, Steps}
use Rattle.x5_refresh.specs.Sent as sent
use Rattle.x5_refresh.specs.Sent.{supply_of}
use Rattle.x5_world.specs.LogLimits.{BoundedLogs, BoundedNotes}
use Rattle.x5_world.specs.LogViews.{copy_notes, logged_view, logs_view, notes_view, own_notes}
use Rattle.x5_world.specs.Refreshing.{IsBoundedContent, IsBoundedIn}
use Rattle.x5_world.proofs.Acceptable.{no_steps, no_total, of_stamped, ok_is, steps_from, steps_only, total_sent}
use Rattle.x5_world.proofs.Courses.{some_is}
use Rattle.x5_world.proofs.Knowing.{references_seen}

module _ (s : State) (h : BoundedHoldings (holdings_view s)) (l : BoundedLogs (logs_view s)) where
  -- ---- a total refresh

  abbrev below : Kept → Kept → Bool
  below c y = is_there (entries_of c.nodes.nodes) (parent (key_of y.prefix))

  abbrev not_mastered : Specific → Bool
  not_mastered y = not (is_some (mastered_of s (key_of y.pin)))

  abbrev IsFine : Specific → Type 0
  IsFine x = BoundedSpecific (specific_view x)

  -- a master's references are of what it knows, or to itself
  reference_bounded : (c : Kept) (x : Specific) → In c s.own → In x (of_master s c) → IsFine x
  reference_bounded c x at i =
      elim (in_either x (supply.mastered_below s (entries_of c.nodes.nodes)) (others s c.subordinate) i) [
        | inl j ↦
            (let d = of_map (λ (y : Kept). reference_to s.me y.prefix) x (filter (below c) s.own) j in
            let k = of_filter (below c) d.0 s.own d.1 in
            let own = h.own (held_view d.0) (in_map held_view d.0 s.own k.0) in
            subst IsFine (sym d.2) (record { pin = own.prefix; some = own.some }))
        | inr j ↦
            (let d = of_map reference x (filter not_mastered c.subordinate) j in
            let k = of_filter not_mastered d.0 c.subordinate d.1 in
            let own = h.own (held_view c) (in_map held_view c s.own at) in
            let known = own.subordinate (specific_view d.0) (in_map specific_view d.0 c.subordinate k.0) in
            subst IsFine (sym d.2) (record { pin = known.pin; some = known.some }))
      ]

  master_bounded : (c : Kept) → In c s.own → IsBoundedContent (content_of_master s c)
  master_bounded c at = record {
    entries = (h.own (held_view c) (in_map held_view c s.own at)).entries;
    references = λ x i.
        let d = of_map specific_view x (of_master s c) i in
        subst BoundedSpecific (sym d.2) (reference_bounded c d.0 at d.1);
  }

  -- a copy that was refreshed
  refreshed_bounded : (d : CopyKept) (y : Kept × ℕ) → In d s.copies → d.refreshed ≡ Some y
      → BoundedCopy (copy_view (record d { refreshed = Some y }))
  refreshed_bounded d y i e =
      subst (λ (o : Option (Kept × ℕ)). BoundedCopy (copy_view (record d { refreshed = o }))) e
      (h.copies (copy_view d) (in_map copy_view d s.copies i))

  copy_bounded : (d : CopyKept) (y : Kept × ℕ) → In d s.copies → d.refreshed ≡ Some y
      → IsBoundedContent (content_of_copy y.0)
  copy_bounded d y i e =
      let was = refreshed_bounded d y i e in
      record {
        entries = was.held.entries;
        references = subst (λ (ks : List ModelSpecific). Each BoundedSpecific ks) (sym (references_seen y.0.subordinate))
            was.held.subordinate;
      }

  total_bounded : (pin : Key) (content : Content) → total_of s pin ≡ Ok content → IsBoundedContent content
  total_bounded pin content e = by (mastered_of s pin) refl (copy_of s pin) refl e
    where
      inactive : or_inactive None ≡ Ok content → ⊥
      inactive z = cc

      from : (d : CopyKept) → copy_of s pin ≡ Some d → (o : Option (Kept × ℕ)) → d.refreshed ≡ o
          → or_inactive (option_map content_of_copy (option_map (λ (r : Kept × ℕ). r.0) o)) ≡ Ok content
          → IsBoundedContent content
      from d f None r q = absurd (inactive q)
      from d f (Some y) r q =
          subst IsBoundedContent (ok_is q)
          (copy_bounded d y (of_find (λ (z : CopyKept). same_key (key_of z.prefix) pin) d s.copies f).0 r)

      by : (o : Option Kept) → mastered_of s pin ≡ o → (d : Option CopyKept) → copy_of s pin ≡ d
          → or_inactive (or_else (option_map (content_of_master s) o) (option_map content_of_copy (option_map (λ (r : Kept × ℕ). r.0) (in_option None (λ (z : CopyKept). z.refreshed) d)))) ≡ Ok content
          → IsBoundedContent content
      by (Some c) f d z q =
          subst IsBoundedContent (ok_is q)
          (master_bounded c (of_find (λ (y : Kept). same_key (key_of y.prefix) pin) c s.own f).0)
      by None f (Some d) z q = from d z d.refreshed refl q
      by None f None z q = absurd (inactive q)

  -- ---- its stamp

  stamp_within : (pin : Key) (m : ℕ) → CountWithin s.moment → supply.stamp_of s pin ≡ Some m → CountWithin m
  stamp_within pin m moment e = by (mastered_of s pin) (copy_of s pin) refl e
    where
      none : None ≡ Some m → ⊥
      none z = cc

      from : (d : CopyKept) → copy_of s pin ≡ Some d → (o : Option (Kept × ℕ)) → d.refreshed ≡ o
          → option_map (λ (r : Kept × ℕ). r.1) o ≡ Some m → CountWithin m
      from d f None r q = absurd (none q)
      from d f (Some y) r q =
          subst CountWithin (some_is q)
          (refreshed_bounded d y (of_find (λ (z : CopyKept). same_key (key_of z.prefix) pin) d s.copies f).0 r).stamp

      by : (o : Option Kept) (d : Option CopyKept) → copy_of s pin ≡ d
          → or_else (option_map (λ (c : Kept). s.moment) o) (option_map (λ (r : Kept × ℕ). r.1) (in_option None (λ (z : CopyKept). z.refreshed) d)) ≡ Some m
          → CountWithin m
      by (Some c) d f q = subst CountWithin (some_is q) moment
      by None (Some d) f q = from d f d.refreshed refl q
      by None None f q = absurd (none q)

  -- ---- an incremental one

  kept_noted : (pin : Key) (c : Kept) → supplied s pin ≡ Some c → BoundedNotes (notes_view c.log)
  kept_noted pin c e = by (mastered_of s pin) refl (copy_of s pin) refl e
    where
      none : None ≡ Some c → ⊥
      none z = cc

      from : (d : CopyKept) → copy_of s pin ≡ Some d → (o : Option (Kept × ℕ)) → d.refreshed ≡ o
          → option_map (λ (r : Kept × ℕ). r.0) o ≡ Some c → BoundedNotes (notes_view c.log)
      from d f None r q = absurd (none q)
      from d f (Some y) r q =
          let at = (of_find (λ (z : CopyKept). same_key (key_of z.prefix) pin) d s.copies f).0 in
          let noted : BoundedNotes (notes_view y.0.log) =
          subst (λ (o : Option (Kept × ℕ)). IfThere BoundedNotes (option_map (λ (x : Kept × ℕ). notes_view x.0.log) o)) r
          (l.copies (copy_notes d) (in_map copy_notes d s.copies at)) in
          subst (λ (k : Kept). BoundedNotes (notes_view k.log)) (some_is q) noted

      by : (o : Option Kept) → mastered_of s pin ≡ o → (d : Option CopyKept) → copy_of s pin ≡ d
          → or_else o (option_map (λ (r : Kept × ℕ). r.0) (in_option None (λ (z : CopyKept). z.refreshed) d)) ≡ Some c
          → BoundedNotes (notes_view c.log)
      by (Some k) f d z q =
          let at = (of_find (λ (y : Kept). same_key (key_of y.prefix) pin) k s.own f).0 in
          let noted : BoundedNotes (notes_view k.log) = l.own (own_notes k) (in_map own_notes k s.own at) in
          subst (λ (x : Kept). BoundedNotes (notes_view x.log)) (some_is q) noted
      by None f (Some d) z q = from d z d.refreshed refl q
      by None f None z q = absurd (none q)

  later_bounded : (c : Kept) (m : ℕ) → BoundedNotes (notes_view c.log)
      → Each BoundedStep (steps_view (supply.steps_later c.log m))
  later_bounded c m noted x i =
      let later : List Logged = filter (λ (y : Logged). nat_lt m y.moment) c.log.changes in
      let d = of_map step_view x (map (λ (y : Logged). y.step) later) i in
      let w = of_map (λ (y : Logged). y.step) d.0 later d.1 in
      let k = of_filter (λ (y : Logged). nat_lt m y.moment) w.0 c.log.changes w.1 in
      subst BoundedStep (sym (d.2 ∙ ap step_view w.2))
      (noted (logged_view w.0) (in_map logged_view w.0 c.log.changes k.0))

  since_bounded : (pin : Key) (last : Option ℕ) (given : List CodeStep) → supply.since_of s pin last ≡ Ok given
      → Each BoundedStep (steps_view given)
  since_bounded pin last given e =
      let x = steps_from s pin last given e in
      subst (λ (xs : List CodeStep). Each BoundedStep (steps_view xs)) x.steps
      (later_bounded x.kept x.from (kept_noted pin x.kept x.supplied_is))

  -- ---- either

  brought_bounded : (pin : Key) (total : Bool) (last : Option ℕ) (m : ℕ) (b : Brought) → supply_of s pin total last ≡ Ok (m, b)
      → IsBoundedIn b
  brought_bounded pin true last m (Total content) e = total_bounded pin content (total_sent s pin last m content e)
  brought_bounded pin true last m (Steps given) e = absurd (no_steps s pin last m given e)
  brought_bounded pin false last m (Total content) e = absurd (no_total s pin last m content e)
  brought_bounded pin false last m (Steps given) e =
      since_bounded pin last given (steps_only (supply.since_of s pin last) given
      (of_stamped (supply.stamp_of s pin) (sent.brought_of s pin false last) m (Steps given) e).1)

  pub sent_bounded : (pin : Key) (total : Bool) (last : Option ℕ) (m : ℕ) (b : Brought) → CountWithin s.moment
      → supply_of s pin total last ≡ Ok (m, b) → CountWithin m × IsBoundedIn b
  sent_bounded pin total last m b moment e = (
    stamp_within pin m moment (of_stamped (supply.stamp_of s pin) (sent.brought_of s pin total last) m b e).0,
    brought_bounded pin total last m b e,
  )
