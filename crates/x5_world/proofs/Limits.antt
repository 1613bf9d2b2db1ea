-- What agents keep of changes stays within the limits of messages: where an update within them is noted, and where a
-- refresh within them is taken; and so does what they hold.
use Rattle.std.proofs.Common.{◌≡◌, ℕ, zero, suc, ◌-◌, ◌⊎◌, inl, inr, true, List, [], ◌∷◌, ◌++◌, length, map, drop, slice_get, slice_set, sym, ap, subst, ◌∙◌, Option, Some, None}
use Rattle.std.specs.Option.{option_map}
use Rattle.std.proofs.lemmas.List.{map-set}
use Rattle.x5_model.specs.Members.{In, here, there}
use Rattle.x5_model.specs.Keys.{Key}
use Rattle.x5_model.specs.Requests.{Body, Request}
use Rattle.x5_model.specs.Statics.{fault_of}
use Rattle.x5_model.proofs.Lists.{in_first}
use Rattle.x5_model_run.specs.Holdings.{Copy, Holdings}
use Rattle.x5_model_refreshed.specs.Steps.{Step}
use Rattle.x5_model_fitting.specs.Names.{Each}
use Rattle.x5_model_fitting.specs.Requests.{BodyWithin, CountWithin, IfThere, RequestWithin}
use Rattle.x5_model_limits.specs.Holding.{BoundedCopy, BoundedEntry, BoundedHoldings}
use Rattle.x5_model_limits.specs.Steps.{BoundedStep}
use Rattle.x5_model_limits.proofs.Lists.{each_both, each_one, in_end}
use Rattle.x5_model_limits.proofs.Stepping.{noted_bounded, replay_bounded}
use Rattle.x5_dse.specs.Linked.{entries_of}
use Rattle.x5_ops.specs.KnowledgeViews.{nssr_view, specific_view}
use Rattle.x5_ops.specs.declared.knowledge.Step.{Step as CodeStep}
use Rattle.x5_holdings.specs.declared.log.Logged.{Logged}
use Rattle.x5_holdings.specs.Logs as holdings
use Rattle.x5_holdings.specs.State.{CopyKept, Kept, State, copy_view, holdings_view}
use Rattle.x5_consume.specs.Steps.{step_view, steps_view}
use Rattle.x5_consume.specs.Taken.{AreNoted as NotedIn, IsTaken}
use Rattle.x5_refresh.specs.declared.brought.Brought.{Brought}
use Rattle.x5_refresh.specs.declared.brought.Brought.TheVariants.{Total, Steps}
use Rattle.x5_refresh.specs.Sent.{IsRefreshed}
use Rattle.x5_world.specs.Logs.{AreNoted, Logs, Notes, noting}
use Rattle.x5_world.specs.LogLimits.{BoundedLogs, BoundedNotes}
use Rattle.x5_world.specs.LogViews.{copy_notes, logged_view, logs_view, notes_view}
use Rattle.x5_world.specs.Refreshing.{IsBoundedIn}
use Rattle.x5_world.proofs.Noted.{map_at, noted_log}

-- ---- members of a list of which one place was set

pub got_in : {A : Type 0} (xs : List A) (i : ℕ) (x : A) → slice_get xs i ≡ Some x → In x xs
got_in [] i x e = cc
got_in {A} (y ∷ ys) zero x e = let q : y ≡ x = cc in subst (λ (z : A). In z (y ∷ ys)) q here
got_in (y ∷ ys) (suc i) x e = there (got_in ys i x e)

set_in : {A : Type 0} (xs : List A) (i : ℕ) (y x : A) → In x (slice_set xs i y) → (x ≡ y) ⊎ In x xs
set_in [] i y x j = inr j
set_in (z ∷ xs) zero y x j = elim (in_first x y xs j) [ inl e ↦ inl e | inr k ↦ inr (there k) ]
set_in {A} (z ∷ xs) (suc i) y x j = elim (in_first x z (slice_set xs i y) j) [
  | inl e ↦ inr (subst (λ (w : A). In w (z ∷ xs)) (sym e) here)
  | inr k ↦ elim (set_in xs i y x k) [ inl e ↦ inl e | inr l ↦ inr (there l) ]
]

pub set_each : {A : Type 0} (P : A → Type 0) (xs : List A) (i : ℕ) (y : A) → Each P xs → P y → Each P (slice_set xs i y)
set_each P xs i y f p x j = elim (set_in xs i y x j) [ inl e ↦ subst P (sym e) p | inr k ↦ f x k ]

-- what stands in such a list
set_gets : {A : Type 0} (xs : List A) (i a : ℕ) (y x : A) → slice_get (slice_set xs i y) a ≡ Some x
    → (x ≡ y) ⊎ (slice_get xs a ≡ Some x)
set_gets [] i a y x e = inr e
set_gets (z ∷ xs) zero zero y x e = inl cc
set_gets (z ∷ xs) zero (suc a) y x e = inr e
set_gets (z ∷ xs) (suc i) zero y x e = inr e
set_gets (z ∷ xs) (suc i) (suc a) y x e = set_gets xs i a y x e

-- what all agents keep, as far as there are any
abbrev pub AllBounded : List Logs → Type 0
AllBounded logs = (a : ℕ) (l : Logs) → slice_get logs a ≡ Some l → BoundedLogs l

pub one_bounded : (logs : List Logs) (i : ℕ) (new : Logs) → AllBounded logs → BoundedLogs new
    → AllBounded (slice_set logs i new)
one_bounded logs i new all b a l e =
    elim (set_gets logs i a new l e) [ inl s ↦ subst BoundedLogs (sym s) b | inr f ↦ all a l f ]

-- ---- an update

abbrev IsFit : ℕ × Step → Type 0
IsFit x = BoundedStep x.1

noting_bounded : (x : ℕ × Step) (n : Notes) → BoundedStep x.1 → BoundedNotes n → BoundedNotes (noting x n)
noting_bounded x n step all =
    each_both IsFit (drop (length n.changes - 255) n.changes) (x ∷ [])
    (λ y i. all y (in_end (length n.changes - 255) y n.changes i)) (each_one IsFit x step)

-- what it does is by its body alone, whatever its controls
abbrev pub bare : Body → Request
bare b = record { controls = record { nocopy = true; nochain = true; size = None }; body = b }

pub bare_within : (b : Body) → BodyWithin b → RequestWithin (bare b)
bare_within b within = record { controls = tt; body = within }

pub noted_within : (moment : ℕ) (r : Request) (h : Holdings) (old new : Logs) → AreNoted moment r h old new
    → BodyWithin r.body → fault_of r.body ≡ None → BoundedHoldings h → BoundedLogs old → BoundedLogs new
noted_within moment r h old new n within none held b =
    let context = held.own n.context (got_in h.own n.place n.context n.held) in
    let step : BoundedStep n.step =
    noted_bounded n.context.entries (bare r.body) n.step context.entries (bare_within r.body within) none n.told in
    let notes : BoundedNotes n.notes = b.own n.notes (got_in old.own n.place n.notes n.kept) in
    subst BoundedLogs (sym n.new_is) (record {
      own = set_each BoundedNotes old.own n.place (noting (moment, n.step) n.notes) b.own
          (noting_bounded (moment, n.step) n.notes step notes);
      copies = b.copies;
    })

-- ---- a refresh

steps_noted : (stamp : ℕ) (given : List CodeStep) (old new : holdings.Log) → NotedIn stamp old given new
    → Each BoundedStep (steps_view given) → BoundedNotes (notes_view old) → BoundedNotes (notes_view new)
steps_noted stamp [] old new n each all =
    subst (λ (xs : List Logged). Each IsFit (map logged_view xs)) (sym n.1) all
steps_noted stamp (s ∷ more) old new n each all =
    let x : Logged = record { moment = stamp; step = s } in
    steps_noted stamp more n.0 new n.2 (λ y i. each y (there i))
    (subst BoundedNotes (sym (noted_log old n.0 x n.1))
    (noting_bounded (stamp, step_view s) (notes_view old) (each (step_view s) here) all))

module _ (s t : State) (pin : Key) (m : ℕ) (b : Brought) (stamp : CountWithin m) (bounded : IsBoundedIn b)
    (taken : IsTaken s pin (IsRefreshed b m) t) where
  abbrev d : CopyKept
  d = taken.copied.before

  copy_good : (c : Brought) → IsBoundedIn c → (u : CopyKept) → IsRefreshed c m d u → BoundedCopy (copy_view d)
      → BoundedCopy (copy_view u)
  copy_good (Total content) k u r was =
      let at : copy_view u ≡ record {
        held = record {
          prefix = d.prefix;
          entries = content.entries;
          subordinate = map specific_view content.specific;
          nssrs = map nssr_view content.nssr;
        };
        stamp = Some m;
        supplier = d.supplier;
      } =
      ap copy_view r.after_is
      ∙ (λ i. record {
        held = record {
          prefix = d.prefix;
          entries = r.content_is.entries i;
          subordinate = map specific_view (r.content_is.subordinate i);
          nssrs = map nssr_view (r.content_is.nssrs i);
        };
        stamp = Some m;
        supplier = d.supplier;
      }) in
      subst BoundedCopy (sym at) (record {
        held = record {
          prefix = was.held.prefix;
          some = was.held.some;
          entries = k.entries;
          subordinate = k.references;
        };
        stamp = stamp;
      })
  copy_good (Steps given) k u r was =
      let at : copy_view u ≡ record {
        held = record {
          prefix = d.prefix;
          entries = entries_of r.kept.nodes.nodes;
          subordinate = map specific_view r.old.subordinate;
          nssrs = map nssr_view r.old.nssrs;
        };
        stamp = Some m;
        supplier = d.supplier;
      } =
      ap copy_view r.after_is
      ∙ (λ i. record {
        held = record {
          prefix = d.prefix;
          entries = entries_of r.kept.nodes.nodes;
          subordinate = map specific_view (r.done.subordinate i);
          nssrs = map nssr_view (r.done.nssrs i);
        };
        stamp = Some m;
        supplier = d.supplier;
      }) in
      let before : BoundedCopy (copy_view (record d { refreshed = Some (r.old, r.last) })) =
      subst (λ (o : Option (Kept × ℕ)). BoundedCopy (copy_view (record d { refreshed = o }))) r.was was in
      let entries = subst (Each BoundedEntry) (sym r.done.entries)
      (replay_bounded (steps_view given) (entries_of r.old.nodes.nodes) k before.held.entries) in
      subst BoundedCopy (sym at) (record {
        held = record {
          prefix = before.held.prefix;
          some = before.held.some;
          entries = entries;
          subordinate = before.held.subordinate;
        };
        stamp = stamp;
      })

  notes_good : (c : Brought) → IsBoundedIn c → (u : CopyKept) → IsRefreshed c m d u → IfThere BoundedNotes (copy_notes d)
      → IfThere BoundedNotes (copy_notes u)
  notes_good (Total content) k u r was =
      subst (λ (v : CopyKept). IfThere BoundedNotes (copy_notes v)) (sym r.after_is)
      (subst (λ (xs : List Logged). Each IsFit (map logged_view xs)) (sym r.content_is.changes) (λ x i. elim i [ ]))
  notes_good (Steps given) k u r was =
      let before : BoundedNotes (notes_view r.old.log) =
      subst (λ (o : Option (Kept × ℕ)). IfThere BoundedNotes (option_map (λ (x : Kept × ℕ). notes_view x.0.log) o)) r.was was in
      subst (λ (v : CopyKept). IfThere BoundedNotes (copy_notes v)) (sym r.after_is)
      (steps_noted m given r.old.log r.kept.log r.done.noted k before)

  pub taken_bounded : BoundedHoldings (holdings_view s) → BoundedHoldings (holdings_view t)
  taken_bounded h =
      let before = h.copies (copy_view d) (got_in (map copy_view s.copies) taken.place (copy_view d)
      (map_at copy_view s.copies taken.place d taken.copied.was)) in
      let after = copy_good b bounded taken.copied.after taken.copied.changed before in
      let cs : List Copy = slice_set (map copy_view s.copies) taken.place (copy_view taken.copied.after) in
      let at : holdings_view t ≡ record (holdings_view s) { copies = cs } =
      ap holdings_view taken.copied.new_is
      ∙ ap (λ (ys : List Copy). record (holdings_view s) { copies = ys })
      (map-set copy_view s.copies taken.place taken.copied.after) in
      subst BoundedHoldings (sym at) (record {
        own = h.own;
        copies = set_each BoundedCopy (map copy_view s.copies) taken.place (copy_view taken.copied.after) h.copies after;
        root = h.root;
        cross = h.cross;
      })

  pub taken_noted : BoundedLogs (logs_view s) → BoundedLogs (logs_view t)
  taken_noted l =
      let before = l.copies (copy_notes d) (got_in (map copy_notes s.copies) taken.place (copy_notes d)
      (map_at copy_notes s.copies taken.place d taken.copied.was)) in
      let after = notes_good b bounded taken.copied.after taken.copied.changed before in
      let ns : List (Option Notes) = slice_set (map copy_notes s.copies) taken.place (copy_notes taken.copied.after) in
      let at : logs_view t ≡ record (logs_view s) { copies = ns } =
      ap logs_view taken.copied.new_is
      ∙ ap (λ (ys : List (Option Notes)). record (logs_view s) { copies = ys })
      (map-set copy_notes s.copies taken.place taken.copied.after) in
      subst BoundedLogs (sym at) (record {
        own = l.own;
        copies = set_each (IfThere BoundedNotes) (map copy_notes s.copies) taken.place (copy_notes taken.copied.after)
            l.copies after;
      })
