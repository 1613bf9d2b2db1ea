-- Steps that are done on a copy one after another: what is done and what is left are all, and there is room for what is left.
use Rattle.std.proofs.Common.{◌≡◌, ℕ, ◌+◌, ◌<◌, ◌≤◌, List, [], ◌∷◌, length, refl, sym, ap, subst, ◌∙◌, arith, Option, Some}
use Rattle.std.specs.Prelude.{slice_get, slice_set}
use Rattle.std.specs.Option.{IsSomeAnd}
use Rattle.x5_model.specs.Values.{key_of}
use Rattle.x5_model.specs.Entries.{Named}
use Rattle.x5_model_refreshed.specs.Steps.{replay, replayed}
use Rattle.x5_dse.specs.Linked.{entries_of}
use Rattle.x5_holdings.specs.declared.changing.EntryChange.{EntryChange}
use Rattle.x5_holdings.specs.Logs.{Log}
use Rattle.x5_holdings.specs.Making.{IsChanged, IsMade, IsReady}
use Rattle.x5_holdings.specs.Making.{IsLeft, room_of}
use Rattle.x5_holdings.specs.Placed.{IsBroughtChanged, IsCopyChanged}
use Rattle.x5_holdings.specs.State.{CopyKept, Kept, State}
use Rattle.x5_consume.specs.declared.ready.Prepared.{Prepared}
use Rattle.x5_consume.specs.Ready.{CanGo, CanGoOn, IsDone, IsDue, IsFindable, CopyStands, room_of as ready_room, steps_in, values_in}
use Rattle.x5_model_refreshed.specs.Doable.{CanReplay}
use Rattle.x5_consume.specs.Steps.{step_view, steps_view}
use Rattle.x5_consume.specs.Taken.{AreDone, AreNoted}
use Rattle.x5_consume.proofs.Changing.{Makes, can_change, findable, made, makes, room_is}
use Rattle.x5_consume.proofs.Placing.{copy_inside, got_set, one_copy, one_kept, set_same, set_twice, some_inside}

-- ---- one step

pub find_first : (s : State) (place : ℕ) (one : Prepared) → CopyStands s place (CanGo one)
    → CopyStands s place (λ copy kept. IsFindable (entries_of kept.nodes.nodes) one.ready)
find_first s place one w = record {
  copy = w.copy;
  kept = w.kept;
  stamp = w.stamp;
  there = w.there;
  refreshed = w.refreshed;
  is = findable (key_of w.copy.prefix) (entries_of w.kept.nodes.nodes) (step_view one.step) one.ready w.is.doable w.is.prepared;
}

module _ (s : State) (place : ℕ) (one : Prepared) (change : EntryChange) (w : CopyStands s place (CanGo one))
    (d : CopyStands s place (IsDue one.ready change)) where
  same_copy : d.copy ≡ w.copy
  same_copy = one_copy s place (IsDue one.ready change) (CanGo one) d w

  same_kept : d.kept ≡ w.kept
  same_kept = one_kept s place (IsDue one.ready change) (CanGo one) d w

  due : IsDue one.ready change w.copy w.kept
  due = subst (λ (c : CopyKept). IsDue one.ready change c w.kept) same_copy
      (subst (λ (k : Kept). IsDue one.ready change d.copy k) same_kept d.is)

  making : Makes w.kept.nodes.nodes (step_view one.step) (ready_room one.ready) change
  making = makes w.kept.nodes.nodes (step_view one.step) one.ready change w.is.prepared due.change_is

  ready : IsReady w.kept change
  ready =
      can_change w.kept due.linked (key_of w.copy.prefix) (due.whole.prefixed ∙ due.brought) (step_view one.step)
      (ready_room one.ready) change making w.is.doable w.is.room

  module _ (c : CopyKept) (got : slice_get s.copies place ≡ Some c) where
    its : Some (w.kept, w.stamp) ≡ c.refreshed
    its = sym w.refreshed ∙ ap (λ (x : CopyKept). x.refreshed) (copy_inside (sym w.there ∙ got))

    pub ready_at : IsSomeAnd c.refreshed (λ (s : Kept × ℕ). IsReady s.0 change)
    ready_at = subst (λ (r : Option (Kept × ℕ)). IsSomeAnd r (λ (s : Kept × ℕ). IsReady s.0 change)) its ready

    pub room_at : IsSomeAnd c.refreshed (λ (s : Kept × ℕ). 0 < s.0.log.spare)
    room_at =
        subst (λ (r : Option (Kept × ℕ)). IsSomeAnd r (λ (s : Kept × ℕ). 0 < s.0.log.spare)) its
        (let l : 1 ≤ w.kept.log.spare = w.is.room.notes in omega arith)

  pub one_done : (stamp : ℕ) (t : State)
      → IsCopyChanged s place (IsBroughtChanged (λ before after.
      IsChanged before change (record { moment = stamp; step = one.step }) after × IsLeft before change after)) t
      → IsCopyChanged s place (IsBroughtChanged (IsDone one stamp)) t
  one_done stamp t x =
      let b = x.changed in
      let same : b.before ≡ w.kept =
      ap (λ (r : Kept × ℕ). r.0)
      (some_inside (sym b.was ∙ ap (λ (c : CopyKept). c.refreshed) (copy_inside (sym x.was ∙ w.there)) ∙ w.refreshed)) in
      let changed : IsChanged b.before change (record { moment = stamp; step = one.step }) b.now = b.changed.0 in
      let left : IsLeft b.before change b.now = b.changed.1 in
      let room : length (room_of change) ≡ length (ready_room one.ready) =
      ap length (room_is w.kept.nodes.nodes (step_view one.step) (ready_room one.ready) change making) in
      let posted : b.before.postings.spare ≤ b.now.postings.spare + length (room_of change) = left.room.posted in
      record {
        before = x.before;
        after = x.after;
        was = x.was;
        changed = record {
          stamp = b.stamp;
          before = b.before;
          now = b.now;
          was = b.was;
          changed = record {
            entries = made w.kept due.linked (key_of w.copy.prefix) (step_view one.step) (ready_room one.ready) change making
                w.is.doable b.now (subst (λ (k : Kept). IsMade k change b.now) same changed.made)
                ∙ ap (λ (k : Kept). replayed (step_view one.step) (entries_of k.nodes.nodes)) (sym same);
            noted = changed.noted;
            prefix = changed.prefix;
            subordinate = changed.subordinate;
            nssrs = changed.nssrs;
            nodes_left = left.room.nodes;
            values_left = omega arith;
            notes_left = left.notes;
          };
          after_is = b.after_is;
        };
        new_is = x.new_is;
      }

-- ---- one after another

pub record Going (first : State) (place stamp : ℕ) (all : List Prepared) (now : State) (rest : List Prepared) : Type 0 where
  pub copy : CopyKept
  pub old : Kept
  pub last : ℕ
  pub was : slice_get first.copies place ≡ Some copy
  pub brought : copy.refreshed ≡ Some (old, last)
  pub kept : Kept
  pub now_is : now ≡ record first { copies = slice_set first.copies place (record copy { refreshed = Some (kept, last) }) }
  pub can : CanGoOn rest copy kept
  pub entries : replay (steps_view (steps_in rest)) (entries_of kept.nodes.nodes)
      ≡ replay (steps_view (steps_in all)) (entries_of old.nodes.nodes)
  pub noted : (end : Log) → AreNoted stamp kept.log (steps_in rest) end → AreNoted stamp old.log (steps_in all) end
  pub prefix : kept.prefix ≡ old.prefix
  pub subordinate : kept.subordinate ≡ old.subordinate
  pub nssrs : kept.nssrs ≡ old.nssrs

pub begun : (first : State) (place stamp : ℕ) (all : List Prepared) → CopyStands first place (CanGoOn all)
    → Going first place stamp all first all
begun first place stamp all w = record {
  copy = w.copy;
  old = w.kept;
  last = w.stamp;
  was = w.there;
  brought = w.refreshed;
  kept = w.kept;
  now_is = ap (λ (cs : List CopyKept). record first { copies = cs })
      (sym (set_same first.copies place w.copy w.there)
      ∙ ap (λ (r : Option (Kept × ℕ)). slice_set first.copies place (record w.copy { refreshed = r })) w.refreshed);
  can = w.is;
  entries = refl;
  noted = λ end n. n;
  prefix = refl;
  subordinate = refl;
  nssrs = refl;
}

module _ (first : State) (place stamp : ℕ) (all : List Prepared) (now : State) (p : Prepared) (rest : List Prepared)
    (g : Going first place stamp all now (p ∷ rest)) where
  abbrev copy_now : CopyKept
  copy_now = record g.copy { refreshed = Some (g.kept, g.last) }

  got_now : slice_get now.copies place ≡ Some copy_now
  got_now = ap (λ (x : State). slice_get x.copies place) g.now_is ∙ got_set first.copies place g.copy copy_now g.was

  nodes_more : length rest + 1 ≤ g.kept.nodes.spare
  nodes_more = let l : length (p ∷ rest) ≤ g.kept.nodes.spare = g.can.room.nodes in omega arith

  notes_more : length rest + 1 ≤ g.kept.log.spare
  notes_more = let l : length (p ∷ rest) ≤ g.kept.log.spare = g.can.room.notes in omega arith

  values_more : length (ready_room p.ready) + values_in rest ≤ g.kept.postings.spare
  values_more = g.can.room.posted

  pub next_stands : CopyStands now place (CanGo p)
  next_stands = record {
    copy = copy_now;
    kept = g.kept;
    stamp = g.last;
    there = got_now;
    refreshed = refl;
    is = record {
      doable = g.can.doable.0;
      prepared = g.can.prepared.0;
      room = record {
        nodes = (let l : length rest + 1 ≤ g.kept.nodes.spare = nodes_more in omega arith);
        posted = (let l : length (ready_room p.ready) + values_in rest ≤ g.kept.postings.spare = values_more in omega arith);
        notes = (let l : length rest + 1 ≤ g.kept.log.spare = notes_more in omega arith);
      };
    };
  }

  pub next_going : (next : State) → IsCopyChanged now place (IsBroughtChanged (IsDone p stamp)) next
      → Going first place stamp all next rest
  next_going next x =
      let b = x.changed in
      let before : x.before ≡ copy_now = copy_inside (sym x.was ∙ got_now) in
      let pair = some_inside {A = Kept × ℕ} (sym b.was ∙ ap (λ (c : CopyKept). c.refreshed) before) in
      let same : b.before ≡ g.kept = ap (λ (r : Kept × ℕ). r.0) pair in
      let stamp_is : b.stamp ≡ g.last = ap (λ (r : Kept × ℕ). r.1) pair in
      let done : IsDone p stamp g.kept b.now = subst (λ (k : Kept). IsDone p stamp k b.now) same b.changed in
      let after : x.after ≡ record g.copy { refreshed = Some (b.now, g.last) } =
      b.after_is ∙ (λ i. record (before i) { refreshed = Some (b.now, stamp_is i) }) in
      let n : length rest + 1 ≤ g.kept.nodes.spare = nodes_more in
      let m : length rest + 1 ≤ g.kept.log.spare = notes_more in
      let v : length (ready_room p.ready) + values_in rest ≤ g.kept.postings.spare = values_more in
      let nl : g.kept.nodes.spare ≤ b.now.nodes.spare + 1 = done.nodes_left in
      let ml : g.kept.log.spare ≤ b.now.log.spare + 1 = done.notes_left in
      let vl : g.kept.postings.spare ≤ b.now.postings.spare + length (ready_room p.ready) = done.values_left in
      record {
        copy = g.copy;
        old = g.old;
        last = g.last;
        was = g.was;
        brought = g.brought;
        kept = b.now;
        now_is = x.new_is ∙ ap (λ (s : State). record s { copies = slice_set s.copies place x.after }) g.now_is
            ∙ ap (λ (cs : List CopyKept). record first { copies = cs })
            (set_twice first.copies place copy_now x.after ∙ ap (slice_set first.copies place) after);
        can = record {
          doable = subst (λ (es : List Named). CanReplay (key_of g.copy.prefix) es (steps_view (steps_in rest)))
              (sym done.entries) g.can.doable.1;
          prepared = g.can.prepared.1;
          room = record { nodes = omega arith; posted = omega arith; notes = omega arith };
        };
        entries = ap (replay (steps_view (steps_in rest))) done.entries ∙ g.entries;
        noted = λ end k. g.noted end (b.now.log, done.noted, k);
        prefix = done.prefix ∙ g.prefix;
        subordinate = done.subordinate ∙ g.subordinate;
        nssrs = done.nssrs ∙ g.nssrs;
      }

pub all_done : (first : State) (place stamp : ℕ) (all : List Prepared) (now : State) → Going first place stamp all now []
    → IsCopyChanged first place (IsBroughtChanged (AreDone (steps_in all) stamp)) now
all_done first place stamp all now g = record {
  before = g.copy;
  after = record g.copy { refreshed = Some (g.kept, g.last) };
  was = g.was;
  changed = record {
    stamp = g.last;
    before = g.old;
    now = g.kept;
    was = g.brought;
    changed = record {
      entries = g.entries;
      noted = g.noted g.kept.log (refl, refl);
      prefix = g.prefix;
      subordinate = g.subordinate;
      nssrs = g.nssrs;
    };
    after_is = refl;
  };
  new_is = g.now_is;
}
