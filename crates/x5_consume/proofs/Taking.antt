-- The copy of the context changes, and nothing else of what is held; after want of memory nothing does.
use Rattle.std.proofs.Common.{◌≡◌, ℕ, true, List, [], ◌∷◌, ◌++◌, length, map, refl, sym, ap, subst, ◌∙◌, Option, Some, None, Result, Ok, Err}
use Rattle.std.proofs.lemmas.List.{length-map}
use Rattle.std.specs.Prelude.{IsTrue, OnErr, OnOk, slice_get, slice_set}
use Rattle.std.specs.Option.{is_some, option_map}
use Rattle.x5_model.specs.Keys.{Key}
use Rattle.x5_model.specs.Values.{key_of}
use Rattle.x5_model.specs.Entries.{Named}
use Rattle.x5_model_run.specs.Holdings.{Copy}
use Rattle.x5_model_refreshed.specs.Steps.{replay}
use Rattle.x5_ops.specs.declared.knowledge.Content.{Content}
use Rattle.x5_ops.specs.declared.knowledge.Nssr.{Nssr}
use Rattle.x5_ops.specs.declared.knowledge.Specific.{Specific}
use Rattle.x5_ops.specs.declared.knowledge.Step.{Step}
use Rattle.x5_ops.specs.KnowledgeViews.{nssr_view, specific_view}
use Rattle.x5_dse.specs.Linked.{entries_of}
use Rattle.x5_holdings.specs.declared.log.Logged.{Logged}
use Rattle.x5_holdings.specs.Logs.{IsLogged, Log, base_after, latest}
use Rattle.x5_holdings.specs.Making.{IsSame}
use Rattle.x5_holdings.specs.Making.{HasRoomFor}
use Rattle.x5_holdings.specs.Placed.{IsBroughtChanged, IsCopyChanged, IsRenewed}
use Rattle.x5_holdings.specs.State.{CopyKept, Kept, State, brought_entries, copy_view, holdings_view, stamp_of}
use Rattle.x5_consume.specs.declared.ready.Prepared.{Prepared}
use Rattle.x5_consume.specs.Ready.{ArePrepared, CanGoOn, CopyStands, steps_in, values_in}
use Rattle.x5_model_refreshed.specs.Doable.{CanReplay}
use Rattle.x5_consume.specs.Steps.{steps_view}
use Rattle.x5_consume.specs.Taken.{AreDone, AreNoted, CanTake, IsAdvanced, IsContent, IsReplaced, IsTaken}
use Rattle.x5_consume.proofs.Placing.{At, copy_inside, got_set, set_mapped, set_twice, some_inside}

pub on_err : {T E : Type 0} {P : Type 0} (r : Result T E) → P → OnErr r P
on_err (Ok x) p = tt
on_err (Err e) p = p

copy_view_inside : {a b : Copy} → Some a ≡ Some b → a ≡ b
copy_view_inside e = cc

pub got_changed : (s t : State) (place : ℕ) (how : CopyKept → CopyKept → Type 0) (x : IsCopyChanged s place how t)
    → slice_get t.copies place ≡ Some x.after
got_changed s t place how x =
    ap (λ (z : State). slice_get z.copies place) x.new_is ∙ got_set s.copies place x.before x.after x.was

-- ---- a total refresh

pub on_ok : {T E : Type 0} {P Q : Type 0} (r : Result T E) → (P → Q) → OnOk r P → OnOk r Q
on_ok (Ok x) f p = f p
on_ok (Err e) f p = tt

-- what changed is the copy of the context, since that stands at the place
pub taken : (s t : State) (pin : Key) (place : ℕ) (at : At s pin place) (content : Content) (stamp : ℕ)
    → IsCopyChanged s place (IsReplaced content stamp) t → IsTaken s pin (IsReplaced content stamp) t
taken s t pin place at content stamp x = record {
  place = place;
  copied = x;
  at = ap (λ (c : CopyKept). key_of c.prefix) (copy_inside (sym x.was ∙ at.got)) ∙ at.key;
}

-- all of it is put there
pub replaced : (s t : State) (place : ℕ) (content : Content) (stamp : ℕ) (held : Kept) → IsContent content stamp held
    → IsCopyChanged s place (λ before after. after ≡ record before { refreshed = Some (held, stamp) }) t
    → IsCopyChanged s place (IsReplaced content stamp) t
replaced s t place content stamp held is x = record {
  before = x.before;
  after = x.after;
  was = x.was;
  changed = record { kept = held; content_is = is; after_is = x.changed };
  new_is = x.new_is;
}

-- its entries are there already
pub renewed : (s t : State) (place : ℕ) (content : Content) (stamp : ℕ) (log : Log) (specific : List Specific) (nssrs : List Nssr)
    → CopyStands s place (λ copy kept. entries_of kept.nodes.nodes ≡ content.entries) → specific ≡ content.specific
    → nssrs ≡ content.nssr → log.base ≡ stamp → log.changes ≡ [] → IsCopyChanged s place (IsRenewed log specific nssrs stamp) t
    → IsCopyChanged s place (IsReplaced content stamp) t
renewed s t place content stamp log specific nssrs w sub wide base changes x =
    let r = x.changed in
    let copy : x.before ≡ w.copy = copy_inside (sym x.was ∙ w.there) in
    let kept : r.before ≡ w.kept =
    ap (λ (p : Kept × ℕ). p.0) (some_inside (sym r.was ∙ ap (λ (c : CopyKept). c.refreshed) copy ∙ w.refreshed)) in
    record {
      before = x.before;
      after = x.after;
      was = x.was;
      changed = record {
        kept = record r.before { log = log; subordinate = specific; nssrs = nssrs };
        content_is = record {
          entries = ap (λ (k : Kept). entries_of k.nodes.nodes) kept ∙ w.is;
          subordinate = sub;
          nssrs = wide;
          base = base;
          changes = changes;
        };
        after_is = r.after_is;
      };
      new_is = x.new_is;
    }

-- ---- an incremental refresh

-- the definitions' copy is the one at the place
module _ (s : State) (pin : Key) (place : ℕ) (at : At s pin place) (given : List Step) (can : CanTake (holdings_view s) pin given) where
  same_view : copy_view at.copy ≡ can.copy
  same_view = copy_view_inside (sym at.found ∙ can.there)

  has_stamp : is_some (stamp_of at.copy.refreshed) ≡ true
  has_stamp = ap (λ (c : Copy). is_some c.stamp) same_view ∙ can.refreshed

  refreshed_by : (o : Option (Kept × ℕ)) → is_some (stamp_of o) ≡ true → is_some o ≡ true
  refreshed_by None e = e
  refreshed_by (Some r) e = refl

  pub is_refreshed : (c : CopyKept) → slice_get s.copies place ≡ Some c → IsTrue (is_some c.refreshed)
  is_refreshed c e =
      subst (λ (x : CopyKept). IsTrue (is_some x.refreshed)) (copy_inside (sym at.got ∙ e))
      (refreshed_by at.copy.refreshed has_stamp)

  module _ (t : State) (all : List Prepared) (told : steps_in all ≡ given) (prepared : ArePrepared all) (count values : ℕ)
      (given_are : count ≡ length given) (values_are : values ≡ values_in all)
      (room : IsCopyChanged s place (IsBroughtChanged (λ before after. IsSame before after × HasRoomFor after count values count)) t) where
    abbrev kept : Kept
    kept = room.changed.now

    entries_are : count ≡ length all
    entries_are = given_are ∙ ap length (sym told) ∙ length-map all (λ (p : Prepared). p.step)

    before_is : room.before ≡ at.copy
    before_is = copy_inside (sym room.was ∙ at.got)

    was : at.copy.refreshed ≡ Some (room.changed.before, room.changed.stamp)
    was = ap (λ (c : CopyKept). c.refreshed) (sym before_is) ∙ room.changed.was

    after_is : room.after ≡ record at.copy { refreshed = Some (kept, room.changed.stamp) }
    after_is = room.changed.after_is ∙ ap (λ (c : CopyKept). record c { refreshed = Some (kept, room.changed.stamp) }) before_is

    got_after : slice_get t.copies place ≡ Some room.after
    got_after = ap (λ (x : State). slice_get x.copies place) room.new_is ∙ got_set s.copies place room.before room.after room.was

    -- the entries that the definitions see
    seen : can.copy.held.entries ≡ entries_of kept.nodes.nodes
    seen =
        ap (λ (c : Copy). c.held.entries) (sym same_view) ∙ ap brought_entries was
        ∙ ap (λ ns. entries_of ns) (sym room.changed.changed.0.nodes)

    doable : CanReplay pin (entries_of kept.nodes.nodes) (steps_view (steps_in all))
    doable =
        subst (λ (es : List Named). CanReplay pin es (steps_view (steps_in all))) seen
        (subst (λ (l : List Step). CanReplay pin can.copy.held.entries (steps_view l)) (sym told) can.doable)

    pub stands : CopyStands t place (CanGoOn all)
    stands = record {
      copy = room.after;
      kept = kept;
      stamp = room.changed.stamp;
      there = got_after;
      refreshed = ap (λ (c : CopyKept). c.refreshed) after_is;
      is = record {
        doable = subst (λ (k : Key). CanReplay k (entries_of kept.nodes.nodes) (steps_view (steps_in all)))
            (sym (ap (λ (c : CopyKept). key_of c.prefix) after_is ∙ at.key)) doable;
        prepared = prepared;
        room = subst (λ (n : ℕ). HasRoomFor kept n (values_in all) n) entries_are
            (subst (λ (n : ℕ). HasRoomFor kept count n count) values_are room.changed.changed.1);
      };
    }

    -- room aside a log is the same
    first_noted : (a b : Log) (stamp : ℕ) (more : List Step) (end : Log) → b.base ≡ a.base → b.changes ≡ a.changes
        → AreNoted stamp b more end → AreNoted stamp a more end
    first_noted a b stamp [] end e f n = (n.0 ∙ e, n.1 ∙ f)
    first_noted a b stamp (x ∷ more) end e f n = (n.0, first_logged (record { moment = stamp; step = x }) n.0 n.1, n.2)
      where
        first_logged : (y : Logged) (after : Log) → IsLogged b y after → IsLogged a y after
        first_logged y after l = record {
          base = l.base ∙ (λ i. base_after (record { base = e i; changes = f i; spare = 0 }));
          changes = l.changes ∙ (λ i. latest (f i) ++ y ∷ []);
        }

    pub advanced : (u v : State) (stamp : ℕ)
        → IsCopyChanged t place (IsBroughtChanged (AreDone (steps_in all) stamp)) u
        → IsCopyChanged u place (λ before after. after ≡ record before { refreshed = option_map (λ (r : Kept × ℕ). (r.0, stamp)) before.refreshed }) v
        → IsTaken s pin (IsAdvanced given stamp) v
    advanced u v stamp x y =
        let b = x.changed in
        let old = room.changed.before in
        let before : x.before ≡ room.after = copy_inside (sym x.was ∙ got_after) in
        let refreshed : x.before.refreshed ≡ Some (kept, room.changed.stamp) =
        ap (λ (c : CopyKept). c.refreshed) (before ∙ after_is) in
        let same : b.before ≡ kept = ap (λ (r : Kept × ℕ). r.0) (some_inside (sym b.was ∙ refreshed)) in
        let done : AreDone (steps_in all) stamp kept b.now = subst (λ (k : Kept). AreDone (steps_in all) stamp k b.now) same b.changed in
        let room_same : IsSame old kept = room.changed.changed.0 in
        let got_u : slice_get u.copies place ≡ Some x.after =
        ap (λ (z : State). slice_get z.copies place) x.new_is ∙ got_set t.copies place x.before x.after x.was in
        let last_before : y.before ≡ x.after = copy_inside (sym y.was ∙ got_u) in
        let x_after : x.after ≡ record at.copy { refreshed = Some (b.now, b.stamp) } =
        b.after_is ∙ (λ i. record ((before ∙ after_is) i) { refreshed = Some (b.now, b.stamp) }) in
        let y_after : y.after ≡ record at.copy { refreshed = Some (b.now, stamp) } =
        y.changed
        ∙ (λ i. record ((last_before ∙ x_after) i) {
          refreshed = option_map (λ (r : Kept × ℕ). (r.0, stamp)) ((last_before ∙ x_after) i).refreshed;
        }) in
        record {
          place = place;
          copied = record {
            before = at.copy;
            after = y.after;
            was = at.got;
            changed = record {
              old = old;
              last = room.changed.stamp;
              was = was;
              kept = b.now;
              done = record {
                entries = done.entries
                    ∙ (λ i. replay (steps_view (told i)) (entries_of (room_same.nodes i)));
                noted = subst (λ (l : List Step). AreNoted stamp old.log l b.now.log) told
                    (first_noted old.log kept.log stamp (steps_in all) b.now.log room_same.base room_same.changes done.noted);
                prefix = done.prefix ∙ room_same.prefix;
                subordinate = done.subordinate ∙ room_same.subordinate;
                nssrs = done.nssrs ∙ room_same.nssrs;
              };
              after_is = y_after;
            };
            new_is = y.new_is
                ∙ ap (λ (z : State). record z { copies = slice_set z.copies place y.after })
                (x.new_is ∙ ap (λ (z : State). record z { copies = slice_set z.copies place x.after }) room.new_is)
                ∙ ap (λ (cs : List CopyKept). record s { copies = cs })
                (ap (λ (cs : List CopyKept). slice_set cs place y.after) (set_twice s.copies place room.after x.after)
                ∙ set_twice s.copies place x.after y.after);
          };
          at = at.key;
        }

-- room alone is nothing that the definitions see
pub room_alone : (s t : State) (place : ℕ) → IsCopyChanged s place (IsBroughtChanged IsSame) t → holdings_view t ≡ holdings_view s
room_alone s t place x =
    ap holdings_view x.new_is
    ∙ ap (λ (cs : List Copy). record (holdings_view s) { copies = cs })
    (set_mapped copy_view s.copies place x.before x.after x.was
    (ap copy_view x.changed.after_is
    ∙ (λ i. record {
      held = record {
        prefix = x.before.prefix;
        entries = entries_of (x.changed.changed.nodes i);
        subordinate = map specific_view (x.changed.changed.subordinate i);
        nssrs = map nssr_view (x.changed.changed.nssrs i);
      };
      stamp = Some x.changed.stamp;
      supplier = x.before.supplier;
    })
    ∙ (λ i. copy_view (record x.before { refreshed = sym x.changed.was i }))))
