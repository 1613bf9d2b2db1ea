-- What arrives of a refresh's messages is what was sent, and it's taken as if that were: the contexts to which
-- references belong, which aren't sent, are no part of what agents hold.
use Rattle.std.proofs.Common.{◌≡◌, ℕ, ◌+◌, ◌≤◌, ◌<◌, ◌==◌, ◌||◌, ◌&&◌, inl, inr, Bool, true, false, if◌then◌else◌, List, [], ◌∷◌, length, map, slice_get, slice_set, refl, sym, ap, subst, ◌∙◌, arith, Option, Some, None, Ok}
use Rattle.std.specs.List.{find}
use Rattle.std.specs.Option.{is_some, option_map}
use Rattle.std.proofs.lemmas.List.{map-set}
use Rattle.x5_know.specs.Moments.{Start as WorldStart}
use Rattle.x5_model.specs.Entries.{Named}
use Rattle.x5_model.specs.Keys.{Key}
use Rattle.x5_model.specs.Values.{Text, key_of}
use Rattle.x5_model.proofs.Decide.{nat_same_decides}
use Rattle.x5_model.proofs.Lists.{true_or_false}
use Rattle.x5_model_tree.specs.World.{Agreement, Nssr, Specific, names_of_agents}
use Rattle.x5_model_run.specs.Holdings.{Copy, Holdings}
use Rattle.x5_model_run.specs.History.{Point, as_of, copy_as_of, moment_of}
use Rattle.x5_model_run.specs.Network.{Fate, is_unheard}
use Rattle.x5_model_run.specs.Refresh.{RefreshOutcome, Done, Unheard, Problem, Missed, NotConsistent, missed_previous}
use Rattle.x5_model_refreshed.specs.Doable.{AreWhole}
use Rattle.x5_model_refreshed.specs.Logs.{log_at, steps_later}
use Rattle.x5_model_refreshed.specs.Steps.{Step}
use Rattle.x5_model_known.specs.Counted.{nssrs_counted, references_counted}
use Rattle.x5_model_known.specs.Holding.{nssrs_name, references_name}
use Rattle.x5_model_fitting.specs.Names.{Each}
use Rattle.x5_model_fitting.specs.Replies.{ProblemWithin}
use Rattle.x5_model_fitting.specs.Requests.{CountWithin}
use Rattle.x5_model_limits.specs.Holding.{BoundedEntry, BoundedSpecific}
use Rattle.x5_model_messages.specs.Shadows as shadows
use Rattle.x5_model_shadowed.specs.Agents.{AreAgents}
use Rattle.x5_model_shadowed.specs.Sending.{carried_step}
use Rattle.x5_model_shadowed.specs.Within.{RefreshWithin}
use Rattle.x5_model_shadowing.specs.Lines.{IsBoundedLine, MessagesWithin}
use Rattle.x5_model_shadowing.specs.Messages.{carried_known, carried_other}
use Rattle.x5_model_shadowing.proofs.Around.{world_is_around}
use Rattle.x5_model_shadowing.proofs.Sent.{refreshes_within}
use Rattle.x5_ops.specs.KnowledgeViews.{nssr_view, specific_view}
use Rattle.x5_ops.specs.RefreshViews.{problem_view}
use Rattle.x5_ops.specs.declared.journal.Refreshed.TheVariants as became
use Rattle.x5_ops.specs.declared.knowledge.Content.{Content}
use Rattle.x5_ops.specs.declared.knowledge.Nssr.{Nssr as CodeNssr}
use Rattle.x5_ops.specs.declared.knowledge.Specific.{Specific as CodeSpecific}
use Rattle.x5_ops.specs.declared.knowledge.Step.{Step as CodeStep}
use Rattle.x5_ops.specs.declared.knowledge.Step.TheVariants as steps
use Rattle.x5_dispber.specs.ShadowViews.{told_known, told_other, told_step}
use Rattle.x5_holdings.specs.State.{CopyKept, Kept, State, copy_view, holdings_view}
use Rattle.x5_types.specs.FormView.{world}
use Rattle.x5_consume.specs.Steps.{step_view, steps_view}
use Rattle.x5_consume.specs.Taken.{IsReplaced, IsTaken}
use Rattle.x5_refresh.specs.Course.{answered, missing, stopped, unsent}
use Rattle.x5_refresh.specs.Joined.{is_of_supplier}
use Rattle.x5_refresh.specs.Outcomes.{start_view}
use Rattle.x5_refresh.specs.Sent.{CanAccept, IsRefreshed, count_in, supply_of}
use Rattle.x5_refresh.specs.declared.brought.Brought.{Brought}
use Rattle.x5_refresh.specs.declared.brought.Brought.TheVariants.{Total, Steps}
use Rattle.x5_refresh.specs.declared.course.Start.{Start}
use Rattle.x5_refresh.specs.declared.course.Start.TheVariants.{Ended, GoesOn}
use Rattle.x5_shadow_wire.specs.Carried.{AreSame, IsSame, bringing}
use Rattle.x5_world.specs.Shadows.{IsArrived, IsProblem, IsSendable, heard_by}
use Rattle.x5_world.specs.LogViews.{copy_notes, logs_view}
use Rattle.x5_world.specs.Logs.{Notes}
use Rattle.x5_world.specs.Refreshes.{IsSound}
use Rattle.x5_world.specs.Refreshing.{CanBring, IsBounded, IsBoundedIn, IsBroughtAt, IsLeft, IsSupplied, IsTakenAt, IsWay, acknowledging, count_of, first_fate, is_known_in, last_of, problem_in, stamp_in}
use Rattle.x5_model_refreshed.specs.Replaying.{IsLed}
use Rattle.x5_world.specs.State.{Net, StandsAt, holdings_in}
use Rattle.x5_world.specs.declared.shadows.Arrived.{Arrived}
use Rattle.x5_world.specs.declared.refreshing.Supplied.{Supplied}
use Rattle.x5_world.specs.declared.refreshing.Supplied.TheVariants.{Sent, Refused}
use Rattle.x5_world.specs.declared.refreshing.Way.{Way}
use Rattle.x5_world.proofs.Acceptable.{goes_on_from, no_steps, no_total, steps_since, whole_sent}
use Rattle.x5_world.proofs.Concluding.{by_number, holds, led, logs, mine, moment, own_so}
use Rattle.x5_world.proofs.Copied.{content_so}
use Rattle.x5_world.proofs.Courses.{known_so, led_at, some_is}

-- ---- by which agreement

pub agreed_there : (n : Net) (by : Way) → IsSound n → IsWay n by
    → find (λ (a : Agreement). a.number == by.agreement.number) n.agreements ≡ Some by.agreement
agreed_there n by sound way =
    ap (find (λ (a : Agreement). a.number == by.agreement.number)) (sym (known_so n sound.point sound.stands))
    ∙ by_number n sound.point by sound.stands sound.consistent way

-- what was told of a way is that way
pub heard_same : (by : Way)
    → heard_by by by.agreement (record { agreement = by.agreement.number; last = last_of by; total = by.total }) ≡ by
heard_same by = split by.push
  where
    split : (b : Bool)
        → (if b then record by { agreement = by.agreement; total = by.total; acked = (if b then by.acked else by.own) }
        else record by { agreement = by.agreement; total = by.total; own = (if b then by.acked else by.own) }) ≡ by
    split true = refl
    split false = refl

-- ---- a problem of a refresh is one of the format's

abbrev number_of : RefreshOutcome → ℕ
number_of (Problem k) = k
number_of (Missed own acked) = missed_previous
number_of Unheard = 1
number_of (Done f) = 1
number_of NotConsistent = 1

number_viewed : (k : ℕ) (held given : Option ℕ) → number_of (problem_view k held given) ≡ k
number_viewed k held given = by (k == missed_previous) refl
  where
    by : (b : Bool) → (k == missed_previous) ≡ b → number_of (if b then Missed held given else Problem k) ≡ k
    by true e = sym ((nat_same_decides k missed_previous).0 e)
    by false e = refl

abbrev IsFine : RefreshOutcome → Type 0
IsFine o = ProblemWithin 11 (number_of o)

fine_is : (x y : RefreshOutcome) → Some x ≡ Some y → IsFine x → IsFine y
fine_is x y e h = subst IsFine (some_is e) h

pub none_some : {A : Type 0} {x : A} → None ≡ Some x → ⊥
none_some e = cc

either_of : (k : ℕ) → ((k == 2) || (k == 6)) ≡ true → ProblemWithin 11 k
either_of k e = by (k == 2) refl (k == 6) refl e
  where
    by : (a : Bool) → (k == 2) ≡ a → (b : Bool) → (k == 6) ≡ b → (a || b) ≡ true → ProblemWithin 11 k
    by true p b q h = (let x = (nat_same_decides k 2).0 p in (omega (arith, x), omega (arith, x)))
    by false p true q h = (let x = (nat_same_decides k 6).0 q in (omega (arith, x), omega (arith, x)))
    by false p false q h = absurd (cc h)

problem_fine : (problem : Option ℕ) (o : RefreshOutcome) → is_of_supplier problem ≡ true → option_map Problem problem ≡ Some o
    → IsFine o
problem_fine None o h e = absurd (none_some e)
problem_fine (Some k) o h e = fine_is (Problem k) o e (either_of k h)

stopped_fine : (push total : Bool) (problem own acked : Option ℕ) (first : Fate) (o : RefreshOutcome)
    → is_of_supplier problem ≡ true → stopped push total problem own acked first ≡ Some o → IsFine o
stopped_fine push total problem own acked first o h e = by (is_unheard first) push e
  where
    misses : (b : Bool) → (if b then Some (Missed own acked) else None) ≡ Some o → IsFine o
    misses true q = fine_is (Missed own acked) o q (omega arith, omega arith)
    misses false q = absurd (none_some q)

    by : (b push : Bool) → (if b then Some Unheard else answered push total problem own acked) ≡ Some o → IsFine o
    by true push q = fine_is Unheard o q (omega arith, omega arith)
    by false true q = misses _ q
    by false false q = problem_fine problem o h q

pub start_fine : (start : Start) (push total : Bool) (problem own acked : Option ℕ) (first : Fate)
    → is_of_supplier problem ≡ true
    → ((heard : Bool) (number : ℕ) → start_view heard number start ≡ stopped push total problem own acked first)
    → IsProblem start
start_fine GoesOn push total problem own acked first h e = tt
start_fine (Ended (became.Total m k)) push total problem own acked first h e = tt
start_fine (Ended (became.Incremental m k)) push total problem own acked first h e = tt
start_fine (Ended (became.Nothing m)) push total problem own acked first h e = tt
start_fine (Ended became.Lost) push total problem own acked first h e = tt
start_fine (Ended (became.Failed k held given)) push total problem own acked first h e =
    subst (ProblemWithin 11) (number_viewed k held given)
    (stopped_fine push total problem own acked first (problem_view k held given) h (sym (e false 0)))

-- ---- what arrives can be taken

accept_same : (h : Holdings) (pin : Key) (a b : Brought) → IsSame a b → CanAccept h pin b → CanAccept h pin a
accept_same h pin (Total a) (Total b) same c = (c.0, subst (AreWhole pin) (sym same.entries) c.1)
accept_same h pin (Total a) (Steps b) same c = absurd same
accept_same h pin (Steps a) (Total b) same c = absurd same
accept_same h pin (Steps a) (Steps b) same c = subst (λ (xs : List CodeStep). CanAccept h pin (Steps xs)) (sym same) c

known_same : (k : ℕ) (a b : Brought) → IsSame a b → is_known_in k b ≡ true → is_known_in k a ≡ true
known_same k (Total a) (Total b) same c =
    (λ i. (references_name k (same.references i) && nssrs_name k (same.nssrs i))
    && (references_counted (same.references i) && nssrs_counted (same.nssrs i))) ∙ c
known_same k (Total a) (Steps b) same c = absurd same
known_same k (Steps a) (Total b) same c = absurd same
known_same k (Steps a) (Steps b) same c = refl

bounded_same : (a b : Brought) → IsSame a b → IsBoundedIn b → IsBoundedIn a
bounded_same (Total a) (Total b) same c = record {
  entries = subst (λ (es : List Named). Each BoundedEntry es) (sym same.entries) c.entries;
  references = subst (λ (ks : List Specific). Each BoundedSpecific ks) (sym same.references) c.references;
}
bounded_same (Total a) (Steps b) same c = absurd same
bounded_same (Steps a) (Total b) same c = absurd same
bounded_same (Steps a) (Steps b) same c = subst (λ (xs : List CodeStep). IsBoundedIn (Steps xs)) (sym same) c

brings_same : (n : Net) (g : Agreement) (stamp : ℕ) (a b : Brought) → IsSame a b → CanBring n g (Sent stamp b)
    → CanBring n g (Sent stamp a)
brings_same n g stamp a b same c = (
  accept_same (holdings_in n g.consumer) (key_of g.context) a b same c.0,
  known_same (length n.names) a b same c.1,
  c.2,
  bounded_same a b same c.3,
)

pub bring_arrived : (n : Net) (g : Agreement) (sent : Supplied) (read : Arrived) → IsArrived g sent read → CanBring n g sent
    → CanBring n read.agreement (Sent read.stamp read.brought)
bring_arrived n g sent read is c =
    subst (λ (h : Agreement). CanBring n h (Sent read.stamp read.brought)) (sym is.agreement)
    (subst (λ (m : ℕ). CanBring n g (Sent m read.brought)) (sym is.stamped)
    (brings_same n g is.stamp read.brought is.brought is.same (subst (CanBring n g) is.sent_is c)))

-- ---- as many are taken

counts_same : (a b : Brought) → IsSame a b → count_in a ≡ count_in b
counts_same (Total a) (Total b) same = ap length same.entries
counts_same (Total a) (Steps b) same = absurd same
counts_same (Steps a) (Total b) same = absurd same
counts_same (Steps a) (Steps b) same = ap length same

pub stamp_arrived : (g : Agreement) (sent : Supplied) (read : Arrived) → IsArrived g sent read → read.stamp ≡ stamp_in sent
stamp_arrived g sent read is = is.stamped ∙ ap stamp_in (sym is.sent_is)

pub count_arrived : (g : Agreement) (sent : Supplied) (read : Arrived) → IsArrived g sent read
    → count_in read.brought ≡ count_of sent
count_arrived g sent read is = counts_same read.brought is.brought is.same ∙ ap count_of (sym is.sent_is)

-- ---- what the consumer holds then

module _ (a b : Content) (m : ℕ) (same : AreSame a b) (before : State) (pin : Key) (after : State)
    (t : IsTaken before pin (IsReplaced a m) after) where
  abbrev was : CopyKept
  was = t.copied.before

  abbrev r : IsReplaced a m was t.copied.after
  r = t.copied.changed

  -- with the references as they were sent
  abbrev kept : Kept
  kept = record (r.kept) { subordinate = b.specific; nssrs = b.nssr }

  abbrev copy : CopyKept
  copy = record was { refreshed = Some (kept, m) }

  abbrev state_with : State
  state_with = record before { copies = slice_set before.copies t.place copy }

  -- as it was taken
  abbrev seen : Copy
  seen = copy_view (record was { refreshed = Some (r.kept, m) })

  copy_seen : copy_view copy ≡ copy_view t.copied.after
  copy_seen =
      (λ i. record seen {
        held = record (seen.held) {
          subordinate = (sym same.references ∙ ap (map specific_view) (sym r.content_is.subordinate)) i;
          nssrs = (sym same.nssrs ∙ ap (map nssr_view) (sym r.content_is.nssrs)) i;
        };
      })
      ∙ ap copy_view (sym r.after_is)

  notes_seen : copy_notes copy ≡ copy_notes t.copied.after
  notes_seen = ap copy_notes (sym r.after_is)

  pub holds_same : holdings_view after ≡ holdings_view state_with
  holds_same =
      ap holdings_view t.copied.new_is
      ∙ ap (λ (cs : List Copy). record (holdings_view before) { copies = cs })
      (map-set copy_view before.copies t.place t.copied.after
      ∙ ap (slice_set (map copy_view before.copies) t.place) (sym copy_seen)
      ∙ sym (map-set copy_view before.copies t.place copy))

  pub keeps_same : logs_view after ≡ logs_view state_with
  keeps_same =
      ap logs_view t.copied.new_is
      ∙ ap (λ (cs : List (Option Notes)). record (logs_view before) { copies = cs })
      (map-set copy_notes before.copies t.place t.copied.after
      ∙ ap (slice_set (map copy_notes before.copies) t.place) (sym notes_seen)
      ∙ sym (map-set copy_notes before.copies t.place copy))

  pub taken_so : IsTaken before pin (IsReplaced b m) state_with
  taken_so = record {
    place = t.place;
    copied = record {
      before = was;
      after = copy;
      was = t.copied.was;
      changed = record {
        kept = kept;
        content_is = record {
          entries = r.content_is.entries ∙ same.entries;
          subordinate = refl;
          nssrs = refl;
          base = r.content_is.base;
          changes = r.content_is.changes;
        };
        after_is = refl;
      };
      new_is = refl;
    };
    at = t.at;
  }

taken_same : (old : Net) (g : Agreement) (m : ℕ) (a b : Brought) (mid : Net) → IsSame a b → IsTakenAt old g m a mid
    → IsTakenAt old g m b mid
taken_same old g m (Total a) (Total b) mid same t =
    let pin : Key = key_of g.context in record {
      before = t.before;
      after = state_with a b m same t.before pin t.after t.taken;
      holds = t.holds;
      logs = t.logs;
      taken = taken_so a b m same t.before pin t.after t.taken;
      new_is = t.new_is ∙ (λ i. record old {
        agents = slice_set old.agents g.consumer (holds_same a b m same t.before pin t.after t.taken i);
        logs = slice_set old.logs g.consumer (keeps_same a b m same t.before pin t.after t.taken i);
      });
    }
taken_same old g m (Total a) (Steps b) mid same t = absurd same
taken_same old g m (Steps a) (Total b) mid same t = absurd same
taken_same old g m (Steps a) (Steps b) mid same t = subst (λ (xs : List CodeStep). IsTakenAt old g m (Steps xs) mid) same t

abbrev brought_in : Brought → Supplied → Brought
brought_in other (Sent stamp brought) = brought
brought_in other (Refused problem) = other

brought_arrived : (old : Net) (g : Agreement) (place : ℕ) (sent : Supplied) (read : Arrived) (heard : Bool) (new : Net)
    → IsArrived g sent read → IsBroughtAt old read.agreement place (Sent read.stamp read.brought) heard new
    → IsBroughtAt old g place sent heard new
brought_arrived old g place sent read heard new is b =
    let stamp : b.stamp ≡ is.stamp = ap stamp_in (sym b.sent_is) ∙ is.stamped in
    let brought : b.brought ≡ read.brought = ap (brought_in read.brought) (sym b.sent_is) in record {
      stamp = is.stamp;
      brought = is.brought;
      sent_is = is.sent_is;
      taken = b.taken;
      taken_is = taken_same old g is.stamp read.brought is.brought b.taken is.same
          (subst (λ (h : Agreement). IsTakenAt old h is.stamp read.brought b.taken) is.agreement
          (subst (λ (k : ℕ). IsTakenAt old read.agreement k read.brought b.taken) stamp
          (subst (λ (x : Brought). IsTakenAt old read.agreement b.stamp x b.taken) brought b.taken_is)));
      new_is = b.new_is ∙ ap (λ (k : ℕ). acknowledging heard place k b.taken) stamp;
    }

pub left_arrived : (old : Net) (g : Agreement) (place : ℕ) (sent : Supplied) (read : Arrived) (o : RefreshOutcome) (new : Net)
    → IsArrived g sent read → IsLeft old read.agreement place (Sent read.stamp read.brought) o new → IsLeft old g place sent o new
left_arrived old g place sent read (Done f) new is l = brought_arrived old g place sent read f.acknowledged new is l
left_arrived old g place sent read Unheard new is l = l
left_arrived old g place sent read (Problem n) new is l = l
left_arrived old g place sent read (Missed own acked) new is l = l
left_arrived old g place sent read NotConsistent new is l = l

-- ---- what is sent is within the limits of messages

map_both : {A B C : Type 0} (f : A → B) (g : B → C) (xs : List A) → map g (map f xs) ≡ map (λ x. g (f x)) xs
map_both f g [] = refl
map_both f g (x ∷ xs) = ap (λ zs. g (f x) ∷ zs) (map_both f g xs)

step_told : (s : CodeStep) → carried_step (step_view s) ≡ told_step s
step_told (steps.Add e) = refl
step_told (steps.Remove name) = refl
step_told (steps.Modify e) = refl
step_told (steps.Rename name e) = refl

steps_told : (given : List CodeStep) → map carried_step (steps_view given) ≡ map told_step given
steps_told [] = refl
steps_told (s ∷ more) = λ i. step_told s i ∷ steps_told more i

abbrev told_total : List Text → Content → shadows.Refresh
told_total names c = bringing names (Total c)

-- nothing is told where nothing changed
steps_fit : (start : WorldStart) (names : List Text) (given : List CodeStep)
    → RefreshWithin (world start names) (shadows.Steps (map carried_step (steps_view given)))
    → RefreshWithin (world start names) (bringing names (Steps given))
steps_fit start names [] h = tt
steps_fit start names (s ∷ more) h =
    subst (λ (xs : List shadows.Step). RefreshWithin (world start names) (shadows.Steps xs)) (steps_told (s ∷ more)) h

pub line_bounded : (n : Net) (p : Point) → StandsAt n p → IsLed p → n.line ≤ 100000 → IsBoundedLine p
line_bounded n p s l few = record {
  led = l;
  texts = s.within.texts;
  references = s.within.references;
  accepted = s.within.accepted;
  counted = (let e = s.line in omega (arith, e, few));
}

pub are_agents : (n : Net) (start : WorldStart) → IsSound n → AreAgents (world start n.names) n.names
are_agents n start sound =
    let s : StandsAt n sound.point = sound.stands in
    subst (λ (names : List Text). AreAgents (world start names) names) (sym s.names)
    (world_is_around start sound.point.described s.described).agents

module _ (start : WorldStart) (n : Net) (by : Way) (sent : Supplied) (sound : IsSound n) (way : IsWay n by) (few : n.line ≤ 100000)
    (supplied : IsSupplied n by.agreement by.total (last_of by) sent) where
  abbrev p : Point
  p = sound.point

  abbrev g : Agreement
  g = by.agreement

  abbrev named : List Text
  named = names_of_agents p.described

  fit : MessagesWithin (world start named) p named g
  fit =
      refreshes_within (world start named) p g (world_is_around start p.described sound.stands.described)
      (line_bounded n p sound.stands (led_at n p sound.stands sound.consistent) few)
      (mine n p by sound.stands sound.consistent way)

  total_fits : (m : ℕ) (content : Content) → CountWithin m
      → supply_of supplied.state (key_of g.context) true (last_of by) ≡ Ok (m, Total content)
      → RefreshWithin (world start named) (bringing named (Total content))
  total_fits m content counted e =
      let s = sound.stands in
      let c = sound.consistent in
      let x = whole_sent p g supplied.state (led n p by s c way) (holds n p by s c way sent supplied)
      (logs n p by s c way sent supplied) (moment n p by s c way sent supplied) (mine n p by s c way) (by_number n p by s c way)
      (last_of by) m content e in
      let is = content_so p g supplied.state (led n p by s c way) (holds n p by s c way sent supplied)
      (logs n p by s c way sent supplied) (moment n p by s c way sent supplied) content m x.content_is x.stamp in
      subst (RefreshWithin (world start named))
      ((λ i. shadows.Total (sym is i).entries (map (carried_known named) (sym is i).subordinate)
      (map (carried_other named) (sym is i).nssrs))
      ∙ (λ i. shadows.Total content.entries (map_both specific_view (carried_known named) content.specific i)
      (map_both nssr_view (carried_other named) content.nssr i)))
      (fit.last true (last_of by) m counted).2

  steps_fits : (m : ℕ) (given : List CodeStep) → CountWithin m → last_of by ≡ as_of p g.number
      → supply_of supplied.state (key_of g.context) false (last_of by) ≡ Ok (m, Steps given)
      → RefreshWithin (world start named) (bringing named (Steps given))
  steps_fits m given counted peer e =
      let s = sound.stands in
      let c = sound.consistent in
      let x = steps_since p g supplied.state (led n p by s c way) (holds n p by s c way sent supplied)
      (logs n p by s c way sent supplied) (moment n p by s c way sent supplied) (mine n p by s c way) (by_number n p by s c way)
      (last_of by) m given peer e in
      steps_fit start named given
      (subst (λ (xs : List Step). RefreshWithin (world start named) (shadows.Steps (map carried_step xs))) x.steps
      (fit.last false (Some x.from) m counted).2)

  brought_fits : (total : Bool) (m : ℕ) (b : Brought) → CountWithin m → (total ≡ false → last_of by ≡ as_of p g.number)
      → supply_of supplied.state (key_of g.context) total (last_of by) ≡ Ok (m, b)
      → RefreshWithin (world start named) (bringing named b)
  brought_fits true m (Total content) counted peer e = total_fits m content counted e
  brought_fits true m (Steps given) counted peer e =
      absurd (no_steps supplied.state (key_of g.context) (last_of by) m given e)
  brought_fits false m (Total content) counted peer e =
      absurd (no_total supplied.state (key_of g.context) (last_of by) m content e)
  brought_fits false m (Steps given) counted peer e = steps_fits m given counted (peer refl) e

pub is_sendable : (start : WorldStart) (n : Net) (by : Way) (sent : Supplied) → IsSound n → IsWay n by → n.line ≤ 100000
    → IsSupplied n by.agreement by.total (last_of by) sent → IsBounded sent → unsent by.push (problem_in sent) ≡ None
    → stopped by.push by.total (problem_in sent) by.own by.acked (first_fate n by.agreement by.push) ≡ None
    → IsSendable start n.names sent
is_sendable start n by (Refused k) sound way few supplied bounded e f = tt
is_sendable start n by (Sent stamp brought) sound way few supplied bounded e f =
    let s : StandsAt n sound.point = sound.stands in
    let peer : by.total ≡ false → last_of by ≡ as_of sound.point by.agreement.number =
    (λ t. goes_on_from by.push by.own by.acked (first_fate n by.agreement by.push)
    (ap (λ (b : Bool). stopped by.push b None by.own by.acked (first_fate n by.agreement by.push)) (sym t) ∙ f)
    ∙ own_so n sound.point by s sound.consistent way) in
    subst (λ (names : List Text). RefreshWithin (world start names) (bringing names brought)) (sym s.names)
    (brought_fits start n by (Sent stamp brought) sound way few supplied by.total stamp brought bounded.0 peer
    supplied.sent_is)
