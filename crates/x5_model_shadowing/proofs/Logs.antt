-- What agents keep of changes can be sent: a master notes steps of accepted updates, by entries of the one tree, and a
-- consumer keeps what its supplier kept.
use Rattle.std.proofs.Common.{◌≡◌, ℕ, ◌+◌, ◌==◌, nat_lt, Bool, true, false, List, [], ◌∷◌, ◌++◌, length, sym, ap, subst, Option, Some, None, Ok, Err, if◌then◌else◌}
use Rattle.std.specs.List.{filter}
use Rattle.x5_model.specs.Words.{in_option}
use Rattle.x5_model.specs.Members.{here, there}
use Rattle.x5_model.specs.Keys.{Key}
use Rattle.x5_model.specs.Requests.{Request}
use Rattle.x5_model.proofs.Lists.{of_filter}
use Rattle.x5_model_tree.specs.World.{Agreement, World}
use Rattle.x5_model_tree.specs.Tree.{Tree, part}
use Rattle.x5_model_tree.specs.Masters.{masters, pins}
use Rattle.x5_model_tree.specs.Apply.{Applied, apply}
use Rattle.x5_model_tree.specs.Described.{IsDescribed}
use Rattle.x5_model_run.specs.History.{Acceptance, Refreshed, Deed, Nothing, Outs, Loses, Accepts, Refreshes, Splits, Unsplits, Did, tree_with, tree_by, knowledge_by, as_of}
use Rattle.x5_model_run.specs.Refresh.{is_change_in, consumed_by}
use Rattle.x5_model_refreshed.specs.Steps.{Step, step_of}
use Rattle.x5_model_refreshed.specs.Logs.{Log, steps_later, noted_of, noted, stamped, brought, log_after, logs_by}
use Rattle.x5_model_refreshed.specs.Replaying.{AreTaken, Happens, AllHappen}
use Rattle.x5_model_fitting.specs.Names.{Each}
use Rattle.x5_model_fitting.specs.Requests.{RequestWithin}
use Rattle.x5_model_limits.specs.Described.{world_is_utf8, BoundedDeed, BoundedPast}
use Rattle.x5_model_limits.proofs.Lists.{each_none, each_one, each_both, each_map, each_some}
use Rattle.x5_model_shadowed.specs.Sending.{SendableEntry, SendableStep}
use Rattle.x5_model_shadowing.specs.Holding.{SendableLog}
use Rattle.x5_model_shadowing.specs.Lines.{LogsSendable}
use Rattle.x5_model_shadowing.proofs.Updates.{applied_sendable, never_refused, noted_sendable}
use Rattle.x5_model_shadowing.proofs.Trees.{tree_sendable}
use Rattle.x5_model_shadowing.proofs.Held.{part_sendable}

abbrev Change : Type 0
Change = ℕ × Step

abbrev Sendable : Change → Type 0
Sendable x = SendableStep x.1

pub later_sendable : (m : ℕ) (log : Log) → SendableLog log → Each SendableStep (steps_later m log)
later_sendable m log each =
    each_map SendableStep (λ (x : Change). x.1) (filter (λ (x : Change). nat_lt m x.0) log)
    (λ x i. each x (of_filter (λ (y : Change). nat_lt m y.0) x log i).0)

-- ---- the master

module _ (moment : ℕ) (ps : List Key) (pin : Key) where
  noted_one : (t u : Tree) (a : Acceptance) → RequestWithin a.request → apply t a.request ≡ Ok u
      → Each SendableEntry t.entries → SendableLog (noted_of moment ps pin t a)
  noted_one t u a within e each = by (is_change_in ps pin a)
    where
      of_step : Option Step → Log
      of_step o = in_option [] (λ s. (moment, s) ∷ []) o

      step : SendableLog (of_step (step_of (part t pin) a.request.body))
      step =
          each_some Sendable (λ (s : Step). (moment, s) ∷ []) (step_of (part t pin) a.request.body)
          (λ s q. each_one Sendable (moment, s)
          (noted_sendable (part t pin) a.request s (part_sendable t pin each) within (never_refused t u a.request e) q))

      by : (b : Bool) → SendableLog (if b then of_step (step_of (part t pin) a.request.body) else [])
      by true = step
      by false = each_none Sendable

  noted_all : (accepted : List Acceptance) (t : Tree) → AreTaken t accepted
      → Each (λ (x : Acceptance). RequestWithin x.request) accepted → Each SendableEntry t.entries
      → SendableLog (noted moment ps pin t accepted)
  noted_all [] t taken within each = each_none Sendable
  noted_all (a ∷ more) t taken within each =
      let u = taken.1 in
      let e : apply t a.request ≡ Ok u.0 = u.1 in
      each_both Sendable (noted_of moment ps pin t a) (noted moment ps pin (tree_with t a.request) more)
      (noted_one t u.0 a (within a here) e each)
      (noted_all more (tree_with t a.request) taken.2 (λ x i. within x (there i))
      (subst (Each SendableEntry) (with_is t u.0 a.request e)
      (applied_sendable t u.0 a.request (within a here) e each)))
    where
      or_same : Tree → Applied → Tree
      or_same old (Ok new) = new
      or_same old (Err x) = old

      with_is : (old new : Tree) (r : Request) → apply old r ≡ Ok new → new.entries ≡ (tree_with old r).entries
      with_is old new r q = ap (λ (o : Applied). (or_same old o).entries) (sym q)

-- ---- a consumer

stamped_sendable : (stamp : ℕ) (steps : List Step) → Each SendableStep steps → SendableLog (stamped stamp steps)
stamped_sendable stamp steps each = each_map Sendable (λ (s : Step). (stamp, s)) steps (λ s i. each s i)

brought_sendable : (f : Refreshed) (last : Option ℕ) (own theirs : Log) → SendableLog own → SendableLog theirs
    → SendableLog (brought f last own theirs)
brought_sendable f last own theirs o t = by f.total
  where
    more : Option ℕ → Log
    more x = in_option [] (λ m. stamped f.stamp (steps_later m theirs)) x

    by : (b : Bool) → SendableLog (if b then [] else own ++ more last)
    by true = each_none Sendable
    by false =
        each_both Sendable own (more last) o
        (each_some Sendable (λ (m : ℕ). stamped f.stamp (steps_later m theirs)) last
        (λ m e. stamped_sendable f.stamp (steps_later m theirs) (later_sendable m theirs t)))

-- ---- line by line

module _ (w : World) (described : IsDescribed w) (utf8 : world_is_utf8 w ≡ true) where
  abbrev AllLogs : (ℕ → Key → Log) → Type 0
  AllLogs logs = (a : ℕ) (pin : Key) → SendableLog (logs a pin)

  after_accepting : (before : List Did) (accepted : List Acceptance) → AreTaken (tree_by w before) accepted
      → Each (λ (x : Acceptance). RequestWithin x.request) accepted → Each SendableEntry (tree_by w before).entries
      → AllLogs (logs_by w before) → AllLogs (log_after w before (logs_by w before) (Accepts accepted))
  after_accepting before accepted taken within each logs a pin = by (masters (knowledge_by w before) a pin)
    where
      new : Log
      new = noted (length before + 1) (pins (knowledge_by w before)) pin (tree_by w before) accepted

      by : (b : Bool) → SendableLog (if b then logs_by w before a pin ++ new else logs_by w before a pin)
      by true =
          each_both Sendable (logs_by w before a pin) new (logs a pin)
          (noted_all (length before + 1) (pins (knowledge_by w before)) pin accepted (tree_by w before) taken within
          each)
      by false = logs a pin

  after_refreshing : (before : List Did) (f : Refreshed) → AllLogs (logs_by w before)
      → AllLogs (log_after w before (logs_by w before) (Refreshes f))
  after_refreshing before f logs a pin = by (masters (knowledge_by w before) a pin)
    where
      own : Log
      own = logs_by w before a pin

      taken : Agreement → Log
      taken g =
          brought f (as_of (record { described = w; past = before }) g.number) own (logs_by w before g.supplier pin)

      here_or : (g : Agreement) (b : Bool) → SendableLog (if b then taken g else own)
      here_or g true =
          brought_sendable f (as_of (record { described = w; past = before }) g.number) own
          (logs_by w before g.supplier pin) (logs a pin) (logs g.supplier pin)
      here_or g false = logs a pin

      consumed : Option Agreement → Log
      consumed o = in_option own (λ g. if f.agreement == g.number then taken g else own) o

      of_copy : (o : Option Agreement) → SendableLog (consumed o)
      of_copy None = logs a pin
      of_copy (Some g) = here_or g (f.agreement == g.number)

      by : (b : Bool) → SendableLog (if b then own else consumed (consumed_by (knowledge_by w before) a pin))
      by true = logs a pin
      by false = of_copy (consumed_by (knowledge_by w before) a pin)

  after_deed : (before : List Did) (d : Deed) → Happens (record { described = w; past = before }) d → BoundedDeed d
      → Each SendableEntry (tree_by w before).entries → AllLogs (logs_by w before)
      → AllLogs (log_after w before (logs_by w before) d)
  after_deed before Nothing h b each logs = logs
  after_deed before (Outs o) h b each logs = logs
  after_deed before (Loses reply k) h b each logs = logs
  after_deed before (Accepts accepted) h b each logs = after_accepting before accepted h b each logs
  after_deed before (Refreshes f) h b each logs = after_refreshing before f logs
  after_deed before (Splits name a) h b each logs = logs
  after_deed before (Unsplits name) h b each logs = logs

  all_logs : (past : List Did) → AllHappen w past → BoundedPast past → AllLogs (logs_by w past)
  all_logs [] h b a pin = each_none Sendable
  all_logs (d ∷ before) h b a pin =
      let earlier : BoundedPast before = (λ x j. b x (there j)) in
      after_deed before d.deed h.0 (b d here) (tree_sendable w described utf8 before h.1 earlier)
      (all_logs before h.1 earlier) a pin

pub logs_sendable : LogsSendable
logs_sendable p a pin line =
    all_logs p.described line.led.described line.texts p.past line.led.happened line.accepted a pin
