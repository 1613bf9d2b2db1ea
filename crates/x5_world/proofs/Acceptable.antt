-- What a supplier sends can be taken by the agreement's consumer: a total refresh has a whole context, and the steps of an
-- incremental one go on from the moment of the consumer's copy.
use Rattle.std.proofs.Common.{◌≡◌, ℕ, zero, suc, ◌+◌, ◌-◌, ◌==◌, inl, inr, Bool, true, false, not, cond, if◌then◌else◌, nat_lt, List, [], ◌∷◌, length, map, drop, slice_get, refl, sym, ap, subst, ◌∙◌, arith, Option, Some, None, Result, Ok, Err}
use Rattle.std.specs.List.{filter, find}
use Rattle.std.specs.Option.{is_some, option_map}
use Rattle.x5_model.specs.Words.{distinct, has, in_option}
use Rattle.x5_model.specs.Members.{In, here, there}
use Rattle.x5_model.specs.Keys.{Key, same_key}
use Rattle.x5_model.specs.Values.{key_of}
use Rattle.x5_model.proofs.Decide.{nat_same_decides}
use Rattle.x5_model.proofs.KeyLaws.{key_decides}
use Rattle.x5_model.proofs.Lists.{both_true, has_in, in_map, of_find, true_or_false}
use Rattle.x5_model_tree.specs.World.{Agreement}
use Rattle.x5_model_tree.specs.Tree.{Tree, part}
use Rattle.x5_model_tree.specs.Masters.{is_consumer, masters}
use Rattle.x5_model_run.specs.Network.{Fate, is_unheard}
use Rattle.x5_model_run.specs.Holdings.{Copy}
use Rattle.x5_model_run.specs.History.{Did, Point, Refreshed, as_of, copy_as_of, copy_by, holdings_at, knowledge_at, moment_of, tree_at, tree_by, tree_of_moment}
use Rattle.x5_model_run.specs.Refresh.{Changes, RefreshBlock, RefreshOutcome, ShadowLine, Done, Unheard, Problem, Missed, base_of, changes_at, consumed_by, later_than, same_moment}
use Rattle.x5_model_run.specs.Refresh as refresh
use Rattle.x5_model_refreshed.specs.Doable.{AreWhole, CanReplay}
use Rattle.x5_model_refreshed.specs.Steps.{Step}
use Rattle.x5_model_refreshed.specs.Logs.{log_at, steps_later}
use Rattle.x5_model_refreshed.specs.Replaying.{IsBrought, IsLed, last_256}
use Rattle.x5_model_refreshed.proofs.Copied.{copies_are_whole}
use Rattle.x5_model_refreshed.proofs.Placing.{consumers_have_copies}
use Rattle.x5_model_refreshed.proofs.Replayed.{last_are_later}
use Rattle.x5_model_refreshed.proofs.Resuming.{refresh_can_replay}
use Rattle.x5_model_refreshed.proofs.Wholes.{parts_are_whole}
use Rattle.x5_ops.specs.declared.knowledge.Content.{Content}
use Rattle.x5_ops.specs.declared.knowledge.Step.{Step as CodeStep}
use Rattle.x5_dse.specs.Linked.{entries_of}
use Rattle.x5_holdings.specs.declared.log.Logged.{Logged}
use Rattle.x5_holdings.specs.State.{Kept, State, holdings_view}
use Rattle.x5_supply.specs.Supplied.{brought_of, content_of_copy, content_of_master, mastered_of, or_else, or_inactive, since_from, steps_after, supplied, total_of}
use Rattle.x5_supply.specs.Supplied as supply
use Rattle.x5_consume.specs.Steps.{step_view, steps_view}
use Rattle.x5_refresh.specs.declared.brought.Brought.{Brought}
use Rattle.x5_refresh.specs.declared.brought.Brought.TheVariants.{Total, Steps}
use Rattle.x5_refresh.specs.Course.{missing, stopped, unless_ended, unsent}
use Rattle.x5_refresh.specs.Joined.{IsSupplier}
use Rattle.x5_refresh.specs.Sent as sent
use Rattle.x5_refresh.specs.Sent.{CanAccept, brought_by, stamped, supply_of}
use Rattle.x5_world.specs.Logs.{Notes, logs_at}
use Rattle.x5_world.specs.LogViews.{logged_view, logs_view}
use Rattle.x5_world.proofs.Courses.{some_is}
use Rattle.x5_world.proofs.Suppliers.{copy_entries, is_supplier, supplied_noted}

-- ---- what an answer was made of

abbrev pub told : {A : Type 0} → A → Result A ℕ
told x = Ok x

pub ok_is : {A : Type 0} {x y : A} → told x ≡ told y → x ≡ y
ok_is {A} {x} e = ap by e
  where
    by : Result A ℕ → A
    by (Ok z) = z
    by (Err k) = x

err_told : {A : Type 0} {k : ℕ} {x : A} → Err k ≡ told x → ⊥
err_told z = cc

pub of_stamped : (o : Option ℕ) (r : Result Brought ℕ) (m : ℕ) (b : Brought) → stamped o r ≡ Ok (m, b) → (o ≡ Some m) × (r ≡ Ok b)
of_stamped None r m b e = absurd (err_told e)
of_stamped (Some x) (Ok y) m b e =
    let one : ℕ × Brought = (x, y) in
    let two : ℕ × Brought = (m, b) in
    let q : one ≡ two = ok_is e in
    (ap (λ (z : ℕ × Brought). Some z.0) q, ap (λ (z : ℕ × Brought). told z.1) q)
of_stamped (Some x) (Err k) m b e = absurd (err_told e)

of_brought : {A : Type 0} (make : A → Brought) (r : Result A ℕ) (b : Brought) → brought_by make r ≡ Ok b
    → (x : A) × (r ≡ Ok x) × (make x ≡ b)
of_brought make (Ok x) b e = (x, refl, ok_is e)
of_brought make (Err k) b e = absurd (never e)
  where
    never : Err k ≡ Ok b → ⊥
    never z = cc

abbrev content_in : Content → Brought → Content
content_in other (Total content) = content
content_in other (Steps given) = other

abbrev steps_in : List CodeStep → Brought → List CodeStep
steps_in other (Total content) = other
steps_in other (Steps given) = given

total_only : (r : Result Content ℕ) (content : Content) → brought_by Total r ≡ Ok (Total content) → r ≡ Ok content
total_only r content e =
    let w = of_brought Total r (Total content) e in w.1 ∙ ap (λ (b : Brought). Ok (content_in content b)) w.2

pub steps_only : (r : Result (List CodeStep) ℕ) (given : List CodeStep) → brought_by Steps r ≡ Ok (Steps given) → r ≡ Ok given
steps_only r given e =
    let w = of_brought Steps r (Steps given) e in w.1 ∙ ap (λ (b : Brought). Ok (steps_in given b)) w.2

abbrev is_total : Brought → Bool
is_total (Total content) = true
is_total (Steps given) = false

pub no_steps : (s : State) (pin : Key) (last : Option ℕ) (m : ℕ) (given : List CodeStep)
    → supply_of s pin true last ≡ Ok (m, Steps given) → ⊥
no_steps s pin last m given e =
    let parts = of_stamped (supply.stamp_of s pin) (brought_by Total (total_of s pin)) m (Steps given) e in
    let w = of_brought Total (total_of s pin) (Steps given) parts.1 in
    never (ap is_total w.2)
  where
    never : true ≡ false → ⊥
    never z = cc

pub no_total : (s : State) (pin : Key) (last : Option ℕ) (m : ℕ) (content : Content)
    → supply_of s pin false last ≡ Ok (m, Total content) → ⊥
no_total s pin last m content e =
    let parts = of_stamped (supply.stamp_of s pin) (brought_by Steps (supply.since_of s pin last)) m (Total content) e in
    let w = of_brought Steps (supply.since_of s pin last) (Total content) parts.1 in
    never (ap is_total w.2)
  where
    never : false ≡ true → ⊥
    never z = cc

pub total_sent : (s : State) (pin : Key) (last : Option ℕ) (m : ℕ) (content : Content)
    → supply_of s pin true last ≡ Ok (m, Total content) → total_of s pin ≡ Ok content
total_sent s pin last m content e =
    total_only (total_of s pin) content
    (of_stamped (supply.stamp_of s pin) (brought_by Total (total_of s pin)) m (Total content) e).1

-- a total refresh has the entries of what is supplied
total_from : (s : State) (pin : Key) (content : Content) → total_of s pin ≡ Ok content
    → (c : Kept) × (supplied s pin ≡ Some c) × (content.entries ≡ entries_of c.nodes.nodes)
total_from s pin content e = by (mastered_of s pin) refl (brought_of s pin) refl e
  where
    by : (o : Option Kept) → mastered_of s pin ≡ o → (r : Option Kept) → brought_of s pin ≡ r
        → or_inactive (or_else (option_map (content_of_master s) o) (option_map content_of_copy r)) ≡ Ok content
        → (c : Kept) × (supplied s pin ≡ Some c) × (content.entries ≡ entries_of c.nodes.nodes)
    by (Some c) f r g q =
        (c, ap (λ (o : Option Kept). or_else o (brought_of s pin)) f, ap (λ (x : Content). x.entries) (sym (ok_is q)))
    by None f (Some c) g q =
        (c, (λ i. or_else (f i) (g i)), ap (λ (x : Content). x.entries) (sym (ok_is q)))
    by None f None g q = absurd (never q)
      where
        never : Err refresh.inactive_agreement ≡ Ok content → ⊥
        never z = cc

-- an incremental one has the later steps of its log
pub record AreSteps (s : State) (pin : Key) (last : Option ℕ) (given : List CodeStep) : Type 0 where
  pub kept : Kept
  pub from : ℕ
  pub supplied_is : supplied s pin ≡ Some kept
  pub last_is : last ≡ Some from
  pub known : nat_lt from kept.log.base ≡ false
  pub steps : supply.steps_later kept.log from ≡ given

pub steps_from : (s : State) (pin : Key) (last : Option ℕ) (given : List CodeStep) → supply.since_of s pin last ≡ Ok given
    → AreSteps s pin last given
steps_from s pin last given e = by (supplied s pin) refl last refl e
  where
    err : (k : ℕ) → Err k ≡ Ok given → ⊥
    err k z = cc

    at : (c : Kept) (m : ℕ) → supplied s pin ≡ Some c → last ≡ Some m → (b : Bool) → nat_lt m c.log.base ≡ b
        → (if b then Err refresh.full_update_required else Ok (supply.steps_later c.log m)) ≡ Ok given
        → AreSteps s pin last given
    at c m f g true t q = absurd (err refresh.full_update_required q)
    at c m f g false t q =
        record { kept = c; from = m; supplied_is = f; last_is = g; known = t; steps = ok_is q }

    by : (o : Option Kept) → supplied s pin ≡ o → (l : Option ℕ) → last ≡ l → since_from o l ≡ Ok given
        → AreSteps s pin last given
    by None f l g q = absurd (err refresh.inactive_agreement q)
    by (Some c) f None g q = absurd (err refresh.full_update_required q)
    by (Some c) f (Some m) g q = at c m f g (nat_lt m c.log.base) refl q

-- ---- a whole context

now_is : (past : List Did) → length past - (length past + 1) ≡ 0
now_is past = omega arith

tree_now : (p : Point) → tree_of_moment p (moment_of p) ≡ tree_at p
tree_now p = ap (λ (k : ℕ). tree_by p.described (drop k p.past)) (now_is p.past)

whole_at : (p : Point) (g : Agreement) (m : ℕ) → IsLed p → refresh.supplied p g ≡ Some m
    → AreWhole (key_of g.context) (part (tree_of_moment p m) (key_of g.context))
whole_at p g m led e = by (masters (knowledge_at p) g.supplier (key_of g.context)) refl (consumed_by (knowledge_at p) g.supplier (key_of g.context)) refl e
  where
    by : (b : Bool) → masters (knowledge_at p) g.supplier (key_of g.context) ≡ b
        → (o : Option Agreement) → consumed_by (knowledge_at p) g.supplier (key_of g.context) ≡ o
        → (if b then Some (moment_of p) else in_option None (λ (own : Agreement). as_of p own.number) o) ≡ Some m
        → AreWhole (key_of g.context) (part (tree_of_moment p m) (key_of g.context))
    by true t o f q =
        let tree : tree_at p ≡ tree_of_moment p m = sym (tree_now p) ∙ ap (tree_of_moment p) (some_is q) in
        subst (λ (x : Tree). AreWhole (key_of g.context) (part x (key_of g.context))) tree
        (parts_are_whole p g.supplier (key_of g.context) led t)
    by false t (Some own) f q =
        let found = of_find (is_consumer g.supplier (key_of g.context)) own (knowledge_at p).agreements f in
        let key : key_of own.context ≡ key_of g.context =
        (key_decides (key_of own.context) (key_of g.context)).0
        (both_true (own.consumer == g.supplier) (same_key (key_of own.context) (key_of g.context)) found.1).1 in
        let entries : (copy_by p own).held.entries ≡ part (tree_of_moment p m) (key_of own.context) =
        ap (λ (o : Option ℕ). (copy_as_of p own o).entries) q ∙ copy_entries p own m in
        subst (λ (k : Key). AreWhole k (part (tree_of_moment p m) k)) key
        (subst (AreWhole (key_of own.context)) entries (copies_are_whole p own m led found.0 q))
    by false t None f q = absurd (never q)
      where
        never : None ≡ Some m → ⊥
        never z = cc

-- ---- the steps as the definitions see them

steps_seen : (m : ℕ) (xs : List Logged)
    → map step_view (map (λ x. x.step) (filter (λ x. nat_lt m x.moment) xs)) ≡ steps_later m (map logged_view xs)
steps_seen m [] = refl
steps_seen m (x ∷ xs) = by (nat_lt m x.moment) (steps_seen m xs)
  where
    by : (b : Bool)
        → map step_view (map (λ (y : Logged). y.step) (filter (λ (y : Logged). nat_lt m y.moment) xs)) ≡ steps_later m (map logged_view xs)
        → map step_view (map (λ (y : Logged). y.step) (cond b (x ∷ filter (λ (y : Logged). nat_lt m y.moment) xs) (filter (λ (y : Logged). nat_lt m y.moment) xs)))
        ≡ map (λ (y : ℕ × Step). y.1) (cond b (logged_view x ∷ filter (λ (y : ℕ × Step). nat_lt m y.0) (map logged_view xs)) (filter (λ (y : ℕ × Step). nat_lt m y.0) (map logged_view xs)))
    by true e = ap (λ (zs : List Step). step_view x.step ∷ zs) e
    by false e = e

-- ---- agreements

pub found_once : (gs : List Agreement) (i : ℕ) (g : Agreement) → distinct ◌==◌ (map (λ (a : Agreement). a.number) gs) ≡ true
    → slice_get gs i ≡ Some g → find (λ (a : Agreement). a.number == g.number) gs ≡ Some g
found_once [] i g d e = cc
found_once (y ∷ ys) zero g d e =
    let q : y ≡ g = some_is e in
    ap (λ (b : Bool). cond b (Some y) (find (λ (a : Agreement). a.number == g.number) ys))
    ((nat_same_decides y.number g.number).1 (ap (λ (a : Agreement). a.number) q))
    ∙ ap (λ (a : Agreement). Some a) q
found_once (y ∷ ys) (suc i) g d e =
    let rest = found_once ys i g (both_true (not (has ◌==◌ (map (λ (a : Agreement). a.number) ys) y.number)) (distinct ◌==◌ (map (λ (a : Agreement). a.number) ys)) d).1 e in
    ap (λ (b : Bool). cond b (Some y) (find (λ (a : Agreement). a.number == g.number) ys)) other ∙ rest
  where
    there_is : In g ys
    there_is = got ys i e
      where
        got : (zs : List Agreement) (k : ℕ) → slice_get zs k ≡ Some g → In g zs
        got [] k q = cc
        got (z ∷ zs) zero q = subst (λ (x : Agreement). In x (z ∷ zs)) (some_is q) here
        got (z ∷ zs) (suc k) q = there (got zs k q)

    alone : has ◌==◌ (map (λ (a : Agreement). a.number) ys) y.number ≡ false
    alone = (let h = (both_true (not (has ◌==◌ (map (λ (a : Agreement). a.number) ys) y.number)) (distinct ◌==◌ (map (λ (a : Agreement). a.number) ys)) d).0 in off (has ◌==◌ (map (λ (a : Agreement). a.number) ys) y.number) h)
      where
        off : (b : Bool) → not b ≡ true → b ≡ false
        off true q = cc
        off false q = refl

    other : (y.number == g.number) ≡ false
    other = elim (true_or_false (y.number == g.number)) [
      | inl t ↦ absurd (never (sym alone ∙ has_in ◌==◌ nat_same_decides y.number (map (λ (a : Agreement). a.number) ys)
          (subst (λ (n : ℕ). In n (map (λ (a : Agreement). a.number) ys)) (sym ((nat_same_decides y.number g.number).0 t))
          (in_map (λ (a : Agreement). a.number) g ys there_is))))
      | inr f ↦ f
    ]
      where
        never : false ≡ true → ⊥
        never z = cc

same_moments : (a b : Option ℕ) → same_moment a b ≡ true → a ≡ b
same_moments None None e = refl
same_moments None (Some b) e = cc
same_moments (Some a) None e = cc
same_moments (Some a) (Some b) e = ap (λ (k : ℕ). Some k) ((nat_same_decides a b).0 e)

none_missing : (b : Bool) (own acked : Option ℕ) → (if not b then Some (Missed own acked) else None) ≡ None → b ≡ true
none_missing true own acked e = refl
none_missing false own acked e = absurd (never e)
  where
    never : Some (Missed own acked) ≡ None → ⊥
    never z = cc

-- an incremental refresh that goes on does from the consumer's own moment
pub goes_on_from : (push : Bool) (own acked : Option ℕ) (first : Fate) → stopped push false None own acked first ≡ None
    → (if push then acked else own) ≡ own
goes_on_from false own acked first e = refl
goes_on_from true own acked first e = by (is_unheard first) e
  where
    by : (b : Bool) → (if b then Some Unheard else missing false own acked) ≡ None → acked ≡ own
    by true q = absurd (never q)
      where
        never : Some Unheard ≡ None → ⊥
        never z = cc
    by false q = same_moments acked own (none_missing (same_moment acked own) own acked q)

-- as one did that was taken
pub taken_from : (push total : Bool) (own acked : Option ℕ) (first : Fate) (lines : List ShadowLine) (rest : RefreshBlock)
    (f : Refreshed)
    → (unless_ended (unsent push None) [] (unless_ended (stopped push total None own acked first) lines rest)).outcome ≡ Done f
    → total ≡ false → (if push then acked else own) ≡ own
taken_from false total own acked first lines rest f e t = refl
taken_from true true own acked first lines rest f e t = absurd (never t)
  where
    never : true ≡ false → ⊥
    never z = cc
taken_from true false own acked first lines rest f e t = by (is_unheard first) e
  where
    missed : (b : Bool) → same_moment acked own ≡ b
        → (unless_ended (if not b then Some (Missed own acked) else None) lines rest).outcome ≡ Done f → acked ≡ own
    missed true q z = same_moments acked own q
    missed false q z = absurd (never z)
      where
        never : Missed own acked ≡ Done f → ⊥
        never y = cc

    by : (b : Bool) → (unless_ended (if b then Some Unheard else missing false own acked) lines rest).outcome ≡ Done f → acked ≡ own
    by true q = absurd (never q)
      where
        never : Unheard ≡ Done f → ⊥
        never z = cc
    by false q = missed (same_moment acked own) refl q

-- where it goes on there is no problem
pub no_problem : (push total : Bool) (k : ℕ) (own acked : Option ℕ) (first : Fate) → unsent push (Some k) ≡ None
    → stopped push total (Some k) own acked first ≡ None → ⊥
no_problem true total k own acked first e f = never e
  where
    never : Some (Problem k) ≡ None → ⊥
    never z = cc
no_problem false total k own acked first e f = by (is_unheard first) f
  where
    some : (x : RefreshOutcome) → Some x ≡ None → ⊥
    some x z = cc

    by : (b : Bool) → (if b then Some Unheard else Some (Problem k)) ≡ None → ⊥
    by true q = some Unheard q
    by false q = some (Problem k) q

-- ---- what is sent can be taken

module _ (p : Point) (g : Agreement) (s : State) (led : IsLed p) (holds : holdings_view s ≡ holdings_at p g.supplier)
    (logs : logs_view s ≡ logs_at p g.supplier) (moment : s.moment ≡ moment_of p)
    (there : In g (knowledge_at p).agreements)
    (found : find (λ (a : Agreement). a.number == g.number) (knowledge_at p).agreements ≡ Some g) where
  abbrev pin : Key
  pin = key_of g.context

  supplier : IsSupplier p g s
  supplier = is_supplier p g s led holds logs moment

  total_acceptable : (last : Option ℕ) (m : ℕ) (b : Brought) → supply_of s pin true last ≡ Ok (m, b)
      → CanAccept (holdings_at p g.consumer) pin b
  total_acceptable last m b e =
      let parts = of_stamped (supply.stamp_of s pin) (brought_by Total (total_of s pin)) m b e in
      let made = of_brought Total (total_of s pin) b parts.1 in
      let from = total_from s pin made.0 made.1 in
      let at : refresh.supplied p g ≡ Some m = sym supplier.stamp ∙ parts.0 in
      let entries : part (tree_of_moment p m) pin ≡ made.0.entries = sym (from.2 ∙ supplier.entries from.0 m from.1 at) in
      subst (CanAccept (holdings_at p g.consumer) pin) made.2
      (ap (λ (o : Option Copy). is_some o) (consumers_have_copies p g led there), subst (AreWhole pin) entries (whole_at p g m led at))

  -- the steps that are sent are the supplier's later ones, from the moment of the consumer's copy
  pub record AreSince (m : ℕ) (given : List CodeStep) : Type 0 where
    pub from : ℕ
    pub last : as_of p g.number ≡ Some from
    pub known : nat_lt from (base_of (changes_at p g.supplier pin)) ≡ false
    pub stamp : refresh.supplied p g ≡ Some m
    pub steps : steps_later from (log_at p g.supplier pin) ≡ steps_view given

  pub steps_since : (last : Option ℕ) (m : ℕ) (given : List CodeStep) → last ≡ as_of p g.number
      → supply_of s pin false last ≡ Ok (m, Steps given) → AreSince m given
  steps_since last m given peer e =
      let parts = of_stamped (supply.stamp_of s pin) (brought_by Steps (supply.since_of s pin last)) m (Steps given) e in
      let x = steps_from s pin last given (steps_only (supply.since_of s pin last) given parts.1) in
      let log = supplier.log x.kept x.supplied_is in
      let known : nat_lt x.from (base_of (changes_at p g.supplier pin)) ≡ false =
      ap (λ (k : ℕ). nat_lt x.from k) (sym log.base) ∙ x.known in
      let kept : map logged_view x.kept.log.changes ≡ last_256 (log_at p g.supplier pin) =
      ap (λ (n : Notes). n.changes) (supplied_noted p g.supplier s holds logs pin x.kept x.supplied_is) in
      record {
        from = x.from;
        last = sym peer ∙ x.last_is;
        known = known;
        stamp = sym supplier.stamp ∙ parts.0;
        steps = sym (ap (map step_view) (sym x.steps) ∙ steps_seen x.from x.kept.log.changes ∙ ap (steps_later x.from) kept
            ∙ last_are_later p g.supplier x.from pin led known);
      }

  steps_acceptable : (last : Option ℕ) (m : ℕ) (given : List CodeStep) → last ≡ as_of p g.number
      → supply_of s pin false last ≡ Ok (m, Steps given) → CanAccept (holdings_at p g.consumer) pin (Steps given)
  steps_acceptable last m given peer e =
      let x = steps_since last m given peer e in
      let f : Refreshed = record {
        agreement = g.number;
        total = false;
        stamp = m;
        count = later_than x.from (changes_at p g.supplier pin);
        acknowledged = true;
      } in
      let brought : IsBrought p f = record {
        agreement = g;
        found = found;
        stamp = x.stamp;
        since = λ z. record { from = x.from; last = x.last; known = x.known; count = refl };
      } in
      record {
        copy = copy_by p g;
        there = consumers_have_copies p g led there;
        refreshed = ap is_some x.last;
        doable = subst (CanReplay pin (copy_by p g).held.entries) x.steps
            (refresh_can_replay p f g x.from led brought refl there refl x.last);
      }

  -- what is sent is stamped with the supplier's moment
  pub stamp_sent : (total : Bool) (last : Option ℕ) (m : ℕ) (b : Brought) → supply_of s pin total last ≡ Ok (m, b)
      → refresh.supplied p g ≡ Some m
  stamp_sent total last m b e =
      sym supplier.stamp ∙ (of_stamped (supply.stamp_of s pin) (sent.brought_of s pin total last) m b e).0

  -- a total refresh has all that it supplies
  pub record IsWhole (m : ℕ) (content : Content) : Type 0 where
    pub stamp : refresh.supplied p g ≡ Some m
    pub content_is : total_of s pin ≡ Ok content

  pub whole_sent : (last : Option ℕ) (m : ℕ) (content : Content) → supply_of s pin true last ≡ Ok (m, Total content)
      → IsWhole m content
  whole_sent last m content e =
      let parts = of_stamped (supply.stamp_of s pin) (brought_by Total (total_of s pin)) m (Total content) e in
      record { stamp = sym supplier.stamp ∙ parts.0; content_is = total_only (total_of s pin) content parts.1 }

  -- what is sent is of the kind that was asked for
  pub can_accept : (total : Bool) (last : Option ℕ) (m : ℕ) (b : Brought) → (total ≡ false → last ≡ as_of p g.number)
      → supply_of s pin total last ≡ Ok (m, b) → CanAccept (holdings_at p g.consumer) pin b
  can_accept true last m (Total content) peer e = total_acceptable last m (Total content) e
  can_accept true last m (Steps given) peer e = absurd (no_steps s pin last m given e)
  can_accept false last m (Total content) peer e = absurd (no_total s pin last m content e)
  can_accept false last m (Steps given) peer e = steps_acceptable last m given (peer refl) e
