-- Once its plan is carried out the agent holds what is committed of an update.
use Rattle.std.proofs.Common.{◌≡◌, ℕ, zero, suc, ◌<◌, ◌≤◌, ◌∷◌, ◌++◌, [], List, map, length, sym, ap, subst, ◌∙◌, arith, Some, slice_set, if◌then◌else◌}
use Rattle.std.specs.Prelude.{slice_get, nat_lt}
use Rattle.x5_model.specs.Words.{first_of, in_option}
use Rattle.x5_model.specs.Keys.{Key}
use Rattle.x5_model.specs.Values.{key_of}
use Rattle.x5_model.specs.Requests.{Request}
use Rattle.x5_model.proofs.Prefixes.{prefix_length}
use Rattle.x5_model_theory.proofs.Stages.{key_length}
use Rattle.x5_model_run.specs.Holdings.{Held}
use Rattle.x5_model_run.specs.Needs.{target_of}
use Rattle.x5_ops.specs.KnowledgeViews.{nssr_view, specific_view}
use Rattle.x5_dse.specs.declared.node.NodeId.{NodeId}
use Rattle.x5_dse.specs.Linked.{entries_of}
use Rattle.x5_holdings.specs.declared.log.Logged.{Logged}
use Rattle.x5_holdings.specs.Logs.{Log, IsLogged, latest}
use Rattle.x5_holdings.specs.Making.{HasRoom, IsChanged, IsReady, IsSame}
use Rattle.x5_holdings.specs.Placed.{IsOwnChanged}
use Rattle.x5_holdings.specs.State.{Kept, State, held_view, holdings_view}
use Rattle.x5_update.specs.declared.plans.Plan.{Plan}
use Rattle.x5_update.specs.Committing.{IsCommitted, IsUncommitted}
use Rattle.x5_update.specs.Judging.{judged}
use Rattle.x5_update.specs.Plans.{IsPlanOf, IsChangeOf, IsStepOf, values_in}
use Rattle.x5_update.specs.Seats.{IsSeat}
use Rattle.x5_update.proofs.Made.{committed_after, got_set, set_again}
use Rattle.x5_update.proofs.Ready.{can_change}
use Rattle.x5_update.proofs.Seats.{seat}

kept_inside : {a b : Kept} → Some a ≡ Some b → a ≡ b
kept_inside e = cc

-- room aside a log is the same
logged_so : (a b : Log) (x : Logged) (after : Log) → b.base ≡ a.base → b.changes ≡ a.changes → IsLogged b x after → IsLogged a x after
logged_so a b x after e f l = record {
  base = l.base ∙ (λ i. if nat_lt (length (f i)) 256 then e i else in_option (e i) (λ y. y.moment) (first_of (f i)));
  changes = l.changes ∙ (λ i. latest (f i) ++ x ∷ []);
}

-- room aside an agent holds the same, and has noted the same
pub set_same : {B : Type 0} (f : Kept → B) (xs : List Kept) (n : ℕ) (x y : Kept) → slice_get xs n ≡ Some x → f y ≡ f x
    → map f (slice_set xs n y) ≡ map f xs
set_same f [] n x y g e = cc
set_same {B} f (z ∷ xs) zero x y g e = ap (λ (h : B). h ∷ map f xs) (e ∙ ap f (sym (kept_inside g)))
set_same {B} f (z ∷ xs) (suc n) x y g e = ap (λ (hs : List B). f z ∷ hs) (set_same f xs n x y g e)

pub room_alone : (s t : State) (own : ℕ) → IsOwnChanged s own IsSame t → holdings_view t ≡ holdings_view s
room_alone s t own room =
    ap holdings_view room.new_is
    ∙ ap (λ (l : List Held). record (holdings_view s) { own = l })
    (set_same held_view s.own own room.before room.after room.was (λ i. record {
      prefix = room.changed.prefix i;
      entries = entries_of (room.changed.nodes i);
      subordinate = map specific_view (room.changed.subordinate i);
      nssrs = map nssr_view (room.changed.nssrs i);
    }))

pub uncommitted : (s t : State) (own : ℕ) → IsOwnChanged s own IsSame t → IsUncommitted s t
uncommitted s t own room = record {
  moment = ap (λ (x : State). x.moment) room.new_is;
  holdings = room_alone s t own room;
  bases = ap (λ (x : State). map (λ (c : Kept). c.log.base) x.own) room.new_is
      ∙ set_same (λ (c : Kept). c.log.base) s.own own room.before room.after room.was room.changed.base;
  changes = ap (λ (x : State). map (λ (c : Kept). c.log.changes) x.own) room.new_is
      ∙ set_same (λ (c : Kept). c.log.changes) s.own own room.before room.after room.was room.changed.changes;
  copies = ap (λ (x : State). x.copies) room.new_is;
}

module _ (s : State) (r : Request) (key : Key) (own : ℕ) (id : NodeId) (is : IsSeat s r key own id) where
  -- the target isn't the root
  pub full : 0 < length key
  full =
      let l : length (key_of is.kept.prefix) ≤ length key =
      prefix_length (key_of is.kept.prefix) key (seat s r key own id is).long.1.0 in
      let n : length (key_of is.kept.prefix) ≡ length is.kept.prefix = key_length is.kept.prefix in
      let b : 0 < length is.kept.prefix = is.whole.below_root in
      omega arith

  module _ (t : State) (plan : Plan) (p : IsPlanOf s own r.body plan (judged (holdings_view s) r)) (at : key ≡ key_of (target_of r.body))
      (room : IsOwnChanged s own IsSame t) where
    its_context : room.before ≡ is.kept
    its_context = kept_inside (sym room.was ∙ is.held)

    pub same : IsSame is.kept room.after
    same = subst (λ (c : Kept). IsSame c room.after) its_context room.changed

    full_target : 0 < length (target_of r.body)
    full_target =
        let k : length key ≡ length (target_of r.body) = ap length at ∙ key_length (target_of r.body) in
        let f : 0 < length key = full in
        omega arith

    pub change_is : IsChangeOf is.kept.nodes.nodes r.body plan.change
    change_is = subst (λ (k : Kept). IsChangeOf k.nodes.nodes r.body plan.change) (kept_inside (sym p.held ∙ is.held)) p.change

    pub step_is : IsStepOf (entries_of is.kept.nodes.nodes) r.body plan.step
    step_is = subst (λ (k : Kept). IsStepOf (entries_of k.nodes.nodes) r.body plan.step) (kept_inside (sym p.held ∙ is.held)) p.step

    pub roomy : slice_get t.own own ≡ Some room.after
    roomy = ap (λ (x : State). slice_get x.own own) room.new_is ∙ got_set s.own own room.before room.after room.was

    module _ (n : ℕ) (has : IsOwnChanged s own (λ before after. HasRoom after 1 n) t) (c : Kept) (got : slice_get t.own own ≡ Some c) where
      its_room : HasRoom c 1 n
      its_room =
          subst (λ (k : Kept). HasRoom k 1 n)
          (kept_inside (sym (ap (λ (x : State). slice_get x.own own) has.new_is ∙ got_set s.own own has.before has.after has.was) ∙ got))
          has.changed

      pub room_so : 0 < c.log.spare
      room_so = its_room.note

      pub ready_so : n ≡ values_in plan.change → IsReady c plan.change
      ready_so e =
          subst (λ (k : Kept). IsReady k plan.change) (kept_inside (sym roomy ∙ got))
          (can_change s r key own id is room.after same r.body plan.change p.made at p.passed change_is
          (subst (λ (k : Kept). HasRoom k 1 (values_in plan.change)) (kept_inside (sym got ∙ roomy))
          (subst (λ (m : ℕ). HasRoom c 1 m) e its_room)))

    module _ (u : State)
        (done : IsOwnChanged t own (λ before after. IsChanged before plan.change (record { moment = s.moment; step = plan.step }) after) u) where
      changed : IsChanged room.after plan.change (record { moment = s.moment; step = plan.step }) done.after
      changed =
          subst (λ (c : Kept). IsChanged c plan.change (record { moment = s.moment; step = plan.step }) done.after)
          (kept_inside (sym done.was ∙ roomy)) done.changed

      new_state : u ≡ record s { own = slice_set s.own own done.after }
      new_state =
          done.new_is ∙ ap (λ (x : State). record x { own = slice_set x.own own done.after }) room.new_is
          ∙ set_again s own room.after done.after

      pub committed_so : IsCommitted s r u
      committed_so = record {
        place = own;
        before = is.kept;
        after = done.after;
        step = plan.step;
        was = is.held;
        new_is = new_state;
        holdings = ap holdings_view new_state
            ∙ committed_after s r key own id is room.after done.after same plan.change p.made full_target at p.passed change_is
            changed.made changed.prefix changed.subordinate changed.nssrs;
        told = step_is;
        noted = logged_so is.kept.log room.after.log (record { moment = s.moment; step = plan.step }) done.after.log same.base same.changes
            changed.noted;
      }
