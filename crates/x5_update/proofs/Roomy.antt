-- Where nothing but room was made the target has its place as before, and the plan is the update's still; and what is
-- ready has the room that its change needs.
use Rattle.std.proofs.Common.{◌≡◌, ℕ, true, zero, suc, ◌<◌, ◌∷◌, [], List, length, map, refl, sym, ap, subst, ◌∙◌, Some, slice_set}
use Rattle.std.specs.Prelude.{slice_get}
use Rattle.x5_model.specs.Words.{distinct}
use Rattle.x5_model.specs.Keys.{Key, same_key}
use Rattle.x5_model.specs.Values.{Name, key_of}
use Rattle.x5_model.specs.Requests.{Request}
use Rattle.x5_model_run.specs.Holdings as model
use Rattle.x5_model_run.specs.Needs.{target_of}
use Rattle.x5_ops.specs.KnowledgeViews.{nssr_view, specific_view}
use Rattle.x5_dse.specs.declared.node.NodeId.{NodeId}
use Rattle.x5_dse.specs.Linked.{IsLinked, Node, entries_of, node_at, node_with, prefix_of}
use Rattle.x5_index.specs.Index.{Posting}
use Rattle.x5_holdings.specs.Making.{HasRoom, IsSame}
use Rattle.x5_holdings.specs.Placed.{IsOwnChanged}
use Rattle.x5_holdings.specs.State.{ArePosted, IsKept, Kept, State, are_apart, held_view, holdings_view}
use Rattle.x5_update.specs.declared.committing.Prepared.{Prepared}
use Rattle.x5_update.specs.declared.plans.Plan.{Plan}
use Rattle.x5_update.specs.Committing.{IsPrepared}
use Rattle.x5_update.specs.Judging.{judged}
use Rattle.x5_update.specs.Plans.{IsChangeOf, IsPlanOf, IsStepOf, values_in}
use Rattle.x5_update.specs.Seats.{IsSeat}
use Rattle.x5_update.proofs.Doing.{change_is, room_alone, roomy, same, set_same, step_is}
use Rattle.x5_update.proofs.Made.{got_set}

kept_inside : {a b : Kept} → Some a ≡ Some b → a ≡ b
kept_inside e = cc

held_same : (a b : Kept) → IsSame a b → held_view b ≡ held_view a
held_same a b s = λ i. record {
  prefix = s.prefix i;
  entries = entries_of (s.nodes i);
  subordinate = map specific_view (s.subordinate i);
  nssrs = map nssr_view (s.nssrs i);
}

kept_same : (a b : Kept) → IsSame a b → IsKept a → IsKept b
kept_same a b s k = record {
  below_root = subst (λ (n : Name). 0 < length n) (sym s.prefix) k.below_root;
  prefixed = ap prefix_of s.nodes ∙ k.prefixed ∙ ap key_of (sym s.prefix);
  posted = subst (λ (ns : List Node). ArePosted b.postings.postings ns) (sym s.nodes)
      (subst (λ (ps : List Posting). ArePosted ps a.nodes.nodes) (sym s.postings) k.posted);
}

-- ---- once room was made

module _ (s : State) (r : Request) (key : Key) (own : ℕ) (id : NodeId) (is : IsSeat s r key own id) (t : State) (plan : Plan)
    (p : IsPlanOf s own r.body plan (judged (holdings_view s) r)) (at : key ≡ key_of (target_of r.body)) (room : IsOwnChanged s own IsSame t) where
  alike : IsSame is.kept room.after
  alike = same s r key own id is t plan p at room

  there : slice_get t.own own ≡ Some room.after
  there = roomy s r key own id is t plan p at room

  holds : holdings_view t ≡ holdings_view s
  holds = room_alone s t own room

  apart : are_apart t.own ≡ true
  apart =
      ap (λ (x : State). are_apart x.own) room.new_is
      ∙ ap (distinct same_key)
      (set_same (λ (c : Kept). key_of c.prefix) s.own own room.before room.after room.was (ap key_of room.changed.prefix))
      ∙ is.apart

  seat_still : IsSeat t r key own id
  seat_still = record {
    kept = room.after;
    held = there;
    long = (λ i. model.known_pin r (holds i) key) ∙ is.long ∙ ap (λ (n : Name). Some (key_of n)) (sym alike.prefix);
    mine = (λ i. model.held_at (holds i).own (key_of (alike.prefix i))) ∙ is.mine
        ∙ ap (λ (h : model.Held). Some h) (sym (held_same is.kept room.after alike));
    node = is.node;
    at = ap (λ (ns : List Node). node_at ns key) alike.nodes ∙ is.at;
    there = ap (λ (ns : List Node). node_with ns id) alike.nodes ∙ is.there;
    linked = subst IsLinked (sym alike.nodes) is.linked;
    whole = kept_same is.kept room.after alike is.whole;
    apart = apart;
  }

  plan_still : IsPlanOf t own r.body plan (judged (holdings_view t) r)
  plan_still = record {
    kept = room.after;
    held = there;
    change = subst (λ (ns : List Node). IsChangeOf ns r.body plan.change) (sym alike.nodes)
        (change_is s r key own id is t plan p at room);
    step = subst (λ (ns : List Node). IsStepOf (entries_of ns) r.body plan.step) (sym alike.nodes)
        (step_is s r key own id is t plan p at room);
    made = p.made;
    passed = ap (λ (h : model.Holdings). judged h r) holds ∙ p.passed;
  }

  pub prepared : (n : ℕ) → IsOwnChanged s own (λ before after. HasRoom after 1 n) t → n ≡ values_in plan.change
      → IsPrepared t r (record { own = own; plan = plan })
  prepared n has e = record {
    node = id;
    seat = subst (λ (k : Key). IsSeat t r k own id) at seat_still;
    plan = plan_still;
    room = λ c got.
        subst (λ (k : Kept). HasRoom k 1 (values_in plan.change))
        (kept_inside (sym (ap (λ (x : State). slice_get x.own own) has.new_is ∙ got_set s.own own has.before has.after has.was) ∙ got))
        (subst (λ (m : ℕ). HasRoom has.after 1 m) e has.changed);
  }

-- ---- where room was made before

own_again : (xs : List Kept) (n : ℕ) (x : Kept) → slice_get xs n ≡ Some x → xs ≡ slice_set xs n x
own_again [] n x e = cc
own_again (y ∷ xs) zero x e = ap (λ (z : Kept). z ∷ xs) (kept_inside e)
own_again (y ∷ xs) (suc n) x e = ap (λ (zs : List Kept). y ∷ zs) (own_again xs n x e)

-- it has no more room than before
pub no_more : (s : State) (own : ℕ) (c : Kept) → slice_get s.own own ≡ Some c → IsOwnChanged s own IsSame s
no_more s own c at = record {
  before = c;
  after = c;
  was = at;
  changed = record { prefix = refl; nodes = refl; postings = refl; base = refl; changes = refl; subordinate = refl; nssrs = refl };
  new_is = ap (λ (l : List Kept). record s { own = l }) (own_again s.own own c at);
}

pub has_room : (s : State) (r : Request) (update : Prepared) (p : IsPrepared s r update)
    → IsOwnChanged s update.own (λ before after. HasRoom after 1 (values_in update.plan.change)) s
has_room s r update p = record {
  before = p.seat.kept;
  after = p.seat.kept;
  was = p.seat.held;
  changed = p.room p.seat.kept p.seat.held;
  new_is = ap (λ (l : List Kept). record s { own = l }) (own_again s.own update.own p.seat.kept p.seat.held);
}
