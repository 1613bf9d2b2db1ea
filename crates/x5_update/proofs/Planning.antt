-- What is made ready for an update that the master's ground passes is its plan.
use Rattle.std.proofs.Common.{◌≡◌, ℕ, zero, suc, ◌+◌, ◌-◌, ◌<◌, ◌≤◌, Bool, true, false, List, [], ◌∷◌, ◌++◌, length, take, drop, refl, sym, ap, subst, ◌∙◌, arith, length-take, None, Some, Ok}
use Rattle.std.specs.Option.{option_map}
use Rattle.x5_model.specs.Words.{first_of}
use Rattle.x5_model.specs.Keys.{Key, parent}
use Rattle.x5_model.specs.Values.{Name, Rdn, key_of, last_rdn, name_above}
use Rattle.x5_model.specs.Entries.{Entry}
use Rattle.x5_model.specs.Attributes.{added_entry}
use Rattle.x5_model.specs.Changes.{modified, renamed, single_valued}
use Rattle.x5_model.specs.Requests.{Request, Attribute, Change, AddEntry, RemoveEntry, ModifyEntry, ModifyDn}
use Rattle.x5_model.specs.Statics.{attribute_repeats}
use Rattle.x5_model_tree.specs.Tree.{has_below}
use Rattle.x5_model_tree.specs.Apply.{above_pin, is_taken, respelled, add, remove, modify, rename}
use Rattle.x5_model_theory.proofs.Stages.{key_length}
use Rattle.x5_model_updates.proofs.Outcomes.{single_is}
use Rattle.x5_ops.specs.ChangeView.{added}
use Rattle.x5_ops.specs.declared.knowledge.Step.TheVariants as steps
use Rattle.x5_dse.specs.declared.node.NodeId.{NodeId}
use Rattle.x5_dse.specs.Linked.{Node, Nodes, entries_of, IsLinked, entry_in, name_in, node_key, node_with, is_live}
use Rattle.x5_holdings.specs.declared.changing.EntryChange.TheVariants as changes
use Rattle.x5_holdings.specs.State.{State}
use Rattle.x5_update.specs.declared.plans.Plan.{Plan}
use Rattle.x5_update.specs.Judging.{ground_in}
use Rattle.x5_update.specs.Plans.{IsAddition, IsReplacement, IsMove, IsChangeOf, IsStepOf, IsPlanOf, is_clash}
use Rattle.x5_update.specs.Seats.{IsSeat}
use Rattle.x5_update.proofs.Ready.{its_key, live}
use Rattle.x5_update.proofs.Seats.{found, ground_found, ground_below}
use Rattle.x5_update.proofs.Verdicts.{added_is, add_passed, remove_passed, modify_passed, rename_passed}

name_inside : {a b : Name} → Some a ≡ Some b → a ≡ b
name_inside e = cc

entry_inside : {a b : Entry} → Some a ≡ Some b → a ≡ b
entry_inside e = cc

-- ---- the last RDN of a name

drop_whole : (n : ℕ) (name : Name) → length name ≤ n → drop n name ≡ []
drop_whole n [] l = nothing n
  where
    nothing : (k : ℕ) → drop {A = Rdn} k [] ≡ []
    nothing zero = refl
    nothing (suc k) = refl
drop_whole zero (r ∷ name) l = absurd (omega arith)
drop_whole (suc n) (r ∷ name) l = drop_whole n name (omega arith)

pub respelled_here : (name old : Name) (rdn : Rdn) → length old ≡ length name → 0 < length name
    → respelled (length (name_above name)) rdn old ≡ name_above old ++ rdn ∷ []
respelled_here name old rdn e l =
    let k : length (name_above name) ≡ length old - 1 = omega (arith, length-take (length name - 1) name) in
    (λ i. take (k i) old ++ rdn ∷ drop (k i + 1) old)
    ∙ ap (λ (d : Name). take (length old - 1) old ++ rdn ∷ d) (drop_whole (length old - 1 + 1) old (omega arith))

-- ---- the node at the place

module _ (s : State) (r : Request) (key : Key) (own : ℕ) (id : NodeId) (is : IsSeat s r key own id) where
  pub live_at : (t : Nodes) → t ≡ is.kept.nodes → is_live t.nodes id ≡ true
  live_at t e = subst (λ (n : Nodes). is_live n.nodes id ≡ true) (sym e) (live s r key own id is)

  pub name_at : (t : Nodes) (name : Name) → t ≡ is.kept.nodes → option_map name_in (node_with t.nodes id) ≡ Some name
      → is.node.named.name ≡ name
  name_at t name e n =
      name_inside (ap (option_map name_in) (sym is.there) ∙ ap (λ (x : Nodes). option_map name_in (node_with x.nodes id)) (sym e) ∙ n)

  pub entry_at_node : (t : Nodes) (entry : Entry) → t ≡ is.kept.nodes → option_map entry_in (node_with t.nodes id) ≡ Some entry
      → is.node.named.entry ≡ entry
  entry_at_node t entry e n =
      entry_inside (ap (option_map entry_in) (sym is.there) ∙ ap (λ (x : Nodes). option_map entry_in (node_with x.nodes id)) (sym e) ∙ n)

  pub there_at : (t : Nodes) → t ≡ is.kept.nodes → (b : Bool)
      → ((n : Node) → IsLinked t.nodes → node_with t.nodes id ≡ Some n → b ≡ has_below (entries_of t.nodes) (node_key n))
      → above_pin (ground_in s r) key ≡ false → b ≡ has_below (ground_in s r).entries key
  there_at t e b h none =
      h is.node (subst (λ (n : Nodes). IsLinked n.nodes) (sym e) is.linked) (ap (λ (n : Nodes). node_with n.nodes id) e ∙ is.there)
      ∙ (λ i. has_below (entries_of (e i).nodes) (its_key s r key own id is i)) ∙ sym (ground_below s r key own id is none)

-- ---- each update

pub add_plan : (s : State) (r : Request) (own : ℕ) (id : NodeId) (name : Name) (attributes : List Attribute)
    (is : IsSeat s r (parent (key_of name)) own id) (above : Name) (rdn : Rdn) (entry : Entry) (plan : Plan)
    → first_of (attribute_repeats [] attributes) ≡ None → rdn ≡ last_rdn name → added rdn attributes ≡ Ok entry
    → is.node.named.name ≡ above → is_taken (ground_in s r) (key_of name) ≡ false → IsAddition name (above ++ rdn ∷ []) entry plan
    → IsPlanOf s own (AddEntry name attributes) plan (add (ground_in s r) name attributes)
add_plan s r own id name attributes is above rdn entry plan none l a n f p =
    let e : entry ≡ added_entry (last_rdn name) attributes =
    added_is rdn attributes entry none a ∙ ap (λ (x : Rdn). added_entry x attributes) l in
    let w = add_passed (ground_in s r) name is.node.named attributes (ground_found s r (parent (key_of name)) own id is) f in
    record {
      kept = is.kept;
      held = is.held;
      change = subst (IsChangeOf is.kept.nodes.nodes (AddEntry name attributes)) (sym p.change) (refl, e, (refl, p.ordered));
      step = subst (IsStepOf (entries_of is.kept.nodes.nodes) (AddEntry name attributes)) (sym p.step)
          (is.node.named, found s r (parent (key_of name)) own id is, λ i. record { name = sym n i ++ l i ∷ []; entry = e i });
      made = w.0;
      passed = w.1;
    }

module _ (s : State) (r : Request) (own : ℕ) (id : NodeId) (name : Name) (is : IsSeat s r (key_of name) own id) where
  pub remove_plan : (kept : Name) → is.node.named.name ≡ kept → above_pin (ground_in s r) (key_of name) ≡ false
      → has_below (ground_in s r).entries (key_of name) ≡ false
      → IsPlanOf s own (RemoveEntry name) (record { change = changes.Remove id; step = steps.Remove kept }) (remove (ground_in s r) name)
  remove_plan kept n a none =
      let w = remove_passed (ground_in s r) name is.node.named (ground_found s r (key_of name) own id is) a none in
      record {
        kept = is.kept;
        held = is.held;
        change = (is.node, is.there, is.at);
        step = (is.node.named, found s r (key_of name) own id is, sym n);
        made = w.0;
        passed = w.1;
      }

  pub modify_plan : (list : List Change) (kept : Name) (old new : Entry) (rdn : Rdn) (plan : Plan) → is.node.named.name ≡ kept
      → is.node.named.entry ≡ old → rdn ≡ last_rdn name → modified rdn list old ≡ Ok new → IsReplacement id kept new plan
      → IsPlanOf s own (ModifyEntry name list) plan (modify (ground_in s r) name list)
  modify_plan list kept old new rdn plan n o l m p =
      let q : modified (last_rdn name) list is.node.named.entry ≡ Ok new = (λ i. modified (sym l i) list (o i)) ∙ m in
      let w = modify_passed (ground_in s r) name is.node.named (ground_found s r (key_of name) own id is) list new q in
      record {
        kept = is.kept;
        held = is.held;
        change = subst (IsChangeOf is.kept.nodes.nodes (ModifyEntry name list)) (sym p.change) (is.node, is.there, is.at, q, (refl, p.ordered));
        step = subst (IsStepOf (entries_of is.kept.nodes.nodes) (ModifyEntry name list)) (sym p.step)
            (is.node.named, new, found s r (key_of name) own id is, q, λ i. record { name = sym n i; entry = new });
        made = w.0;
        passed = w.1;
      }

  pub rename_plan : (to : Rdn) (drops : Bool) (kept : Name) (old new : Entry) (rdn : Rdn) (plan : Plan) → 0 < length name
      → is.node.named.name ≡ kept → is.node.named.entry ≡ old → rdn ≡ last_rdn name → single_valued (renamed rdn to drops old) ≡ Ok new
      → above_pin (ground_in s r) (key_of name) ≡ false → is_clash (ground_in s r) name to ≡ false → IsMove id kept to new plan
      → IsPlanOf s own (ModifyDn name to drops) plan (rename (ground_in s r) name to drops)
  rename_plan to drops kept old new rdn plan full n o l m a f p =
      let q : single_valued (renamed (last_rdn name) to drops is.node.named.entry) ≡ Ok new =
      (λ i. single_valued (renamed (sym l i) to drops (o i))) ∙ m in
      let e : new ≡ renamed (last_rdn name) to drops is.node.named.entry =
      sym (single_is (renamed (last_rdn name) to drops is.node.named.entry) new q) in
      let w = rename_passed (ground_in s r) name is.node.named (ground_found s r (key_of name) own id is) to drops new a q f in
      let long : length is.node.named.name ≡ length name =
      sym (key_length is.node.named.name) ∙ ap length (its_key s r (key_of name) own id is) ∙ key_length name in
      record {
        kept = is.kept;
        held = is.held;
        change = subst (IsChangeOf is.kept.nodes.nodes (ModifyDn name to drops)) (sym p.change) (is.node, is.there, is.at, refl, e, (refl, p.ordered));
        step = subst (IsStepOf (entries_of is.kept.nodes.nodes) (ModifyDn name to drops)) (sym p.step) (
          is.node.named,
          found s r (key_of name) own id is,
          sym n,
          λ i. record { name = ((λ j. name_above (sym n j) ++ to ∷ []) ∙ sym (respelled_here name is.node.named.name to long full)) i; entry = e i },
        );
        made = w.0;
        passed = w.1;
      }
