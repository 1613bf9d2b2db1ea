-- What the place of an update's target gives: the context there is one of those that the agent's ground is made of, its longest
-- known pin on the way; and so what the ground says at the target's name.
use Rattle.std.proofs.Common.{◌≡◌, ℕ, zero, suc, Bool, true, false, ◌||◌, ◌⊎◌, inl, inr, List, [], ◌∷◌, map, refl, sym, ap, subst, ◌∙◌, Option, Some, if◌then◌else◌}
use Rattle.std.specs.Prelude.{slice_get}
use Rattle.std.specs.List.{list_any}
use Rattle.x5_model.specs.Words.{ascending, has}
use Rattle.x5_model.specs.Members.{In, here, there}
use Rattle.x5_model.specs.Keys.{Key, parent, same_key, is_prefix}
use Rattle.x5_model.specs.Values.{key_of}
use Rattle.x5_model.specs.Entries.{Named}
use Rattle.x5_model.specs.Requests.{Request}
use Rattle.x5_model.proofs.KeyLaws.{key_decides}
use Rattle.x5_model.proofs.Lists.{in_map, of_map, once_map, of_all, either_true}
use Rattle.x5_model.proofs.Decide.{once_decides}
use Rattle.x5_model_tree.specs.World.{Nssr}
use Rattle.x5_model_tree.specs.Tree.{key_at, keys_of, named_below, entry_at, is_there, has_below}
use Rattle.x5_model_tree.specs.Apply.{Ground, above_pin, is_taken}
use Rattle.x5_model_tree.proofs.Longest.{IsLongest, longest_right}
use Rattle.x5_model_theory.proofs.Views.{there_decides}
use Rattle.x5_model_run.specs.Holdings.{Held}
use Rattle.x5_model_updates.proofs.Lookups.{one_each}
use Rattle.x5_model_updates.proofs.Own.{ground_is}
use Rattle.x5_dse.specs.declared.node.NodeId.{NodeId}
use Rattle.x5_dse.specs.Linked.{Node, entries_of, named_of, node_key, node_at, node_below, prefix_of, is_placed}
use Rattle.x5_holdings.specs.State.{Kept, State, held_view, holdings_view}
use Rattle.x5_update.specs.Judging.{ground_in}
use Rattle.x5_update.specs.Seats.{IsSeat}
use Rattle.x5_update.proofs.Alone.{IsContext}
use Rattle.x5_update.proofs.Committed.{pins_at}
use Rattle.x5_update.proofs.Grounds.{Seat, same_entry, above_is, below_is, taken_is}
use Rattle.x5_model.proofs.Lists.{both_true, and_true}

pub in_got : {A : Type 0} (xs : List A) (n : ℕ) (x : A) → slice_get xs n ≡ Some x → In x xs
in_got {A} [] n x e = cc
in_got {A} (y ∷ xs) zero x e = subst (λ (z : A). In x (z ∷ xs)) (inside (sym e)) here
  where
    inside : Some x ≡ Some y → x ≡ y
    inside q = cc
in_got {A} (y ∷ xs) (suc n) x e = there (in_got xs n x e)

pub ascending_entries : (nodes : List Node) → ascending node_below nodes ≡ true → ascending named_below (entries_of nodes) ≡ true
ascending_entries [] h = refl
ascending_entries (n ∷ []) h = refl
ascending_entries (n ∷ m ∷ ns) h =
    let w = both_true (node_below n m) (ascending node_below (m ∷ ns)) h in
    and_true (named_below n.named m.named) (ascending named_below (entries_of (m ∷ ns))) w.0 (ascending_entries (m ∷ ns) w.1)

pub entry_by_node : (nodes : List Node) (key : Key) (n : Node) → node_at nodes key ≡ Some n → entry_at (entries_of nodes) key ≡ Some n.named
entry_by_node [] key n e = cc
entry_by_node (m ∷ nodes) key n e = by (same_key (node_key m) key) refl (entry_by_node nodes key n)
  where
    inside : {a b : Node} → Some a ≡ Some b → a ≡ b
    inside q = cc

    by : (b : Bool) → same_key (node_key m) key ≡ b → (node_at nodes key ≡ Some n → entry_at (entries_of nodes) key ≡ Some n.named)
        → entry_at (entries_of (m ∷ nodes)) key ≡ Some n.named
    by true s rest =
        ap (λ (b : Bool). if b then Some m.named else entry_at (entries_of nodes) key) s
        ∙ ap (λ (x : Node). Some x.named) (inside (sym (ap (λ (b : Bool). if b then Some m else node_at nodes key) s) ∙ e))
    by false s rest =
        ap (λ (b : Bool). if b then Some m.named else entry_at (entries_of nodes) key) s
        ∙ rest (sym (ap (λ (b : Bool). if b then Some m else node_at nodes key) s) ∙ e)

module _ (s : State) (r : Request) (key : Key) (own : ℕ) (id : NodeId) (is : IsSeat s r key own id) where
  abbrev C : Held
  C = held_view is.kept

  pub order : ascending named_below (entries_of is.kept.nodes.nodes) ≡ true
  order = ascending_entries is.kept.nodes.nodes is.linked.in_order

  pub there_in : In is.kept s.own
  there_in = in_got s.own own is.kept is.held

  apart : (d : Held) → In d (holdings_view s).own → key_of d.prefix ≡ key_of (held_view is.kept).prefix → d ≡ held_view is.kept
  apart d i e =
      let k = of_map held_view d s.own i in
      let same : k.0 ≡ is.kept =
      once_map (λ (x : Kept). key_of x.prefix) s.own k.0 is.kept
      ((once_decides same_key key_decides (map (λ (x : Kept). key_of x.prefix) s.own)).0 is.apart) k.1 there_in
      (ap (λ (x : Held). key_of x.prefix) (sym k.2) ∙ e) in
      k.2 ∙ ap held_view same

  pub seat : Seat (pins_at r (holdings_view s)) (holdings_view s).own (held_view is.kept) key
  seat = record {
    mine = in_map held_view is.kept s.own there_in;
    apart = apart;
    each = one_each (entries_of is.kept.nodes.nodes) order;
    long = subst (λ (o : Option Key). IsLongest (pins_at r (holdings_view s)) key o) is.long
        (longest_right (pins_at r (holdings_view s)) key);
  }

  pub context : IsContext (held_view is.kept)
  context = record { order = order; closed = closed }
    where
      closed : (x : Named) → In x (entries_of is.kept.nodes.nodes)
          → (key_at x ≡ key_of is.kept.prefix) ⊎ In (parent (key_at x)) (keys_of (entries_of is.kept.nodes.nodes))
      closed x i =
          let n = of_map named_of x is.kept.nodes.nodes i in
          let p = of_all (is_placed is.kept.nodes.nodes) n.0 is.kept.nodes.nodes is.linked.above n.1 in
          elim (either_true (same_key (node_key n.0) (prefix_of is.kept.nodes.nodes))
          (is_there (entries_of is.kept.nodes.nodes) (parent (node_key n.0))) p) [
            | inl t ↦ inl (ap key_at n.2 ∙ (key_decides (node_key n.0) (prefix_of is.kept.nodes.nodes)).0 t ∙ is.whole.prefixed)
            | inr t ↦ inr (subst (λ (k : Key). In (parent k) (keys_of (entries_of is.kept.nodes.nodes))) (ap key_at (sym n.2))
                ((there_decides (entries_of is.kept.nodes.nodes) (parent (node_key n.0))).0 t))
          ]

  pub found : entry_at (entries_of is.kept.nodes.nodes) key ≡ Some is.node.named
  found = entry_by_node is.kept.nodes.nodes key is.node is.at

  -- ---- what the agent's ground says there

  pub ground_found : entry_at (ground_in s r).entries key ≡ Some is.node.named
  ground_found =
      subst (λ (g : Ground). entry_at g.entries key ≡ Some is.node.named) (sym (ground_is r (holdings_view s)))
      (same_entry (pins_at r (holdings_view s)) (holdings_view s).own (held_view is.kept) key seat is.node.named found)

  pub ground_above : above_pin (ground_in s r) key
      ≡ (list_any (is_prefix key) (pins_at r (holdings_view s)) || list_any (λ (n : Nssr). is_prefix key (key_of n.at)) (held_view is.kept).nssrs)
  ground_above =
      ap (λ (g : Ground). above_pin g key) (ground_is r (holdings_view s))
      ∙ above_is (pins_at r (holdings_view s)) (holdings_view s).own (held_view is.kept) key seat

  pub ground_below : above_pin (ground_in s r) key ≡ false
      → has_below (ground_in s r).entries key ≡ has_below (entries_of is.kept.nodes.nodes) key
  ground_below none =
      ap (λ (g : Ground). has_below g.entries key) (ground_is r (holdings_view s))
      ∙ below_is (pins_at r (holdings_view s)) (holdings_view s).own (held_view is.kept) key seat
      (sym (ap (λ (g : Ground). above_pin g key) (ground_is r (holdings_view s))) ∙ none)

pub ground_taken : (s : State) (r : Request) (key : Key) → is_taken (ground_in s r) key
    ≡ (list_any (λ (d : Held). is_there d.entries key) (holdings_view s).own || has same_key (pins_at r (holdings_view s)) key)
ground_taken s r key =
    ap (λ (g : Ground). is_taken g key) (ground_is r (holdings_view s))
    ∙ taken_is (pins_at r (holdings_view s)) (holdings_view s).own key
