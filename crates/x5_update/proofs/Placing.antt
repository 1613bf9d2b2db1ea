-- The target of an update that is due is found at its place: its context's prefix is the longest pin on the way that the agent
-- knows, which it masters.
use Rattle.std.proofs.Common.{◌≡◌, ℕ, zero, suc, ◌<◌, arith, true, false, List, [], ◌∷◌, map, length, refl, sym, ap, subst, ◌∙◌, Option, None, Some}
use Rattle.std.specs.Prelude.{slice_get}
use Rattle.std.specs.Option.{is_some, option_map}
use Rattle.x5_model.specs.Members.{In}
use Rattle.x5_model.specs.Keys.{Key, same_key}
use Rattle.x5_model.specs.Values.{Name, key_of}
use Rattle.x5_model.specs.Entries.{Named}
use Rattle.x5_model.specs.Requests.{Request}
use Rattle.x5_model.specs.References.{Chained}
use Rattle.x5_model.proofs.KeyLaws.{key_decides}
use Rattle.x5_model.proofs.Lists.{any_in, of_any, of_find, of_map, not_found}
use Rattle.x5_model_tree.specs.Tree.{key_at, is_there, lowest}
use Rattle.x5_model_tree.proofs.Longest.{IsLowest, lowest_right}
use Rattle.x5_model_run.specs.Holdings.{Held, Holdings, held_at, known_pin}
use Rattle.x5_model_run.specs.Journal.{same_name}
use Rattle.x5_model_run.specs.Needs.{resolves}
use Rattle.x5_dse.specs.declared.node.NodeId.{NodeId}
use Rattle.x5_dse.specs.Linked.{Node, AreNumbered, IsLinked, entries_of, named_of, id_of, node_key, node_at, node_with}
use Rattle.x5_holdings.specs.declared.holdings.Pin.TheVariants.{Own, Copy as CopyAt, Subordinate, Cross}
use Rattle.x5_holdings.specs.Known.{IsKnown}
use Rattle.x5_holdings.specs.State.{Kept, State, IsKept, are_apart, held_view, holdings_view}
use Rattle.x5_update.specs.Judging.{IsDue}
use Rattle.x5_update.specs.Seats.{IsSeat, IsTarget}
use Rattle.x5_update.proofs.Probing.{IsFoundIn, found_in, not_done}

key_inside : {a b : Key} → Some a ≡ Some b → a ≡ b
key_inside e = cc

held_inside : {a b : Held} → Some a ≡ Some b → a ≡ b
held_inside e = cc

module _ (h : Holdings) (m : Chained) (due : IsDue h m) where
  way : IsFoundIn h m due.context × (resolves h m ≡ true)
  way = found_in h m due.context (not_done m due.update due.fit) due.found

  pub resolving : resolves h m ≡ true
  resolving = way.1

  pub target_of_due : IsTarget h m.request m.target
  target_of_due =
      let w = way.0 in
      record {
        context = due.context;
        pin = w.0;
        known = w.1;
        mine = w.2;
        there = at w.3 w.4 w.5;
      }
    where
      low_in : (e : Named) (o : Option Named) → IsLowest due.context.entries (key_of m.target) (length (key_of m.target)) o → o ≡ Some e
          → In e due.context.entries
      low_in e None l q = cc
      low_in e (Some f) l q = subst (λ (x : Named). In x due.context.entries) (inside q) l.0
        where
          inside : {a b : Named} → Some a ≡ Some b → a ≡ b
          inside s = cc

      at : (e : Named) → lowest due.context.entries (key_of m.target) ≡ Some e → same_name e.name m.target ≡ true
          → is_there due.context.entries (key_of m.target) ≡ true
      at e l s = any_in (λ (x : Named). same_key (key_at x) (key_of m.target)) e due.context.entries
          (low_in e (lowest due.context.entries (key_of m.target)) (lowest_right due.context.entries (key_of m.target)) l) s

-- ---- at the place

mapped : {A B : Type 0} (f : A → B) (xs : List A) (n : ℕ) (x : A) → slice_get xs n ≡ Some x → slice_get (map f xs) n ≡ Some (f x)
mapped f [] n x e = cc
mapped f (y ∷ xs) zero x e = ap (option_map f) e
mapped f (y ∷ xs) (suc n) x e = mapped f xs n x e

place_within : {A B : Type 0} (f : A → B) (xs : List A) (n : ℕ) → is_some (slice_get (map f xs) n) ≡ true → n < length xs
place_within f [] n e = cc
place_within f (x ∷ xs) zero e = omega arith
place_within f (x ∷ xs) (suc n) e = let l = place_within f xs n e in omega arith

module _ (s : State) (r : Request) (target : Name) (t : IsTarget (holdings_view s) r target) where
  abbrev h : Holdings
  h = holdings_view s

  no_other : (key : Key) → known_pin r (holdings_view s) (key_of target) ≡ Some key → held_at (holdings_view s).own key ≡ None → ⊥
  no_other key k n =
      let e : key ≡ t.pin = key_inside (sym k ∙ t.known) in
      let q : None ≡ Some t.context = sym n ∙ ap (held_at (holdings_view s).own) e ∙ t.mine in
      cc

  pub is_known : IsKnown r (holdings_view s) (key_of target) None → ⊥
  is_known n = (let q : None ≡ Some t.pin = sym n ∙ t.known in cc)

  pub no_copy : (place : ℕ) → IsKnown r (holdings_view s) (key_of target) (Some (CopyAt place)) → ⊥
  no_copy place l = no_other l.key l.longest l.first.0

  pub no_subordinate : (k : _) → IsKnown r (holdings_view s) (key_of target) (Some (Subordinate k)) → ⊥
  no_subordinate k l = no_other l.key l.longest l.first.0

  pub no_cross : (k : _) → IsKnown r (holdings_view s) (key_of target) (Some (Cross k)) → ⊥
  no_cross k l = no_other l.key l.longest l.first.0

  pub own_within : (own : ℕ) → IsKnown r (holdings_view s) (key_of target) (Some (Own own)) → own < length s.own
  own_within own l = place_within held_view s.own own l.first.1

  module _ (own : ℕ) (kept : Kept) (l : IsKnown r (holdings_view s) (key_of target) (Some (Own own)))
      (got : slice_get s.own own ≡ Some kept) where
    pub its_context : held_at (holdings_view s).own l.key ≡ Some (held_view kept)
    its_context = l.first.0 ∙ mapped held_view s.own own kept got

    pub its_pin : l.key ≡ key_of kept.prefix
    its_pin = sym ((key_decides (key_of kept.prefix) l.key).0
        (of_find (λ (c : Held). same_key (key_of c.prefix) l.key) (held_view kept) (holdings_view s).own its_context).1)

    same_context : t.context ≡ held_view kept
    same_context =
        held_inside (sym t.mine ∙ ap (held_at (holdings_view s).own) (key_inside (sym t.known ∙ l.longest)) ∙ its_context)

    pub some_node : (o : Option Node) → node_at kept.nodes.nodes (key_of target) ≡ o → (n : Node) × (o ≡ Some n)
    some_node (Some n) q = (n, refl)
    some_node None q =
        absurd (
        let there : is_there (entries_of kept.nodes.nodes) (key_of target) ≡ true =
        ap (λ (c : Held). is_there c.entries (key_of target)) (sym same_context) ∙ t.there in
        let w = of_any (λ (e : Named). same_key (key_at e) (key_of target)) (entries_of kept.nodes.nodes) there in
        let n = of_map named_of w.0 kept.nodes.nodes w.1 in
        let f : same_key (node_key n.0) (key_of target) ≡ false =
        not_found (λ (x : Node). same_key (node_key x) (key_of target)) n.0 kept.nodes.nodes q n.1 in
        let u : same_key (node_key n.0) (key_of target) ≡ true = ap (λ (e : Named). same_key (key_at e) (key_of target)) (sym n.2) ∙ w.2 in
        cc)

    pub seat_of : (id : NodeId) → Some id ≡ option_map id_of (node_at kept.nodes.nodes (key_of target)) → IsLinked kept.nodes.nodes
        → AreNumbered kept.nodes.nodes → IsKept kept → are_apart s.own ≡ true → IsSeat s r (key_of target) own id
    seat_of id q linked numbered whole apart =
        let n = some_node (node_at kept.nodes.nodes (key_of target)) refl in
        let e : id ≡ n.0.id = id_inside (q ∙ ap (option_map id_of) n.1) in
        record {
          kept = kept;
          held = got;
          long = l.longest ∙ ap (λ (k : Key). Some k) its_pin;
          mine = ap (held_at (holdings_view s).own) (sym its_pin) ∙ its_context;
          node = n.0;
          at = n.1;
          there = ap (node_with kept.nodes.nodes) e
              ∙ numbered n.0 (of_find (λ (x : Node). same_key (node_key x) (key_of target)) n.0 kept.nodes.nodes n.1).0;
          linked = linked;
          whole = whole;
          apart = apart;
        }
      where
        id_inside : {a b : NodeId} → Some a ≡ Some b → a ≡ b
        id_inside z = cc
