-- What a master sends along are the definitions' references: of all contexts of the world, those that it masters are its own, in
-- their order.
use Rattle.std.proofs.Common.{◌≡◌, ℕ, zero, suc, ◌+◌, ◌<◌, ◌==◌, Bool, true, false, not, ◌&&◌, ◌||◌, cond, List, [], ◌∷◌, ◌++◌, map, refl, sym, ap, ◌∙◌, arith, Some, slice_get}
use Rattle.std.proofs.lemmas.List.{append-nil, map-append}
use Rattle.std.proofs.lemmas.List.Elements.{filter-append}
use Rattle.std.specs.List.{filter, find, flat_map, list_any, enumerate_from}
use Rattle.std.specs.Option.{is_some}
use Rattle.x5_model.specs.Words.{in_option}
use Rattle.x5_model.specs.Keys.{Key, same_key, parent}
use Rattle.x5_model.specs.Values.{Name, key_of}
use Rattle.x5_model.specs.Entries.{Named}
use Rattle.x5_model_tree.specs.World as world
use Rattle.x5_model_tree.specs.World.{Context, Agent, World}
use Rattle.x5_model_tree.specs.Tree.{is_there}
use Rattle.x5_model_tree.specs.Masters.{Mastered, pin_of, agent_at, mastered, masters}
use Rattle.x5_model_run.specs.History.{references_below}
use Rattle.x5_ops.specs.declared.knowledge.Specific.{Specific}
use Rattle.x5_ops.specs.KnowledgeViews.{specific_view}
use Rattle.x5_dse.specs.Linked.{entries_of}
use Rattle.x5_holdings.specs.State.{Kept, State}
use Rattle.x5_supply.specs.Supplied.{mastered_among, mastered_of, others, reference, reference_to}
use Rattle.x5_supply.specs.Copying.{IsMaster, MasterSends}

differ : (a b : ℕ) → (a ≡ b → ⊥) → (a == b) ≡ false
differ a b f = by (a == b) refl
  where
    by : (q : Bool) → (a == b) ≡ q → (a == b) ≡ false
    by true e = absurd (f (grind arith))
    by false e = e

itself : (a : ℕ) → (a == a) ≡ true
itself a = grind arith

-- ---- the contexts of one agent among all

abbrev owned : ℕ × Agent → List Mastered
owned a = map (λ c. record { master = a.0; context = c }) a.1.contexts

module _ (me : ℕ) (test : Context → Bool) where
  abbrev mine : Mastered → Bool
  mine d = (d.master == me) && test d.context

  abbrev as_mine : Context → Mastered
  as_mine c = record { master = me; context = c }

  of_other : (n : ℕ) (cs : List Context) → (n == me) ≡ false
      → filter mine (map (λ c. record { master = n; context = c }) cs) ≡ []
  of_other n [] e = refl
  of_other n (c ∷ cs) e =
      ap (λ (b : Bool). cond (b && test c) (record { master = n; context = c } ∷ filter mine (map (λ c. record { master = n; context = c }) cs))
      (filter mine (map (λ c. record { master = n; context = c }) cs))) e
      ∙ of_other n cs e

  of_mine : (cs : List Context) → filter mine (map as_mine cs) ≡ map as_mine (filter test cs)
  of_mine [] = refl
  of_mine (c ∷ cs) =
      ap (λ (b : Bool). cond (b && test c) (as_mine c ∷ filter mine (map as_mine cs)) (filter mine (map as_mine cs))) (itself me)
      ∙ by (test c) (of_mine cs)
    where
      by : (b : Bool) → filter mine (map as_mine cs) ≡ map as_mine (filter test cs)
          → cond b (as_mine c ∷ filter mine (map as_mine cs)) (filter mine (map as_mine cs)) ≡ map as_mine (cond b (c ∷ filter test cs) (filter test cs))
      by true e = ap (λ (l : List Mastered). as_mine c ∷ l) e
      by false e = e

  none_behind : (m : ℕ) (agents : List Agent) → me < m → filter mine (flat_map owned (enumerate_from m agents)) ≡ []
  none_behind m [] lt = refl
  none_behind m (a ∷ agents) lt =
      filter-append mine (owned (m, a)) (flat_map owned (enumerate_from (m + 1) agents))
      ∙ (λ i. of_other m a.contexts (differ m me (λ e. omega (arith, e))) i ++ none_behind (m + 1) agents (omega arith) i)

  pub the_agent : (m k : ℕ) (agents : List Agent) (a : Agent) → m + k ≡ me → slice_get agents k ≡ Some a
      → filter mine (flat_map owned (enumerate_from m agents)) ≡ map as_mine (filter test a.contexts)
  the_agent m k [] a e g = cc
  the_agent m zero (x ∷ agents) a e g =
      let same : m ≡ me = omega (arith, e) in
      filter-append mine (owned (m, x)) (flat_map owned (enumerate_from (m + 1) agents))
      ∙ (λ i. filter mine (owned (same i, inside g i)) ++ none_behind (m + 1) agents (omega (arith, e)) i)
      ∙ append-nil (filter mine (owned (me, a)))
      ∙ of_mine a.contexts
    where
      inside : Some x ≡ Some a → x ≡ a
      inside q = cc
  the_agent m (suc k) (x ∷ agents) a e g =
      filter-append mine (owned (m, x)) (flat_map owned (enumerate_from (m + 1) agents))
      ∙ (λ i. of_other m x.contexts (differ m me (λ q. omega (arith, e, q))) i ++ the_agent (m + 1) k agents a (omega (arith, e)) g i)

-- ---- lists seen otherwise

module _ {A B : Type 0} (f : A → B) where
  pub filter_seen : (t : B → Bool) (xs : List A) → map f (filter (λ x. t (f x)) xs) ≡ filter t (map f xs)
  filter_seen t [] = refl
  filter_seen t (x ∷ xs) = by (t (f x)) (filter_seen t xs)
    where
      by : (b : Bool) → map f (filter (λ x. t (f x)) xs) ≡ filter t (map f xs)
          → map f (cond b (x ∷ filter (λ x. t (f x)) xs) (filter (λ x. t (f x)) xs)) ≡ cond b (f x ∷ filter t (map f xs)) (filter t (map f xs))
      by true e = ap (λ (l : List B). f x ∷ l) e
      by false e = e

  pub map_seen : {C : Type 0} (h : B → C) (xs : List A) → map h (map f xs) ≡ map (λ x. h (f x)) xs
  map_seen h [] = refl
  map_seen {C} h (x ∷ xs) = ap (λ (l : List C). h (f x) ∷ l) (map_seen h xs)

  any_seen : (t : B → Bool) (xs : List A) → list_any (λ x. t (f x)) xs ≡ list_any t (map f xs)
  any_seen t [] = refl
  any_seen t (x ∷ xs) = ap (λ (b : Bool). t (f x) || b) (any_seen t xs)

abbrev filled : {A : Type 0} → List A → Bool
filled [] = false
filled (x ∷ xs) = true

module _ {A : Type 0} (t : A → Bool) where
  any_filled : (xs : List A) → list_any t xs ≡ filled (filter t xs)
  any_filled [] = refl
  any_filled (x ∷ xs) = by (t x) (any_filled xs)
    where
      by : (b : Bool) → list_any t xs ≡ filled (filter t xs) → (b || list_any t xs) ≡ filled (cond b (x ∷ filter t xs) (filter t xs))
      by true e = refl
      by false e = e

  any_found : (xs : List A) → is_some (find t xs) ≡ list_any t xs
  any_found [] = refl
  any_found (x ∷ xs) = by (t x) (any_found xs)
    where
      by : (b : Bool) → is_some (find t xs) ≡ list_any t xs → is_some (cond b (Some x) (find t xs)) ≡ (b || list_any t xs)
      by true e = refl
      by false e = e

map_filled : {A B : Type 0} (f : A → B) (xs : List A) → filled (map f xs) ≡ filled xs
map_filled f [] = refl
map_filled f (x ∷ xs) = refl

-- ---- what the master sends

module _ (w : World) (d : Mastered) (a : Agent) (s : State) (is : IsMaster w d a s) where
  own_among : (test : Context → Bool) → filter (λ m. (m.master == d.master) && test m.context) (mastered w)
      ≡ map (λ c. record { master = d.master; context = c }) (filter test a.contexts)
  own_among test = the_agent d.master test 0 d.master w.agents a (omega arith) is.agent

  -- it masters the pin
  same_pins : (pin : Key) → is_some (mastered_of s pin) ≡ masters w d.master pin
  same_pins pin =
      any_found (λ (c : Kept). same_key (key_of c.prefix) pin) s.own
      ∙ any_seen (λ (c : Kept). c.prefix) (λ (n : Name). same_key (key_of n) pin) s.own
      ∙ ap (list_any (λ (n : Name). same_key (key_of n) pin)) is.contexts
      ∙ sym (any_seen (λ (c : Context). c.prefix) (λ (n : Name). same_key (key_of n) pin) a.contexts)
      ∙ any_filled (λ (c : Context). same_key (key_of c.prefix) pin) a.contexts
      ∙ sym (map_filled (λ (c : Context). record { master = d.master; context = c }) (filter (λ (c : Context). same_key (key_of c.prefix) pin) a.contexts))
      ∙ ap (λ (l : List Mastered). filled l) (sym (own_among (λ (c : Context). same_key (key_of c.prefix) pin)))
      ∙ sym (any_filled (λ (m : Mastered). (m.master == d.master) && same_key (pin_of m) pin) (mastered w))

  abbrev to_name : ℕ → Name → world.Specific
  to_name me n = record { pin = n; access = record { master = me; shadows = [] } }

  module _ (entries : List Named) where
    abbrev below : Name → Bool
    below n = is_there entries (parent (key_of n))

    first_part : map specific_view (mastered_among s.me entries s.own)
        ≡ map (λ m. to_name d.master m.context.prefix) (filter (λ m. (m.master == d.master) && is_there entries (parent (pin_of m))) (mastered w))
    first_part =
        map_seen (λ (c : Kept). reference_to s.me c.prefix) specific_view (filter (λ (c : Kept). below c.prefix) s.own)
        ∙ sym (map_seen (λ (c : Kept). c.prefix) (to_name s.me) (filter (λ (c : Kept). below c.prefix) s.own))
        ∙ ap (map (to_name s.me)) (filter_seen (λ (c : Kept). c.prefix) below s.own)
        ∙ (λ i. map (to_name (sym is.me i)) (filter below (is.contexts i)))
        ∙ ap (map (to_name d.master)) (sym (filter_seen (λ (c : Context). c.prefix) below a.contexts))
        ∙ map_seen (λ (c : Context). c.prefix) (to_name d.master) (filter (λ (c : Context). below c.prefix) a.contexts)
        ∙ sym (map_seen (λ (c : Context). record { master = d.master; context = c }) (λ (m : Mastered). to_name d.master m.context.prefix) (filter (λ (c : Context). below c.prefix) a.contexts))
        ∙ ap (map (λ (m : Mastered). to_name d.master m.context.prefix)) (sym (own_among (λ (c : Context). below c.prefix)))

    second_part : (ks : List Specific) → map specific_view ks ≡ references_below entries a.subordinate
        → map specific_view (others s ks)
        ≡ in_option [] (λ (b : Agent). filter (λ k. not (masters w d.master (key_of k.pin))) (references_below entries b.subordinate)) (agent_at w d.master)
    second_part ks e =
        map_seen reference specific_view (filter (λ (k : Specific). not (is_some (mastered_of s (key_of k.pin)))) ks)
        ∙ filter_seen specific_view (λ (k : world.Specific). not (is_some (mastered_of s (key_of k.pin)))) ks
        ∙ (λ i. filter (λ (k : world.Specific). not (same_pins (key_of k.pin) i)) (e i))
        ∙ ap (in_option [] (λ (b : Agent). filter (λ k. not (masters w d.master (key_of k.pin))) (references_below entries b.subordinate))) (sym is.agent)

pub master_sends : MasterSends
master_sends w d a s c is e =
    map-append specific_view (mastered_among s.me (entries_of c.nodes.nodes) s.own) (others s c.subordinate)
    ∙ (λ i. first_part w d a s is (entries_of c.nodes.nodes) i ++ second_part w d a s is (entries_of c.nodes.nodes) c.subordinate e i)
