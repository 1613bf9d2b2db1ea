-- What a copy becomes by a refresh, from what its supplier holds. Its references and NSSRs are the same at every moment: the entry
-- above a pin stays where it is, since knowledge is coherent at every line.
use Rattle.std.proofs.Common.{◌≡◌, ℕ, ◌+◌, ◌-◌, ◌==◌, Bool, true, false, if◌then◌else◌, inl, inr, List, [], ◌∷◌, ◌++◌, length, map, drop, refl, sym, ap, subst, ◌∙◌, arith, Option, Some, None}
use Rattle.std.specs.List.{flat_map}
use Rattle.std.specs.Option.{option_map}
use Rattle.std.proofs.lemmas.List.{map-append}
use Rattle.x5_model.specs.Words.{has, in_option}
use Rattle.x5_model.specs.Members.{In, Once, here, there}
use Rattle.x5_model.specs.Keys.{Key, same_key}
use Rattle.x5_model.specs.Values.{key_of}
use Rattle.x5_model.specs.Entries.{Named}
use Rattle.x5_model.proofs.KeyLaws.{key_decides}
use Rattle.x5_model.proofs.Lists.{both_true, in_first, in_map, of_has, of_find, once_map}
use Rattle.x5_model_tree.specs.World.{Context, Agent, Agreement, World}
use Rattle.x5_model_tree.specs.Tree.{part}
use Rattle.x5_model_tree.specs.Masters.{Mastered, pin_of, numbered, agent_at, mastered, is_consumer, held_contexts}
use Rattle.x5_model_run.specs.Holdings.{Held, Copy, held_at, copy_at}
use Rattle.x5_model_run.specs.History.{Point, moment_of, tree_by, tree_at, tree_of_moment, knowledge_at, as_of, references_below, own_context, sent_references, mastered_at, copy_as_of, copy_by, agent_holdings, no_holdings, holdings_at}
use Rattle.x5_model_run.specs.Refresh.{consumed_by}
use Rattle.x5_model_theory.proofs.Places.{at_agent}
use Rattle.x5_model_theory.proofs.Holding.{of_place, own_is}
use Rattle.x5_model_theory.proofs.Cohering.{map_map}
use Rattle.x5_model_refreshed.specs.Replaying.{IsLed}
use Rattle.x5_model_refreshed.specs.Supplying.{SuppliedIsHeld, IsFromMaster, MasterSupplies, ConsumerSupplies}
use Rattle.x5_model_refreshed.proofs.Refreshed.{copy_with, spelled}
use Rattle.x5_model_refreshed.proofs.Finding.{find_only, once_left, once_right}
use Rattle.x5_model_refreshed.proofs.Placing.{is_placed, conditions, own_so, copies_so}

-- ---- the moment that is supplied

stamps_so : (p : Point) (o : Option Agreement)
    → in_option None (λ (own : Agreement). as_of p own.number) o ≡ in_option None (λ (c : Copy). c.stamp) (option_map (copy_by p) o)
stamps_so p None = refl
stamps_so p (Some own) = refl

pub supplied_is_held : SuppliedIsHeld
supplied_is_held p g led =
    let pin : Key = key_of g.context in
    let stamps = stamps_so p (consumed_by (knowledge_at p) g.supplier pin)
    ∙ ap (in_option None (λ (c : Copy). c.stamp)) (sym (copies_so p led g.supplier pin)) in
    (λ i. if own_so p led g.supplier pin i then Some (moment_of p) else stamps i)

-- ---- what a master has

-- contexts of which no two have one prefix are all held
all_held : (before : List Key) (cs : List Context) → Once (map (λ (c : Context). key_of c.prefix) cs) → ((c : Context) → In c cs → In (key_of c.prefix) before → ⊥)
    → held_contexts before cs ≡ cs
all_held before [] once apart = refl
all_held before (x ∷ cs) once apart =
    go (has same_key before (key_of x.prefix)) refl
    (all_held (key_of x.prefix ∷ before) cs once.1
    (λ c i j. elim (in_first (key_of c.prefix) (key_of x.prefix) before j) [
      | inl s ↦ once.0 (subst (λ (y : Key). In y (map (λ (d : Context). key_of d.prefix) cs)) s (in_map (λ (d : Context). key_of d.prefix) c cs i))
      | inr l ↦ apart c (there i) l
    ]))
  where
    go : (b : Bool) → has same_key before (key_of x.prefix) ≡ b → held_contexts (key_of x.prefix ∷ before) cs ≡ cs
        → (if b then held_contexts before cs else (x ∷ held_contexts (key_of x.prefix ∷ before) cs)) ≡ x ∷ cs
    go true e f = absurd (apart x here (of_has same_key key_decides (key_of x.prefix) before e))
    go false e f = ap (λ (ys : List Context). x ∷ ys) f

-- an agent's contexts are apart where all are
abbrev pins_in : List (ℕ × Agent) → List Key
pins_in xs = map pin_of (flat_map (λ (a : ℕ × Agent). map (at_agent a.0) a.1.contexts) xs)

once_agent : (xs : List (ℕ × Agent)) (a : ℕ) (b : Agent) → Once (pins_in xs) → In (a, b) xs → Once (map (λ (c : Context). key_of c.prefix) b.contexts)
once_agent [] a b once i = elim i [ ]
once_agent (x ∷ xs) a b once i =
    let parted : Once (map pin_of (map (at_agent x.0) x.1.contexts) ++ pins_in xs) =
    subst (λ (ks : List Key). Once ks) (map-append pin_of (map (at_agent x.0) x.1.contexts) (flat_map (λ (y : ℕ × Agent). map (at_agent y.0) y.1.contexts) xs)) once in
    elim (in_first (a, b) x xs i) [
      | inl e ↦
          let mine : Once (map (λ (c : Context). key_of c.prefix) x.1.contexts) =
          subst (λ (ks : List Key). Once ks) (map_map (at_agent x.0) pin_of x.1.contexts) (once_left (map pin_of (map (at_agent x.0) x.1.contexts)) (pins_in xs) parted) in
          subst (λ (y : ℕ × Agent). Once (map (λ (c : Context). key_of c.prefix) y.1.contexts)) (sym e) mine
      | inr j ↦ once_agent xs a b (once_right (map pin_of (map (at_agent x.0) x.1.contexts)) (pins_in xs) parted) j
    ]

module _ (p : Point) (g : Agreement) (led : IsLed p) where
  abbrev k : World
  k = knowledge_at p

  abbrev pin : Key
  pin = key_of g.context

  abbrev as_sent : Mastered → List Named → Held
  as_sent c entries = record { prefix = g.context; entries = entries; subordinate = sent_references k c entries; nssrs = c.context.nssrs }

  abbrev copy_if : List Named → Option Mastered → Held
  copy_if entries o = in_option (record { prefix = g.context; entries = entries; subordinate = []; nssrs = [] }) (λ (c : Mastered). as_sent c entries) o

  now_is : part (tree_of_moment p (moment_of p)) pin ≡ part (tree_at p) pin
  now_is = (let e : length p.past - (length p.past + 1) ≡ 0 = omega arith in ap (λ (n : ℕ). part (tree_by p.described (drop n p.past)) pin) e)

  from_master : (b : Agent) (d : Context) (c : Held) → agent_at k g.supplier ≡ Some b → In d b.contexts → c ≡ own_context (tree_at p) b d → key_of d.prefix ≡ pin
      → IsFromMaster p g c
  from_master b d c e i is same =
      let one : Mastered = at_agent g.supplier d in
      let at : In one (mastered k) = is_placed p led g.supplier b d e i in
      let test : Mastered → Bool = λ m. same_key (pin_of m) pin in
      let found : mastered_at k pin ≡ Some one =
      find_only test one (mastered k) at ((key_decides (pin_of one) pin).1 same)
      (λ y j t. once_map pin_of (mastered k) y one (conditions p led).one_master j at ((key_decides (pin_of y) pin).0 t ∙ sym same)) in
      let holds = ap (in_option (no_holdings g.supplier) (agent_holdings p g.supplier)) e in
      let once = once_agent (numbered k) g.supplier b (conditions p led).one_master (of_place k g.supplier b e) in
      record {
        of_it = one;
        agent = b;
        me = refl;
        here = e;
        contexts = ap (λ h. map (λ (x : Held). x.prefix) h.own) holds
            ∙ map_map (own_context (tree_at p) b) (λ (x : Held). x.prefix) (held_contexts [] b.contexts)
            ∙ ap (map (λ (x : Context). x.prefix)) (all_held [] b.contexts once (λ x j l. elim l [ ]));
        references = subst (λ (x : Held). x.subordinate ≡ references_below x.entries b.subordinate) (sym is) refl;
        copy = subst (λ (x : Held). copy_as_of p g (Some (moment_of p)) ≡ record { prefix = g.context; entries = x.entries; subordinate = sent_references k one x.entries; nssrs = x.nssrs }) (sym is)
            (ap (copy_if (part (tree_of_moment p (moment_of p)) pin)) found
            ∙ ap (as_sent one) (now_is ∙ ap (part (tree_at p)) (sym same)));
      }

  master_so : (c : Held) → held_at (holdings_at p g.supplier).own pin ≡ Some c → IsFromMaster p g c
  master_so c = go (agent_at k g.supplier) refl
    where
      go : (o : Option Agent) → agent_at k g.supplier ≡ o → held_at (in_option (no_holdings g.supplier) (agent_holdings p g.supplier) o).own pin ≡ Some c → IsFromMaster p g c
      go None e q = cc
      go (Some b) e q =
          let v = of_find (λ (x : Held). same_key (key_of x.prefix) pin) c (agent_holdings p g.supplier b).own q in
          let d = own_is p g.supplier b c (of_place k g.supplier b e) v.0 in
          from_master b d.0 c e d.1 d.2 (ap (λ (x : Held). key_of x.prefix) (sym d.2) ∙ (key_decides (key_of c.prefix) pin).0 v.1)

  -- ---- what a consumer has

  consumer_so : (c : Copy) (m : ℕ) → copy_at (holdings_at p g.supplier) pin ≡ Some c → c.stamp ≡ Some m → copy_as_of p g (Some m) ≡ record c.held { prefix = g.context }
  consumer_so c m e at = go (consumed_by k g.supplier pin) refl (sym (copies_so p led g.supplier pin) ∙ e)
    where
      some_copy : (x y : Copy) → Some x ≡ Some y → x ≡ y
      some_copy x y q = cc

      go : (o : Option Agreement) → consumed_by k g.supplier pin ≡ o → option_map (copy_by p) o ≡ Some c → copy_as_of p g (Some m) ≡ record c.held { prefix = g.context }
      go None f q = cc
      go (Some own) f q =
          let is : copy_by p own ≡ c = some_copy (copy_by p own) c q in
          let v = of_find (is_consumer g.supplier pin) own k.agreements f in
          let keys : key_of own.context ≡ pin = (key_decides (key_of own.context) pin).0 (both_true (own.consumer == g.supplier) (same_key (key_of own.context) pin) v.1).1 in
          let stamp : as_of p own.number ≡ Some m = ap (λ (x : Copy). x.stamp) is ∙ at in
          ap (λ (x : Key). copy_with k g.context x (part (tree_of_moment p m) x)) (sym keys)
          ∙ spelled k own.context g.context (key_of own.context) (part (tree_of_moment p m) (key_of own.context)) (mastered_at k (key_of own.context))
          ∙ ap (λ (x : Option ℕ). record (copy_as_of p own x) { prefix = g.context }) (sym stamp)
          ∙ ap (λ (x : Copy). record x.held { prefix = g.context }) is

pub master_supplies : MasterSupplies
master_supplies p g c led e = master_so p g led c e

pub consumer_supplies : ConsumerSupplies
consumer_supplies p g c m led e at = consumer_so p g led c m e at
