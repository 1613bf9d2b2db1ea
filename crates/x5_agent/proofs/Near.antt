-- What an agent counts of a name fits an octet, where an octet counts the RDNs of the names that it knows.
use Rattle.std.proofs.Common.{◌≡◌, ◌+◌, ◌≤◌, true, ◌&&◌, inl, inr, ◌++◌, length, map, sym, ap, subst, leb-true, arith}
use Rattle.std.specs.List.{flat_map, list_all}
use Rattle.x5_model.specs.Members.{In}
use Rattle.x5_model.specs.Keys.{same_key}
use Rattle.x5_model.specs.Values.{Name, key_of}
use Rattle.x5_model.specs.References.{Progress, Chained}
use Rattle.x5_model.specs.Requests.{Request}
use Rattle.x5_model.proofs.KeyLaws.{key_decides}
use Rattle.x5_model.proofs.Lists.{both_true, in_either, of_all, of_find, of_flat, of_map}
use Rattle.x5_model_tree.specs.World.{Specific, Nssr}
use Rattle.x5_model_run.specs.Holdings.{Held, Copy, Holdings, known_pins, prefixes, subordinates, usable_copies}
use Rattle.x5_model_theory.proofs.Holding.{usable_is}
use Rattle.x5_model_theory.proofs.Longest.{longest_some}
use Rattle.x5_model_theory.proofs.Stages.{key_length}
use Rattle.x5_model_known.specs.Counted.{is_counted, references_counted, nssrs_counted, context_counted, copy_counted, holdings_counted}
use Rattle.x5_holdings.specs.State.{State, holdings_view}
use Rattle.x5_agent.specs.Answers.{IsNear}
use Rattle.x5_agent.proofs.Shortness.{Bounds, IsWithin, onward_within}

near_bounds : (s : State) (m : Chained) → Bounds 254 (holdings_view s) m → IsNear s m
near_bounds s m b = record {
  pin = λ p e. (let l : length p ≤ 254 + 1 = b.pin p e in omega (arith, l));
  onward = λ r k e q.
      (let w : k ≤ 254 + 1 = subst (λ (x : Progress). IsWithin 254 x) q (onward_within 254 (holdings_view s) m b r e) in
      omega (arith, w));
}

counted_is : (n : Name) → is_counted n ≡ true → length n ≤ 254
counted_is n e = leb-true (length n) 254 e

module _ (h : Holdings) (all : holdings_counted h ≡ true) where
  own_in : (c : Held) → In c h.own → context_counted c ≡ true
  own_in c i = of_all context_counted c h.own (both_true (list_all context_counted h.own) _ all).0 i

  elsewhere : (list_all copy_counted h.copies ≡ true) × ((references_counted h.root && references_counted h.cross) ≡ true)
  elsewhere =
      both_true (list_all copy_counted h.copies) (references_counted h.root && references_counted h.cross)
      (both_true (list_all context_counted h.own) _ all).1

  copy_in : (c : Copy) → In c h.copies → context_counted c.held ≡ true
  copy_in c i = of_all copy_counted c h.copies elsewhere.0 i

  prefix_in : (c : Held) → context_counted c ≡ true → is_counted c.prefix ≡ true
  prefix_in c e = (both_true (is_counted c.prefix) _ e).0

  pin_in : (c : Held) (k : Specific) → context_counted c ≡ true → In k c.subordinate → is_counted k.pin ≡ true
  pin_in c k e i =
      of_all (λ (x : Specific). is_counted x.pin) k c.subordinate
      (both_true (references_counted c.subordinate) (nssrs_counted c.nssrs)
      (both_true (is_counted c.prefix) _ e).1).0 i

  entry_in : (c : Held) (x : Nssr) → context_counted c ≡ true → In x c.nssrs → is_counted x.at ≡ true
  entry_in c x e i =
      of_all (λ (y : Nssr). is_counted y.at) x c.nssrs
      (both_true (references_counted c.subordinate) (nssrs_counted c.nssrs)
      (both_true (is_counted c.prefix) _ e).1).1 i

  usable_counted : (r : Request) (c : Held) → In c (usable_copies r h) → context_counted c ≡ true
  usable_counted r c i =
      let x = usable_is r h c i in
      subst (λ (y : Held). context_counted y ≡ true) (sym x.2) (copy_in x.0 x.1)

  prefixes_counted : (n : Name) → In n (prefixes h) → is_counted n ≡ true
  prefixes_counted n i =
      elim (in_either n (map (λ (c : Held). c.prefix) h.own) (map (λ (c : Copy). c.held.prefix) h.copies) i) [
        | inl j ↦
            let w = of_map (λ (c : Held). c.prefix) n h.own j in
            subst (λ (x : Name). is_counted x ≡ true) (sym w.2) (prefix_in w.0 (own_in w.0 w.1))
        | inr j ↦
            let w = of_map (λ (c : Copy). c.held.prefix) n h.copies j in
            subst (λ (x : Name). is_counted x ≡ true) (sym w.2) (prefix_in w.0.held (copy_in w.0 w.1))
      ]

  subordinates_counted : (r : Request) (k : Specific) → In k (subordinates r h) → is_counted k.pin ≡ true
  subordinates_counted r k i =
      elim (in_either k (flat_map (λ (c : Held). c.subordinate) h.own
      ++ flat_map (λ (c : Held). c.subordinate) (usable_copies r h)) h.root i) [
        | inr j ↦ of_all (λ (x : Specific). is_counted x.pin) k h.root
            (both_true (references_counted h.root) (references_counted h.cross) elsewhere.1).0 j
        | inl j ↦ elim (in_either k (flat_map (λ (c : Held). c.subordinate) h.own)
            (flat_map (λ (c : Held). c.subordinate) (usable_copies r h)) j) [
              | inl l ↦
                  let w = of_flat (λ (c : Held). c.subordinate) k h.own l in
                  pin_in w.0 k (own_in w.0 w.1) w.2
              | inr l ↦
                  let w = of_flat (λ (c : Held). c.subordinate) k (usable_copies r h) l in
                  pin_in w.0 k (usable_counted r w.0 w.1) w.2
            ]
      ]

  pins_known : (r : Request) (n : Name) → In n (known_pins r h) → is_counted n ≡ true
  pins_known r n i =
      elim (in_either n (prefixes h ++ map (λ (k : Specific). k.pin) (subordinates r h))
      (map (λ (k : Specific). k.pin) h.cross) i) [
        | inr j ↦
            let w = of_map (λ (k : Specific). k.pin) n h.cross j in
            subst (λ (x : Name). is_counted x ≡ true) (sym w.2)
            (of_all (λ (x : Specific). is_counted x.pin) w.0 h.cross
            (both_true (references_counted h.root) (references_counted h.cross) elsewhere.1).1 w.1)
        | inl j ↦ elim (in_either n (prefixes h) (map (λ (k : Specific). k.pin) (subordinates r h)) j) [
          | inl l ↦ prefixes_counted n l
          | inr l ↦
              let w = of_map (λ (k : Specific). k.pin) n (subordinates r h) l in
              subst (λ (x : Name). is_counted x ≡ true) (sym w.2) (subordinates_counted r w.0 w.1)
        ]
      ]

  known_bounds : (m : Chained) → Bounds 254 h m
  known_bounds m = record {
    pin = λ p e.
        (let i = (longest_some (map key_of (known_pins m.request h)) (key_of m.target) p e).0 in
        let w = of_map key_of p (known_pins m.request h) i in
        let l : length w.0 ≤ 254 = counted_is w.0 (pins_known m.request w.0 w.1) in
        let same : length p ≡ length (key_of w.0) = ap length w.2 in
        omega (arith, l, same, key_length w.0));
    entry = λ c e x i low q.
        (let w = of_find (λ (y : Nssr). same_key (key_of y.at) (key_of e.name)) x c.nssrs q in
        let l : length x.at ≤ 254 = counted_is x.at (entry_in c x (own_in c i) w.0) in
        let same : length (key_of x.at) ≡ length (key_of e.name) = ap length ((key_decides (key_of x.at)
        (key_of e.name)).0 w.1) in
        omega (arith, l, same, key_length x.at, key_length e.name));
  }

-- at an agent the names of whose knowledge are counted
pub near_held : (s : State) (m : Chained) → holdings_counted (holdings_view s) ≡ true → IsNear s m
near_held s m all = near_bounds s m (known_bounds (holdings_view s) all m)
