-- What an agent's own ground says at an entry of a context that it masters, in terms of that context: its other contexts have
-- other prefixes, and each entry counts in the context of its longest known pin alone.
use Rattle.std.proofs.Common.{◌≡◌, ◌≤◌, Bool, true, false, not, ◌||◌, ◌⊎◌, inl, inr, List, length, refl, sym, ap, subst, ◌∙◌, arith, Option, Some, None}
use Rattle.std.specs.Bool.{Decides}
use Rattle.std.specs.List.{list_any, filter}
use Rattle.x5_model.specs.Words.{has}
use Rattle.x5_model.specs.Members.{In}
use Rattle.x5_model.specs.Keys.{Key, IsPrefix, same_key, is_prefix}
use Rattle.x5_model.specs.Values.{key_of}
use Rattle.x5_model.specs.Entries.{Named}
use Rattle.x5_model.proofs.KeyLaws.{key_decides}
use Rattle.x5_model.proofs.Lists.{in_map, of_map, in_flat, of_flat, in_filter, of_filter}
use Rattle.x5_model.proofs.Prefixes.{prefix_chain, prefix_by_length, prefix_decides}
use Rattle.x5_model.proofs.Decide.{or_decides, any_decides, has_decides}
use Rattle.x5_model_tree.specs.World.{Nssr}
use Rattle.x5_model_tree.specs.Tree.{key_at, keys_of, entry_at, is_there, has_below, belongs}
use Rattle.x5_model_tree.specs.Apply.{At, above_pin, is_taken}
use Rattle.x5_model_tree.proofs.Longest.{IsLongest, belongs_decides}
use Rattle.x5_model_theory.proofs.Views.{there_decides}
use Rattle.x5_model_run.specs.Holdings.{Held}
use Rattle.x5_model_updates.proofs.Lookups.{OneEach, agree, entry_found, none_found}
use Rattle.x5_model_updates.proofs.Grounds.{AbovePin, above_decides, Taken, taken_decides, has_below_decides}
use Rattle.x5_model_updates.proofs.Own.{counted_in, uncounted_in, ats_in, held_ground}
use Rattle.x5_model_updates.proofs.Divided.{one_pin}

abbrev pub counts : List Key → Held → Named → Bool
counts pins d e = belongs pins (key_of d.prefix) (key_at e)

-- ---- entries that count

module _ (pins : List Key) (own : List Held) where
  pub of_counted : (e : Named) → In e (held_ground pins own).entries
      → (d : Held) × In d own × In e d.entries × IsLongest pins (key_at e) (Some (key_of d.prefix))
  of_counted e i =
      let w = of_flat (counted_in pins) e own i in
      let f = of_filter (counts pins w.0) e w.0.entries w.2 in
      (w.0, w.1, f.0, (belongs_decides pins (key_of w.0.prefix) (key_at e)).0 f.1)

  pub in_counted : (e : Named) (d : Held) → In d own → In e d.entries → IsLongest pins (key_at e) (Some (key_of d.prefix))
      → In e (held_ground pins own).entries
  in_counted e d i j l =
      in_flat (counted_in pins) e d own i
      (in_filter (counts pins d) e d.entries j ((belongs_decides pins (key_of d.prefix) (key_at e)).1 l))

  -- ---- new names

  abbrev pub AnyHas : Key → Type 0
  AnyHas key = (d : Held) × In d own × In key (keys_of d.entries)

  pub any_decides_has : (key : Key) → Decides (list_any (λ (d : Held). is_there d.entries key) own) (AnyHas key)
  any_decides_has key =
      any_decides {P = λ (d : Held). In key (keys_of d.entries)} (λ (d : Held). is_there d.entries key) own
      (λ d. there_decides d.entries key)

  by_count : (d : Held) (e : Named) (key : Key) → In d own → In e d.entries → key ≡ key_at e
      → (b : Bool) → counts pins d e ≡ b → Taken (held_ground pins own) key
  by_count d e key i j s true q =
      inl (subst (λ (k : Key). In k (keys_of (held_ground pins own).entries)) (sym s)
      (in_map key_at e (held_ground pins own).entries
      (in_flat (counted_in pins) e d own i (in_filter (counts pins d) e d.entries j q))))
  by_count d e key i j s false q =
      inr (inr (subst (λ (k : Key). In k (held_ground pins own).taken) (sym s)
      (in_flat (uncounted_in pins) (key_at e) d own i
      (in_map key_at e (filter (λ (x : Named). not (counts pins d x)) d.entries)
      (in_filter (λ (x : Named). not (counts pins d x)) e d.entries j (ap not q))))))

  to_taken : (key : Key) → AnyHas key ⊎ In key pins → Taken (held_ground pins own) key
  to_taken key (inl w) = (let e = of_map key_at key w.0.entries w.2 in by_count w.0 e.0 key w.1 e.1 e.2 (counts pins w.0 e.0) refl)
  to_taken key (inr i) = inr (inl i)

  of_taken : (key : Key) → Taken (held_ground pins own) key → AnyHas key ⊎ In key pins
  of_taken key (inl i) =
      let e = of_map key_at key (held_ground pins own).entries i in
      let w = of_counted e.0 e.1 in
      inl (w.0, w.1, subst (λ (k : Key). In k (keys_of w.0.entries)) (sym e.2) (in_map key_at e.0 w.0.entries w.2))
  of_taken key (inr (inl i)) = inr i
  of_taken key (inr (inr i)) =
      let d = of_flat (uncounted_in pins) key own i in
      let e = of_map key_at key (filter (λ (x : Named). not (counts pins d.0 x)) d.0.entries) d.2 in
      let f = of_filter (λ (x : Named). not (counts pins d.0 x)) e.0 d.0.entries e.1 in
      inl (d.0, d.1, subst (λ (k : Key). In k (keys_of d.0.entries)) (sym e.2) (in_map key_at e.0 d.0.entries f.0))

  -- a name is taken where a context has it, or it's a known pin
  pub taken_is : (key : Key) → is_taken (held_ground pins own) key ≡ (list_any (λ (d : Held). is_there d.entries key) own || has same_key pins key)
  taken_is key =
      agree (is_taken (held_ground pins own) key) (list_any (λ (d : Held). is_there d.entries key) own || has same_key pins key)
      (taken_decides (held_ground pins own) key)
      (or_decides {P = AnyHas key} {Q = In key pins} (list_any (λ (d : Held). is_there d.entries key) own) (has same_key pins key)
      (any_decides_has key) (has_decides same_key key_decides pins key))
      (of_taken key) (to_taken key)

-- ---- at a name whose longest known pin is the prefix of one of the contexts

pub record Seat (pins : List Key) (own : List Held) (c : Held) (key : Key) : Type 0 where
  pub mine : In c own
  pub apart : (d : Held) → In d own → key_of d.prefix ≡ key_of c.prefix → d ≡ c
  pub each : OneEach c.entries
  pub long : IsLongest pins key (Some (key_of c.prefix))

module _ (pins : List Key) (own : List Held) (c : Held) (key : Key) (seat : Seat pins own c key) where
  -- what counts at the name is the context's
  here_alone : (e : Named) → In e (held_ground pins own).entries → key_at e ≡ key → In e c.entries
  here_alone e i s =
      let w = of_counted pins own e i in
      let q : key_of w.0.prefix ≡ key_of c.prefix =
      one_pin pins key (key_of w.0.prefix) (key_of c.prefix) (subst (λ (k : Key). IsLongest pins k (Some (key_of w.0.prefix))) s w.3) seat.long in
      subst (λ (d : Held). In e d.entries) (seat.apart w.0 w.1 q) w.2

  here_counts : (e : Named) → In e c.entries → key_at e ≡ key → In e (held_ground pins own).entries
  here_counts e i s =
      in_counted pins own e c seat.mine i (subst (λ (k : Key). IsLongest pins k (Some (key_of c.prefix))) (sym s) seat.long)

  pub same_entry : (e : Named) → entry_at c.entries key ≡ Some e → entry_at (held_ground pins own).entries key ≡ Some e
  same_entry e q = by (entry_at (held_ground pins own).entries key) refl
    where
      found : In e c.entries × (key_at e ≡ key)
      found = entry_found c.entries key e q

      by : (o : Option Named) → entry_at (held_ground pins own).entries key ≡ o → o ≡ Some e
      by None p = absurd (none_found (held_ground pins own).entries key p e (here_counts e found.0 found.1) found.1)
      by (Some f) p =
          let w = entry_found (held_ground pins own).entries key f p in
          ap Some (seat.each f e (here_alone f w.0 w.1) found.0 (w.1 ∙ sym found.1))

  -- ---- pins at it or below it

  abbrev HasNssr : Type 0
  HasNssr = (n : Nssr) × In n c.nssrs × IsPrefix key (key_of n.at)

  of_ats : (n : At) → In n (held_ground pins own).nssrs → IsLongest pins key (Some n.context) → IsPrefix key n.entry → HasNssr
  of_ats n i l p =
      let d = of_flat ats_in n own i in
      let m = of_map (λ (x : Nssr). record { context = key_of d.0.prefix; entry = key_of x.at }) n d.0.nssrs d.2 in
      let q : key_of d.0.prefix ≡ key_of c.prefix =
      one_pin pins key (key_of d.0.prefix) (key_of c.prefix) (subst (λ (x : At). IsLongest pins key (Some x.context)) m.2 l) seat.long in
      (m.0, subst (λ (x : Held). In m.0 x.nssrs) (seat.apart d.0 d.1 q) m.1, subst (λ (x : At). IsPrefix key x.entry) m.2 p)

  of_above : AbovePin (held_ground pins own) key → ((q : Key) × In q pins × IsPrefix key q) ⊎ HasNssr
  of_above (inl w) = inl w
  of_above (inr w) = inr (of_ats w.0 w.1 w.2.0 w.2.1)

  to_above : ((q : Key) × In q pins × IsPrefix key q) ⊎ HasNssr → AbovePin (held_ground pins own) key
  to_above (inl w) = inl w
  to_above (inr w) = inr (
    record { context = key_of c.prefix; entry = key_of w.0.at },
    in_flat ats_in (record { context = key_of c.prefix; entry = key_of w.0.at }) c own seat.mine
        (in_map (λ (x : Nssr). record { context = key_of c.prefix; entry = key_of x.at }) w.0 c.nssrs w.1),
    (seat.long, w.2),
  )

  pub above_is : above_pin (held_ground pins own) key
      ≡ (list_any (is_prefix key) pins || list_any (λ (n : Nssr). is_prefix key (key_of n.at)) c.nssrs)
  above_is =
      agree (above_pin (held_ground pins own) key)
      (list_any (is_prefix key) pins || list_any (λ (n : Nssr). is_prefix key (key_of n.at)) c.nssrs)
      (above_decides (held_ground pins own) key)
      (or_decides {P = (q : Key) × In q pins × IsPrefix key q} {Q = HasNssr} (list_any (is_prefix key) pins)
      (list_any (λ (n : Nssr). is_prefix key (key_of n.at)) c.nssrs)
      (any_decides {P = λ (q : Key). IsPrefix key q} (is_prefix key) pins (λ q. prefix_decides key q))
      (any_decides {P = λ (n : Nssr). IsPrefix key (key_of n.at)} (λ (n : Nssr). is_prefix key (key_of n.at)) c.nssrs
      (λ n. prefix_decides key (key_of n.at))))
      of_above to_above

  -- ---- what is below it, where no pin is

  module _ (none : above_pin (held_ground pins own) key ≡ false) where
    no_pin : (q : Key) → In q pins → IsPrefix key q → ⊥
    no_pin q i p =
        let t : above_pin (held_ground pins own) key ≡ true = (above_decides (held_ground pins own) key).1 (inl (q, i, p)) in
        cc

    -- a pin on the way to what is below it is on the way to it
    on_way : (q x : Key) → In q pins → IsPrefix q x → IsPrefix key x → IsPrefix q key × (length q ≤ length (key_of c.prefix))
    on_way q x i p on =
        let short : length key ≤ length q → ⊥ = (λ l. no_pin q i (prefix_by_length key q x on p l)) in
        let before : IsPrefix q key = prefix_by_length q key x p on (omega (arith, short)) in
        (before, seat.long.1.1 q i before)

    pub below_counts : (x : Key) → IsPrefix key x → IsLongest pins x (Some (key_of c.prefix))
    below_counts x on = (
      seat.long.0,
      (prefix_chain (key_of c.prefix) key x seat.long.1.0 on, λ q i p. (on_way q x i p on).1),
    )

    below_alone : (e : Named) → In e (held_ground pins own).entries → IsPrefix key (key_at e) → In e c.entries
    below_alone e i on =
        let w = of_counted pins own e i in
        let q : key_of w.0.prefix ≡ key_of c.prefix =
        one_pin pins (key_at e) (key_of w.0.prefix) (key_of c.prefix) w.3 (below_counts (key_at e) on) in
        subst (λ (d : Held). In e d.entries) (seat.apart w.0 w.1 q) w.2

    pub below_is : has_below (held_ground pins own).entries key ≡ has_below c.entries key
    below_is =
        agree (has_below (held_ground pins own).entries key) (has_below c.entries key)
        (has_below_decides (held_ground pins own).entries key) (has_below_decides c.entries key)
        (λ w. (w.0, below_alone w.0 w.1 w.2.1, w.2))
        (λ w. (w.0, in_counted pins own w.0 c seat.mine w.1 (below_counts (key_at w.0) w.2.1), w.2))
