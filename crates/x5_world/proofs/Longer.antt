-- The logs that agents keep after a refresh are those of the next line, where the consumer's copy has the log that it should.
use Rattle.std.proofs.Common.{◌≡◌, ℕ, ◌==◌, ◌&&◌, ◌⊎◌, Bool, true, false, if◌then◌else◌, inl, inr, List, [], ◌∷◌, map, slice_get, slice_set, refl, sym, ap, subst, ◌∙◌, Option, Some, None}
use Rattle.std.specs.List.{filter}
use Rattle.std.specs.Option.{option_map}
use Rattle.x5_model.specs.Words.{has, in_option}
use Rattle.x5_model.specs.Members.{In, here, there}
use Rattle.x5_model.specs.Keys.{Key, same_key}
use Rattle.x5_model.specs.Values.{key_of}
use Rattle.x5_model.proofs.KeyLaws.{key_decides}
use Rattle.x5_model.proofs.Decide.{nat_same_decides}
use Rattle.x5_model.proofs.Lists.{and_true, any_in, in_first}
use Rattle.x5_model_tree.specs.World.{Agent, Agreement, Context, World}
use Rattle.x5_model_tree.specs.Masters.{Mastered, agent_at, held_contexts, mastered, masters, pin_of}
use Rattle.x5_model_run.specs.Holdings.{Copy}
use Rattle.x5_model_run.specs.History.{Point, Refreshed, agent_holdings, agreements_of, as_of, holdings_at, knowledge_at, no_holdings}
use Rattle.x5_model_run.specs.Refresh.{base_of}
use Rattle.x5_model_refreshed.specs.Growing.{IsLogOf}
use Rattle.x5_model_refreshed.specs.Refreshed.{after_refresh}
use Rattle.x5_model_refreshed.specs.Replaying.{IsBrought, IsLed, last_256}
use Rattle.x5_model_refreshed.proofs.Bringing.{not_master}
use Rattle.x5_model_refreshed.proofs.Finding.{changed_at, map_alike}
use Rattle.x5_model_refreshed.proofs.Lengths.{other_logs_stay}
use Rattle.x5_model_refreshed.proofs.Placing.{context_key, is_placed, of_consumer, once_agreements, one_number, place_of, supplies}
use Rattle.x5_model_refreshed.proofs.Refreshed.{copy_is_stamped, other_stamps_stay}
use Rattle.x5_world.specs.Logs.{Notes, agent_logs, logs_at, no_logs, notes_at}

notes_same : (p q : Point) (a : ℕ) (pin : Key) → IsLogOf p q a pin → notes_at q a pin ≡ notes_at p a pin
notes_same p q a pin is = λ i. record { base = base_of (is.changes i); changes = last_256 (is.log i) }

of_held : (before : List Key) (cs : List Context) (c : Context) → In c (held_contexts before cs) → In c cs
of_held before [] c i = elim i [ ]
of_held before (x ∷ cs) c i =
    go (has same_key before (key_of x.prefix)) i (of_held before cs c) (of_held (key_of x.prefix ∷ before) cs c)
  where
    go : (b : Bool) → In c (if b then held_contexts before cs else (x ∷ held_contexts (key_of x.prefix ∷ before) cs))
        → (In c (held_contexts before cs) → In c cs)
        → (In c (held_contexts (key_of x.prefix ∷ before) cs) → In c cs) → In c (x ∷ cs)
    go true j f g = there (f j)
    go false j f g = elim (in_first c x (held_contexts (key_of x.prefix ∷ before) cs) j) [
      | inl e ↦ subst (λ (y : Context). In c (y ∷ cs)) e here
      | inr k ↦ there (g k)
    ]

module _ (p : Point) (f : Refreshed) (sent : ℕ) (g : Agreement) (led : IsLed p) (is : IsBrought p f)
    (mine : In g (knowledge_at p).agreements) (numbered : g.number ≡ f.agreement) where
  abbrev next : Point
  next = after_refresh p f sent

  abbrev k : World
  k = knowledge_at p

  abbrev pin : Key
  pin = key_of g.context

  it_masters : (a : ℕ) (b : Agent) (c : Context) → agent_at k a ≡ Some b → In c (held_contexts [] b.contexts)
      → masters k a (key_of c.prefix) ≡ true
  it_masters a b c e i =
      any_in (λ (m : Mastered). (m.master == a) && same_key (pin_of m) (key_of c.prefix)) (record { master = a; context = c }) (mastered k)
      (is_placed p led a b c e (of_held [] b.contexts c i))
      (and_true (a == a) (same_key (key_of c.prefix) (key_of c.prefix)) ((nat_same_decides a a).1 refl)
      ((key_decides (key_of c.prefix) (key_of c.prefix)).1 refl))

  abbrev copy_notes : Point → ℕ → Agreement → Option Notes
  copy_notes q a y = option_map (λ (stamp : ℕ). notes_at q a (key_of y.context)) (as_of q y.number)

  own_stay : (a : ℕ) (b : Agent) → agent_at k a ≡ Some b
      → ((q : Key) → masters k a q ≡ true → ((a ≡ g.consumer) → ⊥) ⊎ ((q ≡ pin) → ⊥))
      → map (λ (c : Context). notes_at next a (key_of c.prefix)) (held_contexts [] b.contexts)
      ≡ map (λ (c : Context). notes_at p a (key_of c.prefix)) (held_contexts [] b.contexts)
  own_stay a b e why =
      map_alike (λ (c : Context). notes_at next a (key_of c.prefix)) (λ (c : Context). notes_at p a (key_of c.prefix))
      (held_contexts [] b.contexts)
      (λ c i. notes_same p next a (key_of c.prefix)
      (other_logs_stay p f sent g a (key_of c.prefix) led is mine numbered (why (key_of c.prefix) (it_masters a b c e i))))

  stays : (a : ℕ) (y : Agreement) → (y.number ≡ g.number → ⊥) → ((a ≡ g.consumer) → ⊥) ⊎ ((key_of y.context ≡ pin) → ⊥)
      → copy_notes next a y ≡ copy_notes p a y
  stays a y other why =
      ap (option_map (λ (stamp : ℕ). notes_at next a (key_of y.context)))
      (other_stamps_stay p f sent y.number (λ q. other (q ∙ sym numbered)))
      ∙ ap (λ (n : Notes). option_map (λ (stamp : ℕ). n) (as_of p y.number))
      (notes_same p next a (key_of y.context) (other_logs_stay p f sent g a (key_of y.context) led is mine numbered why))

  -- every other agent has the logs that it had
  pub others_logs : (a : ℕ) → ((a ≡ g.consumer) → ⊥) → logs_at next a ≡ logs_at p a
  others_logs a d = go (agent_at k a) refl
    where
      other : (y : Agreement) → In y (agreements_of k a) → copy_notes next a y ≡ copy_notes p a y
      other y j =
          let v = of_consumer k a y j in
          stays a y (λ q. d (sym v.1 ∙ ap (λ (x : Agreement). x.consumer) (one_number p led y g v.0 mine q))) (inl d)

      go : (o : Option Agent) → agent_at k a ≡ o
          → in_option no_logs (agent_logs next a) o ≡ in_option no_logs (agent_logs p a) o
      go None e = refl
      go (Some b) e =
          let own = own_stay a b e (λ q m. inl d) in
          let copies = map_alike (copy_notes next a) (copy_notes p a) (agreements_of k a) other in
          λ i. record { own = own i; copies = copies i }

  -- and the consumer all but the copy's
  pub consumer_logs : (place : ℕ) (c : Copy) → slice_get (holdings_at p g.consumer).copies place ≡ Some c
      → key_of c.held.prefix ≡ pin
      → logs_at next g.consumer ≡ record (logs_at p g.consumer) {
        copies = slice_set (logs_at p g.consumer).copies place (Some (notes_at next g.consumer pin));
      }
  consumer_logs place c at same = go (agent_at k g.consumer) refl at
    where
      at_place : slice_get (agreements_of k g.consumer) place ≡ Some g
      at_place = (place_of p led g place c mine at same).1

      other : (y : Agreement) → In y (agreements_of k g.consumer) → (context_key y ≡ context_key g → ⊥)
          → copy_notes next g.consumer y ≡ copy_notes p g.consumer y
      other y j d =
          stays g.consumer y
          (λ q. d (ap context_key (one_number p led y g (of_consumer k g.consumer y j).0 mine q))) (inr d)

      stamp : as_of next g.number ≡ Some f.stamp
      stamp = subst (λ (n : ℕ). as_of next n ≡ Some f.stamp) (sym numbered) (copy_is_stamped p f sent)

      copies : map (copy_notes next g.consumer) (agreements_of k g.consumer)
          ≡ slice_set (map (copy_notes p g.consumer) (agreements_of k g.consumer)) place (Some (notes_at next g.consumer pin))
      copies =
          changed_at (copy_notes p g.consumer) (copy_notes next g.consumer) context_key (agreements_of k g.consumer) place g
          (once_agreements [] (filter (λ (x : Agreement). x.consumer == g.consumer) k.agreements)) at_place other
          ∙ ap (λ (o : Option ℕ). slice_set (map (copy_notes p g.consumer) (agreements_of k g.consumer)) place (option_map (λ (z : ℕ). notes_at next g.consumer pin) o)) stamp

      not_own : (q : Key) → masters k g.consumer q ≡ true → (q ≡ pin) → ⊥
      not_own q m e = never (sym (not_master k g mine (supplies p led g mine)) ∙ ap (masters k g.consumer) (sym e) ∙ m)
        where
          never : false ≡ true → ⊥
          never z = cc

      go : (o : Option Agent) → agent_at k g.consumer ≡ o
          → slice_get (in_option (no_holdings g.consumer) (agent_holdings p g.consumer) o).copies place ≡ Some c
          → in_option no_logs (agent_logs next g.consumer) o ≡ record (in_option no_logs (agent_logs p g.consumer) o) {
            copies = slice_set (in_option no_logs (agent_logs p g.consumer) o).copies place (Some (notes_at next g.consumer pin));
          }
      go None e q = cc
      go (Some b) e q =
          let own = own_stay g.consumer b e (λ z m. inr (not_own z m)) in
          λ i. record { own = own i; copies = copies i }
