-- The references of name resolution lead on.
use Rattle.std.proofs.Common.{◌≡◌, ℕ, ◌+◌, ◌-◌, ◌<◌, ◌≤◌, nat_le, Bool, true, false, not, ◌&&◌, ◌⊎◌, inl, inr, List, [], ◌∷◌, ◌++◌, length, take, drop, map, refl, sym, ap, subst, ◌∙◌, arith, Option, Some, None, if◌then◌else◌}
use Rattle.std.proofs.lemmas.Bool.Decides.{leb_tells}
use Rattle.x5_model.specs.Words.{is_empty, in_option, when}
use Rattle.x5_model.specs.Members.{In}
use Rattle.x5_model.specs.Keys.{Key, IsPrefix, same_key, is_prefix}
use Rattle.x5_model.specs.Values.{Name, key_of}
use Rattle.x5_model.specs.Entries.{Named}
use Rattle.x5_model.specs.References.{Progress, Start, Next, Done, Reference, RefType, Superior, Subordinate, Cross, NonSpecific, Supplier, Chained}
use Rattle.x5_model.proofs.KeyLaws.{key_decides}
use Rattle.x5_model.proofs.Lists.{both_true, not_true, in_first, in_either, in_left, in_map, of_map, of_any, of_find, not_found, of_filter}
use Rattle.x5_model.proofs.Prefixes.{prefix_itself, prefix_length, prefix_decides, same_by_length}
use Rattle.x5_model_tree.specs.World.{Specific, Nssr, Agent, Agreement, World}
use Rattle.x5_model_tree.specs.Tree.{key_at, keys_of, is_there, lowest, belongs}
use Rattle.x5_model_tree.specs.Masters.{numbered, holds, superior_of, supplier_of}
use Rattle.x5_model_run.specs.Holdings.{Held, Copy, Holdings, usable_agents, held_at, copy_at, prefixes, subordinates, known_pins, known_pin, holds_within}
use Rattle.x5_model_run.specs.History.{Point, knowledge_at, tree_at, copy_by, no_holdings, holdings_at}
use Rattle.x5_model_run.specs.Journal.{item_of, is_wide, same_name}
use Rattle.x5_model_run.specs.Needs.{others, reference, proceeding, resolves, superior_needs, nssr_at, multicast_needs, copy_answers, supplier_needs, specific_at, specific_needs, pin_needs, resolution_needs}
use Rattle.x5_model_run.specs.Placed.{is_brought}
use Rattle.x5_model_run.specs.Stage.{Stage, stage_of, is_lower, steps_to_master}
use Rattle.x5_model_theory.specs.Knowledge.{Supply, IsMastered}
use Rattle.x5_model_theory.specs.Coherent.{Coherent, IsFed, fed}
use Rattle.x5_model_theory.specs.Described.{knowledge_of, supply_of}
use Rattle.x5_model_theory.specs.Leading.{IsSound, message_for, IsFurther, Leads, ResolutionLeads}
use Rattle.x5_model_theory.proofs.Tests.{false_true}
use Rattle.x5_model_theory.proofs.Views.{there_decides, superior_at}
use Rattle.x5_model_theory.proofs.Stages.{lower_decides, key_length}
use Rattle.x5_model_theory.proofs.Holding.{good_at, IsHeld, holds_decides, by_agent, own_is, copy_is, copy_key, IsRightAccess, subordinates_right, crosses_right, usable_holds}
use Rattle.x5_model_theory.proofs.Deciding.{dec_nat}
use Rattle.x5_model_theory.proofs.Supplying.{supplier_is}
use Rattle.x5_model_theory.proofs.Cohering.{agreements_apart}
use Rattle.x5_model_theory.proofs.Distances.{superior_nearer, supplier_nearer}
use Rattle.x5_model_theory.proofs.Longest.{longest_some, longest_none, belongs_below, lowest_is, respelled_key}

-- what a message that is resolved here says of how far it came
pub resolved : (h : Holdings) (m : Chained) (P : Progress → Type 0) → resolves h m ≡ true
    → P Start → ((k : ℕ) → holds_within h (key_of m.target) k ≡ true → P (Next k)) → P m.progress
resolved h m P e s n = go m.progress e
  where
    go : (x : Progress) → resolves h (record m { progress = x }) ≡ true → P x
    go Start e = s
    go (Next k) e = n k e
    go Done e = absurd (false_true e)

-- a held prefix on the way that goes so far
pub within_is : (h : Holdings) (n : Key) (k : ℕ) → holds_within h n k ≡ true → (x : Name) × In x (prefixes h) × IsPrefix (key_of x) n × (k ≤ length (key_of x))
within_is h n k e =
    let w = of_any (λ (x : Name). is_prefix (key_of x) n && nat_le k (length x)) (prefixes h) e in
    let b = both_true (is_prefix (key_of w.0) n) (nat_le k (length w.0)) w.2 in
    let le : k ≤ length w.0 = elim (leb_tells k (length w.0)) [ inl t ↦ t.1 | inr f ↦ absurd (false_true (sym f.0 ∙ b.1)) ] in
    (w.0, w.1, (prefix_decides (key_of w.0) n).0 b.0, subst (λ (x : ℕ). k ≤ x) (sym (key_length w.0)) le)

known_prefix : (req : _) (h : Holdings) (x : Name) → In x (prefixes h) → In (key_of x) (map key_of (known_pins req h))
known_prefix req h x i = in_map key_of x (known_pins req h) (in_left x (prefixes h ++ map (λ (k : Specific). k.pin) (subordinates req h)) (map (λ (k : Specific). k.pin) h.cross) (in_left x (prefixes h) (map (λ (k : Specific). k.pin) (subordinates req h)) i))

-- who supplies a copy holds the context
fed_holds : (w : World) (q : Key) (n a : ℕ) → IsFed (knowledge_of w) q n a → IsHeld w a q
fed_holds w q n a (IsFed.ends m) = inl m
fed_holds w q n a (fed s i c p f) = inr (s, i, c, p)

-- what is held is no root
fed_filled : (w : World) (q : Key) (n a : ℕ) → Coherent (knowledge_of w) → IsFed (knowledge_of w) q n a → 0 < length q
fed_filled w q n a good (IsFed.ends m) = subst (λ (x : Key). 0 < length x) m.3 (good.filled m.0 m.1)
fed_filled w q n a good (fed {hops = j} s i c p f) = fed_filled w q j s.supplier good f

held_filled : (w : World) → Coherent (knowledge_of w) → (a : ℕ) (q : Key) → IsHeld w a q → 0 < length q
held_filled w good a q (inl m) = subst (λ (x : Key). 0 < length x) m.3 (good.filled m.0 m.1)
held_filled w good a q (inr s) = subst (λ (x : Key). 0 < length x) s.3 (fed_filled w s.0.prefix 4 s.0.consumer good (good.supplied s.0 s.1))

pub supplier_of_fed : (w : World) (q : Key) (o a : ℕ) → Coherent (knowledge_of w) → (IsMastered (knowledge_of w) o q → ⊥) → (s : Supply) → In s (knowledge_of w).supplies → s.consumer ≡ o → s.prefix ≡ q → s.supplier ≡ a
    → IsFed (knowledge_of w) q 4 o → IsHeld w a q
supplier_of_fed w q o a good free s i c p is (IsFed.ends m) = absurd (free m)
supplier_of_fed w q o a good free s i c p is (fed x j d r f) =
    let same : x ≡ s = good.one_supply x s j i (d ∙ sym c) (r ∙ sym p) in
    subst (λ (y : ℕ). IsHeld w y q) (ap (λ (y : Supply). y.supplier) same ∙ is) (fed_holds w q 3 x.supplier f)

-- what brings a message with a length
abbrev next_brought : Point → ℕ → ℕ → Name → Bool → Bool
next_brought p a k target false = nat_le k (length target) && holds (knowledge_at p) a (take k (key_of target))
next_brought p a k target true = is_there (tree_at p).entries (take (k - 1) (key_of target))

-- a message to go on with a length
module _ (p : Point) (o : ℕ) (m : Chained) where
  abbrev pub w : World
  w = knowledge_at p

  abbrev h : Holdings
  h = holdings_at p o

  pub next_lower : (a k : ℕ) (target : Name) (wide : Bool) → resolves h m ≡ true
      → ((j : ℕ) → holds_within h (key_of m.target) j ≡ true → (j < k) ⊎ ((j ≡ k) × (steps_to_master 4 w (take k (key_of target)) a < steps_to_master 4 w (take j (key_of m.target)) o)))
      → is_lower (stage_of w (item_of o m)) (stage_of w (record { agent = a; target = target; progress = Next k; wide = wide })) ≡ true
  next_lower a k target wide e f =
      let after : Stage = stage_of w (record { agent = a; target = target; progress = Next k; wide = wide }) in
      resolved h m (λ x. is_lower (stage_of w (record { agent = o; target = m.target; progress = x; wide = is_wide m.kind })) after ≡ true) e
      ((lower_decides (stage_of w (record { agent = o; target = m.target; progress = Start; wide = is_wide m.kind })) after).1 (inl (omega arith)))
      (λ j d. (lower_decides (stage_of w (record { agent = o; target = m.target; progress = Next j; wide = is_wide m.kind })) after).1
      (elim (f j d) [ inl less ↦ inr (refl, inl less) | inr level ↦ inr (refl, inr (level.0, inr (refl, level.1))) ]))

  pub next_further : (a k : ℕ) (target : Name) (wide : Bool) → resolves h m ≡ true → 0 < k
      → ((j : ℕ) → holds_within h (key_of m.target) j ≡ true → (j < k) ⊎ ((j ≡ k) × (steps_to_master 4 w (take k (key_of target)) a < steps_to_master 4 w (take j (key_of m.target)) o)))
      → IsFurther w (item_of o m) (record { agent = a; target = target; progress = Next k; wide = wide })
  next_further a k target wide e some f =
      resolved h m (λ x. IsFurther w (record { agent = o; target = m.target; progress = x; wide = is_wide m.kind }) (record { agent = a; target = target; progress = Next k; wide = wide })) e
      (inl some) (λ j d. f j d)

  -- of a longer known pin
  pub beyond : (q : Key) → known_pin m.request h (key_of m.target) ≡ Some q → (j : ℕ) → holds_within h (key_of m.target) j ≡ true → j ≤ length q
  beyond q e j d =
      let x = within_is h (key_of m.target) j d in
      let l = longest_some (map key_of (known_pins m.request h)) (key_of m.target) q e in
      let le : length (key_of x.0) ≤ length q = l.2 (key_of x.0) (known_prefix m.request h x.0 x.1) x.2 in
      let ge : j ≤ length (key_of x.0) = x.3 in
      omega arith

  -- 1
  superior_leads : (r : Reference) (a : ℕ) → IsSound p → resolves h m ≡ true → known_pin m.request h (key_of m.target) ≡ None → In r (superior_needs h m) → In a r.agents → Leads p o m r a
  superior_leads r a sound e none =
      by_agent p o (λ x. In r (superior_needs x m) → In a r.agents → Leads p o m r a) (λ i. elim i [ ])
      (λ agent ia. at agent.superior (superior_at w o agent ia) (in_map (λ (y : ℕ × Agent). y.0) (o, agent) (numbered w) ia))
    where
      start : (P : Progress → Type 0) → P Start → P m.progress
      start P s = resolved h m P e s (λ k d. (let x = within_is h (key_of m.target) k d in
          absurd (longest_none (map key_of (known_pins m.request h)) (key_of m.target) none (key_of x.0) (known_prefix m.request h x.0 x.1) x.2)))

      led : (s : ℕ) → superior_of w o ≡ Some s → In o (map (λ (y : ℕ × Agent). y.0) (numbered w)) → Leads p o m (reference m.target Start Superior (s ∷ [])) s
      led s up io = record {
        lower = start (λ x. is_lower (stage_of w (record { agent = o; target = m.target; progress = x; wide = is_wide m.kind })) (stage_of w (record { agent = s; target = m.target; progress = Start; wide = false })) ≡ true)
            ((lower_decides (stage_of w (record { agent = o; target = m.target; progress = Start; wide = is_wide m.kind })) (stage_of w (record { agent = s; target = m.target; progress = Start; wide = false }))).1
            (inr (refl, inr (refl, inr (refl, superior_nearer w 15 o s ((good_at p sound).chain o io) up)))));
        further = start (λ x. IsFurther w (record { agent = o; target = m.target; progress = x; wide = is_wide m.kind }) (record { agent = s; target = m.target; progress = Start; wide = false }))
            (inr (refl, superior_nearer w 15 o s ((good_at p sound).chain o io) up));
        bounded = λ n l f. omega arith;
        brought = refl;
        keeps = inr (refl, refl);
        late = inl refl;
      }

      at : (x : Option ℕ) → superior_of w o ≡ x → In o (map (λ (y : ℕ × Agent). y.0) (numbered w)) → In r (superior_needs (record (no_holdings o) { superior = x }) m) → In a r.agents → Leads p o m r a
      at None up io i j = elim i [ ]
      at (Some s) up io i j =
          let one : r ≡ reference m.target Start Superior (s ∷ []) = elim (in_first r (reference m.target Start Superior (s ∷ [])) [] i) [ inl x ↦ x | inr y ↦ elim y [ ] ] in
          let agent : a ≡ s = elim (in_first a s [] (subst (λ (x : Reference). In a x.agents) one j)) [ inl x ↦ x | inr y ↦ elim y [ ] ] in
          subst (λ (x : Reference). Leads p o m x a) (sym one) (subst (λ (y : ℕ). Leads p o m (reference m.target Start Superior (s ∷ [])) y) (sym agent) (led s up io))

  -- 2
  pub own_part : (c : Held) (e : Named) → In c h.own → In e c.entries → IsPrefix (key_of c.prefix) (key_at e) × In e (tree_at p).entries
  own_part c e =
      by_agent p o (λ x. In c x.own → In e c.entries → IsPrefix (key_of c.prefix) (key_at e) × In e (tree_at p).entries) (λ i j. elim i [ ])
      (λ agent ia i j.
      let d = own_is p o agent c ia i in
      let f = of_filter (λ (y : Named). belongs (tree_at p).pins (key_of d.0.prefix) (key_at y)) e (tree_at p).entries (subst (λ (x : Held). In e x.entries) d.2 j) in
      (subst (λ (x : Held). IsPrefix (key_of x.prefix) (key_at e)) (sym d.2) (belongs_below (tree_at p).pins (key_of d.0.prefix) (key_at e) f.1), f.0))

  pub held_is : (q : Key) (c : Held) → held_at h.own q ≡ Some c → In c h.own × (key_of c.prefix ≡ q)
  held_is q c e = let f = of_find (λ (x : Held). same_key (key_of x.prefix) q) c h.own e in (f.0, (key_decides (key_of c.prefix) q).0 f.1)

  multicast_led : (q : Key) (c : Held) (e : Named) (agents : List ℕ) (a : ℕ) → resolves h m ≡ true → known_pin m.request h (key_of m.target) ≡ Some q → In c h.own → key_of c.prefix ≡ q
      → In e c.entries → IsPrefix (key_at e) (key_of m.target) → same_name e.name m.target ≡ false → Leads p o m (proceeding (length e.name + 1) e.name m.target NonSpecific agents) a
  multicast_led q c e agents a res known ic is ie on other =
      let part = own_part c e ic ie in
      let k : ℕ = length e.name + 1 in
      let back : k - 1 ≡ length e.name = omega arith in
      let target : Name = take (k - 1) e.name ++ drop (k - 1) m.target in
      let le : k - 1 ≤ length e.name = omega arith in
      let same : key_of target ≡ key_of m.target = respelled_key (k - 1) e.name m.target le on in
      let el : length (key_at e) ≡ length e.name = key_length e.name in
      let ql : length q ≤ length (key_at e) = subst (λ (x : Key). length x ≤ length (key_at e)) is (prefix_length (key_of c.prefix) (key_at e) part.0) in
      let at : take (k - 1) (key_of target) ≡ key_at e =
      ap (take (k - 1)) same ∙ ap (λ (n : ℕ). take n (key_of m.target)) (back ∙ sym el) ∙ on in
      record {
        lower = next_lower a k target true res (λ j d. let jl : j ≤ length q = beyond q known j d in inl (omega arith));
        further = next_further a k target true res (omega arith) (λ j d. let jl : j ≤ length q = beyond q known j d in inl (omega arith));
        bounded = λ n l f.
            let le : length (key_at e) ≤ length (key_of m.target) = prefix_length (key_at e) (key_of m.target) on in
            let tl : length (key_of m.target) ≡ length m.target = key_length m.target in
            let ne : length (key_at e) ≡ length (key_of m.target) → ⊥ = λ level.
            false_true (sym other ∙ (key_decides (key_of e.name) (key_of m.target)).1 (same_by_length (key_at e) (key_of m.target) (key_of m.target) on (prefix_itself (key_of m.target)) level)) in
            omega (arith, ne);
        brought = (there_decides (tree_at p).entries (take (k - 1) (key_of target))).1 (subst (λ (x : Key). In x (keys_of (tree_at p).entries)) (sym at) (in_map key_at e (tree_at p).entries part.1));
        keeps = inr (same, refl);
        late = inl refl;
      }

  of_when : (b : Bool) (x r : Reference) → In r (when b x) → r ≡ x
  of_when true x r i = elim (in_first r x [] i) [ inl e ↦ e | inr j ↦ elim j [ ] ]
  of_when false x r i = elim i [ ]

  when_true : (b : Bool) (x r : Reference) → In r (when b x) → b ≡ true
  when_true true x r i = refl
  when_true false x r i = elim i [ ]

  multicast_leads : (q : Key) (c : Held) (r : Reference) (a : ℕ) → resolves h m ≡ true → known_pin m.request h (key_of m.target) ≡ Some q → held_at h.own q ≡ Some c → In r (multicast_needs h m c) → Leads p o m r a
  multicast_leads q c r a res known held i = from_entry (lowest c.entries (key_of m.target)) refl i
    where
      ask : Named → Nssr → List Reference
      ask e n = when (not (same_name e.name m.target) && not (is_empty (others h.me n.agents))) (proceeding (length e.name + 1) e.name m.target NonSpecific (others h.me n.agents))

      from_nssr : (e : Named) → lowest c.entries (key_of m.target) ≡ Some e → (x : Option Nssr) → In r (in_option [] (ask e) x) → Leads p o m r a
      from_nssr e low None j = elim j [ ]
      from_nssr e low (Some n) j =
          let one : r ≡ proceeding (length e.name + 1) e.name m.target NonSpecific (others h.me n.agents) = of_when (not (same_name e.name m.target) && not (is_empty (others h.me n.agents))) _ r j in
          let f = held_is q c held in
          let l = lowest_is c.entries (key_of m.target) e low in
          let other : same_name e.name m.target ≡ false = not_true (same_name e.name m.target) (both_true (not (same_name e.name m.target)) _ (when_true (not (same_name e.name m.target) && not (is_empty (others h.me n.agents))) _ r j)).0 in
          subst (λ (x : Reference). Leads p o m x a) (sym one) (multicast_led q c e (others h.me n.agents) a res known f.0 f.1 l.0 l.1 other)

      from_entry : (x : Option Named) → lowest c.entries (key_of m.target) ≡ x → In r (in_option [] (λ (e : Named). in_option [] (ask e) (nssr_at c.nssrs (key_of e.name))) x) → Leads p o m r a
      from_entry None low j = elim j [ ]
      from_entry (Some e) low j = from_nssr e low (nssr_at c.nssrs (key_of e.name)) j

  on_way : (q : Key) (k n : ℕ) → k ≡ length q → IsPrefix q (key_of m.target) → length m.target ≤ n → k ≤ n
  on_way q k n kl on tl =
      let le : length q ≤ length (key_of m.target) = prefix_length q (key_of m.target) on in
      let e : length (key_of m.target) ≡ length m.target = key_length m.target in
      omega arith

  -- to agents that hold the context of the longest known pin
  specific_brought : (q : Key) (kept : Name) (kind : RefType) (agents : List ℕ) (a : ℕ) → is_wide kind ≡ false → known_pin m.request h (key_of m.target) ≡ Some q → key_of kept ≡ q → IsHeld w a q
      → is_brought p (message_for m (proceeding (length kept) kept m.target kind agents)) a ≡ true
  specific_brought q kept kind agents a narrow known is held = by_kind (is_wide kind) narrow
    where
      k : ℕ
      k = length kept

      target : Name
      target = take (length kept - 1) kept ++ drop (length kept - 1) m.target

      l : In q (map key_of (known_pins m.request h)) × IsPrefix q (key_of m.target) × ((y : Key) → In y (map key_of (known_pins m.request h)) → IsPrefix y (key_of m.target) → length y ≤ length q)
      l = longest_some (map key_of (known_pins m.request h)) (key_of m.target) q known

      on : IsPrefix (key_of kept) (key_of m.target)
      on = subst (λ (x : Key). IsPrefix x (key_of m.target)) (sym is) l.1

      same : key_of (take (length kept - 1) kept ++ drop (length kept - 1) m.target) ≡ key_of m.target
      same = let le : length kept - 1 ≤ length kept = omega arith in respelled_key (length kept - 1) kept m.target le on

      kl : length kept ≡ length q
      kl = sym (key_length kept) ∙ ap length is

      at : take (length kept) (key_of (take (length kept - 1) kept ++ drop (length kept - 1) m.target)) ≡ q
      at = ap (take (length kept)) same ∙ ap (λ (n : ℕ). take n (key_of m.target)) kl ∙ l.1

      reaches : nat_le (length kept) (length (take (length kept - 1) kept ++ drop (length kept - 1) m.target)) ≡ true
      reaches =
          let ql : length q ≤ length (key_of m.target) = prefix_length q (key_of m.target) l.1 in
          let tl : length (key_of (take (length kept - 1) kept ++ drop (length kept - 1) m.target)) ≡ length (key_of m.target) = ap length same in
          let nl : length (key_of (take (length kept - 1) kept ++ drop (length kept - 1) m.target)) ≡ length (take (length kept - 1) kept ++ drop (length kept - 1) m.target) = key_length (take (length kept - 1) kept ++ drop (length kept - 1) m.target) in
          elim (leb_tells (length kept) (length (take (length kept - 1) kept ++ drop (length kept - 1) m.target))) [
            | inl t ↦ t.0
            | inr f ↦ (let less : length (take (length kept - 1) kept ++ drop (length kept - 1) m.target) < length kept = f.1 in let e : length kept ≡ length q = kl in absurd (omega arith))
          ]

      holding : holds w a (take (length kept) (key_of (take (length kept - 1) kept ++ drop (length kept - 1) m.target))) ≡ true
      holding = subst (λ (x : Key). holds w a x ≡ true) (sym at) ((holds_decides w a q).1 held)

      true_both : (b c : Bool) → b ≡ true → c ≡ true → (b && c) ≡ true
      true_both true c x y = y
      true_both false c x y = absurd (false_true x)

      by_kind : (b : Bool) → b ≡ false → next_brought p a (length kept) (take (length kept - 1) kept ++ drop (length kept - 1) m.target) b ≡ true
      by_kind true e = absurd (false_true (sym e))
      by_kind false e = true_both _ _ reaches holding

  -- 3
  pub copy_of : (q : Key) (c : Copy) → copy_at h q ≡ Some c → (g : Agreement) × In g w.agreements × (g.consumer ≡ o) × (c ≡ copy_by p g) × (key_of g.context ≡ q)
  copy_of q c e =
      let f = of_find (λ (x : Copy). same_key (key_of x.held.prefix) q) c h.copies e in
      let is : key_of c.held.prefix ≡ q = (key_decides (key_of c.held.prefix) q).0 f.1 in
      by_agent p o (λ x. In c x.copies → (g : Agreement) × In g w.agreements × (g.consumer ≡ o) × (c ≡ copy_by p g) × (key_of g.context ≡ q)) (λ i. elim i [ ])
      (λ agent ia i. (let g = copy_is p o agent c i in (g.0, g.1, g.2, g.3, sym (copy_key p g.0) ∙ ap (λ (x : Copy). key_of x.held.prefix) (sym g.3) ∙ is))) f.0

  supplier_led : (q : Key) (c : Copy) (a : ℕ) → IsSound p → resolves h m ≡ true → known_pin m.request h (key_of m.target) ≡ Some q → copy_at h q ≡ Some c → a ≡ c.supplier
      → Leads p o m (proceeding (length c.held.prefix) c.held.prefix m.target Supplier (c.supplier ∷ [])) a
  supplier_led q c a sound res known copied is_a =
      let good = good_at p sound in
      let g = copy_of q c copied in
      let s : Supply = supply_of g.0 in
      let is : In s (knowledge_of w).supplies = in_map supply_of g.0 w.agreements g.1 in
      let supplier : a ≡ g.0.supplier = is_a ∙ ap (λ (x : Copy). x.supplier) g.3 in
      let prefix : key_of c.held.prefix ≡ q = ap (λ (x : Copy). key_of x.held.prefix) g.3 ∙ copy_key p g.0 ∙ g.4 in
      let apart = agreements_apart w sound.consistent in
      let free : IsMastered (knowledge_of w) o q → ⊥ = subst (λ (x : Key). IsMastered (knowledge_of w) o x → ⊥) g.4 (subst (λ (x : ℕ). IsMastered (knowledge_of w) x s.prefix → ⊥) g.2 (good.consumers s is)) in
      let chain : IsFed (knowledge_of w) q 4 o = subst (λ (x : Key). IsFed (knowledge_of w) x 4 o) g.4 (subst (λ (x : ℕ). IsFed (knowledge_of w) s.prefix 4 x) g.2 (good.supplied s is)) in
      let by : supplier_of w o q ≡ Some a = subst (λ (x : ℕ). supplier_of w x q ≡ Some a) g.2 (subst (λ (x : Key). supplier_of w g.0.consumer x ≡ Some a) g.4 (supplier_is w s apart is ∙ ap Some (sym supplier))) in
      let held : IsHeld w a q = supplier_of_fed w q o a good free s is g.2 g.4 (sym supplier) chain in
      let near : steps_to_master 4 w q a < steps_to_master 4 w q o = supplier_nearer w q 3 o a apart chain free by in
      let k : ℕ = length c.held.prefix in
      let l = longest_some (map key_of (known_pins m.request h)) (key_of m.target) q known in
      let on : IsPrefix (key_of c.held.prefix) (key_of m.target) = subst (λ (x : Key). IsPrefix x (key_of m.target)) (sym prefix) l.1 in
      let le : k - 1 ≤ length c.held.prefix = omega arith in
      let same : key_of (take (k - 1) c.held.prefix ++ drop (k - 1) m.target) ≡ key_of m.target = respelled_key (k - 1) c.held.prefix m.target le on in
      let kl : k ≡ length q = sym (key_length c.held.prefix) ∙ ap length prefix in
      let at : take k (key_of (take (k - 1) c.held.prefix ++ drop (k - 1) m.target)) ≡ q = ap (take k) same ∙ ap (λ (n : ℕ). take n (key_of m.target)) kl ∙ l.1 in
      let level : (j : ℕ) → holds_within h (key_of m.target) j ≡ true
      → (j < k) ⊎ ((j ≡ k) × (steps_to_master 4 w (take k (key_of (take (k - 1) c.held.prefix ++ drop (k - 1) m.target))) a < steps_to_master 4 w (take j (key_of m.target)) o)) = λ j d.
      let jl : j ≤ length q = beyond q known j d in
      elim (dec_nat j k) [
        | inl e ↦
            let mine : take j (key_of m.target) ≡ q = ap (λ (n : ℕ). take n (key_of m.target)) (e ∙ kl) ∙ l.1 in
            inr (e, subst (λ (x : Key). steps_to_master 4 w x a < steps_to_master 4 w (take j (key_of m.target)) o) (sym at) (subst (λ (x : Key). steps_to_master 4 w q a < steps_to_master 4 w x o) (sym mine) near))
        | inr other ↦ inl (let e : k ≡ length q = kl in omega (arith, other))
      ] in
      record {
        lower = next_lower a k (take (k - 1) c.held.prefix ++ drop (k - 1) m.target) false res level;
        further = next_further a k (take (k - 1) c.held.prefix ++ drop (k - 1) m.target) false res (let f : 0 < length q = held_filled w good a q held in omega arith) level;
        bounded = λ n tl f. on_way q k n kl l.1 tl;
        brought = specific_brought q c.held.prefix Supplier (c.supplier ∷ []) a refl known prefix held;
        keeps = inr (same, refl);
        late = inl refl;
      }

  supplier_leads : (q : Key) (c : Copy) (r : Reference) (a : ℕ) → IsSound p → resolves h m ≡ true → known_pin m.request h (key_of m.target) ≡ Some q → copy_at h q ≡ Some c
      → In r (supplier_needs h m c) → In a r.agents → Leads p o m r a
  supplier_leads q c r a sound res known copied i j =
      let one : r ≡ proceeding (length c.held.prefix) c.held.prefix m.target Supplier (c.supplier ∷ []) = of_when (not (copy_answers h m c)) _ r i in
      let agent : a ≡ c.supplier = elim (in_first a c.supplier [] (subst (λ (x : Reference). In a x.agents) one j)) [ inl x ↦ x | inr y ↦ elim y [ ] ] in
      subst (λ (x : Reference). Leads p o m x a) (sym one) (supplier_led q c a sound res known copied agent)

  -- 4
  -- what is held on the way is shorter than a longest known pin that isn't held
  not_held_longer : (q : Key) → known_pin m.request h (key_of m.target) ≡ Some q → held_at h.own q ≡ None → copy_at h q ≡ None → (j : ℕ) → holds_within h (key_of m.target) j ≡ true → j < length q
  not_held_longer q known own copies j d =
      let x = within_is h (key_of m.target) j d in
      let l = longest_some (map key_of (known_pins m.request h)) (key_of m.target) q known in
      let le : length (key_of x.0) ≤ length q = l.2 (key_of x.0) (known_prefix m.request h x.0 x.1) x.2 in
      let ge : j ≤ length (key_of x.0) = x.3 in
      let other : length (key_of x.0) ≡ length q → ⊥ = λ e.
      let same : key_of x.0 ≡ q = same_by_length (key_of x.0) q (key_of m.target) x.2 l.1 e in
      elim (in_either x.0 (map (λ (c : Held). c.prefix) h.own) (map (λ (c : Copy). c.held.prefix) h.copies) x.1) [
        | inl i ↦
            let c = of_map (λ (c : Held). c.prefix) x.0 h.own i in
            let no_key : same_key (key_of c.0.prefix) q ≡ false = not_found (λ (y : Held). same_key (key_of y.prefix) q) c.0 h.own own c.1 in
            false_true (sym no_key ∙ (key_decides (key_of c.0.prefix) q).1 (ap key_of (sym c.2) ∙ same))
        | inr i ↦
            let c = of_map (λ (c : Copy). c.held.prefix) x.0 h.copies i in
            let no_key : same_key (key_of c.0.held.prefix) q ≡ false = not_found (λ (y : Copy). same_key (key_of y.held.prefix) q) c.0 h.copies copies c.1 in
            false_true (sym no_key ∙ (key_decides (key_of c.0.held.prefix) q).1 (ap key_of (sym c.2) ∙ same))
      ] in
      omega (arith, other)

  specific_led : (q : Key) (k : Specific) (kind : RefType) (a : ℕ) → Coherent (knowledge_of w) → is_wide kind ≡ false → resolves h m ≡ true → known_pin m.request h (key_of m.target) ≡ Some q → held_at h.own q ≡ None → copy_at h q ≡ None
      → IsRightAccess w k → key_of k.pin ≡ q → In a (usable_agents m.request k.access) → Leads p o m (proceeding (length k.pin) k.pin m.target kind (usable_agents m.request k.access)) a
  specific_led q k kind a good narrow res known own copies right is i =
      let kl : length k.pin ≡ length q = sym (key_length k.pin) ∙ ap length is in
      let filled : 0 < length q = subst (λ (x : Key). 0 < length x) (right.0.3 ∙ is) (good.filled right.0.0 right.0.1) in
      let l = longest_some (map key_of (known_pins m.request h)) (key_of m.target) q known in
      let on : IsPrefix (key_of k.pin) (key_of m.target) = subst (λ (x : Key). IsPrefix x (key_of m.target)) (sym is) l.1 in
      let le : length k.pin - 1 ≤ length k.pin = omega arith in
      let same : key_of (take (length k.pin - 1) k.pin ++ drop (length k.pin - 1) m.target) ≡ key_of m.target = respelled_key (length k.pin - 1) k.pin m.target le on in
      record {
        lower = next_lower a (length k.pin) (take (length k.pin - 1) k.pin ++ drop (length k.pin - 1) m.target) (is_wide kind) res (λ j d. inl (let less : j < length q = not_held_longer q known own copies j d in omega arith));
        further = next_further a (length k.pin) (take (length k.pin - 1) k.pin ++ drop (length k.pin - 1) m.target) (is_wide kind) res (let f : 0 < length q = filled in omega arith) (λ j d. inl (let less : j < length q = not_held_longer q known own copies j d in omega arith));
        bounded = λ n tl f. on_way q (length k.pin) n kl l.1 tl;
        brought = specific_brought q k.pin kind (usable_agents m.request k.access) a narrow known is (subst (λ (x : Key). IsHeld w a x) is (usable_holds w m.request k a right i));
        keeps = inr (same, refl);
        late = inl refl;
      }

  specific_leads : (q : Key) (r : Reference) (a : ℕ) → IsSound p → resolves h m ≡ true → known_pin m.request h (key_of m.target) ≡ Some q → held_at h.own q ≡ None → copy_at h q ≡ None
      → In r (specific_needs h m q) → In a r.agents → Leads p o m r a
  specific_leads q r a sound res known own copies i j = by_subordinate (specific_at (subordinates m.request h) q) refl i
    where
      go : RefType → Specific → List Reference
      go kind k = proceeding (length k.pin) k.pin m.target kind (usable_agents m.request k.access) ∷ []

      led : (kind : RefType) (k : Specific) → is_wide kind ≡ false → IsRightAccess w k → key_of k.pin ≡ q → In r (go kind k) → Leads p o m r a
      led kind k narrow right is l =
          let one : r ≡ proceeding (length k.pin) k.pin m.target kind (usable_agents m.request k.access) = elim (in_first r _ [] l) [ inl x ↦ x | inr y ↦ elim y [ ] ] in
          subst (λ (x : Reference). Leads p o m x a) (sym one) (specific_led q k kind a (good_at p sound) narrow res known own copies right is (subst (λ (x : Reference). In a x.agents) one j))

      by_cross : (x : Option Specific) → specific_at h.cross q ≡ x → In r (in_option [] (go Cross) x) → Leads p o m r a
      by_cross None e l = elim l [ ]
      by_cross (Some k) e l =
          let f = of_find (λ (y : Specific). same_key (key_of y.pin) q) k h.cross e in
          led Cross k refl (crosses_right p o k sound f.0) ((key_decides (key_of k.pin) q).0 f.1) l

      pick : Option Specific → List Reference
      pick None = in_option [] (go Cross) (specific_at h.cross q)
      pick (Some k) = go Subordinate k

      by_subordinate : (x : Option Specific) → specific_at (subordinates m.request h) q ≡ x → In r (pick x) → Leads p o m r a
      by_subordinate None e l = by_cross (specific_at h.cross q) refl l
      by_subordinate (Some k) e l =
          let f = of_find (λ (y : Specific). same_key (key_of y.pin) q) k (subordinates m.request h) e in
          led Subordinate k refl (subordinates_right p o m.request k sound f.0) ((key_decides (key_of k.pin) q).0 f.1) l

  -- together
  pin_leads : (x : Option Key) (r : Reference) (a : ℕ) → IsSound p → resolves h m ≡ true → known_pin m.request h (key_of m.target) ≡ x → In r (pin_needs h m x) → In a r.agents → Leads p o m r a
  pin_leads None r a sound res known i j = superior_leads r a sound res known i j
  pin_leads (Some q) r a sound res known i j = by_own (held_at h.own q) refl i
    where
      of_copy : Option Copy → List Reference
      of_copy None = specific_needs h m q
      of_copy (Some c) = supplier_needs h m c

      of_own : Option Held → List Reference
      of_own None = of_copy (copy_at h q)
      of_own (Some c) = multicast_needs h m c

      by_copy : held_at h.own q ≡ None → (y : Option Copy) → copy_at h q ≡ y → In r (of_copy y) → Leads p o m r a
      by_copy own None e l = specific_leads q r a sound res known own e l j
      by_copy own (Some c) e l = supplier_leads q c r a sound res known e l j

      by_own : (y : Option Held) → held_at h.own q ≡ y → In r (of_own y) → Leads p o m r a
      by_own None e l = by_copy e (copy_at h q) refl l
      by_own (Some c) e l = multicast_leads q c r a res known e l

  resolution_led : (r : Reference) (a : ℕ) → IsSound p → In r (resolution_needs h m) → In a r.agents → Leads p o m r a
  resolution_led r a sound i j = go (resolves h m) refl i
    where
      go : (b : Bool) → resolves h m ≡ b → In r (if b then pin_needs h m (known_pin m.request h (key_of m.target)) else []) → Leads p o m r a
      go true e l = pin_leads (known_pin m.request h (key_of m.target)) r a sound e refl l j
      go false e l = elim l [ ]

pub resolution_leads : ResolutionLeads
resolution_leads p o m r a sound i j = resolution_led p o m r a sound i j
