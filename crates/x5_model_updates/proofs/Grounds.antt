-- What the master of a context can tell of the whole tree from its own ground.
use Rattle.std.proofs.Common.{◌≡◌, ℕ, ◌<◌, ◌≤◌, true, false, ◌&&◌, ◌||◌, ◌⊎◌, inl, inr, List, length, refl, sym, ap, subst, ◌∙◌, arith, Some}
use Rattle.std.specs.Bool.{Decides}
use Rattle.std.specs.List.{list_any}
use Rattle.x5_model.specs.Words.{has}
use Rattle.x5_model.specs.Members.{In}
use Rattle.x5_model.specs.Keys.{Key, IsPrefix, parent, same_key, is_prefix, is_below}
use Rattle.x5_model.specs.Entries.{Named}
use Rattle.x5_model.specs.Values.{Name}
use Rattle.x5_model.specs.Answers.{DirError, NoSuchObject}
use Rattle.x5_model.proofs.KeyLaws.{key_decides}
use Rattle.x5_model.proofs.Lists.{in_map, of_map}
use Rattle.x5_model.proofs.Prefixes.{prefix_length, prefix_itself, prefix_chain, prefix_by_length, same_by_length, parent_is_prefix, prefix_decides, below_decides}
use Rattle.x5_model.proofs.Decide.{and_decides, or_decides, any_decides, has_decides}
use Rattle.x5_model_tree.specs.Tree.{Tree, key_at, keys_of, entry_at, is_there, has_below, belongs, part}
use Rattle.x5_model_tree.specs.Apply.{At, Ground, ground_of, absent, above_nssr, above_pin, is_taken}
use Rattle.x5_model_tree.proofs.Longest.{IsLongest, belongs_decides}
use Rattle.x5_model_theory.specs.Knowledge.{Knowledge, Area, Spot, IsMastered, IsReferred}
use Rattle.x5_model_theory.specs.Coherent.{Coherent}
use Rattle.x5_model_theory.proofs.Deciding.{dec_nat}
use Rattle.x5_model_theory.proofs.Views.{there_decides}
use Rattle.x5_model_updates.specs.Standing.{IsTreeOf}
use Rattle.x5_model_updates.proofs.Lookups.{agree, same_entry_at, same_lowest, same_matched}
use Rattle.x5_model_updates.proofs.Trees.{one_area, below_in, tree_one_each, pin_there, area_of_pin, of_part, entry_in_area, area_of_entry, tree_filled, part_of_key, longest_own, on_way_in, at_name_in}

-- ---- what the tests of a ground say

abbrev pub AbovePin : Ground → Key → Type 0
AbovePin g key = ((q : Key) × In q g.pins × IsPrefix key q) ⊎ ((n : At) × In n g.nssrs × (IsLongest g.pins key (Some n.context) × IsPrefix key n.entry))

pub above_decides : (g : Ground) (key : Key) → Decides (above_pin g key) (AbovePin g key)
above_decides g key =
    or_decides {P = (q : Key) × In q g.pins × IsPrefix key q} {Q = (n : At) × In n g.nssrs × (IsLongest g.pins key (Some n.context) × IsPrefix key n.entry)} (list_any (is_prefix key) g.pins) (above_nssr g key)
    (any_decides {P = λ (q : Key). IsPrefix key q} (is_prefix key) g.pins (λ q. prefix_decides key q))
    (any_decides {P = λ (n : At). IsLongest g.pins key (Some n.context) × IsPrefix key n.entry} (λ (n : At). belongs g.pins n.context key && is_prefix key n.entry) g.nssrs
    (λ n. and_decides {P = IsLongest g.pins key (Some n.context)} {Q = IsPrefix key n.entry} (belongs g.pins n.context key) (is_prefix key n.entry) (belongs_decides g.pins n.context key) (prefix_decides key n.entry)))

abbrev pub Taken : Ground → Key → Type 0
Taken g key = In key (keys_of g.entries) ⊎ (In key g.pins ⊎ In key g.taken)

pub taken_decides : (g : Ground) (key : Key) → Decides (is_taken g key) (Taken g key)
taken_decides g key =
    or_decides {P = In key (keys_of g.entries)} {Q = In key g.pins ⊎ In key g.taken} (is_there g.entries key) (has same_key g.pins key || has same_key g.taken key) (there_decides g.entries key)
    (or_decides {P = In key g.pins} {Q = In key g.taken} (has same_key g.pins key) (has same_key g.taken key) (has_decides same_key key_decides g.pins key) (has_decides same_key key_decides g.taken key))

abbrev pub Below : List Named → Key → Type 0
Below entries key = (e : Named) × In e entries × ((length key < length (key_at e)) × IsPrefix key (key_at e))

pub has_below_decides : (entries : List Named) (key : Key) → Decides (has_below entries key) (Below entries key)
has_below_decides entries key =
    any_decides {P = λ (e : Named). (length key < length (key_at e)) × IsPrefix key (key_at e)} (λ (e : Named). is_below key (key_at e)) entries (λ e. below_decides key (key_at e))

abbrev pub no_such : Name → DirError
no_such name = NoSuchObject name

-- ---- an agent's ground, by what it masters and knows

-- its entries are those of its contexts; its pins are pins, and among them its own prefixes and the references just below
-- its entries; its NSSRs are its contexts'
pub record Knows (k : Knowledge) (t : Tree) (o : ℕ) (g : Ground) : Type 0 where
  pub of_own : (e : Named) → In e g.entries → (c : Area) × In c k.areas × (c.master ≡ o) × In e (part t c.prefix)
  pub in_own : (c : Area) (e : Named) → In c k.areas → c.master ≡ o → In e (part t c.prefix) → In e g.entries
  pub pins_are : (q : Key) → In q g.pins → (c : Area) × In c k.areas × (q ≡ c.prefix)
  pub own_pins : (c : Area) → In c k.areas → c.master ≡ o → In c.prefix g.pins
  pub referred : (c : Area) (q : Key) → In c k.areas → c.master ≡ o → IsReferred k o q → In (parent q) c.entries → In q g.pins
  pub of_nssrs : (n : At) → In n g.nssrs → (c : Area) × (s : Spot) × In c k.areas × (c.master ≡ o) × In s c.nssrs × (n.context ≡ c.prefix) × (n.entry ≡ s.at)
  pub in_nssrs : (c : Area) (s : Spot) → In c k.areas → c.master ≡ o → In s c.nssrs → (n : At) × In n g.nssrs × (n.context ≡ c.prefix) × (n.entry ≡ s.at)
  pub none_taken : (x : Key) → In x g.taken → ⊥

-- an agent of an NSSR of the context, just above the name, masters a context with that prefix
abbrev pub IsHeldBeside : Knowledge → Area → Key → Type 0
IsHeldBeside k c x = (s : Spot) × (a : ℕ) × In s c.nssrs × (s.at ≡ parent x) × In a s.agents × IsMastered k a x

module _ (k : Knowledge) (t : Tree) (o : ℕ) (g : Ground) (good : Coherent k) (is : IsTreeOf k t) (knows : Knows k t o g) where
  pub within : (e : Named) → In e g.entries → In e t.entries
  within e i = (let w = knows.of_own e i in (of_part k t good is w.0.prefix e w.3).0)

  pins_within : (q : Key) → In q g.pins → In q t.pins
  pins_within q i = (let w = knows.pins_are q i in subst (λ (x : Key). In x t.pins) (sym w.2) (pin_there k t good is w.0 w.1))

  -- ---- at a name whose longest pin is of one of its contexts
  module _ (c : Area) (n : Key) (i : In c k.areas) (mine : c.master ≡ o) (long : IsLongest t.pins n (Some c.prefix)) where
    held : (e : Named) → In e t.entries → In (key_at e) c.entries → In e g.entries
    held e j p = knows.in_own c e i mine (part_of_key k t good is c e i j p)

    pub same_entry : entry_at g.entries n ≡ entry_at t.entries n
    same_entry =
        same_entry_at g.entries t.entries n (tree_one_each k t good is) within
        (λ e j s. held e j (at_name_in k t good is c n e i long j s))

    -- its context's prefix is an entry on the way
    low_enough : (e : Named) → ((f : Named) → In f t.entries → IsPrefix (key_at f) n → length (key_at f) ≤ length (key_at e)) → length c.prefix ≤ length (key_at e)
    low_enough e low =
        let h = entry_in_area k t good is c c.prefix i (good.headed c i) in
        let a : length (key_at h.0) ≤ length (key_at e) = low h.0 (of_part k t good is c.prefix h.0 h.1).0 (subst (λ (x : Key). IsPrefix x n) (sym h.2) long.1.0) in
        let b : length (key_at h.0) ≡ length c.prefix = ap length h.2 in
        omega arith

    pub same_absent : absent g n ≡ absent (ground_of t) n
    same_absent =
        ap no_such (same_matched g.entries t.entries n
        (same_lowest g.entries t.entries n (tree_one_each k t good is) (tree_filled k t good is) within
        (λ e j u low. held e j (on_way_in k t good is c n e i long j u (low_enough e low)))))

  -- ---- at an entry of one of its contexts
  module _ (c : Area) (n : Key) (i : In c k.areas) (mine : c.master ≡ o) (own : In n c.entries) where
    own_longest : IsLongest g.pins n (Some c.prefix)
    own_longest = (let l = longest_own k t good is c n i own in (knows.own_pins c i mine, (l.1.0, λ q j u. l.1.1 q (pins_within q j) u)))

    -- an NSSR below it tells of a pin below it
    to_tree : AbovePin g n → AbovePin (ground_of t) n
    to_tree (inl w) = inl (w.0, pins_within w.0 w.1, w.2)
    to_tree (inr w) =
        let s = knows.of_nssrs w.0 w.1 in
        let a = good.nssr_some s.0 s.1 s.2 s.4 in
        let d = good.nssr_masters s.0 s.1 a.0 s.2 s.4 a.1 in
        let u : IsPrefix n (parent d.0.prefix) = subst (λ (x : Key). IsPrefix n x) (s.6 ∙ sym d.3) w.2.1 in
        inl (d.0.prefix, pin_there k t good is d.0 d.1, prefix_chain n (parent d.0.prefix) d.0.prefix u (parent_is_prefix d.0.prefix))

    -- a pin below it is known, or an NSSR below it tells of it
    to_own : AbovePin (ground_of t) n → AbovePin g n
    to_own (inr w) = elim w.1 [ ]
    to_own (inl w) =
        let d = area_of_pin k t good is w.0 w.1 in
        let u : IsPrefix n d.0.prefix = subst (λ (x : Key). IsPrefix n x) d.2 w.2 in
        let le : length n ≤ length d.0.prefix = prefix_length n d.0.prefix u in
        elim (dec_nat (length n) (length d.0.prefix)) [
          | inl level ↦
              let same : n ≡ d.0.prefix = same_by_length n d.0.prefix d.0.prefix u (prefix_itself d.0.prefix) level in
              let one : c ≡ d.0 = one_area k good c d.0 n i d.1 own (subst (λ (x : Key). In x d.0.entries) (sym same) (good.headed d.0 d.1)) in
              inl (c.prefix, knows.own_pins c i mine, subst (λ (x : Area). IsPrefix n x.prefix) (sym one) u)
          | inr other ↦
              let q = below_in k good (length d.0.prefix) c d.0 n (omega arith) i d.1 own u (omega (arith, other)) in
              let on : IsPrefix n q.0.prefix = prefix_chain n (parent q.0.prefix) q.0.prefix q.3 (parent_is_prefix q.0.prefix) in
              elim (good.known_below c q.0 i q.1 q.2) [
                | inl m ↦ inl (q.0.prefix, knows.own_pins q.0 q.1 (m ∙ mine), on)
                | inr r ↦ elim r [
                  | inl r ↦ inl (q.0.prefix, knows.referred c q.0.prefix i mine (subst (λ (a : ℕ). IsReferred k a q.0.prefix) mine r) q.2, on)
                  | inr s ↦
                      let at = knows.in_nssrs c s.0 i mine s.1 in
                      inr (at.0, at.1, (subst (λ (x : Key). IsLongest g.pins n (Some x)) (sym at.2) own_longest, subst (λ (x : Key). IsPrefix n x) (sym (at.3 ∙ s.2)) q.3))
                ]
              ]
        ]

    pub same_above : above_pin g n ≡ above_pin (ground_of t) n
    same_above = agree (above_pin g n) (above_pin (ground_of t) n) (above_decides g n) (above_decides (ground_of t) n) to_tree to_own

    -- what is below it, where no pin is, is in its context
    pub same_below : above_pin (ground_of t) n ≡ false → has_below g.entries n ≡ has_below t.entries n
    same_below none =
        agree (has_below g.entries n) (has_below t.entries n) (has_below_decides g.entries n) (has_below_decides t.entries n)
        (λ w. (w.0, within w.0 w.1, w.2))
        (λ w.
        let d = area_of_entry k t good is w.0 w.1 in
        let dx : IsPrefix d.0.prefix (key_at w.0) = good.below d.0 (key_at w.0) d.1 d.2 in
        let short : length n ≤ length d.0.prefix → ⊥ = (λ l.
        let p : above_pin (ground_of t) n ≡ true = (above_decides (ground_of t) n).1 (inl (d.0.prefix, pin_there k t good is d.0 d.1, prefix_by_length n d.0.prefix (key_at w.0) w.2.1 dx l)) in
        (let f : true ≡ false = sym p ∙ none in cc)) in
        let dn : IsPrefix d.0.prefix n = prefix_by_length d.0.prefix n (key_at w.0) dx w.2.1 (omega (arith, short)) in
        let l : length d.0.prefix ≤ length c.prefix = good.no_longer c d.0 n i d.1 own dn in
        let cx : IsPrefix c.prefix (key_at w.0) = prefix_chain c.prefix n (key_at w.0) (good.below c n i own) w.2.1 in
        let m : length c.prefix ≤ length d.0.prefix = good.no_longer d.0 c (key_at w.0) d.1 i d.2 cx in
        let one : d.0.prefix ≡ c.prefix = same_by_length d.0.prefix c.prefix (key_at w.0) dx cx (omega arith) in
        (w.0, knows.in_own c w.0 i mine (subst (λ (x : Key). In w.0 (part t x)) one d.3), w.2))

    -- an entry that is no pin has its parent in the context
    pub parent_own : above_pin (ground_of t) n ≡ false → In (parent n) c.entries
    parent_own none =
        elim (good.closed c n i own) [
          | inl s ↦ (let p : above_pin (ground_of t) n ≡ true = (above_decides (ground_of t) n).1 (inl (c.prefix, pin_there k t good is c i, subst (λ (x : Key). IsPrefix n x) s (prefix_itself n))) in
              (let f : true ≡ false = sym p ∙ none in cc))
          | inr u ↦ u
        ]

  -- ---- new names

  -- what it knows to be taken is taken
  pub taken_there : (x : Key) → is_taken g x ≡ true → is_taken (ground_of t) x ≡ true
  taken_there x h = (taken_decides (ground_of t) x).1 (by ((taken_decides g x).0 h))
    where
      by : Taken g x → Taken (ground_of t) x
      by (inl j) = inl (let e = of_map key_at x g.entries j in subst (λ (y : Key). In y (keys_of t.entries)) (sym e.2) (in_map key_at e.0 t.entries (within e.0 e.1)))
      by (inr (inl j)) = inr (inl (pins_within x j))
      by (inr (inr j)) = absurd (knows.none_taken x j)

  -- a taken name is an entry of a context
  pub taken_is : (x : Key) → is_taken (ground_of t) x ≡ true → (d : Area) × In d k.areas × In x d.entries
  taken_is x h = by ((taken_decides (ground_of t) x).0 h)
    where
      by : Taken (ground_of t) x → (d : Area) × In d k.areas × In x d.entries
      by (inl j) = (let e = of_map key_at x t.entries j in let d = area_of_entry k t good is e.0 e.1 in (d.0, d.1, subst (λ (y : Key). In y d.0.entries) (sym e.2) d.2))
      by (inr (inl j)) = (let d = area_of_pin k t good is x j in (d.0, d.1, subst (λ (y : Key). In y d.0.entries) (sym d.2) (good.headed d.0 d.1)))
      by (inr (inr j)) = elim j [ ]

  -- a taken name just below an entry of its context is known, or an agent of the NSSR there has it
  pub taken_here : (c : Area) (x : Key) → In c k.areas → c.master ≡ o → In (parent x) c.entries → is_taken (ground_of t) x ≡ true → (is_taken g x ≡ true) ⊎ IsHeldBeside k c x
  taken_here c x i mine up h =
      let d = taken_is x h in
      elim (good.closed d.0 x d.1 d.2) [
        | inr u ↦
            let one : d.0 ≡ c = one_area k good d.0 c (parent x) d.1 i u up in
            let e = entry_in_area k t good is d.0 x d.1 d.2 in
            inl ((taken_decides g x).1 (inl (subst (λ (y : Key). In y (keys_of g.entries)) e.2 (in_map key_at e.0 g.entries (knows.in_own d.0 e.0 d.1 (ap (λ (y : Area). y.master) one ∙ mine) e.1)))))
        | inl s ↦
            let known : In d.0.prefix g.pins → is_taken g x ≡ true = (λ j. (taken_decides g x).1 (inr (inl (subst (λ (y : Key). In y g.pins) (sym s) j)))) in
            elim (good.known_below c d.0 i d.1 (subst (λ (y : Key). In (parent y) c.entries) s up)) [
              | inl m ↦ inl (known (knows.own_pins d.0 d.1 (m ∙ mine)))
              | inr r ↦ elim r [
                | inl r ↦ inl (known (knows.referred c d.0.prefix i mine (subst (λ (a : ℕ). IsReferred k a d.0.prefix) mine r) (subst (λ (y : Key). In (parent y) c.entries) s up)))
                | inr n ↦ inr (n.0, d.0.master, n.1, n.2 ∙ ap parent (sym s), n.3, (d.0, d.1, refl, sym s))
              ]
            ]
      ]
