-- What a description says of names: each has the normal forms of its texts, and keeps to the limits.
use Rattle.std.proofs.Common.{◌≡◌, ℕ, suc, ◌+◌, ◌≤◌, Bool, true, false, ◌&&◌, ◌==◌, nat_lt, ◌⊎◌, inl, inr, List, [], ◌∷◌, map, length, refl, sym, ap, subst, ◌∙◌, arith, Option, Some, None}
use Rattle.std.specs.Cmp.Lexicographic.{pointwise, bytes_decides}
use Rattle.std.specs.List.{list_all}
use Rattle.std.specs.Option.{is_none}
use Rattle.x5_model.specs.Words.{same_octets}
use Rattle.x5_model.specs.Members.{In}
use Rattle.x5_model.specs.Keys.{Key}
use Rattle.x5_model.specs.Values.{Text, Pair, Rdn, Name, key_of, key_of_rdn, written}
use Rattle.x5_model.specs.Normal.{most_rdns, first_found, over, is_name, rdn_over, name_over, stored, IsStored}
use Rattle.x5_model.specs.Entries.{Named}
use Rattle.x5_model.proofs.Lists.{both_true, of_all, of_map}
use Rattle.x5_model.proofs.Decide.{nat_same_decides}
use Rattle.x5_model_tree.specs.World.{Specific, Nssr, Context, Agent, World}
use Rattle.x5_model_tree.specs.Masters.{Mastered, pin_of, numbered, mastered, pins}
use Rattle.x5_model_tree.specs.Described.{same_pair_spelled, same_spelling, is_stored, is_stored_entry, is_stored_context, is_stored_agent, IsDescribed}
use Rattle.x5_model_tree.proofs.Gives.{of_numbered, owner_of}

-- ---- names that are spelled alike are one name

same_pair_is : (p q : Pair) → same_pair_spelled p q ≡ true → p ≡ q
same_pair_is p q e =
    let w = both_true (p.kind == q.kind) (same_octets p.text q.text && same_octets p.normal q.normal) e in
    let v = both_true (same_octets p.text q.text) (same_octets p.normal q.normal) w.1 in
    let a : p.kind ≡ q.kind = (nat_same_decides p.kind q.kind).0 w.0 in
    let b : p.text ≡ q.text = (bytes_decides p.text q.text).0 v.0 in
    let c : p.normal ≡ q.normal = (bytes_decides p.normal q.normal).0 v.1 in
    λ i. record { kind = a i; text = b i; normal = c i }

same_rdn_is : (r s : Rdn) → pointwise same_pair_spelled r s ≡ true → r ≡ s
same_rdn_is [] [] e = refl
same_rdn_is [] (q ∷ s) e = cc
same_rdn_is (p ∷ r) [] e = cc
same_rdn_is (p ∷ r) (q ∷ s) e =
    let w = both_true (same_pair_spelled p q) (pointwise same_pair_spelled r s) e in λ i. same_pair_is p q w.0 i ∷ same_rdn_is r s w.1 i

pub same_name_is : (m n : Name) → same_spelling m n ≡ true → m ≡ n
same_name_is [] [] e = refl
same_name_is [] (s ∷ n) e = cc
same_name_is (r ∷ m) [] e = cc
same_name_is (r ∷ m) (s ∷ n) e =
    let w = both_true (pointwise same_pair_spelled r s) (same_spelling m n) e in λ i. same_rdn_is r s w.0 i ∷ same_name_is m n w.1 i

none_is : {X : Type 0} (o : Option X) → is_none o ≡ true → o ≡ None
none_is None e = refl
none_is (Some x) e = cc

pub stored_is : (n : Name) → is_stored n ≡ true → IsStored n
stored_is n e =
    let w = both_true (same_spelling n (stored (written n))) (is_name (written n) && is_none (name_over 0 (written n))) e in
    let v = both_true (is_name (written n)) (is_none (name_over 0 (written n))) w.1 in
    record { valid = v.0; short = none_is (name_over 0 (written n)) v.1; normal = same_name_is n (stored (written n)) w.0 }

-- ---- 16 RDNs at most

none_first : (o p : Option ℕ) → first_found o p ≡ None → (o ≡ None) × (p ≡ None)
none_first None p e = (refl, e)
none_first (Some n) p e = cc

not_over : (most n : ℕ) → over most n ≡ None → n ≤ most
not_over most n e = by (nat_lt most n) refl
  where
    by : (b : Bool) → nat_lt most n ≡ b → n ≤ most
    by true q = cc
    by false q = grind arith

within : (before : ℕ) (n : List (List (ℕ × Text))) → before ≤ most_rdns → name_over before n ≡ None → before + length n ≤ most_rdns
within before [] l e = omega arith
within before (r ∷ n) l e =
    let w = none_first (over most_rdns (before + 1)) (first_found (rdn_over 0 r) (name_over (before + 1) n)) e in
    let v = none_first (rdn_over 0 r) (name_over (before + 1) n) w.1 in
    let k : before + 1 + length n ≤ most_rdns = within (before + 1) n (not_over most_rdns (before + 1) w.0) v.1 in omega arith

map_length : {A B : Type 0} (f : A → B) (xs : List A) → length (map f xs) ≡ length xs
map_length f [] = refl
map_length f (x ∷ xs) = ap (λ (k : ℕ). suc k) (map_length f xs)

pub stored_short : (n : Name) → IsStored n → length (key_of n) ≤ most_rdns
stored_short n s =
    let a : 0 + length (written n) ≤ most_rdns = within 0 (written n) (omega arith) s.short in
    let b : length (written n) ≡ length n = map_length _ n in
    let c : length (key_of n) ≡ length n = map_length key_of_rdn n in omega arith

-- ---- the names of a described world

module _ (w : World) (d : IsDescribed w) where
  agent_stored : (a : Agent) → In a w.agents → is_stored_agent a ≡ true
  agent_stored a i = of_all is_stored_agent a w.agents (both_true (list_all is_stored_agent w.agents) _ d.stored).0 i

  context_stored : (m : Mastered) → In m (mastered w) → is_stored_context m.context ≡ true
  context_stored m i =
      let o = owner_of w m i in
      let a : is_stored_agent o.0 ≡ true = agent_stored o.0 (of_numbered 0 w.agents (m.master, o.0) o.1) in
      of_all is_stored_context m.context o.0.contexts (both_true (list_all is_stored_context o.0.contexts) _ a).0 o.2

  pub prefix_stored : (m : Mastered) → In m (mastered w) → IsStored m.context.prefix
  prefix_stored m i = stored_is m.context.prefix (both_true (is_stored m.context.prefix) _ (context_stored m i)).0

  pub entry_stored : (m : Mastered) (e : Named) → In m (mastered w) → In e m.context.entries → IsStored e.name
  entry_stored m e i j =
      let c = both_true (is_stored m.context.prefix) _ (context_stored m i) in
      let x = both_true (list_all is_stored_entry m.context.entries) _ c.1 in
      stored_is e.name (both_true (is_stored e.name) _ (of_all is_stored_entry e m.context.entries x.0 j)).0

  pub nssr_stored : (m : Mastered) (n : Nssr) → In m (mastered w) → In n m.context.nssrs → IsStored n.at
  nssr_stored m n i j =
      let c = both_true (is_stored m.context.prefix) _ (context_stored m i) in
      let x = both_true (list_all is_stored_entry m.context.entries) _ c.1 in
      stored_is n.at (of_all (λ (n : Nssr). is_stored n.at) n m.context.nssrs x.1 j)

  pub reference_stored : (place : ℕ) (a : Agent) (k : Specific) → In (place, a) (numbered w) → In k a.subordinate ⊎ In k a.cross → IsStored k.pin
  reference_stored place a k i j =
      let t = both_true (list_all is_stored_context a.contexts) _ (agent_stored a (of_numbered 0 w.agents (place, a) i)) in
      let u = both_true (list_all (λ (k : Specific). is_stored k.pin) a.subordinate) _ t.1 in
      stored_is k.pin (elim j [
        | inl s ↦ of_all (λ (k : Specific). is_stored k.pin) k a.subordinate u.0 s
        | inr s ↦ of_all (λ (k : Specific). is_stored k.pin) k a.cross u.1 s
      ])

  pub pins_short : (q : Key) → In q (pins w) → length q ≤ most_rdns
  pins_short q i =
      let m = of_map pin_of q (mastered w) i in
      subst (λ (k : Key). length k ≤ most_rdns) (sym m.2) (stored_short m.0.context.prefix (prefix_stored m.0 m.1))
