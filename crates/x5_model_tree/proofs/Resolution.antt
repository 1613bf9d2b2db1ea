-- What one agent can tell of the whole tree, where knowledge is consistent.
use Rattle.std.proofs.Common.{◌≡◌, ℕ, zero, suc, ◌+◌, ◌<◌, ◌≤◌, inl, inr, length, sym, ap, subst, ◌∙◌, arith, None}
use Rattle.x5_model.specs.Members.{In}
use Rattle.x5_model.specs.Keys.{Key, IsPrefix, parent}
use Rattle.x5_model.specs.Entries.{Named}
use Rattle.x5_model.proofs.Prefixes.{prefix_chain, prefix_by_length, same_by_length, prefix_length, parent_length, parent_is_prefix}
use Rattle.x5_model_tree.specs.World.{Agent, World}
use Rattle.x5_model_tree.specs.Tree.{key_at}
use Rattle.x5_model_tree.specs.Masters.{Mastered, pin_of, mastered}
use Rattle.x5_model_tree.specs.Conditions.{Has}
use Rattle.x5_model_tree.specs.Good.{Good}
use Rattle.x5_model_tree.specs.Reached.{Reached, NoneLonger, KnowsNone, NoLower}

module _ (w : World) (good : Good w) where
  filled : (m : Mastered) → In m (mastered w) → 0 < length (pin_of m)
  filled m i = (good.context m i).filled

  below : (m : Mastered) (e : Named) → In m (mastered w) → In e m.context.entries → IsPrefix (pin_of m) (key_at e)
  below m e i j = (good.context m i).below e j

  -- entries of one key are in one context, and are one
  pub one_context_of : (m n : Mastered) (e f : Named) → In m (mastered w) → In n (mastered w) → In e m.context.entries → In f n.context.entries → key_at e ≡ key_at f → m ≡ n
  one_context_of m n e f i j k l q =
      let a : IsPrefix (pin_of m) (key_at e) = below m e i k in
      let b : IsPrefix (pin_of n) (key_at f) = below n f j l in
      let c : IsPrefix (pin_of n) (key_at e) = subst (λ (x : Key). IsPrefix (pin_of n) x) (sym q) b in
      let d : IsPrefix (pin_of m) (key_at f) = subst (λ (x : Key). IsPrefix (pin_of m) x) q a in
      let s : length (pin_of n) ≤ length (pin_of m) = good.no_longer m n e i j k c in
      let t : length (pin_of m) ≤ length (pin_of n) = good.no_longer n m f j i l d in
      good.one_context m n i j (same_by_length (pin_of m) (pin_of n) (key_at e) a c (omega arith))

  pub one_entry_of : (m n : Mastered) (e f : Named) → In m (mastered w) → In n (mastered w) → In e m.context.entries → In f n.context.entries → key_at e ≡ key_at f → e ≡ f
  one_entry_of m n e f i j k l q =
      let same : m ≡ n = one_context_of m n e f i j k l q in
      (good.context m i).one_entry e f k (subst (λ (x : Mastered). In f x.context.entries) (sym same) l) q

  -- a pin and its parent
  up_length : (q : Mastered) → In q (mastered w) → length (parent (pin_of q)) + 1 ≡ length (pin_of q)
  up_length q i = parent_length (pin_of q) (filled q i)

  up_prefix : (q : Mastered) (name : Key) → IsPrefix (pin_of q) name → IsPrefix (parent (pin_of q)) name
  up_prefix q name p = prefix_chain (parent (pin_of q)) (pin_of q) name (parent_is_prefix (pin_of q)) p

  module _ (c : Mastered) (a : Agent) (name : Key) (at : Named) (r : Reached w c a name at) (none : NoneLonger w c name at) where
    -- a longer pin on the way whose parent is in the context
    own_child : (q : Mastered) → In q (mastered w) → IsPrefix (pin_of q) name → length (pin_of c) < length (pin_of q) → Has c.context.entries (parent (pin_of q)) → ⊥
    own_child q i p longer h =
        let up : length (parent (pin_of q)) + 1 ≡ length (pin_of q) = up_length q i in
        let on : IsPrefix (parent (pin_of q)) name = up_prefix q name p in
        let low : length (key_at h.0) ≤ length (key_at at) = r.lowest h.0 h.1 (subst (λ (k : Key). IsPrefix k name) (sym h.2) on) in
        let as_long : length (key_at h.0) ≡ length (parent (pin_of q)) = ap length h.2 in
        let not_above : length (parent (pin_of q)) < length (key_at at) → ⊥ = (λ l.
        let within : IsPrefix (pin_of q) (key_at at) = prefix_by_length (pin_of q) (key_at at) name p r.on_way (omega arith) in
        let short : length (pin_of q) ≤ length (pin_of c) = good.no_longer c q at r.mine i r.there within in
        omega arith) in
        let level : length (parent (pin_of q)) ≡ length (key_at at) = omega (arith, not_above) in
        let same : parent (pin_of q) ≡ key_at at = same_by_length (parent (pin_of q)) (key_at at) name on r.on_way level in
        elim (good.known_below c q a r.mine i r.agent r.held h) [
          | inl m ↦ (let short : length (pin_of q) ≤ length (pin_of c) = r.no_master q i m p in omega arith)
          | inr s ↦ elim s [
            | inl k ↦ (let short : length (pin_of q) ≤ length (pin_of c) = r.no_reference (pin_of q) k p in omega arith)
            | inr n ↦ (let short : length (pin_of q) ≤ length (key_at at) = none n.0 n.1 (n.2.0 ∙ same) q i n.2.1 p in omega arith)
          ]
        ]

    -- no context begins between the own pin and the name
    no_between : (bound : ℕ) (q : Mastered) → length (pin_of q) ≤ bound → In q (mastered w) → IsPrefix (pin_of q) name → length (pin_of c) < length (pin_of q) → ⊥
    no_between zero q small i p longer = omega arith
    no_between (suc bound) q small i p longer =
        let up : length (parent (pin_of q)) + 1 ≡ length (pin_of q) = up_length q i in
        let on : IsPrefix (parent (pin_of q)) name = up_prefix q name p in
        elim (good.parents q i) [
          | inl one ↦ (let h : 0 < length (pin_of c) = filled c r.mine in omega arith)
          | inr s ↦ (
              let o = s.0 in
              let h : Has o.context.entries (parent (pin_of q)) = s.2 in
              let ou : IsPrefix (pin_of o) (parent (pin_of q)) = subst (λ (k : Key). IsPrefix (pin_of o) k) h.2 (below o h.0 s.1 h.1) in
              let ol : length (pin_of o) ≤ length (parent (pin_of q)) = prefix_length (pin_of o) (parent (pin_of q)) ou in
              let on_too : IsPrefix (pin_of o) name = prefix_chain (pin_of o) (parent (pin_of q)) name ou on in
              let not_longer : length (pin_of c) < length (pin_of o) → ⊥ = no_between bound o (omega arith) s.1 on_too in
              let cu : IsPrefix (pin_of c) (parent (pin_of q)) = prefix_by_length (pin_of c) (parent (pin_of q)) name r.own on (omega arith) in
              let at_least : length (pin_of c) ≤ length (pin_of o) = good.no_longer o c h.0 s.1 r.mine h.1 (subst (λ (k : Key). IsPrefix (pin_of c) k) (sym h.2) cu) in
              let level : length (pin_of o) ≡ length (pin_of c) = omega (arith, not_longer) in
              let same : o ≡ c = good.one_context o c s.1 r.mine (same_by_length (pin_of o) (pin_of c) name on_too r.own level) in
              own_child q i p longer (subst (λ (x : Mastered). Has x.context.entries (parent (pin_of q))) same h))
        ]

    -- the lowest entry of the context on the way is the name's longest prefix in the whole tree
    pub lowest_of_all : NoLower w name (length (key_at at))
    lowest_of_all d i e j p =
        let dn : IsPrefix (pin_of d) name = prefix_chain (pin_of d) (key_at e) name (below d e i j) p in
        let not_longer : length (pin_of c) < length (pin_of d) → ⊥ = no_between (length (pin_of d)) d (omega arith) i dn in
        let at_least : length (pin_of c) ≤ length (key_at at) = prefix_length (pin_of c) (key_at at) (below c at r.mine r.there) in
        let not_lower : length (key_at at) < length (key_at e) → ⊥ = (λ l.
        let ce : IsPrefix (pin_of c) (key_at e) = prefix_by_length (pin_of c) (key_at e) name r.own p (omega arith) in
        let k : length (pin_of c) ≤ length (pin_of d) = good.no_longer d c e i r.mine j ce in
        let level : length (pin_of d) ≡ length (pin_of c) = omega (arith, not_longer) in
        let same : d ≡ c = good.one_context d c i r.mine (same_by_length (pin_of d) (pin_of c) name dn r.own level) in
        let low : length (key_at e) ≤ length (key_at at) = r.lowest e (subst (λ (x : Mastered). In e x.context.entries) same j) p in
        omega arith) in
        omega (arith, not_lower)

  -- a first-level agent that knows no pin on the way proves that there is no entry on it
  module _ (place : ℕ) (a : Agent) (name : Key) (top : a.superior ≡ None) (k : KnowsNone w place a name) where
    no_pin : (bound : ℕ) (q : Mastered) → length (pin_of q) ≤ bound → In q (mastered w) → IsPrefix (pin_of q) name → ⊥
    no_pin zero q small i p = let h : 0 < length (pin_of q) = filled q i in omega arith
    no_pin (suc bound) q small i p =
        let up : length (parent (pin_of q)) + 1 ≡ length (pin_of q) = up_length q i in
        let on : IsPrefix (parent (pin_of q)) name = up_prefix q name p in
        elim (good.parents q i) [
          | inl one ↦ elim (good.top_known place a q k.agent i top one) [
            | inl m ↦ k.no_master q i m p
            | inr r ↦ k.no_reference (pin_of q) r p
          ]
          | inr s ↦ (
              let o = s.0 in
              let h : Has o.context.entries (parent (pin_of q)) = s.2 in
              let ou : IsPrefix (pin_of o) (parent (pin_of q)) = subst (λ (x : Key). IsPrefix (pin_of o) x) h.2 (below o h.0 s.1 h.1) in
              let ol : length (pin_of o) ≤ length (parent (pin_of q)) = prefix_length (pin_of o) (parent (pin_of q)) ou in
              no_pin bound o (omega arith) s.1 (prefix_chain (pin_of o) (parent (pin_of q)) name ou on))
        ]

    pub nothing_there : NoLower w name 0
    nothing_there d i e j p =
        absurd (no_pin (length (pin_of d)) d (omega arith) i (prefix_chain (pin_of d) (key_at e) name (below d e i j) p))
