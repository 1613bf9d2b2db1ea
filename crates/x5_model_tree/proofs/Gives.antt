-- Consistent knowledge is good: the facts about contexts and keys follow from the conditions.
use Rattle.std.proofs.Common.{◌≡◌, ℕ, ◌+◌, Bool, true, false, cond, ◌&&◌, inl, inr, List, [], ◌∷◌, map, refl, sym, ap, subst, ◌∙◌, arith, Option, Some}
use Rattle.std.specs.List.{list_all, enumerate_from}
use Rattle.x5_model.specs.Members.{In, here, there}
use Rattle.x5_model.specs.Keys.{Key, same_key}
use Rattle.x5_model.proofs.KeyLaws.{key_decides}
use Rattle.x5_model.proofs.Prefixes.{parent_length}
use Rattle.x5_model.proofs.Lists.{both_true, of_all, of_flat, of_map, in_first, once_map}
use Rattle.x5_model_tree.specs.World.{Context, Agent, World}
use Rattle.x5_model_tree.specs.Masters.{Mastered, pin_of, numbered, mastered, master_among}
use Rattle.x5_model_tree.specs.Described.{is_agent, is_context, are_references, IsDescribed}
use Rattle.x5_model_tree.specs.Consistent.{IsConsistent}
use Rattle.x5_model_tree.specs.Conditions.{Conditions}
use Rattle.x5_model_tree.specs.Good.{IsContext, Good}
use Rattle.x5_model_tree.proofs.Exact.{conditions_hold}
use Rattle.x5_model_tree.proofs.Grown.{context_grown}

pub of_numbered : (n : ℕ) (xs : List Agent) (a : ℕ × Agent) → In a (enumerate_from n xs) → In a.1 xs
of_numbered n [] a i = elim i [ ]
of_numbered n (x ∷ xs) a i =
    elim (in_first a (n, x) (enumerate_from (n + 1) xs) i) [
      | inl p ↦ subst (λ (y : Agent). In y (x ∷ xs)) (sym (ap (λ (q : ℕ × Agent). q.1) p)) here
      | inr j ↦ there (of_numbered (n + 1) xs a j)
    ]

-- the agent that a context is from
pub owner_of : (w : World) (m : Mastered) → In m (mastered w) → (a : Agent) × In (m.master, a) (numbered w) × In m.context a.contexts
owner_of w m i =
    let f = of_flat (λ (a : ℕ × Agent). map (λ (c : Context). record { master = a.0; context = c }) a.1.contexts) m (numbered w) i in
    let g = of_map (λ (c : Context). record { master = f.0.0; context = c }) m f.0.1.contexts f.2 in
    let place : m.master ≡ f.0.0 = ap (λ (x : Mastered). x.master) g.2 in
    let same : m.context ≡ g.0 = ap (λ (x : Mastered). x.context) g.2 in
    (f.0.1, subst (λ (k : ℕ). In (k, f.0.1) (numbered w)) (sym place) f.1, subst (λ (c : Context). In c f.0.1.contexts) (sym same) g.1)

pub context_of : (w : World) → IsDescribed w → (m : Mastered) → In m (mastered w) → IsContext m.context
context_of w d m i =
    let o = owner_of w m i in
    let a : is_agent w o.0 ≡ true = of_all (is_agent w) o.0 w.agents d.agents (of_numbered 0 w.agents (m.master, o.0) o.1) in
    let cs : list_all (is_context w) o.0.contexts ≡ true = (both_true (list_all (is_context w) o.0.contexts) (are_references w o.0.subordinate && are_references w o.0.cross) (both_true _ _ a).1).0 in
    context_grown w m.context (of_all (is_context w) m.context o.0.contexts cs o.2)

abbrev IsAmong : List Mastered → Key → ℕ → Type 0
IsAmong ms pin k = (q : Mastered) × In q ms × ((q.master ≡ k) × (pin_of q ≡ pin))

among_step : (b : Bool) (m : Mastered) (ms : List Mastered) (pin : Key) (k : ℕ) (rest : Option ℕ) → same_key (pin_of m) pin ≡ b → (rest ≡ Some k → IsAmong ms pin k) → cond b (Some m.master) rest ≡ Some k → IsAmong (m ∷ ms) pin k
among_step true m ms pin k rest s f e = let i : m.master ≡ k = cc in (m, here, (i, (key_decides (pin_of m) pin).0 s))
among_step false m ms pin k rest s f e = let q = f e in (q.0, there q.1, q.2)

among : (ms : List Mastered) (pin : Key) (k : ℕ) → master_among ms pin ≡ Some k → IsAmong ms pin k
among [] pin k e = cc
among (m ∷ ms) pin k e = among_step (same_key (pin_of m) pin) m ms pin k (master_among ms pin) refl (among ms pin k) e

pub consistent_is_good : (w : World) → IsDescribed w → IsConsistent w → Good w
consistent_is_good w d k =
    let c : Conditions w = conditions_hold w k in
    let one : (m n : Mastered) → In m (mastered w) → In n (mastered w) → pin_of m ≡ pin_of n → m ≡ n = (λ m n i j e. once_map pin_of (mastered w) m n c.one_master i j e) in
    record {
      context = context_of w d;
      one_context = one;
      parents = λ m i. elim (c.parents m i) [
        | inl e ↦ inl (let full = (context_of w d m i).filled in omega (arith, parent_length (pin_of m) full))
        | inr h ↦ inr (let f = of_flat (λ (n : Mastered). n.context.entries) h.0 (mastered w) h.1 in (f.0, f.1, (h.0, f.2, h.2)))
      ];
      no_longer = λ m p e i j l q. c.no_longer_pin m i e l p j q;
      known_below = λ m p a i j l n h. elim (c.known_below (m.master, a) l m.context n p j h) [
        | inl q ↦ inl (ap (λ (x : Mastered). x.master) (one p q.0 j q.1 (sym q.2.1)) ∙ q.2.0)
        | inr r ↦ inr (elim r [
          | inl s ↦ inl s
          | inr s ↦ inr (let q = among (mastered w) (pin_of p) s.0 s.1 in
              let same : s.0 ≡ p.master = sym q.2.0 ∙ ap (λ (x : Mastered). x.master) (one q.0 p q.1 j q.2.1) in
              (s.2.0, s.2.1, (s.2.2.0, subst (λ (x : ℕ). In x s.2.0.agents) same s.2.2.1)))
        ])
      ];
      top_known = λ place a p i j s l. elim (c.top_known (place, a) i p j s l) [
        | inl q ↦ inl (ap (λ (x : Mastered). x.master) (one p q.0 j q.1 (sym q.2.1)) ∙ q.2.0)
        | inr r ↦ inr r
      ];
      names_master = λ place a k i j. elim j [
        | inl s ↦ ((c.references (place, a) i).0 k s).0
        | inr s ↦ (c.references (place, a) i).1 k s
      ];
      owner = owner_of w;
    }
