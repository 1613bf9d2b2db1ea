-- What the tests on a world say of its knowledge.
use Rattle.std.proofs.Common.{◌≡◌, ℕ, suc, ◌+◌, ◌==◌, ◌&&◌, inl, inr, List, [], ◌∷◌, sym, ap, subst, ◌∙◌, arith, Option, Some, None, slice_get}
use Rattle.std.specs.Bool.{Decides}
use Rattle.std.specs.List.{enumerate_from}
use Rattle.std.proofs.lemmas.Bool.Decides.{Decides-eqb}
use Rattle.x5_model.specs.Words.{in_option}
use Rattle.x5_model.specs.Members.{In}
use Rattle.x5_model.specs.Keys.{Key, same_key}
use Rattle.x5_model.specs.Values.{key_of}
use Rattle.x5_model.specs.Entries.{Named}
use Rattle.x5_model.proofs.KeyLaws.{key_decides}
use Rattle.x5_model.proofs.Lists.{in_first, in_map, of_map}
use Rattle.x5_model_tree.specs.World.{Agent, Agreement, World}
use Rattle.x5_model_tree.specs.Tree.{key_at, keys_of, is_there}
use Rattle.x5_model_tree.specs.Masters.{Mastered, pin_of, numbered, agent_at, mastered, masters, is_consumer, consumes, superior_of}
use Rattle.x5_model_theory.specs.Knowledge.{Area, Supply, IsMastered, IsConsumed}
use Rattle.x5_model_theory.specs.Described.{area_of, supply_of, knowledge_of}
use Rattle.x5_model.proofs.Decide.{and_decides, any_decides}

-- a test for an entry
pub there_decides : (entries : List Named) (key : Key) → Decides (is_there entries key) (In key (keys_of entries))
there_decides entries key =
    let d = any_decides {P = λ (e : Named). key_at e ≡ key} (λ (e : Named). same_key (key_at e) key) entries (λ e. key_decides (key_at e) key) in (
      λ t. let w = d.0 t in subst (λ (x : Key). In x (keys_of entries)) w.2 (in_map key_at w.0 entries w.1),
      λ i. let w = of_map key_at key entries i in d.1 (w.0, w.1, sym w.2),
    )

pub masters_decides : (w : World) (a : ℕ) (pin : Key) → Decides (masters w a pin) (IsMastered (knowledge_of w) a pin)
masters_decides w a pin =
    let d = any_decides {P = λ (m : Mastered). (m.master ≡ a) × (pin_of m ≡ pin)} (λ (m : Mastered). (m.master == a) && same_key (pin_of m) pin) (mastered w)
    (λ m. and_decides {P = m.master ≡ a} {Q = pin_of m ≡ pin} (m.master == a) (same_key (pin_of m) pin) (Decides-eqb m.master a) (key_decides (pin_of m) pin)) in (
      λ t. let i = d.0 t in (area_of i.0, in_map area_of i.0 (mastered w) i.1, i.2.0, i.2.1),
      λ s.
          let m = of_map area_of s.0 (mastered w) s.1 in
          d.1 (m.0, m.1, (ap (λ (c : Area). c.master) (sym m.2) ∙ s.2, ap (λ (c : Area). c.prefix) (sym m.2) ∙ s.3)),
    )

pub consumer_decides : (a : ℕ) (pin : Key) (g : Agreement) → Decides (is_consumer a pin g) ((g.consumer ≡ a) × (key_of g.context ≡ pin))
consumer_decides a pin g = and_decides {P = g.consumer ≡ a} {Q = key_of g.context ≡ pin} (g.consumer == a) (same_key (key_of g.context) pin) (Decides-eqb g.consumer a) (key_decides (key_of g.context) pin)

pub consumes_decides : (w : World) (a : ℕ) (pin : Key) → Decides (consumes w a pin) (IsConsumed (knowledge_of w) a pin)
consumes_decides w a pin =
    let d = any_decides {P = λ (g : Agreement). (g.consumer ≡ a) × (key_of g.context ≡ pin)} (is_consumer a pin) w.agreements (consumer_decides a pin) in (
      λ t. let i = d.0 t in (supply_of i.0, in_map supply_of i.0 w.agreements i.1, i.2.0, i.2.1),
      λ s.
          let g = of_map supply_of s.0 w.agreements s.1 in
          d.1 (g.0, g.1, (ap (λ (c : Supply). c.consumer) (sym g.2) ∙ s.2, ap (λ (c : Supply). c.prefix) (sym g.2) ∙ s.3)),
    )

-- an agent's place
number_at : (n place : ℕ) (a : Agent) (xs : List Agent) → In (place, a) (enumerate_from n xs) → (i : ℕ) × (place ≡ n + i) × (slice_get xs i ≡ Some a)
number_at n place a [] h = elim h [ ]
number_at n place a (x ∷ xs) h =
    elim (in_first (place, a) (n, x) (enumerate_from (n + 1) xs) h) [
      | inl e ↦
          let p : place ≡ n = ap (λ (q : ℕ × Agent). q.0) e in
          let b : a ≡ x = ap (λ (q : ℕ × Agent). q.1) e in
          (0, omega arith, ap Some (sym b))
      | inr j ↦
          let w = number_at (n + 1) place a xs j in
          let p : place ≡ (n + 1) + w.0 = w.1 in
          (suc w.0, omega arith, w.2)
    ]

pub at_place : (w : World) (place : ℕ) (a : Agent) → In (place, a) (numbered w) → agent_at w place ≡ Some a
at_place w place a h =
    let i = number_at 0 place a w.agents h in
    let e : place ≡ i.0 = (let p : place ≡ 0 + i.0 = i.1 in omega arith) in
    subst (λ (n : ℕ). slice_get w.agents n ≡ Some a) (sym e) i.2

pub one_at_place : (w : World) (place : ℕ) (a b : Agent) → In (place, a) (numbered w) → In (place, b) (numbered w) → a ≡ b
one_at_place w place a b h k = let p = at_place w place a h in let q = at_place w place b k in cc

pub superior_at : (w : World) (place : ℕ) (a : Agent) → In (place, a) (numbered w) → superior_of w place ≡ a.superior
superior_at w place a h = ap (λ (o : Option Agent). in_option None (λ (agent : Agent). agent.superior) o) (at_place w place a h)
