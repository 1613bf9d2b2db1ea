-- Consistent knowledge is coherent: the facts by keys, of contexts, references, superiors and agreements.
use Rattle.std.proofs.Common.{◌≡◌, ◌≢◌, ℕ, zero, suc, ◌<◌, ◌≤◌, ◌⊎◌, inl, inr, List, [], ◌∷◌, ◌++◌, map, length, refl, sym, ap, subst, ◌∙◌, arith, Option, Some, None, not, true, ◌+◌}
use Rattle.x5_model.specs.Members.{In, Once, here, there}
use Rattle.x5_model.specs.Keys.{Key, IsPrefix, parent}
use Rattle.x5_model.specs.Values.{key_of}
use Rattle.x5_model.specs.Entries.{Named}
use Rattle.x5_model.proofs.Lists.{in_map, of_map, in_left, in_right, once_map, both_true, of_all, in_first}
use Rattle.x5_model_tree.specs.World.{Specific, Nssr, Agent, World}
use Rattle.x5_model_tree.specs.Tree.{key_at, keys_of, is_there}
use Rattle.x5_model_tree.specs.Masters.{Mastered, pin_of, numbered, mastered, superior_of, supplier_of}
use Rattle.x5_model_tree.specs.Conditions.{Conditions, Has, Refers, Masters, Consumes, after}
use Rattle.x5_model_tree.specs.Consistent.{IsConsistent}
use Rattle.x5_model_tree.specs.Described.{IsDescribed, is_agent, is_context, is_nssr}
use Rattle.x5_model_tree.specs.Good.{Good}
use Rattle.x5_model_tree.proofs.Exact.{conditions_hold}
use Rattle.x5_model_tree.proofs.Gives.{consistent_is_good}
use Rattle.x5_model_theory.specs.Knowledge.{Knowledge, Area, Spot, Supply, IsEntry, IsMastered, IsConsumed, IsReferred}
use Rattle.x5_model_theory.specs.Coherent.{Coherent, Climbs, climbs, IsFed, fed, ConsistentIsCoherent}
use Rattle.x5_model_theory.specs.Described.{spot_of, area_of, pointer_of, supply_of, knowledge_of}
use Rattle.x5_model_theory.proofs.Tests.{each_map, false_true}
use Rattle.x5_model_theory.proofs.Views.{superior_at}
use Rattle.x5_model_theory.proofs.Places.{at_agent, own_area, each_pointer, pointer_in}
use Rattle.x5_model_theory.proofs.Supplying.{given, same_given, given_decides, once_apart, of_supplier}
use Rattle.std.specs.List.{list_all, enumerate_from}
use Rattle.x5_model.specs.Words.{is_empty}

pub one_master : (k : Knowledge) (c d : Area) → Coherent k → In c k.areas → In d k.areas → c.prefix ≡ d.prefix → c ≡ d
one_master k c d good i j e = once_map (λ (q : Area). q.prefix) k.areas c d good.once i j e

pub map_map : {A B C : Type 0} (f : A → B) (g : B → C) (xs : List A) → map g (map f xs) ≡ map (λ x. g (f x)) xs
map_map f g [] = refl
map_map {A} {B} {C} f g (x ∷ xs) = ap (λ (ys : List C). g (f x) ∷ ys) (map_map f g xs)

-- members by keys
has_key : (entries : List Named) (key : Key) → Has entries key → In key (keys_of entries)
has_key entries key h = subst (λ (x : Key). In x (keys_of entries)) h.2 (in_map key_at h.0 entries h.1)

key_has : (entries : List Named) (key : Key) → In key (keys_of entries) → Has entries key
key_has entries key i = let e = of_map key_at key entries i in (e.0, e.1, sym e.2)

mastered_by : (w : World) (a : ℕ) (pin : Key) → Masters w a pin → IsMastered (knowledge_of w) a pin
mastered_by w a pin m = (area_of m.0, in_map area_of m.0 (mastered w) m.1, m.2.0, m.2.1)

of_mastered : (w : World) (a : ℕ) (pin : Key) → IsMastered (knowledge_of w) a pin → Masters w a pin
of_mastered w a pin c =
    let m = of_map area_of c.0 (mastered w) c.1 in
    (m.0, m.1, (ap (λ (x : Area). x.master) (sym m.2) ∙ c.2, ap (λ (x : Area). x.prefix) (sym m.2) ∙ c.3))

consumed_by : (w : World) (a : ℕ) (pin : Key) → Consumes w a pin → IsConsumed (knowledge_of w) a pin
consumed_by w a pin g = (supply_of g.0, in_map supply_of g.0 w.agreements g.1, g.2.0, g.2.1)

referred_by : (w : World) (place : ℕ) (a : Agent) (pin : Key) → In (place, a) (numbered w) → Refers a pin → IsReferred (knowledge_of w) place pin
referred_by w place a pin i r = (pointer_of place r.0, pointer_in w (λ (x : Agent). x.subordinate) place a r.0 i r.1, refl, r.2)

-- what holds of each context
each_context : (w : World) (P : Area → Type 0) → ((m : Mastered) → In m (mastered w) → P (area_of m)) → (c : Area) → In c (map area_of (mastered w)) → P c
each_context w P f = (each_map area_of P (mastered w)).0 f

-- ---- chains

after_none : (next : ℕ → Option ℕ) (k : ℕ) → after next k None ≡ None
after_none next zero = refl
after_none next (suc k) = refl

climbing : (w : World) (k n place : ℕ) (o : Option ℕ) → superior_of w place ≡ o → k ≤ n → after (superior_of w) k o ≡ None → Climbs (knowledge_of w) n place
climbing w k n place None e h t = Climbs.ends e
climbing w zero n place (Some b) e h t = cc
climbing w (suc k) zero place (Some b) e h t = absurd (omega arith)
climbing w (suc k) (suc n) place (Some b) e h t = climbs e (climbing w k n b (superior_of w b) refl (omega arith) t)

feeding : (w : World) (pin : Key) (k n a s : ℕ) → k ≤ n → after (λ b. supplier_of w b pin) k (Some a) ≡ Some s → Masters w s pin → IsFed (knowledge_of w) pin n a
feeding w pin zero n a s h t m = (let same : a ≡ s = cc in IsFed.ends (subst (λ (x : ℕ). IsMastered (knowledge_of w) x pin) (sym same) (mastered_by w s pin m)))
feeding w pin (suc k) zero a s h t m = absurd (omega arith)
feeding w pin (suc k) (suc n) a s h t m = go (supplier_of w a pin) refl t (λ b u. feeding w pin k n b s (omega arith) u m)
  where
    go : (o : Option ℕ) → supplier_of w a pin ≡ o → after (λ b. supplier_of w b pin) k o ≡ Some s
        → ((b : ℕ) → after (λ b. supplier_of w b pin) k (Some b) ≡ Some s → IsFed (knowledge_of w) pin n b) → IsFed (knowledge_of w) pin (suc n) a
    go None e u f = (let none : after (λ b. supplier_of w b pin) k None ≡ None = after_none (λ b. supplier_of w b pin) k in cc)
    go (Some b) e u f =
        let g = of_supplier w.agreements a b pin e in
        fed (supply_of g.0) (in_map supply_of g.0 w.agreements g.1) g.2 g.3 (subst (λ (x : ℕ). IsFed (knowledge_of w) pin n x) (sym g.4) (f b u))

-- no two agreements give an agent one context
pub agreements_apart : (w : World) → IsConsistent w → Once (map given w.agreements)
agreements_apart w c = once_apart given same_given given_decides w.agreements (λ g i. ((conditions_hold w c).supplied g i).1.0)

pub numbered_in : (n : ℕ) (a : ℕ × Agent) (xs : List Agent) → In a (enumerate_from n xs) → In a.1 xs
numbered_in n a [] i = elim i [ ]
numbered_in n a (x ∷ xs) i = elim (in_first a (n, x) (enumerate_from (n + 1) xs) i) [ inl e ↦ subst (λ (y : Agent). In y (x ∷ xs)) (ap (λ (p : ℕ × Agent). p.1) (sym e)) here | inr j ↦ there (numbered_in (n + 1) a xs j) ]

module _ (w : World) (described : IsDescribed w) (consistent : IsConsistent w) where
  conditions : Conditions w
  conditions = conditions_hold w consistent

  good : Good w
  good = consistent_is_good w described consistent

  k : Knowledge
  k = knowledge_of w

  entry_there : (n : Mastered) (key : Key) → In n (mastered w) → Has n.context.entries key → IsEntry (knowledge_of w) key
  entry_there n key i h = (area_of n, in_map area_of n (mastered w) i, has_key n.context.entries key h)

  placed : (a : ℕ × Agent) → In a (numbered w) → (r : Specific) → In r a.1.subordinate
      → ((c : Area) × In c (knowledge_of w).areas × (c.master ≡ a.0) × In (parent (key_of r.pin)) c.entries) ⊎ ((length (key_of r.pin) ≡ 1) × (superior_of w a.0 ≡ None))
  placed a i r j =
      elim ((conditions.references a i).0 r j).1 [
        | inl h ↦ inr (h.1, superior_at w a.0 a.1 i ∙ h.0)
        | inr h ↦ inl (area_of (at_agent a.0 h.0), own_area w a.0 a.1 h.0 i h.1, refl, subst (λ (x : Key). In x (keys_of h.0.entries)) (sym h.2.2.1) (in_map key_at h.2.0 h.0.entries h.2.1))
      ]

  known : (m p : Mastered) → In m (mastered w) → In p (mastered w) → In (parent (pin_of p)) (keys_of m.context.entries)
      → (p.master ≡ m.master) ⊎ (IsReferred (knowledge_of w) m.master (pin_of p) ⊎ ((n : Spot) × In n (map spot_of m.context.nssrs) × (n.at ≡ parent (pin_of p)) × In p.master n.agents))
  known m p i j up =
      let o = good.owner m i in
      elim (good.known_below m p o.0 i j o.1 o.2 (key_has m.context.entries (parent (pin_of p)) up)) [
        | inl e ↦ inl e
        | inr more ↦ elim more [
          | inl r ↦ inr (inl (referred_by w m.master o.0 (pin_of p) o.1 r))
          | inr n ↦ inr (inr (spot_of n.0, in_map spot_of n.0 m.context.nssrs n.1, n.2.0, n.2.1))
        ]
      ]

  spots : (m : Mastered) → In m (mastered w) → (n : Spot) → In n (map spot_of m.context.nssrs)
      → Once n.agents × ((a : ℕ) → In a n.agents → (a ≢ m.master) × ((d : Area) × In d (knowledge_of w).areas × (d.master ≡ a) × (parent d.prefix ≡ n.at)))
  spots m i = (each_map spot_of (λ (n : Spot). Once n.agents × ((a : ℕ) → In a n.agents → (a ≢ m.master) × ((d : Area) × In d (knowledge_of w).areas × (d.master ≡ a) × (parent d.prefix ≡ n.at)))) m.context.nssrs).0
      (λ n j. (let c = conditions.members m i n j in (c.0, λ a l. (let q = c.1 a l in (q.0, (area_of q.1.0, in_map area_of q.1.0 (mastered w) q.1.1, q.1.2.0, q.1.2.1.1))))))

  shadowed : (a : ℕ × Agent) → In a (numbered w) → (r : Specific) → In r (a.1.subordinate ++ a.1.cross) → Once r.access.shadows × ((s : ℕ) → In s r.access.shadows → IsConsumed (knowledge_of w) s (key_of r.pin))
  shadowed a i r j = (let c = conditions.shadows a i r j in (c.0, λ s l. consumed_by w s (key_of r.pin) (c.1 s l)))

  some_member : (xs : List ℕ) → not (is_empty xs) ≡ true → (a : ℕ) × In a xs
  some_member [] e = absurd (false_true e)
  some_member (x ∷ xs) e = (x, here)

  some_agent : (m : Mastered) → In m (mastered w) → (n : Nssr) → In n m.context.nssrs → (a : ℕ) × In a n.agents
  some_agent m i n j =
      let o = good.owner m i in
      let a : is_agent w o.0 ≡ true = of_all (is_agent w) o.0 w.agents described.agents (numbered_in 0 (m.master, o.0) w.agents o.1) in
      let cs : list_all (is_context w) o.0.contexts ≡ true = (both_true (list_all (is_context w) o.0.contexts) _ (both_true _ _ a).1).0 in
      let c : is_context w m.context ≡ true = of_all (is_context w) m.context o.0.contexts cs o.2 in
      let ns : list_all (is_nssr w m.context) m.context.nssrs ≡ true = (both_true (list_all (is_nssr w m.context) m.context.nssrs) _ (both_true _ _ (both_true _ _ c).1).1).0 in
      let one : is_nssr w m.context n ≡ true = of_all (is_nssr w m.context) n m.context.nssrs ns j in
      some_member n.agents (both_true (not (is_empty n.agents)) _ (both_true (is_there m.context.entries (key_of n.at)) _ one).1).0

  coherent : Coherent (knowledge_of w)
  coherent = record {
    filled = each_context w (λ c. 0 < length c.prefix) (λ m i. (good.context m i).filled);
    headed = each_context w (λ c. In c.prefix c.entries) (λ m i. has_key m.context.entries (pin_of m) (good.context m i).prefix_there);
    below = λ c e i. each_context w (λ c. In e c.entries → IsPrefix c.prefix e)
        (λ m im j. (let x = key_has m.context.entries e j in subst (λ (y : Key). IsPrefix (pin_of m) y) x.2 ((good.context m im).below x.0 x.1))) c i;
    closed = λ c e i. each_context w (λ c. In e c.entries → (e ≡ c.prefix) ⊎ In (parent e) c.entries)
        (λ m im j. (let x = key_has m.context.entries e j in elim ((good.context m im).grown x.0 x.1) [
          | inl s ↦ inl (sym x.2 ∙ s)
          | inr h ↦ inr (subst (λ (y : Key). In (parent y) (keys_of m.context.entries)) x.2 (has_key m.context.entries (parent (key_at x.0)) h))
        ])) c i;
    entries_apart = each_context w (λ c. Once c.entries) (λ m i. (good.context m i).once);
    nssr_at = λ c n i. each_context w (λ c. In n c.nssrs → In n.at c.entries)
        (λ m im j. (let x = of_map spot_of n m.context.nssrs j in subst (λ (y : Spot). In y.at (keys_of m.context.entries)) (sym x.2) (has_key m.context.entries (key_of x.0.at) ((good.context m im).nssr_there x.0 x.1)))) c i;
    one_nssr = λ c n l i. each_context w (λ c. In n c.nssrs → In l c.nssrs → n.at ≡ l.at → n ≡ l)
        (λ m im j g e.
        (let x = of_map spot_of n m.context.nssrs j in
        let y = of_map spot_of l m.context.nssrs g in
        let same : key_of x.0.at ≡ key_of y.0.at = ap (λ (z : Spot). z.at) (sym x.2) ∙ e ∙ ap (λ (z : Spot). z.at) y.2 in
        x.2 ∙ ap spot_of ((good.context m im).one_nssr x.0 y.0 x.1 y.1 same) ∙ sym y.2)) c i;
    nssr_some = λ c n i. each_context w (λ c. In n c.nssrs → (a : ℕ) × In a n.agents)
        (λ m im j. (let x = of_map spot_of n m.context.nssrs j in subst (λ (y : Spot). (a : ℕ) × In a y.agents) (sym x.2) (some_agent m im x.0 x.1))) c i;
    once = subst (λ (xs : List Key). Once xs) (sym (map_map area_of (λ (c : Area). c.prefix) (mastered w))) conditions.one_master;
    parents = each_context w (λ c. (length c.prefix ≡ 1) ⊎ IsEntry (knowledge_of w) (parent c.prefix))
        (λ m i. elim (good.parents m i) [ inl e ↦ inl e | inr n ↦ inr (entry_there n.0 (parent (pin_of m)) n.1 n.2) ]);
    no_longer = λ c d e i j. each_context w (λ c. In e c.entries → IsPrefix d.prefix e → length d.prefix ≤ length c.prefix)
        (λ m im l q. (let x = key_has m.context.entries e l in
        each_context w (λ d. IsPrefix d.prefix e → length d.prefix ≤ length (pin_of m))
        (λ p ip r. good.no_longer m p x.0 im ip x.1 (subst (λ (y : Key). IsPrefix (pin_of p) y) (sym x.2) r)) d j q)) c i;
    subordinate_right = (each_pointer w (λ (a : Agent). a.subordinate) (λ r. IsMastered (knowledge_of w) r.master r.pin)).0
        (λ a i r j. mastered_by w r.access.master (key_of r.pin) (good.names_master a.0 a.1 r i (inl j)));
    cross_right = (each_pointer w (λ (a : Agent). a.cross) (λ r. IsMastered (knowledge_of w) r.master r.pin)).0
        (λ a i r j. mastered_by w r.access.master (key_of r.pin) (good.names_master a.0 a.1 r i (inr j)));
    subordinate_placed = (each_pointer w (λ (a : Agent). a.subordinate)
        (λ r. ((c : Area) × In c (knowledge_of w).areas × (c.master ≡ r.owner) × In (parent r.pin) c.entries) ⊎ ((length r.pin ≡ 1) × (superior_of w r.owner ≡ None)))).0 placed;
    subordinate_shadows = (each_pointer w (λ (a : Agent). a.subordinate) (λ r. Once r.shadows × ((s : ℕ) → In s r.shadows → IsConsumed (knowledge_of w) s r.pin))).0
        (λ a i r j. shadowed a i r (in_left r a.1.subordinate a.1.cross j));
    cross_shadows = (each_pointer w (λ (a : Agent). a.cross) (λ r. Once r.shadows × ((s : ℕ) → In s r.shadows → IsConsumed (knowledge_of w) s r.pin))).0
        (λ a i r j. shadowed a i r (in_right r a.1.subordinate a.1.cross j));
    known_below = λ c d i j. each_context w (λ c. In (parent d.prefix) c.entries → (d.master ≡ c.master) ⊎ (IsReferred (knowledge_of w) c.master d.prefix ⊎ ((n : Spot) × In n c.nssrs × (n.at ≡ parent d.prefix) × In d.master n.agents)))
        (λ m im. each_context w (λ d. In (parent d.prefix) (keys_of m.context.entries) → (d.master ≡ m.master) ⊎ (IsReferred (knowledge_of w) m.master d.prefix ⊎ ((n : Spot) × In n (map spot_of m.context.nssrs) × (n.at ≡ parent d.prefix) × In d.master n.agents)))
        (λ p ip. known m p im ip) d j) c i;
    nssr_once = λ c n i. each_context w (λ c. In n c.nssrs → Once n.agents) (λ m im j. (spots m im n j).0) c i;
    nssr_others = λ c n i. each_context w (λ c. In n c.nssrs → In c.master n.agents → ⊥) (λ m im j l. ((spots m im n j).1 m.master l).0 refl) c i;
    nssr_masters = λ c n a i. each_context w (λ c. In n c.nssrs → In a n.agents → (d : Area) × In d (knowledge_of w).areas × (d.master ≡ a) × (parent d.prefix ≡ n.at))
        (λ m im j l. ((spots m im n j).1 a l).1) c i;
    first_level = λ a d ia first i. each_context w (λ d. length d.prefix ≡ 1 → (d.master ≡ a) ⊎ IsReferred (knowledge_of w) a d.prefix)
        (λ p ip one.
        (let x = of_map (λ (y : ℕ × Agent). y.0) a (numbered w) ia in
        let at : In (a, x.0.1) (numbered w) = subst (λ (n : ℕ). In (n, x.0.1) (numbered w)) (sym x.2) x.1 in
        elim (good.top_known a x.0.1 p at ip (sym (superior_at w a x.0.1 at) ∙ first) one) [ inl e ↦ inl e | inr r ↦ inr (referred_by w a x.0.1 (pin_of p) at r) ])) d i;
    chain = (each_map (λ (y : ℕ × Agent). y.0) (λ (a : ℕ). Climbs (knowledge_of w) 16 a) (numbered w)).0
        (λ y i. (let c = conditions.superiors y i in climbing w c.0 16 y.0 y.1.superior (superior_at w y.0 y.1 i) c.1.0 c.1.1));
    consumers = (each_map supply_of (λ (s : Supply). IsMastered (knowledge_of w) s.consumer s.prefix → ⊥) w.agreements).0
        (λ g i m. (conditions.supplied g i).0 (of_mastered w g.consumer (key_of g.context) m));
    one_supply = λ s t i j a p.
        (let x = of_map supply_of s w.agreements i in
        let y = of_map supply_of t w.agreements j in
        let left : ℕ → ℕ × Key = λ n. (n, s.prefix) in
        let right : Key → ℕ × Key = λ n. (t.consumer, n) in
        let one : given x.0 ≡ given y.0 = ap (λ (z : Supply). given_to z) (sym x.2) ∙ ap left a ∙ ap right p ∙ ap (λ (z : Supply). given_to z) y.2 in
        x.2 ∙ ap supply_of (once_map given w.agreements x.0 y.0 (agreements_apart w consistent) x.1 y.1 one) ∙ sym y.2);
    supplied = (each_map supply_of (λ (s : Supply). IsFed (knowledge_of w) s.prefix 4 s.consumer) w.agreements).0
        (λ g i. (let c = (conditions.supplied g i).1.1 in
        fed (supply_of g) (in_map supply_of g w.agreements i) refl refl (feeding w (key_of g.context) c.0 3 g.supplier c.1.1.0 (suc_le c.0 3 c.1.0) c.1.1.1.0 c.1.1.1.1)));
  }
    where
      given_to : Supply → ℕ × Key
      given_to s = (s.consumer, s.prefix)

      suc_le : (a b : ℕ) → a < suc b → a ≤ b
      suc_le a b h = omega arith

pub consistent_is_coherent : ConsistentIsCoherent
consistent_is_coherent w d c = coherent w d c
