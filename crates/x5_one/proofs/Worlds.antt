-- What is gathered of a world, agent by agent, is its whole tree, which is sound where knowledge is consistent.
use Rattle.std.proofs.Common.{◌≡◌, ℕ, ◌+◌, List, [], ◌∷◌, ◌++◌, map, refl, sym, ap, subst, ◌∙◌}
use Rattle.std.proofs.lemmas.List.{append_assoc, map-append}
use Rattle.std.specs.List.{flat_map, enumerate_from}
use Rattle.x5_model.specs.Members.{Once}
use Rattle.x5_model.specs.Keys.{Key}
use Rattle.x5_model.specs.Entries.{Named}
use Rattle.x5_model_tree.specs.World.{Context, Agent, World}
use Rattle.x5_model_tree.specs.Tree.{sorted_entries}
use Rattle.x5_model_tree.specs.Masters.{Mastered, pin_of, mastered, all_entries, whole}
use Rattle.x5_model_tree.specs.Described.{IsDescribed}
use Rattle.x5_model_tree.specs.Consistent.{IsConsistent}
use Rattle.x5_model_theory.specs.Knowledge.{Area}
use Rattle.x5_model_theory.specs.Described.{area_of, knowledge_of}
use Rattle.x5_model_theory.specs.Changing.{holding, with_entries}
use Rattle.x5_model_theory.proofs.Cohering.{map_map}
use Rattle.x5_model_updates.specs.Keeping.{keys_in}
use Rattle.x5_model_updates.proofs.Stood.{begins}
use Rattle.x5_one.specs.One.{One, pin_in, tree_in, contexts_by, contexts_of, entries_by, entries_of}
use Rattle.x5_one.specs.Parts.{IsSound}

abbrev by_agent : ℕ × Agent → List Mastered
by_agent a = map (λ c. record { master = a.0; context = c }) a.1.contexts

abbrev entries_in : Mastered → List Named
entries_in m = m.context.entries

flat_joined : {A B : Type 0} (f : A → List B) (xs ys : List A) → flat_map f (xs ++ ys) ≡ flat_map f xs ++ flat_map f ys
flat_joined f [] ys = refl
flat_joined {A} {B} f (x ∷ xs) ys = ap (λ (zs : List B). f x ++ zs) (flat_joined f xs ys)
    ∙ sym (append_assoc (f x) (flat_map f xs) (flat_map f ys))

-- one agent's
own_entries : (n : ℕ) (cs : List Context)
    → flat_map entries_in (map (λ c. record { master = n; context = c }) cs) ≡ entries_by cs
own_entries n [] = refl
own_entries n (c ∷ cs) = ap (λ (es : List Named). c.entries ++ es) (own_entries n cs)

own_pins : (n : ℕ) (a : Agent) (cs : List Context)
    → map pin_of (map (λ c. record { master = n; context = c }) cs)
    ≡ map pin_in (map (λ c. record { prefix = c.prefix; master = a.name }) cs)
own_pins n a [] = refl
own_pins n a (c ∷ cs) = ap (λ (ks : List Key). pin_in (record { prefix = c.prefix; master = a.name }) ∷ ks)
    (own_pins n a cs)

-- all agents'
entries_from : (n : ℕ) (agents : List Agent)
    → flat_map entries_in (flat_map by_agent (enumerate_from n agents)) ≡ entries_of agents
entries_from n [] = refl
entries_from n (a ∷ more) =
    flat_joined entries_in (by_agent (n, a)) (flat_map by_agent (enumerate_from (n + 1) more))
    ∙ (λ i. own_entries n a.contexts i ++ entries_from (n + 1) more i)

pins_from : (n : ℕ) (agents : List Agent)
    → map pin_of (flat_map by_agent (enumerate_from n agents)) ≡ map pin_in (flat_map contexts_by agents)
pins_from n [] = refl
pins_from n (a ∷ more) =
    map-append pin_of (by_agent (n, a)) (flat_map by_agent (enumerate_from (n + 1) more))
    ∙ (λ i. own_pins n a a.contexts i ++ pins_from (n + 1) more i)
    ∙ sym (map-append pin_in (contexts_by a) (flat_map contexts_by more))

pub all_gathered : (w : World) → entries_of w.agents ≡ all_entries w
all_gathered w = sym (entries_from 0 w.agents)

-- the tree of what is gathered
pub whole_gathered : (w : World) (o : One) → o.entries ≡ sorted_entries (all_entries w)
    → o.contexts ≡ contexts_of w → tree_in o ≡ whole w
whole_gathered w o es cs = λ i. record { entries = es i; pins = (ap (map pin_in) cs ∙ sym (pins_from 0 w.agents)) i }

pub whole_sound : (w : World) → IsDescribed w → IsConsistent w → IsSound (whole w)
whole_sound w described consistent =
    let s = begins w described consistent in
    record {
      knowledge = with_entries (keys_in (whole w)) (knowledge_of w);
      coherent = s.0;
      tree = s.1;
      once = subst Once (map_map (holding (keys_in (whole w))) (λ (d : Area). d.prefix) (map area_of (mastered w))
          ∙ map_map area_of (λ (d : Area). d.prefix) (mastered w)) s.0.once;
    }
