-- The knowledge of a world with the entries of another tree.
use Rattle.std.proofs.Common.{◌≡◌, ℕ, zero, suc, ◌+◌, List, [], ◌∷◌, ◌++◌, map, refl, sym, ap, ◌∙◌, Option, None, slice_get}
use Rattle.std.specs.List.{flat_map, enumerate_from}
use Rattle.std.proofs.lemmas.List.{map-append}
use Rattle.x5_model.specs.Words.{in_option}
use Rattle.x5_model.specs.Values.{key_of}
use Rattle.x5_model_tree.specs.World.{Specific, Context, Agent, World}
use Rattle.x5_model_tree.specs.Tree.{Tree, part}
use Rattle.x5_model_tree.specs.Masters.{Mastered, mastered}
use Rattle.x5_model_run.specs.History.{Point, knowledge_at, tree_at, world_at}
use Rattle.x5_model_theory.specs.Knowledge.{Knowledge, Area, Pointer}
use Rattle.x5_model_theory.specs.Described.{area_of, pointer_of, knowledge_of}
use Rattle.x5_model_theory.specs.Changing.{holding, with_entries}
use Rattle.x5_model_theory.proofs.Cohering.{map_map}
use Rattle.x5_model_theory.proofs.Places.{at_agent}
use Rattle.x5_model_updates.specs.Keeping.{keys_in}

-- ---- the world with these entries

abbrev pub now_context : Tree → Context → Context
now_context t c = record c { entries = part t (key_of c.prefix) }

abbrev pub now_agent : Tree → Agent → Agent
now_agent t a = record a { contexts = map (now_context t) a.contexts }

abbrev pub with_tree : Tree → World → World
with_tree t w = record w { agents = map (now_agent t) w.agents }

pub world_is : (p : Point) → world_at p ≡ with_tree (tree_at p) (knowledge_at p)
world_is p = refl

abbrev pub now_mastered : Tree → Mastered → Mastered
now_mastered t m = record m { context = now_context t m.context }

abbrev placed : Agent → ℕ → List Mastered
placed a n = map (at_agent n) a.contexts

abbrev all_placed : ℕ → List Agent → List Mastered
all_placed n agents = flat_map (λ (a : ℕ × Agent). map (at_agent a.0) a.1.contexts) (enumerate_from n agents)

now_contexts : (t : Tree) (n : ℕ) (cs : List Context) → map (at_agent n) (map (now_context t) cs) ≡ map (now_mastered t) (map (at_agent n) cs)
now_contexts t n [] = refl
now_contexts t n (c ∷ cs) = ap (λ (ms : List Mastered). at_agent n (now_context t c) ∷ ms) (now_contexts t n cs)

now_placed : (t : Tree) (n : ℕ) (agents : List Agent) → all_placed n (map (now_agent t) agents) ≡ map (now_mastered t) (all_placed n agents)
now_placed t n [] = refl
now_placed t n (a ∷ agents) =
    ap (λ (ms : List Mastered). ms ++ all_placed (n + 1) (map (now_agent t) agents)) (now_contexts t n a.contexts)
    ∙ ap (λ (ms : List Mastered). map (now_mastered t) (map (at_agent n) a.contexts) ++ ms) (now_placed t (n + 1) agents)
    ∙ sym (map-append (now_mastered t) (map (at_agent n) a.contexts) (all_placed (n + 1) agents))

pub mastered_now : (t : Tree) (w : World) → mastered (with_tree t w) ≡ map (now_mastered t) (mastered w)
mastered_now t w = now_placed t 0 w.agents

same_places : (t : Tree) (n : ℕ) (agents : List Agent) → map (λ (a : ℕ × Agent). a.0) (enumerate_from n (map (now_agent t) agents)) ≡ map (λ (a : ℕ × Agent). a.0) (enumerate_from n agents)
same_places t n [] = refl
same_places t n (a ∷ agents) = ap (λ (ns : List ℕ). n ∷ ns) (same_places t (n + 1) agents)

same_pointers : (t : Tree) (refs : Agent → List Specific) → ((a : Agent) → refs (now_agent t a) ≡ refs a) → (n : ℕ) (agents : List Agent)
    → flat_map (λ (a : ℕ × Agent). map (pointer_of a.0) (refs a.1)) (enumerate_from n (map (now_agent t) agents)) ≡ flat_map (λ (a : ℕ × Agent). map (pointer_of a.0) (refs a.1)) (enumerate_from n agents)
same_pointers t refs h n [] = refl
same_pointers t refs h n (a ∷ agents) =
    ap (λ (rs : List Specific). map (pointer_of n) rs ++ flat_map (λ (a : ℕ × Agent). map (pointer_of a.0) (refs a.1)) (enumerate_from (n + 1) (map (now_agent t) agents))) (h a)
    ∙ ap (λ (ps : List Pointer). map (pointer_of n) (refs a) ++ ps) (same_pointers t refs h (n + 1) agents)

abbrev superior_in : List Agent → ℕ → Option ℕ
superior_in agents a = in_option None (λ (agent : Agent). agent.superior) (slice_get agents a)

same_superior : (t : Tree) (agents : List Agent) (n : ℕ) → superior_in (map (now_agent t) agents) n ≡ superior_in agents n
same_superior t [] n = refl
same_superior t (a ∷ agents) zero = refl
same_superior t (a ∷ agents) (suc n) = same_superior t agents n

-- its knowledge is that of the world with these entries
pub knowledge_now : (t : Tree) (w : World) → knowledge_of (with_tree t w) ≡ with_entries (keys_in t) (knowledge_of w)
knowledge_now t w = λ i. record {
  agents = same_places t 0 w.agents i;
  superior = λ n. same_superior t w.agents n i;
  areas = areas i;
  subordinate = same_pointers t (λ a. a.subordinate) (λ a. refl) 0 w.agents i;
  cross = same_pointers t (λ a. a.cross) (λ a. refl) 0 w.agents i;
  supplies = (knowledge_of w).supplies;
}
  where
    areas : map area_of (mastered (with_tree t w)) ≡ map (holding (keys_in t)) (map area_of (mastered w))
    areas =
        ap (map area_of) (mastered_now t w)
        ∙ map_map (now_mastered t) area_of (mastered w)
        ∙ sym (map_map area_of (holding (keys_in t)) (mastered w))

-- other entries of the same prefixes take the place of earlier ones
pub again : (t u : Tree) (k : Knowledge) → with_entries (keys_in u) (with_entries (keys_in t) k) ≡ with_entries (keys_in u) k
again t u k = ap (λ (cs : List Area). record k { areas = cs }) (map_map (holding (keys_in t)) (holding (keys_in u)) k.areas)
