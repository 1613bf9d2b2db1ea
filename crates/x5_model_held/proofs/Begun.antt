-- What a file describes of an agent is what it holds before the first line, over consistent knowledge: the part of the
-- whole tree that belongs to a context has just its entries, and no refresh was done.
use Rattle.std.proofs.Common.{◌≡◌, ℕ, Bool, true, false, inl, inr, if◌then◌else◌, List, [], ◌∷◌, map, refl, sym, ap, subst, ◌∙◌, Option, None, Some}
use Rattle.x5_model.specs.Members.{In, here, there}
use Rattle.x5_model.specs.Entries.{Named}
use Rattle.x5_model.specs.Words.{has, in_option}
use Rattle.x5_model.specs.Keys.{Key, same_key}
use Rattle.x5_model.specs.Members.{Once}
use Rattle.x5_model.specs.Values.{key_of}
use Rattle.x5_model.proofs.Lists.{in_first, in_map, in_flat}
use Rattle.x5_model_tree.specs.World.{Context, Agent, World}
use Rattle.x5_model_tree.specs.Tree.{sorted_entries, part}
use Rattle.x5_model_tree.specs.Masters.{Mastered, agent_at, numbered, mastered, pins, held_contexts, whole}
use Rattle.x5_model_tree.specs.Described.{IsDescribed}
use Rattle.x5_model_tree.specs.Consistent.{IsConsistent}
use Rattle.x5_model_tree.specs.Good.{Good}
use Rattle.x5_model_tree.proofs.Gives.{consistent_is_good}
use Rattle.x5_model_tree.proofs.WholeTree.{part_is_context}
use Rattle.x5_model_run.specs.Holdings.{Held, Holdings}
use Rattle.x5_model_run.specs.History.{Point, references_below, own_context, agent_holdings, no_holdings, holdings_at}
use Rattle.x5_model_theory.proofs.Cohering.{consistent_is_coherent}
use Rattle.x5_model_theory.proofs.Holding.{of_place}
use Rattle.x5_model_theory.proofs.Places.{at_agent}
use Rattle.x5_model_updates.proofs.Goods.{pins_once}
use Rattle.x5_model_held.specs.Beginning.{described_context, described_holdings, holdings_described}
use Rattle.x5_model_held.specs.Theorems.{HeldAsDescribed}

map_same : {A B : Type 0} (f g : A → B) (xs : List A) → ((x : A) → In x xs → f x ≡ g x) → map f xs ≡ map g xs
map_same f g [] h = refl
map_same {A} {B} f g (x ∷ xs) h =
    ap (λ (y : B). y ∷ map f xs) (h x here)
    ∙ ap (λ (ys : List B). g x ∷ ys) (map_same f g xs (λ y i. h y (there i)))

of_held_contexts : (before : List Key) (cs : List Context) (c : Context) → In c (held_contexts before cs) → In c cs
of_held_contexts before [] c i = elim i [ ]
of_held_contexts before (x ∷ cs) c i =
    go (has same_key before (key_of x.prefix)) i (of_held_contexts before cs c)
    (of_held_contexts (key_of x.prefix ∷ before) cs c)
  where
    go : (b : Bool) → In c (if b then held_contexts before cs else (x ∷ held_contexts (key_of x.prefix ∷ before) cs))
        → (In c (held_contexts before cs) → In c cs)
        → (In c (held_contexts (key_of x.prefix ∷ before) cs) → In c cs) → In c (x ∷ cs)
    go true j f g = there (f j)
    go false j f g = elim (in_first c x (held_contexts (key_of x.prefix ∷ before) cs) j) [
      | inl e ↦ subst (λ (y : Context). In c (y ∷ cs)) e here
      | inr k ↦ there (g k)
    ]

-- a context by its entries
abbrev with_part : Agent → Context → List Named → Held
with_part a c entries = record {
  prefix = c.prefix;
  entries = entries;
  subordinate = references_below entries a.subordinate;
  nssrs = c.nssrs;
}

module _ (w : World) (described : IsDescribed w) (consistent : IsConsistent w) where
  abbrev first : Point
  first = record { described = w; past = [] }

  good : Good w
  good = consistent_is_good w described consistent

  once : Once (pins w)
  once = pins_once w (consistent_is_coherent w described consistent)

  own_part : (me : ℕ) (a : Agent) (c : Context) → In (me, a) (numbered w) → In c a.contexts
      → sorted_entries c.entries ≡ part (whole w) (key_of c.prefix)
  own_part me a c i j =
      sym (part_is_context w good once (at_agent me c)
      (in_flat (λ (b : ℕ × Agent). map (at_agent b.0) b.1.contexts) (at_agent me c) (me, a) (numbered w) i
      (in_map (at_agent me) c a.contexts j)))

  own_same : (me : ℕ) (a : Agent) → In (me, a) (numbered w)
      → map (described_context a.subordinate) (held_contexts [] a.contexts) ≡ map (own_context (whole w) a) (held_contexts [] a.contexts)
  own_same me a i =
      map_same (described_context a.subordinate) (own_context (whole w) a) (held_contexts [] a.contexts)
      (λ c j. ap (with_part a c) (own_part me a c i (of_held_contexts [] a.contexts c j)))

  agent_same : (me : ℕ) (a : Agent) → In (me, a) (numbered w) → described_holdings w me a ≡ agent_holdings first me a
  agent_same me a i =
      ap (λ (own : List Held). record (agent_holdings first me a) { own = own }) (own_same me a i)

  all_same : (me : ℕ) (x : Option Agent) → agent_at w me ≡ x
      → in_option (no_holdings me) (described_holdings w me) x ≡ in_option (no_holdings me) (agent_holdings first me) x
  all_same me None e = refl
  all_same me (Some a) e = agent_same me a (of_place w me a e)

pub held_as_described : HeldAsDescribed
held_as_described w me d c = all_same w d c me (agent_at w me) refl
