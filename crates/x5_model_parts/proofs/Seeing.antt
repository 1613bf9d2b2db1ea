-- What an agent's holdings say of the knowledge by keys, and from where it looks for a list or search.
use Rattle.std.proofs.Common.{◌≡◌, ℕ, ◌<◌, ◌≤◌, Bool, true, false, ◌⊎◌, ◌↔◌, List, length, map, Some}
use Rattle.std.specs.Option.{is_some}
use Rattle.x5_model.specs.Members.{In, Once}
use Rattle.x5_model.specs.Keys.{Key, parent, is_child}
use Rattle.x5_model.specs.Values.{key_of}
use Rattle.x5_model.specs.References.{Chained}
use Rattle.x5_model_tree.specs.World.{Specific, Nssr, World}
use Rattle.x5_model_tree.specs.Tree.{Tree, keys_of}
use Rattle.x5_model_tree.specs.Masters.{Mastered, pin_of, mastered}
use Rattle.x5_model_run.specs.Holdings.{Held, Holdings, held_at, served}
use Rattle.x5_model_run.specs.Journal.{is_done, is_wide}
use Rattle.x5_model_run.specs.Needs.{subset_of, is_excluded, begins_at, answers_root}
use Rattle.x5_model_run.specs.Covers.{touched}
use Rattle.x5_model_theory.specs.Knowledge.{Knowledge, Area, Spot, IsReferred, IsMastered}
use Rattle.x5_model_theory.specs.Coherent.{Coherent}
use Rattle.x5_model_theory.specs.Described.{spot_of}
use Rattle.x5_model_theory.specs.Scopes.{InSubset, Look, IsEvaluated, IsTold, IsTouched, MayLook}

abbrev pub is_held : List Held → Key → Bool
is_held all q = is_some (held_at all q)

abbrev pub IsTellable : Knowledge → ℕ → Key → Type 0
IsTellable k a p = IsReferred k a p ⊎ IsMastered k a p

-- a context that an agent may answer from, as far as pins and NSSRs go
pub record Like (k : Knowledge) (all : List Held) (d : Area) (c : Held) : Type 0 where
  pub area : In d k.areas
  pub prefix : d.prefix ≡ key_of c.prefix
  pub entries : (q : Area) → In q k.areas → In (parent q.prefix) d.entries ↔ In (parent q.prefix) (keys_of c.entries)
  pub nssrs : d.nssrs ≡ map spot_of c.nssrs
  pub nssr_there : (n : Nssr) → In n c.nssrs → In (key_of n.at) (keys_of c.entries)
  pub told : (r : Specific) → In r c.subordinate
      → (q : Area) × In q k.areas × (q.prefix ≡ key_of r.pin) × In (parent q.prefix) d.entries × IsTellable k d.master q.prefix × (q.master ≡ r.access.master)
  pub tells : (q : Area) → In q k.areas → In (parent q.prefix) d.entries → IsTellable k d.master q.prefix → is_held all q.prefix ≡ false
      → (r : Specific) × In r c.subordinate × (key_of r.pin ≡ q.prefix)
  pub referred_once : Once (map (λ r. key_of r.pin) c.subordinate)
  pub nssrs_once : Once (map (λ n. key_of n.at) c.nssrs)
  pub agents_once : (n : Nssr) → In n c.nssrs → Once n.agents

-- a start of what came with a completed name
abbrev pub IsWideStart : World → ℕ → Chained → Area → Type 0
IsWideStart w o m d = (x : Mastered) × In x (mastered w) × (pin_of x ≡ d.prefix) × (x.master ≡ o) × (is_child (key_of m.target) (pin_of x) ≡ true) × (is_excluded m.exclusions x.context.prefix ≡ false)

-- the look of an agent's part
pub record Sees (w : World) (t : Tree) (k : Knowledge) (o : ℕ) (h : Holdings) (m : Chained) (l : Look) : Type 0 where
  pub good : Coherent k
  pub area_of_mastered : (x : Mastered) → In x (mastered w) → (d : Area) × In d k.areas × (d.prefix ≡ pin_of x) × (d.master ≡ x.master)
  pub mastered_of_area : (d : Area) → In d k.areas → (x : Mastered) × In x (mastered w) × (pin_of x ≡ d.prefix) × (x.master ≡ d.master)
  pub may : MayLook l
  pub inside : (q : Area) → In q k.areas → In q l.knowledge.areas
  pub outside : (q : Area) → In q l.knowledge.areas → 0 < length q.prefix → In q k.areas
  pub references : l.knowledge.subordinate ≡ k.subordinate
  pub agent : l.agent ≡ h.me
  pub holds : (q : Key) → l.holds q ≡ is_held (served m.request h) q
  pub subset : subset_of m ≡ Some l.subset
  pub base : l.base ≡ key_of m.target
  pub short : (q : Area) → In q k.areas → length q.prefix ≤ 16
  pub like : (c : Held) → In c (served m.request h) → (d : Area) × Like k (served m.request h) d c
  pub first : (c : Held) → In c (begins_at h m l.subset) → In c (served m.request h) × ((d : Area) × IsEvaluated l d × Like k (served m.request h) d c)
  pub all_once : Once (map (λ c. key_of c.prefix) (served m.request h))
  pub begins_once : Once (map (λ c. key_of c.prefix) (begins_at h m l.subset))
  pub begins_low : (c : Held) → In c (begins_at h m l.subset) → ((d : Area) × In d l.starts × (d.prefix ≡ key_of c.prefix)) ⊎ (length (key_of c.prefix) ≡ 1)
  pub starts : (d : Area) → In d l.starts → 0 < length d.prefix → (c : Held) × In c (begins_at h m l.subset) × (d.prefix ≡ key_of c.prefix)
  pub from_root : (d q : Area) → In d l.starts → length d.prefix ≡ 0 → In q k.areas → In (parent q.prefix) d.entries → InSubset l.subset l.base q.prefix → l.holds q.prefix ≡ true
      → (c : Held) × In c (begins_at h m l.subset) × (q.prefix ≡ key_of c.prefix)
  pub root_told : answers_root h m ≡ true → (r : Specific) → In r h.root
      → (q : Area) × In q k.areas × (q.prefix ≡ key_of r.pin) × (q.master ≡ r.access.master) × ((d : Area) × IsEvaluated l d × (length d.prefix ≡ 0) × In (parent q.prefix) d.entries × IsTold l d q.prefix)
  pub root_tells : (d : Area) → IsEvaluated l d → length d.prefix ≡ 0
      → (answers_root h m ≡ true) × ((n : Spot) → In n d.nssrs → ⊥) × ((q : Area) → In q k.areas → In (parent q.prefix) d.entries → IsTold l d q.prefix → l.holds q.prefix ≡ false
      → (r : Specific) × In r h.root × (key_of r.pin ≡ q.prefix))
  pub root_once : Once (map (λ r. key_of r.pin) h.root)
  pub looks : (q : Key) → In q (touched w t o m) ↔ ((d : Area) × In d k.areas × (d.prefix ≡ q) × IsTouched l d)
  pub pin_start : is_done m.progress ≡ true → is_wide m.kind ≡ false → (d : Area) → In d l.starts → d.prefix ≡ key_of m.target
  pub wide_start : is_done m.progress ≡ true → is_wide m.kind ≡ true → (d : Area) → In d l.starts → IsWideStart w o m d
