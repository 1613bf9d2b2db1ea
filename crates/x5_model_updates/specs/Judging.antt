-- What the master of a context concludes of an update from what it has itself, and from the agents of an NSSR that it
-- asked by probes (X.511, section 11; X.518, section 19.1).
use Rattle.std.specs.Prelude.{◌≡◌, ◌↔◌, ◌<◌, map, ℕ, true, false, List, [], length}
use Rattle.std.specs.declared.option.Option.TheVariants.{Some}
use Rattle.std.specs.declared.result.Result.TheVariants.{Ok, Err}
use Rattle.x5_model.specs.Members.{In, Once}
use Rattle.x5_model.specs.Keys.{Key}
use Rattle.x5_model.specs.Values.{Name, key_of}
use Rattle.x5_model.specs.Entries.{Named}
use Rattle.x5_model.specs.Requests.{Body, Request}
use Rattle.x5_model.specs.References.{Reference, Chained}
use Rattle.x5_model.specs.Answers.{DirError, UpdateProblem}
use Rattle.x5_model.specs.Problems.{entry_already_exists}
use Rattle.x5_model_tree.specs.World.{Agent}
use Rattle.x5_model_tree.specs.Tree.{Tree, key_at, keys_of, sorted_entries, is_there, part}
use Rattle.x5_model_tree.specs.Masters.{Mastered, pin_of, numbered, mastered, masters, holds, held_contexts}
use Rattle.x5_model_tree.specs.Ask.{is_update}
use Rattle.x5_model_tree.specs.Apply.{Ground, UpdatedEntries, own_ground, apply_over, apply}
use Rattle.x5_model_run.specs.Holdings.{Held, known_pins, ground_at, holds_within}
use Rattle.x5_model_run.specs.Needs.{target_of, resolves, new_name, due_probes}
use Rattle.x5_model_run.specs.History.{Point, knowledge_at, tree_at, world_at, own_context, holdings_at}
use Rattle.x5_model_run.specs.Right.{master_at}
use Rattle.x5_model_updates.specs.Standing.{StandsWhole}

-- an update's message reached the master of its target's context, which resolves the name
pub record IsJudge (p : Point) (o : ℕ) (m : Chained) : Type 0 where
  pub stands : StandsWhole p
  pub update : is_update m.request.body ≡ true
  pub target : key_of m.target ≡ key_of (target_of m.request.body)
  pub resolving : resolves (holdings_at p o) m ≡ true
  pub master : master_at p (key_of m.target) ≡ Some o

-- An agent that has the entry of a key in a context of its own is the master of the key's context.
abbrev pub HolderIsMaster : Type 0
HolderIsMaster = (p : Point) (o : ℕ) (c : Held) (key : Key) → StandsWhole p → In c (holdings_at p o).own →
    is_there c.entries key ≡ true → master_at p key ≡ Some o

-- what it makes of the update by its own entries, the pins that it knows and its NSSRs
abbrev pub judged : Point → ℕ → Chained → UpdatedEntries
judged p o m = apply_over (ground_at m.request (holdings_at p o)) m.request.body

abbrev pub probes : Point → ℕ → Chained → List Reference
probes p o m = due_probes (holdings_at p o) m

-- 1. What it refuses, the whole tree refuses by the same error, with the same name as the matched one.
abbrev pub RefusesAlike : Type 0
RefusesAlike = (p : Point) (o : ℕ) (m : Chained) (x : DirError) → IsJudge p o m → judged p o m ≡ Err x →
    apply (tree_at p) m.request ≡ Err x

-- 2. What it accepts, and no probe is due, the whole tree accepts.
abbrev pub AcceptsAlone : Type 0
AcceptsAlone =
    (p : Point) (o : ℕ) (m : Chained) (mine : List Named) → IsJudge p o m → judged p o m ≡ Ok mine → probes p o m ≡ []
    → (t : Tree) × (apply (tree_at p) m.request ≡ Ok t)

-- A probe asks for the new name, which is the key of its target.
abbrev pub ProbesNewName : Type 0
ProbesNewName = (p : Point) (o : ℕ) (m : Chained) (r : Reference) → In r (probes p o m)
    → (name : Name) × (new_name m.request.body ≡ Some name) × (key_of r.target ≡ key_of name)
    × (length r.target ≡ length name)

-- 3. What it accepts, and no agent that a probe is due at masters a context with the new name as its prefix, the whole
-- tree accepts.
abbrev pub AcceptsProbed : Type 0
AcceptsProbed = (p : Point) (o : ℕ) (m : Chained) (mine : List Named) → IsJudge p o m → judged p o m ≡ Ok mine
    → ((r : Reference) (a : ℕ) → In r (probes p o m) → In a r.agents → masters (knowledge_at p) a (key_of r.target)
    ≡ false)
    → (t : Tree) × (apply (tree_at p) m.request ≡ Ok t)

-- An agent that is unable to proceed with the probe holds nothing that goes as far, and so masters no such context.
abbrev pub UnableMastersNone : Type 0
UnableMastersNone =
    (p : Point) (a : ℕ) (name : Name) → StandsWhole p
    → holds_within (holdings_at p a) (key_of name) (length name) ≡ false
    → masters (knowledge_at p) a (key_of name) ≡ false

-- 4. Where an agent that a probe is due at masters such a context or has a copy of it, the whole tree refuses.
abbrev pub RefusesProbed : Type 0
RefusesProbed =
    (p : Point) (o a : ℕ) (m : Chained) (r : Reference) → IsJudge p o m → In r (probes p o m) → In a r.agents
    → holds (knowledge_at p) a (key_of r.target) ≡ true → apply (tree_at p) m.request
    ≡ Err (UpdateProblem entry_already_exists)

-- So it is where a probe's answer tells of the one tree: that the new name is no entry of it, or is one.
abbrev pub AcceptsAbsent : Type 0
AcceptsAbsent = (p : Point) (o : ℕ) (m : Chained) (mine : List Named) → IsJudge p o m → judged p o m ≡ Ok mine
    → ((name : Name) → new_name m.request.body ≡ Some name → is_there (tree_at p).entries (key_of name) ≡ false) →
    (t : Tree) × (apply (tree_at p) m.request ≡ Ok t)

abbrev pub RefusesPresent : Type 0
RefusesPresent = (p : Point) (o : ℕ) (m : Chained) (mine : List Named) (name : Name) → IsJudge p o m → judged p o m
    ≡ Ok mine → new_name m.request.body ≡ Some name
    → is_there (tree_at p).entries (key_of name) ≡ true → apply (tree_at p) m.request
    ≡ Err (UpdateProblem entry_already_exists)

-- 5. What the master then has is what its contexts have of the tree afterwards.
abbrev pub JudgedAfter : Type 0
JudgedAfter = (p : Point) (o : ℕ) (m : Chained) (mine : List Named) (u : Tree) (e : Named) → IsJudge p o m →
    judged p o m ≡ Ok mine → apply (tree_at p) m.request ≡ Ok u
    → In e mine ↔ ((c : Mastered) × In c (mastered (knowledge_at p)) × (c.master ≡ o) × In e (part u (pin_of c)))

-- An agent holds each context that it masters, with its part of the tree.
abbrev pub HoldsItsContexts : Type 0
HoldsItsContexts = (p : Point) (o : ℕ) (a : Agent) → StandsWhole p → In (o, a) (numbered (knowledge_at p)) →
    (holdings_at p o).own ≡ map (own_context (tree_at p) a) a.contexts

-- The ground that is made of the contexts that the agent holds in the world of the moment, and of the pins that it
-- knows, is the same.
abbrev pub OwnGroundHeld : Type 0
OwnGroundHeld = (p : Point) (o : ℕ) (a : Agent) (r : Request) → StandsWhole p → In (o, a) (numbered (world_at p))
    → own_ground (map key_of (known_pins r (holdings_at p o))) (held_contexts [] a.contexts)
    ≡ ground_at r (holdings_at p o)

-- In which order its entries stand is nothing to what is refused, accepted and had afterwards.
abbrev pub in_order : Ground → Ground
in_order g = record g { entries = sorted_entries g.entries }

abbrev pub OrderRefuses : Type 0
OrderRefuses = (g : Ground) (body : Body) (x : DirError) → Once (keys_of g.entries) →
    ((e : Named) → In e g.entries → 0 < length (key_at e)) → is_update body ≡ true
    → apply_over g body ≡ Err x ↔ apply_over (in_order g) body ≡ Err x

abbrev pub OrderAccepts : Type 0
OrderAccepts = (g : Ground) (body : Body) (us : List Named) → Once (keys_of g.entries) →
    ((e : Named) → In e g.entries → 0 < length (key_at e)) → is_update body ≡ true → apply_over g body ≡ Ok us
    → (vs : List Named) × (apply_over (in_order g) body ≡ Ok vs) × ((e : Named) → In e us ↔ In e vs)
