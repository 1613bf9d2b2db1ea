-- What it comes to where the resolution of a name ends at an agent (X.518, section 18): which references are needed
-- there, and what the one tree has.
use Rattle.std.specs.Prelude.{◌≡◌, ℕ, ◌<◌, ◌⊎◌, true, false, List, [], ◌∷◌, length, map}
use Rattle.std.specs.Option.{is_some}
use Rattle.std.specs.declared.option.Option.TheVariants.{None, Some}
use Rattle.x5_model.specs.Members.{In, Once}
use Rattle.x5_model.specs.Values.{Name, key_of}
use Rattle.x5_model.specs.Entries.{Named}
use Rattle.x5_model.specs.References.{Next, Reference, Chained}
use Rattle.x5_model.specs.Answers.{NoSuchObject}
use Rattle.x5_model_tree.specs.World.{World}
use Rattle.x5_model_tree.specs.Tree.{key_at, tree_of, lowest, is_there}
use Rattle.x5_model_tree.specs.Consistent.{IsConsistent}
use Rattle.x5_model_tree.specs.Described.{IsDescribed}
use Rattle.x5_model_tree.specs.Ask.{Refuses, is_update, ask_marked}
use Rattle.x5_model_run.specs.Journal.{is_wide}
use Rattle.x5_model_run.specs.Holdings.{Held, Copy, Holdings, may_copy, holds_within}
use Rattle.x5_model_run.specs.Needs.{resolves, subset_of, needs, due_probes, part_needs}
use Rattle.x5_model_run.specs.History.{Did, Point, knowledge_at, tree_at, holdings_at}
use Rattle.x5_model_run.specs.Chain.{Scene}
use Rattle.x5_model_run.specs.Covers.{touched, mixed, is_copied, told}
use Rattle.x5_model_run.specs.Right.{master_at, first_level_at, nssr_agents, is_copy_source}
use Rattle.x5_model_run.specs.Placed.{Placed}
use Rattle.x5_model_theory.specs.Leading.{IsSound}
use Rattle.x5_model_parts.specs.Parts.{begins_here}
use Rattle.x5_model_parts.specs.Standing as parts
use Rattle.x5_model_updates.specs.Standing as updates
use Rattle.x5_model_updates.specs.Keeping.{NoneMoved}
use Rattle.x5_model_updates.specs.Judging.{IsJudge}
use Rattle.x5_model_serve.specs.Finding.{Here, CopyHere, Onward, Nowhere, Stuck, IsLooked, find}
use Rattle.x5_model_serve.specs.Answering.{above_next, copy_source}
use Rattle.x5_model_serve.specs.Serving.{hand, begins_parts}
use Rattle.x5_model_serve.specs.Claims.{IsAgent}

-- ---- what a line finds
-- Where updates find a line standing, so do the parts of a query;
abbrev pub StandAlike : Type 0
StandAlike = (p : Point) → updates.StandsWhole p → parts.Stands p

-- and copies stand as of their moments, as long as no context is moved.
abbrev pub CopiesAlways : Type 0
CopiesAlways =
    (w : World) (past : List Did) → IsDescribed w → IsConsistent w → NoneMoved past
    → parts.CopiesStand (record { described = w; past = past })

-- ---- what is found decides what is needed
-- an agent masters a prefix once, and has one copy of it; none is the root
pub record Orderly (h : Holdings) : Type 0 where
  pub own_once : Once (map (λ c. key_of c.prefix) h.own)
  pub copies_once : Once (map (λ c. key_of c.held.prefix) h.copies)
  pub filled : (c : Held) → In c h.own → 0 < length (key_of c.prefix)

abbrev pub HoldingsOrderly : Type 0
HoldingsOrderly = (p : Point) (o : ℕ) → IsSound p → Orderly (holdings_at p o)

-- The reference by which the name goes on is the one that is needed.
abbrev pub OnwardNeeds : Type 0
OnwardNeeds =
    (h : Holdings) (m : Chained) (r : Reference) → Orderly h → IsLooked m → find h m ≡ Onward r → needs h m ≡ r ∷ []

-- Where there is no such entry, or the agent can't go on, none is needed.
abbrev pub NothingNeeded : Type 0
NothingNeeded =
    (h : Holdings) (m : Chained)
    → Orderly h → IsLooked m → ((n : Name) × (find h m ≡ Nowhere n)) ⊎ (find h m ≡ Stuck) → needs h m ≡ []

-- Where a read, a compare or an update ends in a context of the agent's own, probes alone are needed.
abbrev pub HereNeeds : Type 0
HereNeeds =
    (h : Holdings) (m : Chained) (c : Held)
    → IsLooked m → find h m ≡ Here c → subset_of m ≡ None → needs h m ≡ due_probes h m

-- Where the base of a list or search is found, the references of its parts are.
abbrev pub PartsNeeded : Type 0
PartsNeeded =
    (h : Holdings) (m : Chained) (o : ℕ)
    → IsLooked m → begins_parts (hand o m) (find h m) ≡ true → needs h m ≡ part_needs h m

-- A list or search begins exactly where its base is found.
abbrev pub BeginsAlike : Type 0
BeginsAlike =
    (h : Holdings) (m : Chained) (o : ℕ) → Orderly h → IsLooked m → is_some (subset_of m) ≡ true
    → begins_parts (hand o m) (find h m) ≡ begins_here h m

-- A message that knowledge brought, but by an NSSR, goes on.
abbrev pub PlacedGoesOn : Type 0
PlacedGoesOn =
    (p : Point) (o : ℕ) (m : Chained)
    → IsSound p → Placed p m o → is_wide m.kind ≡ false → find (holdings_at p o) m ≡ Stuck → ⊥

-- ---- what the one tree has
-- The lowest entry on the way has this name, and the agent is its master; or there is none, and the agent is
-- first-level.
pub data Ends (p : Point) (o : ℕ) (m : Chained) (others : List ℕ) : Name → Type 0 where
  at_none :
      first_level_at (knowledge_at p) o ≡ true → lowest (tree_at p).entries (key_of m.target) ≡ None
      → Ends p o m others []
  at_entry :
      (e : Named)
      → lowest (tree_at p).entries (key_of m.target) ≡ Some e → master_at p (key_at e) ≡ Some o
      → ((s : Scene) → s.holdings ≡ holdings_at p → nssr_agents p s e ≡ others)
      → Ends p o m others e.name

-- Where an agent finds no such entry, the tree has none, and no NSSR at the lowest one names another agent.
abbrev pub NowhereIsTold : Type 0
NowhereIsTold =
    (p : Point) (o : ℕ) (m : Chained) (n : Name)
    → updates.StandsWhole p → IsAgent p o → IsLooked m → find (holdings_at p o) m ≡ Nowhere n
    → (told (λ key. false) (tree_at p) m ≡ Refuses (NoSuchObject n)) × Ends p o m [] n

-- So it is where no agent of the NSSR holds a context that goes as far.
abbrev pub NobodyIsTold : Type 0
NobodyIsTold =
    (p : Point) (o : ℕ) (m : Chained) (r : Reference) (k : ℕ)
    → updates.StandsWhole p → IsAgent p o → IsLooked m
    → find (holdings_at p o) m ≡ Onward r → is_wide r.kind ≡ true → r.progress ≡ Next k
    → ((a : ℕ) → In a r.agents → holds_within (holdings_at p a) (key_of r.target) k ≡ false)
    → (told (λ key. false) (tree_at p) m ≡ Refuses (NoSuchObject (above_next r))) × Ends p o m r.agents (above_next r)

-- A read or compare in a context of the agent's own is what the tree tells.
abbrev pub OwnIsTold : Type 0
OwnIsTold =
    (p : Point) (o : ℕ) (m : Chained) (c : Held)
    → updates.StandsWhole p → IsLooked m → find (holdings_at p o) m ≡ Here c
    → subset_of m ≡ None → is_update m.request.body ≡ false
    → (told (λ key. false) (tree_at p) m ≡ ask_marked (λ key. false) (tree_of c.entries []) m.request)
    × (touched (knowledge_at p) (tree_at p) o m ≡ key_of c.prefix ∷ [])

-- A read or compare at a copy is what that one source tells, marked as a copy.
abbrev pub CopyIsTold : Type 0
CopyIsTold =
    (p : Point) (o : ℕ) (m : Chained) (c : Copy)
    → updates.StandsWhole p → parts.CopiesStand p → IsLooked m → find (holdings_at p o) m ≡ CopyHere c
    → subset_of m ≡ None
    → (t : ℕ) × (c.stamp ≡ Some t) × (may_copy m.request ≡ true) × (is_copy_source p (copy_source o c) t ≡ true)
    × (touched (knowledge_at p) (tree_at p) o m ≡ key_of c.held.prefix ∷ [])
    × (ask_marked (λ key. true) (tree_of c.held.entries []) m.request
    ≡ told (is_copied p (copy_source o c ∷ [])) (mixed p (copy_source o c ∷ [])) m)

-- Where the target of an update is found in a context that its agent masters, that agent judges it (section 19.1).
abbrev pub HereIsJudge : Type 0
HereIsJudge =
    (p : Point) (o : ℕ) (m : Chained) (c : Held)
    → updates.StandsWhole p → IsLooked m → is_update m.request.body ≡ true → find (holdings_at p o) m ≡ Here c
    → IsJudge p o m

-- And an update that still resolves its name at the master of a present target is found there.
abbrev pub JudgeIsHere : Type 0
JudgeIsHere =
    (p : Point) (o : ℕ) (m : Chained)
    → updates.StandsWhole p → IsLooked m → is_update m.request.body ≡ true
    → resolves (holdings_at p o) m ≡ true → master_at p (key_of m.target) ≡ Some o
    → is_there (tree_at p).entries (key_of m.target) ≡ true
    → (c : Held) × (find (holdings_at p o) m ≡ Here c)
