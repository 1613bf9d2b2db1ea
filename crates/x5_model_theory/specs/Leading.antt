-- Each reference that knowledge makes an agent need leads on (X.518, sections 18 and 19): its agents can go on from
-- there, and a message that follows it is nearer than all before.
use Rattle.std.specs.Prelude.{List, ◌≡◌, ℕ, true, Option, Some, ◌⊎◌, false, [], ◌∷◌, ◌++◌, ◌+◌, ◌<◌, ◌≤◌, length}
use Rattle.std.specs.Prelude.{if◌then◌else◌}
use Rattle.std.specs.Option.{is_some}
use Rattle.x5_model.specs.Keys.{Key}
use Rattle.x5_model.specs.Values.{Name, key_of}
use Rattle.x5_model.specs.Requests.{Request}
use Rattle.x5_model.specs.Members.{In}
use Rattle.x5_model.specs.References.{Progress, Start, Next, Done, Reference, TraceItem, Chained}
use Rattle.x5_model_tree.specs.World.{World}
use Rattle.x5_model_tree.specs.Masters.{pins}
use Rattle.x5_model_tree.specs.Consistent.{IsConsistent}
use Rattle.x5_model_tree.specs.Described.{IsDescribed}
use Rattle.x5_model_run.specs.History.{Point, knowledge_at, holdings_at}
use Rattle.x5_model_run.specs.Journal.{Line, is_done, item_of, is_wide, same_item}
use Rattle.x5_model_run.specs.Chain.{Scene, scene_at, IsCarried, opening, asks_part, AllLicensed}
use Rattle.x5_model_run.specs.Needs.{target_of, new_name, subset_of, resolution_needs, part_needs, copied_needs}
use Rattle.x5_model_run.specs.Needs.{passing_needs, due_probes, needs}
use Rattle.x5_model_run.specs.Placed.{fits, is_brought, Placed}
use Rattle.x5_model_run.specs.Stage.{Stage, stage_of, is_lower}

-- what a point of a run over consistent knowledge rests on
pub record IsSound (p : Point) : Type 0 where
  pub described : IsDescribed (knowledge_at p)
  pub consistent : IsConsistent (knowledge_at p)

-- stages are ordered
abbrev pub NeverLower : Type 0
NeverLower = (a : Stage) → is_lower a a ≡ true → ⊥

abbrev pub LowerChain : Type 0
LowerChain = (a b c : Stage) → is_lower a b ≡ true → is_lower b c ≡ true → is_lower a c ≡ true

-- so a placed message's receiver doesn't stand in its trace with the same target and progress: there is no loop
abbrev pub NoLoop : Type 0
NoLoop = (p : Point) (m : Chained) (to : ℕ) (i : TraceItem) → Placed p m to → In i m.trace → same_item i (item_of to m)
    ≡ true → ⊥

-- the item that an agent has for a message that follows a reference, and that message as far as its place goes
abbrev pub item_for : ℕ → Reference → TraceItem
item_for a r = record { agent = a; target = r.target; progress = r.progress; wide = is_wide r.kind }

abbrev pub message_for : Chained → Reference → Chained
message_for m r = record m { target = r.target; progress = r.progress; kind = r.kind }

-- How far an item is in a request: nothing at the start; else by RDNs, with next=k k, and with a completed name its
-- target, one more where it asks for the pins just below. At each of these levels the distance falls, of superiors or
-- suppliers.
abbrev pub level_of : TraceItem → ℕ
level_of i = by i.progress
  where
    by : Progress → ℕ
    by Start = 0
    by (Next k) = k
    by Done = if i.wide then length i.target + 1 else length i.target

abbrev pub IsFurther : World → TraceItem → TraceItem → Type 0
IsFurther w i j =
    (level_of i < level_of j) ⊎ ((level_of i ≡ level_of j) × ((stage_of w j).distance < (stage_of w i).distance))

-- no pin has more RDNs
abbrev pub PinsWithin : ℕ → World → Type 0
PinsWithin n w = (q : Key) → In q (pins w) → length q ≤ n

-- the reference leads on, to the agent
pub record Leads (p : Point) (o : ℕ) (m : Chained) (r : Reference) (a : ℕ) : Type 0 where
  pub lower : is_lower (stage_of (knowledge_at p) (item_of o m)) (stage_of (knowledge_at p) (item_for a r)) ≡ true
  pub further : IsFurther (knowledge_at p) (item_of o m) (item_for a r)
  -- no further than names are long
  pub bounded : (n : ℕ) → length m.target ≤ n → PinsWithin n (knowledge_at p) → level_of (item_for a r) ≤ n
  pub brought : is_brought p (message_for m r) a ≡ true
  -- it asks for a part, or for the same target; where the name is completed, a list or search goes on
  pub keeps : (asks_part r ≡ true) ⊎ ((key_of r.target ≡ key_of m.target) × (asks_part r ≡ false))
  pub late : (is_done r.progress ≡ false) ⊎ (is_some (subset_of m) ≡ true)

-- the references of name resolution
abbrev pub ResolutionLeads : Type 0
ResolutionLeads = (p : Point) (o : ℕ) (m : Chained) (r : Reference) (a : ℕ) → IsSound p →
    In r (resolution_needs (holdings_at p o) m) → In a r.agents → Leads p o m r a

-- those of the parts of a list or search, and of a copy that can't be used
abbrev pub PartsLead : Type 0
PartsLead = (p : Point) (o : ℕ) (m : Chained) (r : Reference) (a : ℕ) → IsSound p →
    In r (part_needs (holdings_at p o) m) → In a r.agents → Leads p o m r a

abbrev pub CopiesLead : Type 0
CopiesLead = (p : Point) (o : ℕ) (m : Chained) (r : Reference) (a : ℕ) → IsSound p →
    In r (copied_needs (holdings_at p o) m) → In a r.agents → Leads p o m r a

-- A message that follows a needed reference, but for a probe's, is placed at each agent that the reference names, where
-- the message that needed it was placed.
abbrev pub FollowedIsPlaced : Type 0
FollowedIsPlaced = (p : Point) (sender : Option ℕ) (opener : Line) (r : Reference) (m : Chained) (a : ℕ) → IsSound p
    → In r (passing_needs (holdings_at p opener.receiver) opener.message)
    → In a r.agents → IsCarried sender opener r m → Placed p opener.message opener.receiver → Placed p m a

-- So is what follows the reference of a probe, which an addEntry or modifyDN needs at its master (X.518, section 19.1).
abbrev pub ProbesArePlaced : Type 0
ProbesArePlaced = (p : Point) (sender : Option ℕ) (opener : Line) (r : Reference) (m : Chained) (a : ℕ) → IsSound p
    → In r (due_probes (holdings_at p opener.receiver) opener.message)
    → In a r.agents → IsCarried sender opener r m → Placed p opener.message opener.receiver → Placed p m a

-- in a trace each item is lower than all later ones
abbrev pub IsRising : Point → List TraceItem → Type 0
IsRising p [] = Unit {0}
IsRising p (i ∷ is) = ((j : TraceItem) → In j is → is_lower (stage_of (knowledge_at p) i) (stage_of (knowledge_at p) j)
    ≡ true) × IsRising p is

-- so it stays where a placed message is followed, and no two items of such a trace are the same
abbrev pub TracesRise : Type 0
TracesRise = (p : Point) (sender : Option ℕ) (opener : Line) (r : Reference) (m : Chained) →
    Placed p opener.message opener.receiver → IsRising p opener.message.trace
    → IsCarried sender opener r m → IsRising p m.trace

abbrev pub NoItemTwice : Type 0
NoItemTwice = (p : Point) (before after : List TraceItem) (i j : TraceItem) → IsRising p (before ++ i ∷ after) →
    In j after → same_item i j ≡ true → ⊥

-- along a trace each item is further than the one before
abbrev pub IsGoing : World → List TraceItem → Type 0
IsGoing w [] = Unit {0}
IsGoing w (i ∷ []) = Unit {0}
IsGoing w (i ∷ j ∷ is) = IsFurther w i j × IsGoing w (j ∷ is)

-- So it stays, by each reference that is needed; the receiver's own item belongs to it.
abbrev pub with_own : ℕ → Chained → List TraceItem
with_own to m = m.trace ++ item_of to m ∷ []

abbrev pub TracesGoOn : Type 0
TracesGoOn = (p : Point) (sender : Option ℕ) (opener : Line) (r : Reference) (m : Chained) (a : ℕ) → IsSound p →
    fits opener.message ≡ true
    → In r (needs (holdings_at p opener.receiver) opener.message) → In a r.agents → IsCarried sender opener r m
    → IsGoing (knowledge_at p) (with_own opener.receiver opener.message) → IsGoing (knowledge_at p) (with_own a m)

-- Where names have 16 RDNs at most, 17 distances at the start and five at each of 16 levels make 97 items at most, the
-- receiver's among them.
abbrev pub NoLongTrace : Type 0
NoLongTrace = (w : World) (to : ℕ) (m : Chained) → IsGoing w (with_own to m) →
    ((i : TraceItem) → In i (with_own to m) → level_of i ≤ 16) → length m.trace ≤ 96

-- So it is in the whole journal of a request: each line's message is placed, and its trace goes on. The user's own is.
abbrev pub JournalsArePlaced : Type 0
JournalsArePlaced = (p : Point) (s : Scene) (lines : List Line) (l : Line) → IsSound p → s.holdings ≡ holdings_at p
    → Placed p s.message s.first → IsGoing (knowledge_at p) (with_own s.first s.message)
    → AllLicensed s lines → In l lines → Placed p l.message l.receiver
    × IsGoing (knowledge_at p) (with_own l.receiver l.message)

abbrev pub OpeningIsPlaced : Type 0
OpeningIsPlaced = (p : Point) (first : ℕ) (r : Request) → Placed p (opening r) first
    × IsGoing (knowledge_at p) (with_own first (opening r))

-- A message whose names, that of its trace and the new one of an update have so many RDNs at most; so has what follows
-- it.
pub record IsWithin (n : ℕ) (to : ℕ) (m : Chained) : Type 0 where
  pub target : length m.target ≤ n
  pub fresh : (name : Name) → new_name m.request.body ≡ Some name → length name ≤ n
  pub items : (i : TraceItem) → In i (with_own to m) → level_of i ≤ n

abbrev pub NamesStayWithin : Type 0
NamesStayWithin = (n : ℕ) (p : Point) (sender : Option ℕ) (opener : Line) (r : Reference) (m : Chained) (a : ℕ) →
    IsSound p → fits opener.message ≡ true → PinsWithin n (knowledge_at p)
    → In r (needs (holdings_at p opener.receiver) opener.message) → In a r.agents → IsCarried sender opener r m
    → IsWithin n opener.receiver opener.message → IsWithin n a m

abbrev pub NoJournalIsLong : Type 0
NoJournalIsLong =
    (p : Point) (first : ℕ) (r : Request) (lines : List Line) (l : Line) → IsSound p → length (target_of r.body) ≤ 16
    → ((name : Name) → new_name r.body ≡ Some name → length name ≤ 16) → AllLicensed (scene_at p first r) lines →
    In l lines → length l.message.trace ≤ 96
