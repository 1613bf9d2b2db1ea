-- What is claimed of each thing that is done, over any knowledge, so that one induction shows it.
use Rattle.std.specs.Prelude.{◌≡◌, ℕ, ◌⊎◌, ◌==◌, true, List, ⊤}
use Rattle.std.specs.Option.{is_some}
use Rattle.std.specs.declared.option.Option.{Option}
use Rattle.x5_model.specs.Words.{has}
use Rattle.x5_model.specs.Members.{In}
use Rattle.x5_model.specs.References.{Reference}
use Rattle.x5_model.specs.Answers.{Answer}
use Rattle.x5_model_tree.specs.Ask.{unexplored_of, is_update}
use Rattle.x5_model_run.specs.Network.{Sent, is_unheard}
use Rattle.x5_model_run.specs.Journal.{Line, Journal, is_wide}
use Rattle.x5_model_run.specs.Chain.{Scene}
use Rattle.x5_model_run.specs.Holdings.{Held}
use Rattle.x5_model_serve.specs.Finding.{Here, Onward, find, IsLooked}
use Rattle.x5_model_serve.specs.Answering.{in_vain}
use Rattle.x5_model_serve.specs.Serving.{Hand, hand_of, Heard, Gathered, Whole, Broken, Act, Serves, Follows, Sends}
use Rattle.x5_model_serve.specs.Serving.{Tries, Spreads, Casts, Gathers, Probes, Updates, limit_reply, is_spent}
use Rattle.x5_model_serve.specs.Serving.{holds_now}
use Rattle.x5_model_serve.specs.Serving as serving
use Rattle.x5_model_local.specs.Hearing as hearing
use Rattle.x5_model_local.specs.Hearing.{AskedBy, InVain, Cleared}
use Rattle.x5_model_local.specs.Joining.{IsJoined}
use Rattle.x5_model_local.specs.Telling.{Looks, IsMissed, Told}

-- lines are added, agents accept more, and no message comes back to be sent
pub record Later (most : ℕ) (i j : Journal) : Type 0 where
  pub lines : (l : Line) → In l i.lines → In l j.lines
  pub accepted : (a : ℕ) → has ◌==◌ i.accepted a ≡ true → has ◌==◌ j.accepted a ≡ true
  pub spent : is_spent most i ≡ true → is_spent most j ≡ true

-- one agent: it wasn't heard; or it was, and its reply rests on what is told; or no message was left
abbrev pub SentTold : Scene → ℕ → Hand → Reference → ℕ → Journal → Heard → Type 0
SentTold s most o r a j serving.Unheard = (b : AskedBy j.lines o r a) × (is_unheard b.line.fate ≡ true)
SentTold s most o r a j (serving.Hears y) =
    ((b : AskedBy j.lines o r a) × (b.line.fate ≡ Sent) × Told s most j (hand_of b.line) y)
    ⊎ ((y ≡ limit_reply) × (is_spent most j ≡ true))

-- a reference: each agent was asked in vain; or one was heard
abbrev pub TakenTold : Scene → ℕ → Hand → Reference → Journal → Heard → Type 0
TakenTold s most o r j serving.Unheard = IsMissed s j o (in_vain r)
TakenTold s most o r j (serving.Hears y) = Told s most j o y

-- agents that were asked: those that are noted in vain, the others are cleared
pub record NotedTold (s : Scene) (o : Hand) (r : Reference) (agents noted : List ℕ) (j : Journal) : Type 0 where
  pub some : (a : ℕ) → In a noted → In a agents
  pub vain : (a : ℕ) → In a noted → InVain j.lines o r a
  pub cleared : (a : ℕ) → In a agents → (In a noted → ⊥) → Cleared s j.lines o r a

-- the whole so far: joined, and what is unexplored was asked for in vain; or an error
abbrev pub AllMissed : Scene → Journal → Hand → Answer → Type 0
AllMissed s j o a = (u : Reference) → In u (unexplored_of a) → IsMissed s j o u

abbrev pub WholeTold : Scene → ℕ → Hand → Journal → Gathered → Type 0
WholeTold s most o j (Whole a) = IsJoined s j o a × AllMissed s j o a
WholeTold s most o j (Broken y) = Told s most j o y

-- an update is at hand, and its target is found in an own context
pub record AtUpdate (s : Scene) (k : Hand) (i : Journal) : Type 0 where
  pub looked : IsLooked k.message
  pub context : Held
  pub found : find (holds_now s i k) k.message ≡ Here context
  pub update : is_update k.message.request.body ≡ true

-- the name goes on by the reference
pub record GoesBy (s : Scene) (o : Hand) (r : Reference) (i : Journal) : Type 0 where
  pub at : Looks s i o o
  pub found : find at.holds o.message ≡ Onward r
  pub wide : is_wide r.kind ≡ true

abbrev pub ToldOf : Scene → ℕ → Act → Journal → Journal → Type 0
ToldOf s most (Serves k y) i j = Told s most j k y
ToldOf s most (Follows from k y last) i j = Told s most i k y → Told s most j k last
ToldOf s most (Sends from o r a h) i j = SentTold s most o r a j h
ToldOf s most (Tries from o r agents) i j = (a : ℕ) → In a agents → InVain j.lines o r a
ToldOf s most (serving.Takes from o r h) i j = hearing.Takes s i o r → TakenTold s most o r j h
ToldOf s most (Spreads from o r agents noted) i j = NotedTold s o r agents noted j
ToldOf s most (Casts from o r y) i j = GoesBy s o r i → Told s most j o y
ToldOf s most (Gathers from o rs a whole) i j =
    ((r : Reference) → In r rs → hearing.Takes s i o r) → IsJoined s i o a → AllMissed s i o a
    → WholeTold s most o j whole
ToldOf s most (Probes k r agents noted) i j = NotedTold s k r agents noted j
ToldOf s most (Updates k y) i j = AtUpdate s k i → Told s most j k y

pub record Does (s : Scene) (most : ℕ) (x : Act) (i j : Journal) : Type 0 where
  pub later : Later most i j
  pub told : ToldOf s most x i j

-- Whoever sends is an agent. A user who follows may hold a message back, and that rests on nobody.
abbrev pub BySome : Option ℕ → Type 0
BySome from = is_some from ≡ true

abbrev pub ByAgents : Act → Type 0
ByAgents (Serves k y) = ⊤
ByAgents (Follows from k y last) = BySome from
ByAgents (Sends from o r a h) = BySome from
ByAgents (Tries from o r agents) = BySome from
ByAgents (serving.Takes from o r h) = BySome from
ByAgents (Spreads from o r agents noted) = BySome from
ByAgents (Casts from o r y) = BySome from
ByAgents (Gathers from o rs a whole) = BySome from
ByAgents (Probes k r agents noted) = ⊤
ByAgents (Updates k y) = ⊤

-- whatever agents do
abbrev pub ServingIsTold : Type 0
ServingIsTold =
    (s : Scene) (most : ℕ) (x : Act) (i j : Journal) → serving.Does s most x i j → ByAgents x → Does s most x i j
