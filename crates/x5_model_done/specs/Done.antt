-- What agents do with a request always comes to an end: however messages fare, there are a journal and a reply (X.518,
-- sections 17 to 21). So, with what x5_model_determined says, there is exactly one of each.
use Rattle.std.specs.Prelude.{◌≡◌, ℕ, true, List}
use Rattle.x5_model.specs.Members.{In}
use Rattle.x5_model.specs.Values.{key_of}
use Rattle.x5_model.specs.Requests.{Request}
use Rattle.x5_model.specs.References.{Chained}
use Rattle.x5_model.specs.Answers.{Reply}
use Rattle.x5_model_tree.specs.World.{World}
use Rattle.x5_model_tree.specs.Tree.{is_there}
use Rattle.x5_model_run.specs.Journal.{Journal}
use Rattle.x5_model_run.specs.Holdings.{Held, Holdings, served}
use Rattle.x5_model_run.specs.History.{Did, Point}
use Rattle.x5_model_run.specs.Chain.{Scene, scene_with}
use Rattle.x5_model_find.specs.Finds.{Orderly}
use Rattle.x5_model_serve.specs.Serving.{Hand, Serves, Does, IsRequest}
use Rattle.x5_model_serve.specs.Claims.{Setting}

-- What an agent holds is in order: it has a context once, and a copy once; and each context that it may answer from
-- has an entry at its prefix.
pub record IsKept (h : Holdings) : Type 0 where
  pub orderly : Orderly h
  pub headed : (r : Request) (c : Held) → In c (served r h) → is_there c.entries (key_of c.prefix) ≡ true

-- 1. So it is in every setting.
abbrev pub SettingsAreKept : Type 0
SettingsAreKept = (p : Point) (s : Scene) → Setting p s → (a : ℕ) → IsKept (s.holdings a)

-- 2. Each message is served, with a reply, at whatever agent it is, and whatever that agent holds.
abbrev pub MessagesAreServed : Type 0
MessagesAreServed =
    (s : Scene) (most : ℕ) (k : Hand) (i : Journal) → (reply : Reply) × (j : Journal) × Does s most (Serves k reply) i j

-- 3. Each request is carried through, whatever is lost, and however few messages it may take.
abbrev pub RequestsAreDone : Type 0
RequestsAreDone = (s : Scene) (most : ℕ) → (j : Journal) × (reply : Reply) × IsRequest s most j reply

-- the journal and the reply of a request, of which there are no others
pub record UniqueResult (s : Scene) (most : ℕ) : Type 0 where
  pub journal : Journal
  pub reply : Reply
  pub done : IsRequest s most journal reply
  pub only : (j : Journal) (other : Reply) → IsRequest s most j other → (other ≡ reply) × (j ≡ journal)

-- 4. So a request has one outcome,
abbrev pub RequestsHaveOutcomes : Type 0
RequestsHaveOutcomes = (s : Scene) (most : ℕ) → UniqueResult s most

-- 5. and so has any message at every line, whatever the world and whatever was done before, so over knowledge that
-- isn't consistent too.
abbrev pub LinesHaveOutcomes : Type 0
LinesHaveOutcomes =
    (w : World) (past : List Did) (first most : ℕ) (m : Chained)
    → UniqueResult (scene_with (record { described = w; past = past }) first m) most
