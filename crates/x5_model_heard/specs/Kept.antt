-- What stays while a request is passed on, over any knowledge.
use Rattle.std.specs.Prelude.{◌≡◌, ℕ, Bool, ◌==◌, true, false, List, [], ◌∷◌}
use Rattle.std.specs.declared.option.Option.{Option}
use Rattle.x5_model.specs.Words.{has}
use Rattle.x5_model.specs.Requests.{Body, Read, Compare}
use Rattle.x5_model.specs.References.{Reference, Chained}
use Rattle.x5_model_tree.specs.Ask.{is_update}
use Rattle.x5_model_run.specs.Journal.{Journal}
use Rattle.x5_model_run.specs.Holdings.{Held, Holdings}
use Rattle.x5_model_run.specs.Needs.{due_probes}
use Rattle.x5_model_run.specs.Chain.{Scene}
use Rattle.x5_model_serve.specs.Finding.{Here}
use Rattle.x5_model_serve.specs.Serving.{Hand, Probes, Does, Arrives, carried_for, found_at}

-- 1. While the probes that are due are sent nothing is accepted.
abbrev pub ProbesAcceptNone : Type 0
ProbesAcceptNone =
    (s : Scene) (most : ℕ) (k : Hand) (r : Reference) (agents noted : List ℕ) (h : Holdings) (i j : Journal)
    → due_probes h k.message ≡ r ∷ [] → Does s most (Probes k r agents noted) i j → j.accepted ≡ i.accepted

-- 2. Where the target of an update is found, the agent accepted none before in this line.
abbrev pub HereIsFresh : Type 0
HereIsFresh =
    (s : Scene) (k : Hand) (j : Journal) (c : Held)
    → Arrives s k j → found_at s j k ≡ Here c → is_update k.message.request.body ≡ true
    → has ◌==◌ j.accepted k.receiver ≡ false

-- reads and compares look at one entry
abbrev pub looks_at_one : Body → Bool
looks_at_one (Read name selection) = true
looks_at_one (Compare name assertion) = true
looks_at_one other = false

-- an update that is carried is the user's; and where the user reads or compares, that is what is carried
pub record IsOfUser (s : Scene) (m : Chained) : Type 0 where
  pub update : is_update m.request.body ≡ true → m.request.body ≡ s.message.request.body
  pub alone : looks_at_one s.message.request.body ≡ true → m.request.body ≡ s.message.request.body

-- 3. Both stay so where they are passed on.
abbrev pub UpdatesAreCarried : Type 0
UpdatesAreCarried =
    (s : Scene) (from : Option ℕ) (o : Hand) (r : Reference)
    → IsOfUser s o.message → IsOfUser s (carried_for from o r)
