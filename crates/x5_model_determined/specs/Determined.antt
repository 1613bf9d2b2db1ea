-- What agents do with a request leaves nothing open: of each thing that is done, its input and the journal before it
-- determine what comes of it and the journal after it, over any knowledge (X.518, sections 17 to 21). So nothing that
-- is proved of a request depends on which derivation there is.
use Rattle.std.specs.Prelude.{◌≡◌, ℕ, List}
use Rattle.x5_model.specs.Answers.{Reply}
use Rattle.x5_model_run.specs.Journal.{Journal}
use Rattle.x5_model_run.specs.Chain.{Scene}
use Rattle.x5_model_serve.specs.Serving.{Heard, Gathered, Act, Serves, Follows, Sends, Tries, Takes, Spreads, Casts}
use Rattle.x5_model_serve.specs.Serving.{Gathers, Probes, Updates, Does, IsRequest}

-- The same thing done from the same journal comes to the same: the reply to a message; what is made of a reply; what is
-- heard of an agent, or by a reference; who of an NSSR, or of a probe's agents, wasn't heard; what is gathered; and the
-- journal. The agents and references that were asked so far are input.
abbrev pub SameOutcome : Scene → ℕ → Act → Journal → Journal → Type 0
SameOutcome s most (Serves k reply) i j =
    (other : Reply) (l : Journal) → Does s most (Serves k other) i l → (other ≡ reply) × (l ≡ j)
SameOutcome s most (Follows from k reply last) i j =
    (other : Reply) (l : Journal) → Does s most (Follows from k reply other) i l → (other ≡ last) × (l ≡ j)
SameOutcome s most (Sends from o r a h) i j =
    (other : Heard) (l : Journal) → Does s most (Sends from o r a other) i l → (other ≡ h) × (l ≡ j)
SameOutcome s most (Tries from o r agents) i j = (l : Journal) → Does s most (Tries from o r agents) i l → l ≡ j
SameOutcome s most (Takes from o r h) i j =
    (other : Heard) (l : Journal) → Does s most (Takes from o r other) i l → (other ≡ h) × (l ≡ j)
SameOutcome s most (Spreads from o r agents noted) i j =
    (other : List ℕ) (l : Journal) → Does s most (Spreads from o r agents other) i l → (other ≡ noted) × (l ≡ j)
SameOutcome s most (Casts from o r reply) i j =
    (other : Reply) (l : Journal) → Does s most (Casts from o r other) i l → (other ≡ reply) × (l ≡ j)
SameOutcome s most (Gathers from o rs a whole) i j =
    (other : Gathered) (l : Journal) → Does s most (Gathers from o rs a other) i l → (other ≡ whole) × (l ≡ j)
SameOutcome s most (Probes k r agents noted) i j =
    (other : List ℕ) (l : Journal) → Does s most (Probes k r agents other) i l → (other ≡ noted) × (l ≡ j)
SameOutcome s most (Updates k reply) i j =
    (other : Reply) (l : Journal) → Does s most (Updates k other) i l → (other ≡ reply) × (l ≡ j)

abbrev pub ActsAreDetermined : Type 0
ActsAreDetermined =
    (s : Scene) (most : ℕ) (x : Act) (i j : Journal) → Does s most x i j → SameOutcome s most x i j

-- Two derivations of one request have the same journal and the same reply.
abbrev pub RequestIsDetermined : Type 0
RequestIsDetermined =
    (s : Scene) (most : ℕ) (i j : Journal) (reply other : Reply)
    → IsRequest s most i reply → IsRequest s most j other → (other ≡ reply) × (j ≡ i)
