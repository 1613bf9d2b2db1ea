-- What agents are given and what they tell, of each thing that is done (X.518, sections 17 to 21), where something holds of
-- messages that stays when a message is passed on: whoever passes one on looked at its trace, which has no item of its
-- own, and room for it.
use Rattle.std.specs.Prelude.{◌≡◌, ℕ, false}
use Rattle.x5_model.specs.Members.{In}
use Rattle.x5_model.specs.References.{Chained}
use Rattle.x5_model_run.specs.Journal.{Line, Journal}
use Rattle.x5_model_run.specs.Chain.{Scene}
use Rattle.x5_model_serve.specs.Serving.{Hand, Act, Serves, Follows, Sends, Tries, Takes, Spreads, Casts, Gathers}
use Rattle.x5_model_serve.specs.Serving.{Probes, Updates, Does, is_looped, is_too_long, is_final}
use Rattle.x5_model_traces.specs.Traces.{IsShort, HasOnce}

-- the message doesn't come round, and its trace has room for an item
pub record HasRoom (k : Hand) : Type 0 where
  pub unlooped : is_looped k ≡ false
  pub short : is_too_long k ≡ false

-- a message that may be passed on
abbrev pub MayPass : (Chained → Type 0) → Hand → Type 0
MayPass holds o = HasRoom o × holds o.message

-- it holds of each message of a journal
abbrev pub EachMessage : (Chained → Type 0) → Journal → Type 0
EachMessage holds j = (l : Line) → In l j.lines → holds l.message

-- what is given
abbrev pub GivenPassing : (Chained → Type 0) → Act → Type 0
GivenPassing holds (Serves k y) = holds k.message
GivenPassing holds (Follows from k y last) = holds k.message × (is_final y ≡ false → HasRoom k)
GivenPassing holds (Sends from o r a h) = MayPass holds o
GivenPassing holds (Tries from o r agents) = MayPass holds o
GivenPassing holds (Takes from o r h) = MayPass holds o
GivenPassing holds (Spreads from o r agents noted) = MayPass holds o
GivenPassing holds (Casts from o r y) = MayPass holds o
GivenPassing holds (Gathers from o rs a whole) = MayPass holds o
GivenPassing holds (Probes k r agents noted) = MayPass holds k
GivenPassing holds (Updates k y) = MayPass holds k

-- what is told: only for a message with room a reply leaves anything to follow
abbrev pub ToldPassing : Act → Type 0
ToldPassing (Serves k y) = is_final y ≡ false → HasRoom k
ToldPassing other = Unit {0}

-- Whatever is done, traces stay short,
abbrev pub DoesShort : Type 0
DoesShort =
    (s : Scene) (most : ℕ) (x : Act) (i j : Journal)
    → Does s most x i j → GivenPassing IsShort x → EachMessage IsShort i → ToldPassing x × EachMessage IsShort j

-- and have no item twice.
abbrev pub DoesOnce : Type 0
DoesOnce =
    (s : Scene) (most : ℕ) (x : Act) (i j : Journal)
    → Does s most x i j → GivenPassing HasOnce x → EachMessage HasOnce i → ToldPassing x × EachMessage HasOnce j
