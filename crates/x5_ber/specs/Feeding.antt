-- One value from octets that come in pieces.
use Rattle.std.specs.Prelude.{◌≡◌, ℕ, ◌<◌, ◌≤◌, List, ◌++◌, length, take}
use Rattle.std.specs.declared.result.Result.{Result}
use Rattle.std.specs.declared.result.Result.TheVariants.{Ok, Err}
use Rattle.x5_model_octets.specs.Faults as faults
use Rattle.x5_model_octets.specs.Faults.{FirstFault, outermost}
use Rattle.x5_ber.specs.declared.element.BerFault.{BerFault}
use Rattle.x5_ber.specs.declared.element.BerFault.TheVariants.{Truncated, BadLength, BadTag, BadContent, TooDeep}
use Rattle.x5_ber.specs.declared.feeder.Feeder.TheInside.{Inside}
use Rattle.x5_ber.specs.declared.feeder.FeedFault.{FeedFault}
use Rattle.x5_ber.specs.declared.feeder.FeedFault.TheVariants.{Ber, TooLong, NoMemory}
use Rattle.x5_ber.specs.declared.feeder.Progress.{Progress}
use Rattle.x5_ber.specs.declared.feeder.Progress.TheVariants.{Reading, Whole, Failed}
use Rattle.x5_ber.specs.declared.reader.Reader.{Reader}
use Rattle.x5_ber.specs.States.{State, reading, whole, failed}
use Rattle.x5_ber.specs.Views.{fault_view}
use Rattle.x5_ber.specs.Reading.{ValueAt, AreOpen}

-- The most octets of one value.
abbrev pub longest : ℕ
longest = 16777216

-- Octets that are a value, the whole of them.
abbrev pub IsValue : List ℕ → Type 0
IsValue octets = ValueAt octets 0 (length octets)

-- Octets with no fault but that they end too early.
abbrev pub IsBeginning : List ℕ → Type 0
IsBeginning octets = FirstFault octets outermost 0 (faults.Truncated (length octets))

-- The fault is the first one of the octets, whatever follows them.
abbrev pub StaysFaulty : BerFault → Type 0
StaysFaulty (Truncated n) = ⊥
StaysFaulty (BadLength n) = Unit {0}
StaysFaulty (BadTag n) = Unit {0}
StaysFaulty (BadContent n) = Unit {0}
StaysFaulty (TooDeep n) = Unit {0}

abbrev pub IsBreach : List ℕ → BerFault → Type 0
IsBreach octets fault = FirstFault octets outermost 0 (fault_view fault) × StaysFaulty fault

-- What is kept of octets that begin a value: where reading stands in them.
pub record IsReading (octets : List ℕ) (reader : Reader) : Type 0 where
  pub open_at : AreOpen octets reader.enclosing 0 reader.depth reader.at
  pub shallow : reader.depth ≤ 64
  pub beginning : IsBeginning octets
  pub short : length octets ≤ longest

-- A value that isn't too long.
pub record IsWhole (octets : List ℕ) : Type 0 where
  pub value : IsValue octets
  pub short : length octets ≤ longest

-- What each feeder keeps: its octets are the beginning of a value, or a value, or it has failed.
abbrev pub Keeps : List ℕ → Reader → Progress → Type 0
Keeps octets reader Reading = IsReading octets reader
Keeps octets reader Whole = IsWhole octets
Keeps octets reader (Failed fault) = Unit {0}

abbrev pub IsFeeding : Inside → Type 0
IsFeeding f = Keeps f.octets.items f.reader f.progress

abbrev pub state_at : List ℕ → Progress → State
state_at octets Reading = reading octets
state_at octets Whole = whole octets
state_at octets (Failed fault) = failed fault

abbrev pub state_of : Inside → State
state_of f = state_at f.octets.items f.progress

-- So many octets of a piece are taken: those up to the value's end, or all, and none is there yet.
pub data Takes (old piece : List ℕ) (new : State) (n : ℕ) : Type 0 where
  to_end : new ≡ whole (old ++ take n piece) → n ≤ length piece → IsWhole (old ++ take n piece) → Takes old piece new n
  all : new ≡ reading (old ++ piece) → n ≡ length piece → IsBeginning (old ++ piece) → length (old ++ piece) ≤ longest →
      Takes old piece new n

-- What a piece does to a feeder that wants more octets, and what is answered. The first fault is that of the octets as
-- far as the longest value reaches; where they are all the beginning of a value, and there are more, it is too long.
abbrev pub FeedsMore : List ℕ → List ℕ → State → Result ℕ FeedFault → Type 0
FeedsMore old piece new (Ok n) = Takes old piece new n
FeedsMore old piece new (Err (Ber fault)) = (new ≡ failed (Ber fault)) × IsBreach (take longest (old ++ piece)) fault
FeedsMore old piece new (Err TooLong) =
    (new ≡ failed TooLong) × (longest < length (old ++ piece)) × IsBeginning (take longest (old ++ piece))
FeedsMore old piece new (Err NoMemory) = new ≡ reading old

-- A whole value takes no more octets, and a fault stands until the feeder is cleared.
abbrev pub Feeds : State → List ℕ → State → Result ℕ FeedFault → Type 0
Feeds (reading old) piece new result = FeedsMore old piece new result
Feeds (whole octets) piece new result = (result ≡ Ok 0) × (new ≡ whole octets)
Feeds (failed fault) piece new result = (result ≡ Err fault) × (new ≡ failed fault)
