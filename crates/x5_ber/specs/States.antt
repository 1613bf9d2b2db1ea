-- What a feeder is to its callers.
use Rattle.std.specs.Prelude.{ℕ, Bool, true, false, List}
use Rattle.std.specs.declared.option.Option.{Option}
use Rattle.std.specs.declared.option.Option.TheVariants.{None, Some}
use Rattle.x5_ber.specs.declared.feeder.FeedFault.{FeedFault}

-- It wants more octets behind these, it has a whole value, or it has failed.
pub data State : Type 0 where
  reading : List ℕ → State
  whole : List ℕ → State
  failed : FeedFault → State

abbrev pub wants_more : State → Bool
wants_more (reading octets) = true
wants_more (whole octets) = false
wants_more (failed fault) = false

-- The value, once it is whole.
abbrev pub value_of : State → Option (List ℕ)
value_of (reading octets) = None
value_of (whole octets) = Some octets
value_of (failed fault) = None
