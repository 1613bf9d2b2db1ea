-- Which part of the definition speaks of a message.
use Rattle.std.specs.Prelude.{◌≡◌, ℕ, ◌≤◌, false, length}
use Rattle.std.specs.declared.option.Option.TheVariants.{Some}
use Rattle.x5_model.specs.Keys.{Key}
use Rattle.x5_model.specs.Values.{key_of}
use Rattle.x5_model.specs.References.{Chained}
use Rattle.x5_model_run.specs.Holdings.{known_pin}
use Rattle.x5_model_run.specs.Journal.{is_done}
use Rattle.x5_model_serve.specs.Finding.{find, resolved}
use Rattle.x5_holdings.specs.State.{State, holdings_view}
use Rattle.x5_holdings.specs.Known.{IsLongest}
use Rattle.x5_holdings.specs.declared.holdings.Pin.TheVariants.{Own, Copy}

-- the name is still to be resolved, and the agent holds what it takes for that
pub record IsResolved (s : State) (m : Chained) : Type 0 where
  pub resolves : find (holdings_view s) m ≡ resolved (holdings_view s) m
  pub left : is_done m.progress ≡ false

-- the longest known pin on the way is that of the context, or of the copy, at the place
abbrev pub IsOwnPin : State → Chained → ℕ → Type 0
IsOwnPin s m own = IsLongest m.request (holdings_view s) (key_of m.target) (Own own)

abbrev pub IsCopyPin : State → Chained → ℕ → Type 0
IsCopyPin s m copy = IsLongest m.request (holdings_view s) (key_of m.target) (Copy copy)

-- the longest known pin on the way has no more RDNs than an octet counts (X.518, section 10.5: nextRDNToBeResolved)
abbrev pub IsNear : State → Chained → Type 0
IsNear s m = (p : Key) → known_pin m.request (holdings_view s) (key_of m.target) ≡ Some p → length p ≤ 255
