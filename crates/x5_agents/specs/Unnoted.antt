-- Before the first line of a script no change of any context is noted (X.525, section 9: changes since a refresh).
use Rattle.std.specs.Prelude.{◌≡◌, List, []}
use Rattle.x5_model.specs.Members.{In}
use Rattle.x5_holdings.specs.State.{Kept, State}

pub record IsUnnoted (c : Kept) : Type 0 where
  pub base : c.log.base ≡ 0
  pub changes : c.log.changes ≡ []

abbrev pub AreUnnoted : List Kept → Type 0
AreUnnoted own = (c : Kept) → In c own → IsUnnoted c

abbrev pub AllUnnoted : List State → Type 0
AllUnnoted agents = (s : State) → In s agents → AreUnnoted s.own
