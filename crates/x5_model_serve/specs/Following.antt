-- Who may be followed: where something in a reply is left to be followed, its agent may not chain and sent nothing; and
-- what a sender hears in the end has nothing left to be followed.
use Rattle.std.specs.Prelude.{◌≡◌, ℕ, ◌⊎◌, true, [], ⊤}
use Rattle.x5_model_run.specs.Journal.{Journal}
use Rattle.x5_model_run.specs.Chain.{Scene}
use Rattle.x5_model_serve.specs.Answering.{to_follow}
use Rattle.x5_model_serve.specs.Serving.{Heard, Unheard, Hears, Gathered, Whole, Broken, Act, Serves, Follows, Sends}
use Rattle.x5_model_serve.specs.Serving.{Tries, Takes, Spreads, Casts, Gathers, Probes, Updates, Does, is_idle}
use Rattle.x5_model_serve.specs.Serving.{is_final}

abbrev pub IsFinalHeard : Heard → Type 0
IsFinalHeard Unheard = ⊤
IsFinalHeard (Hears reply) = is_final reply ≡ true

abbrev pub IsFinalWhole : Gathered → Type 0
IsFinalWhole (Whole a) = to_follow a ≡ []
IsFinalWhole (Broken reply) = is_final reply ≡ true

abbrev pub Leaves : Scene → Act → Journal → Journal → Type 0
Leaves s (Serves k reply) i j = (is_final reply ≡ true) ⊎ ((is_idle s k ≡ true) × (j ≡ i))
Leaves s (Follows from k reply last) i j = is_final last ≡ true
Leaves s (Sends from o r a heard) i j = IsFinalHeard heard
Leaves s (Tries from o r agents) i j = ⊤
Leaves s (Takes from o r heard) i j = IsFinalHeard heard
Leaves s (Spreads from o r agents noted) i j = ⊤
Leaves s (Casts from o r reply) i j = is_final reply ≡ true
Leaves s (Gathers from o rs a whole) i j = to_follow a ≡ [] → IsFinalWhole whole
Leaves s (Probes k r agents noted) i j = ⊤
Leaves s (Updates k reply) i j = is_final reply ≡ true

abbrev pub IdleIsFollowed : Type 0
IdleIsFollowed = (s : Scene) (most : ℕ) (x : Act) (i j : Journal) → Does s most x i j → Leaves s x i j
