-- What may be accepted while something is done, by what is heard in the end: by the relation alone, over any knowledge.
use Rattle.std.specs.Prelude.{◌≡◌, ℕ, ◌⊎◌, ◌||◌, Bool, true, false, ⊤}
use Rattle.std.specs.declared.option.Option.{Option}
use Rattle.std.specs.declared.option.Option.TheVariants.{Some}
use Rattle.x5_model.specs.References.{Reference, Chained}
use Rattle.x5_model.specs.Answers.{Answer, Reply, Answered}
use Rattle.x5_model.specs.Problems.{unavailable, unable_to_proceed, administrative_limit_exceeded}
use Rattle.x5_model_tree.specs.Ask.{is_update}
use Rattle.x5_model_run.specs.Journal.{Journal}
use Rattle.x5_model_run.specs.Chain.{Scene, IsCarried}
use Rattle.x5_model_run.specs.Right.{heard_whole}
use Rattle.x5_model_serve.specs.Answering.{is_service}
use Rattle.x5_model_serve.specs.Serving.{Hand, line_for, Unheard, Hears, Act, Serves, Follows, Sends, Tries, Takes}
use Rattle.x5_model_serve.specs.Serving.{Spreads, Casts, Gathers, Probes, Updates, Does, is_final}

-- What is carried for the message by the reference is no update.
abbrev pub CarriesNone : Option ℕ → Hand → Reference → Type 0
CarriesNone from o r = (m : Chained) → IsCarried from (line_for o) r m → is_update m.request.body ≡ false

-- what is done is done for a query
abbrev pub IsQuery : Act → Type 0
IsQuery (Serves k reply) = is_update k.message.request.body ≡ false
IsQuery (Follows from k reply final) = is_update k.message.request.body ≡ false
IsQuery (Sends from o r a heard) = CarriesNone from o r
IsQuery (Tries from o r agents) = CarriesNone from o r
IsQuery (Takes from o r heard) = CarriesNone from o r
IsQuery (Spreads from o r agents noted) = CarriesNone from o r
IsQuery (Casts from o r reply) = CarriesNone from o r
IsQuery (Gathers from o rs a whole) = is_update o.message.request.body ≡ false
IsQuery (Probes k r agents noted) = CarriesNone (Some k.receiver) k r
IsQuery (Updates k reply) = ⊥

-- Nothing is accepted while a query is served, or while what is sent is none but queries.
abbrev pub QueriesAcceptNone : Type 0
QueriesAcceptNone =
    (s : Scene) (most : ℕ) (x : Act) (i j : Journal) → Does s most x i j → IsQuery x → j.accepted ≡ i.accepted

-- nothing was accepted, or a reply was lost
abbrev pub IsSilent : Journal → Journal → Type 0
IsSilent i j = (j.accepted ≡ i.accepted) ⊎ (heard_whole j.lines ≡ false)

-- somebody wasn't heard, or nobody could go on, or a limit ended it
abbrev pub is_off : Reply → Bool
is_off reply =
    is_service unavailable reply
    || (is_service administrative_limit_exceeded reply || is_service unable_to_proceed reply)

-- what is claimed of each thing that is done: of one that is answered, where it is answered so
abbrev pub SilentWhereOff : Act → Journal → Journal → Type 0
SilentWhereOff (Serves k reply) i j =
    (is_off reply ≡ true → IsSilent i j)
    × ((a : Answer) → reply ≡ Answered a → is_final reply ≡ false → is_update k.message.request.body ≡ false)
SilentWhereOff (Follows from k reply last) i j =
    (is_final reply ≡ true → (last ≡ reply) × (j ≡ i))
    × (((a : Answer) → reply ≡ Answered a → is_final reply ≡ false → is_update k.message.request.body ≡ false)
    → is_off last ≡ true → IsSilent i j)
SilentWhereOff (Sends from o r a Unheard) i j = IsSilent i j
SilentWhereOff (Sends from o r a (Hears reply)) i j = is_off reply ≡ true → IsSilent i j
SilentWhereOff (Tries from o r agents) i j = IsSilent i j
SilentWhereOff (Takes from o r Unheard) i j = IsSilent i j
SilentWhereOff (Takes from o r (Hears reply)) i j = is_off reply ≡ true → IsSilent i j
SilentWhereOff (Spreads from o r agents noted) i j = IsSilent i j
SilentWhereOff (Casts from o r reply) i j = is_off reply ≡ true → IsSilent i j
SilentWhereOff (Gathers from o rs a whole) i j = ⊤
SilentWhereOff (Probes k r agents noted) i j = IsSilent i j
SilentWhereOff (Updates k reply) i j = is_off reply ≡ true → IsSilent i j

-- Where it is answered that somebody wasn't heard, that nobody could go on, or that a limit ended it, nothing was
-- accepted meanwhile, or a reply was lost. And what a reply leaves unexplored is left by a query.
abbrev pub OffIsSilent : Type 0
OffIsSilent = (s : Scene) (most : ℕ) (x : Act) (i j : Journal) → Does s most x i j → SilentWhereOff x i j
