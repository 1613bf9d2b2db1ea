-- Whatever is done, a reply is one to what was asked (X.511, sections 9 to 11): its answer is the result of that
-- operation, and a referral goes on with the name of an update, as a message for it does. Over any knowledge.
use Rattle.std.specs.Prelude.{◌≡◌, ℕ, false, true, List, [], ◌∷◌}
use Rattle.x5_model.specs.Members.{In}
use Rattle.x5_model.specs.Requests.{Body}
use Rattle.x5_model.specs.Answers.{Answer, EntryFound, Matched, Listed, Found, Changed, Reply, Answered}
use Rattle.x5_model.specs.Answers.{Failed, Referred}
use Rattle.x5_model_tree.specs.Ask.{is_update}
use Rattle.x5_model_run.specs.Journal.{Journal, operation_of}
use Rattle.x5_model_run.specs.Chain.{Scene, is_probe}
use Rattle.x5_model_serve.specs.Serving.{Heard, Unheard, Hears, Gathered, Whole, Broken, Act, Serves, Follows, Sends}
use Rattle.x5_model_serve.specs.Serving.{Tries, Takes, Spreads, Casts, Gathers, Probes, Updates, Does, IsRequest}
use Rattle.x5_model_serve.specs.Serving.{carried_for}

-- the codes of the operations that are answered so (X.519, section 7)
abbrev pub answered_by : Answer → List ℕ
answered_by (EntryFound info source) = 1 ∷ []
answered_by (Matched equal copy source) = 2 ∷ []
answered_by (Listed subs sources outcome) = 4 ∷ []
answered_by (Found infos sources outcome) = 5 ∷ []
answered_by Changed = 6 ∷ 7 ∷ 8 ∷ 9 ∷ []

abbrev pub IsAnswerTo : Body → Answer → Type 0
IsAnswerTo b a = In (operation_of b) (answered_by a)

abbrev pub IsReplyTo : Body → Reply → Type 0
IsReplyTo b (Answered a) = IsAnswerTo b a
IsReplyTo b (Failed x) = Unit {0}
IsReplyTo b (Referred r) = is_probe b r.target ≡ false

abbrev pub IsHeardTo : Body → Heard → Type 0
IsHeardTo b Unheard = Unit {0}
IsHeardTo b (Hears y) = IsReplyTo b y

abbrev pub IsWholeTo : Body → Gathered → Type 0
IsWholeTo b (Whole a) = IsAnswerTo b a
IsWholeTo b (Broken y) = IsReplyTo b y

-- what is given: a reference by which the message is passed on asks no probe, and parts join an answer to it
abbrev pub GivenAsked : Act → Type 0
GivenAsked (Serves k y) = Unit {0}
GivenAsked (Follows from k y last) = IsReplyTo k.message.request.body y
GivenAsked (Sends from o r a h) = Unit {0}
GivenAsked (Tries from o r agents) = Unit {0}
GivenAsked (Takes from o r h) = is_probe o.message.request.body r.target ≡ false
GivenAsked (Spreads from o r agents noted) = Unit {0}
GivenAsked (Casts from o r y) = is_probe o.message.request.body r.target ≡ false
GivenAsked (Gathers from o rs a whole) = IsAnswerTo o.message.request.body a
GivenAsked (Probes k r agents noted) = Unit {0}
GivenAsked (Updates k y) = is_update k.message.request.body ≡ true

-- what is told
abbrev pub ToldAsked : Act → Type 0
ToldAsked (Serves k y) = IsReplyTo k.message.request.body y
ToldAsked (Follows from k y last) = IsReplyTo k.message.request.body last
ToldAsked (Sends from o r a h) = IsHeardTo (carried_for from o r).request.body h
ToldAsked (Tries from o r agents) = Unit {0}
ToldAsked (Takes from o r h) = IsHeardTo o.message.request.body h
ToldAsked (Spreads from o r agents noted) = Unit {0}
ToldAsked (Casts from o r y) = IsReplyTo o.message.request.body y
ToldAsked (Gathers from o rs a whole) = IsWholeTo o.message.request.body whole
ToldAsked (Probes k r agents noted) = Unit {0}
ToldAsked (Updates k y) = IsReplyTo k.message.request.body y

abbrev pub RepliesToAsked : Type 0
RepliesToAsked =
    (s : Scene) (most : ℕ) (x : Act) (i j : Journal) → Does s most x i j → GivenAsked x → ToldAsked x

-- So it is of a user's request, or of another message that comes to an agent.
abbrev pub RequestsAnswered : Type 0
RequestsAnswered =
    (s : Scene) (most : ℕ) (j : Journal) (reply : Reply) → IsRequest s most j reply
    → IsReplyTo s.message.request.body reply
