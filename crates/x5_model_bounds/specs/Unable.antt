-- Who says that it is unable to proceed: the agent of an NSSR that holds nothing as far, at once. So it sends
-- nothing, and nobody passes that reply on (X.518, section 18.3).
use Rattle.std.specs.Prelude.{◌≡◌, ℕ, true, false, List}
use Rattle.std.specs.declared.option.Option.TheVariants.{Some}
use Rattle.std.specs.declared.result.Result.TheVariants.{Err}
use Rattle.x5_model.specs.Members.{In}
use Rattle.x5_model.specs.Values.{Name, key_of}
use Rattle.x5_model.specs.Requests.{Body}
use Rattle.x5_model.specs.References.{Progress, Reference, Chained}
use Rattle.x5_model.specs.Answers.{DirError, Reply, Answered, Failed, Referred}
use Rattle.x5_model.specs.Problems.{unable_to_proceed}
use Rattle.x5_model.specs.Statics.{fault_of}
use Rattle.x5_model_tree.specs.Apply.{Ground, apply_over}
use Rattle.x5_model_run.specs.Journal.{Line, Journal, is_done, is_wide}
use Rattle.x5_model_run.specs.Holdings.{Held, Copy}
use Rattle.x5_model_run.specs.Needs.{falls_short}
use Rattle.x5_model_run.specs.Chain.{Scene}
use Rattle.x5_model_serve.specs.Answering.{is_service, to_follow, reply_in_own, reply_in_copy}
use Rattle.x5_model_serve.specs.Serving.{with_line, Heard, Unheard, Hears, Gathered, Whole, Broken, Act, Serves}
use Rattle.x5_model_serve.specs.Serving.{Follows, Sends, Tries, Takes, Spreads, Casts, Gathers, Probes, Updates, Does}

abbrev pub IsUnable : Reply → Type 0
IsUnable reply = is_service unable_to_proceed reply ≡ true

abbrev pub AllDone : List Reference → Type 0
AllDone rs = (r : Reference) → In r rs → is_done r.progress ≡ true

-- what is left to be followed of an answer asks for parts
abbrev pub LeavesParts : Reply → Type 0
LeavesParts (Answered a) = AllDone (to_follow a)
LeavesParts (Failed x) = Unit {0}
LeavesParts (Referred r) = Unit {0}

abbrev pub IsSpread : Reference → Type 0
IsSpread r = (is_wide r.kind ≡ true) × (is_done r.progress ≡ false)

-- what the agent holds doesn't go as far as the progress says
abbrev pub IsShort : Scene → ℕ → Name → Progress → Type 0
IsShort s a target progress = falls_short (s.holdings a) (key_of target) progress ≡ true

abbrev pub SentOnce : Scene → Reference → ℕ → Heard → Journal → Journal → Type 0
SentOnce s r a Unheard i j = Unit {0}
SentOnce s r a (Hears reply) i j =
    IsUnable reply → (l : Line) × (j ≡ with_line l i) × IsSpread r × IsShort s a r.target r.progress

abbrev pub HeardUnable : Reference → Heard → Type 0
HeardUnable r Unheard = Unit {0}
HeardUnable r (Hears reply) = IsUnable reply → IsSpread r

abbrev pub NeverBroken : List Reference → Gathered → Type 0
NeverBroken rs (Whole a) = Unit {0}
NeverBroken rs (Broken reply) = AllDone rs → IsUnable reply → ⊥

abbrev pub Unables : Scene → Act → Journal → Journal → Type 0
Unables s (Serves k reply) i j =
    LeavesParts reply
    × (IsUnable reply → (j ≡ i) × (is_wide k.message.kind ≡ true) × (is_done k.message.progress ≡ false)
    × IsShort s k.receiver k.message.target k.message.progress)
Unables s (Follows from k reply last) i j = LeavesParts reply → IsUnable last → (reply ≡ last) × (j ≡ i)
Unables s (Sends from o r a heard) i j = SentOnce s r a heard i j
Unables s (Tries from o r agents) i j = Unit {0}
Unables s (Takes from o r heard) i j = HeardUnable r heard
Unables s (Spreads from o r agents noted) i j = Unit {0}
Unables s (Casts from o r reply) i j = IsUnable reply → ⊥
Unables s (Gathers from o rs a whole) i j = NeverBroken rs whole
Unables s (Probes k r agents noted) i j = Unit {0}
Unables s (Updates k reply) i j = IsUnable reply → ⊥

-- neither the request alone, nor an entry, nor the judge of an update says so
pub record RepliesAble : Type 0 where
  pub faults : (b : Body) (x : DirError) → fault_of b ≡ Some x → IsUnable (Failed x) → ⊥
  pub own : (me : ℕ) (m : Chained) (c : Held) → IsUnable (reply_in_own me m c) → ⊥
  pub copy : (me : ℕ) (m : Chained) (c : Copy) → IsUnable (reply_in_copy me m c) → ⊥
  pub judged : (g : Ground) (b : Body) (x : DirError) → apply_over g b ≡ Err x → IsUnable (Failed x) → ⊥

abbrev pub UnableSendsNothing : Type 0
UnableSendsNothing = (s : Scene) (most : ℕ) (x : Act) (i j : Journal) → Does s most x i j → Unables s x i j
