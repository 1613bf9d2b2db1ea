-- What an update makes of entries, as it's judged by them and by the pins (X.511, section 11): all are made or none.
use Rattle.std.specs.Prelude.{◌≡◌, ℕ, List, []}
use Rattle.std.specs.List.{list_any}
use Rattle.std.specs.declared.result.Result.{Result}
use Rattle.std.specs.declared.result.Result.TheVariants.{Ok, Err}
use Rattle.x5_model.specs.Members.{In}
use Rattle.x5_model.specs.Keys.{Key, is_prefix}
use Rattle.x5_model.specs.Entries.{Named}
use Rattle.x5_model_tree.specs.Tree.{Tree}
use Rattle.x5_model_tree.specs.Apply.{Ground, UpdatedEntries}
use Rattle.x5_model_tree.specs.Conditions.{Has}
use Rattle.x5_model.specs.Answers.{Answered, Changed, Failed}
use Rattle.x5_memory.specs.declared.NoMemory.{NoMemory}
use Rattle.x5_ops.specs.AnswerViews.{error_view, reply_view}
use Rattle.x5_ops.specs.declared.answers.Reply.{Reply}
use Rattle.x5_ops.specs.declared.changes.ChangeFault.{ChangeFault}
use Rattle.x5_ops.specs.declared.changes.ChangeFault.TheVariants as faults

-- the one tree's ground: its entries and its pins
abbrev pub ground : List Named → List Key → Ground
ground entries pins = record { entries = entries; pins = pins; nssrs = []; taken = [] }

abbrev pub ground_tree : List Named → List Key → Tree
ground_tree entries pins = record { entries = entries; pins = pins }

-- each pin is an entry's
abbrev pub PinsThere : List Named → List Key → Type 0
PinsThere entries pins = (p : Key) → In p pins → Has entries p

-- accepted, refused, or neither because memory ran out; in the last two cases nothing has changed
abbrev pub IsStopped : ChangeFault → UpdatedEntries → Type 0
IsStopped (faults.Refused r) outcome = (names : List (List ℕ)) → outcome ≡ Err (error_view names r)
IsStopped faults.NoMemory outcome = Unit {0}

abbrev pub IsMade : Result (Unit {0}) ChangeFault → UpdatedEntries → List Named → List Named → Type 0
IsMade (Ok u) outcome before after = outcome ≡ Ok after
IsMade (Err f) outcome before after = IsStopped f outcome × (after ≡ before)

-- pins in order tell what is above a pin as these do
abbrev pub AreAbove : List Key → List Key → Type 0
AreAbove ordered pins = (key : Key) → list_any (is_prefix key) ordered ≡ list_any (is_prefix key) pins

-- the reply, by what was made
abbrev pub IsReplied : Result (Unit {0}) ChangeFault → Result Reply NoMemory → Type 0
IsReplied (Ok u) (Ok reply) = (names : List (List ℕ)) → reply_view names reply ≡ Answered Changed
IsReplied (Ok u) (Err e) = ⊥
IsReplied (Err (faults.Refused x)) (Ok reply) =
    (names : List (List ℕ)) → reply_view names reply ≡ Failed (error_view names x)
IsReplied (Err (faults.Refused x)) (Err e) = ⊥
IsReplied (Err faults.NoMemory) (Ok reply) = ⊥
IsReplied (Err faults.NoMemory) (Err e) = Unit {0}
