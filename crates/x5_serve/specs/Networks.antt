-- What a network gives whoever serves by it, in terms of the relation of the agents' steps.
use Rattle.std.specs.Prelude.{◌≡◌, ℕ, ◌-◌, ◌⊎◌, ◌==◌, true, false, List, [], ◌∷◌, length, map}
use Rattle.std.specs.declared.option.Option.{Option}
use Rattle.std.specs.declared.option.Option.TheVariants.{None, Some}
use Rattle.std.specs.declared.result.Result.TheVariants.{Ok, Err}
use Rattle.x5_model.specs.Words.{has}
use Rattle.x5_model.specs.References.{Chained}
use Rattle.x5_model.specs.Answers as model
use Rattle.x5_model.specs.Entries.{Named}
use Rattle.x5_model_tree.specs.Ask.{is_update}
use Rattle.x5_model_run.specs.Network as fates
use Rattle.x5_model_run.specs.Journal.{Journal}
use Rattle.x5_model_run.specs.Holdings.{Held, Copy}
use Rattle.x5_model_run.specs.Needs.{subset_of, due_probes}
use Rattle.x5_model_run.specs.Chain.{Scene}
use Rattle.x5_model_heard.specs.Kept.{IsOfUser}
use Rattle.x5_model_serve.specs.Finding as finding
use Rattle.x5_model_serve.specs.Answering.{reply_in_own, reply_in_copy, local_part}
use Rattle.x5_model_serve.specs.Serving.{Hand, Act, Does, Arrives, found_at, begins_parts, parts_refs, holds_now}
use Rattle.x5_model_serve.specs.Serving.{judged, is_spent, line_of, with_line}
use Rattle.x5_ops.specs.ReferenceViews.{reference_view, chained_view}
use Rattle.x5_ops.specs.AnswerViews.{answer_view, error_view, reply_view}
use Rattle.x5_ops.specs.declared.answers.Answer.{Answer}
use Rattle.x5_ops.specs.declared.references.Reference.{Reference}
use Rattle.x5_merge.specs.Merging.{are_alike}
use Rattle.x5_serve.specs.declared.network.Carried.{Carried}
use Rattle.x5_serve.specs.declared.network.Carried.TheVariants as carried
use Rattle.x5_serve.specs.declared.network.Found.{Found}
use Rattle.x5_serve.specs.declared.network.Found.TheVariants as found
use Rattle.x5_serve.specs.declared.network.Verdict.{Verdict}
use Rattle.x5_serve.specs.declared.network.Verdict.TheVariants as verdict

-- how many messages may still be sent
abbrev pub left_of : ℕ → Journal → ℕ
left_of most j = most - length j.lines

-- what a network is while a request is carried through stays
pub record Stays {N : Type 0} (scene : N → Scene) (most : N → ℕ) (names : N → List (List ℕ)) (old new : N) : Type 0
  where
    pub scene_is : scene new ≡ scene old
    pub most_is : most new ≡ most old
    pub names_are : names new ≡ names old

-- what is done while the network passes from one state to another
abbrev pub DoesAt : {N : Type 0} → (N → Scene) → (N → ℕ) → (N → Journal) → N → N → Act → Type 0
DoesAt scene most journal old new x = Does (scene old) (most old) x (journal old) (journal new)

-- What becomes of a message: none is left, and nothing is sent; else its line is added, with the fate that the network
-- gives it, and where it arrives its receiver has it.
abbrev pub IsCarriedBy : Scene → ℕ → List (List ℕ) → Journal → Journal → Option ℕ → ℕ → Chained → Carried → Type 0
IsCarriedBy s most names i j from a m carried.Spent = (is_spent most i ≡ true) × (j ≡ i)
IsCarriedBy s most names i j from a m carried.Undelivered =
    (is_spent most i ≡ false) × ((line_of s i from a m).fate ≡ fates.Lost) × (j ≡ with_line (line_of s i from a m) i)
IsCarriedBy s most names i j from a m (carried.Unheard taken) =
    (is_spent most i ≡ false) × ((line_of s i from a m).fate ≡ fates.NoReply) × (j ≡ with_line (line_of s i from a m) i)
    × (chained_view names taken ≡ m)
IsCarriedBy s most names i j from a m (carried.Taken taken) =
    (is_spent most i ≡ false) × ((line_of s i from a m).fate ≡ fates.Sent) × (j ≡ with_line (line_of s i from a m) i)
    × (chained_view names taken ≡ m)

-- a read or compare is answered in a context of the agent's own, or in a copy
abbrev pub IsToldHere : Scene → Journal → Hand → model.Reply → Type 0
IsToldHere s j k y =
    ((c : Held) × (found_at s j k ≡ finding.Here c) × (is_update k.message.request.body ≡ false) × (subset_of k.message
    ≡ None)
    × (y ≡ reply_in_own k.receiver k.message c))
    ⊎ ((c : Copy) × (found_at s j k ≡ finding.CopyHere c) × (subset_of k.message ≡ None)
    × (y ≡ reply_in_copy k.receiver k.message c))

-- an agent's own part of a list or search, and the references for the rest
pub record IsOwnPart (s : Scene) (names : List (List ℕ)) (j : Journal) (k : Hand) (a : Answer) (rs : List Reference) :
    Type 0 where
  pub begins : begins_parts k (found_at s j k) ≡ true
  pub part : local_part (holds_now s j k) k.message ≡ model.Answered (answer_view names a)
  pub rest : parts_refs s j k ≡ map (reference_view names) rs
  pub kind : are_alike (a ∷ []) ≡ true

-- where the name of a message ends at its receiver, and what is answered there
abbrev pub IsFound : Scene → List (List ℕ) → Journal → Hand → Found → Type 0
IsFound s names j k (found.Told y) = IsToldHere s j k (reply_view names y)
IsFound s names j k (found.Part a rs) = IsOwnPart s names j k a rs
IsFound s names j k found.Due =
    (c : Held) × (found_at s j k ≡ finding.Here c) × (is_update k.message.request.body ≡ true)
IsFound s names j k (found.Onward r) = found_at s j k ≡ finding.Onward (reference_view names r)
IsFound s names j k (found.Nowhere n) = found_at s j k ≡ finding.Nowhere n
IsFound s names j k found.Stuck = found_at s j k ≡ finding.Stuck

-- an update is at the agent that has its target; it is the user's, and the agent accepted none before
pub record IsDue (s : Scene) (j : Journal) (k : Hand) : Type 0 where
  pub arrives : Arrives s k j
  pub context : Held
  pub found : found_at s j k ≡ finding.Here context
  pub update : is_update k.message.request.body ≡ true
  pub of_user : IsOfUser s k.message

-- what its master makes of it
abbrev pub IsVerdict : Scene → List (List ℕ) → Journal → Hand → Verdict → Type 0
IsVerdict s names j k (verdict.Refused x) = judged s j k ≡ Err (error_view names x)
IsVerdict s names j k (verdict.Passed None) =
    (mine : List Named) × (judged s j k ≡ Ok mine) × (due_probes (holds_now s j k) k.message ≡ [])
IsVerdict s names j k (verdict.Passed (Some r)) =
    (mine : List Named) × (judged s j k ≡ Ok mine)
    × (due_probes (holds_now s j k) k.message ≡ reference_view names r ∷ [])

-- its master doesn't refuse it, and did none before
pub record IsReady (s : Scene) (j : Journal) (k : Hand) : Type 0 where
  pub due : IsDue s j k
  pub fresh : has ◌==◌ j.accepted k.receiver ≡ false
  pub made : List Named
  pub passed : judged s j k ≡ Ok made
