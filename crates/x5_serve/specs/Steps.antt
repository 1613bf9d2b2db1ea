-- What values of the code stand for in the relation of the agents' steps.
use Rattle.std.specs.Prelude.{◌≡◌, ℕ, ◌⊎◌, Bool, true, false, List, [], ◌∷◌, ◌++◌, map}
use Rattle.std.specs.declared.option.Option.{Option}
use Rattle.std.specs.declared.option.Option.TheVariants.{None, Some}
use Rattle.std.specs.declared.result.Result.TheVariants.{Ok}
use Rattle.x5_model.specs.Entries.{Named}
use Rattle.x5_model.specs.References.{Reference}
use Rattle.x5_model.specs.Answers as model
use Rattle.x5_model.specs.Problems.{entry_already_exists, unable_to_proceed, unavailable}
use Rattle.x5_model_tree.specs.Ask.{is_update}
use Rattle.x5_model_run.specs.Journal.{Journal, is_wide}
use Rattle.x5_model_run.specs.Holdings.{Held}
use Rattle.x5_model_run.specs.Needs.{due_probes}
use Rattle.x5_model_run.specs.Chain.{Scene}
use Rattle.x5_model_serve.specs.Finding as finding
use Rattle.x5_model_serve.specs.Answering.{merged, is_service, is_unavailable, in_vain}
use Rattle.x5_model_serve.specs.Serving.{Hand, Act, Serves, Takes, Casts, Probes, Updates, Does, Arrives, found_at}
use Rattle.x5_model_serve.specs.Serving.{begins_parts, is_idle, holds_now, judged, parts_refs, heard_or}
use Rattle.x5_model_serve.specs.Serving as act
use Rattle.x5_ops.specs.ReferenceViews.{reference_view, access_view}
use Rattle.x5_ops.specs.AnswerViews.{answer_view, error_view, reply_view}
use Rattle.x5_ops.specs.declared.answers.Answer.{Answer}
use Rattle.x5_ops.specs.declared.answers.Reply.{Reply}
use Rattle.x5_merge.specs.Merging.{are_alike, merged_all}
use Rattle.x5_serve.specs.Networks.{IsOwnPart}
use Rattle.x5_serve.specs.declared.replies.Heard.{Heard}
use Rattle.x5_serve.specs.declared.replies.Heard.TheVariants as heard
use Rattle.x5_serve.specs.declared.replies.Told.{Told}
use Rattle.x5_serve.specs.declared.replies.Told.TheVariants as told
use Rattle.x5_serve.specs.declared.parts.Gathered.{Gathered}
use Rattle.x5_serve.specs.declared.parts.Gathered.TheVariants as gathered
use Rattle.x5_serve.specs.declared.parts.Part.{Part}
use Rattle.x5_serve.specs.declared.parts.Part.TheVariants as part
use Rattle.x5_serve.specs.declared.arrival.Step.{Step}
use Rattle.x5_serve.specs.declared.arrival.Step.TheVariants as step
use Rattle.x5_serve.specs.declared.dispatch.Probed.{Probed}
use Rattle.x5_serve.specs.declared.dispatch.Probed.TheVariants as probed

abbrev pub heard_view : List (List ℕ) → Heard → act.Heard
heard_view names heard.Unheard = act.Unheard
heard_view names (heard.Hears y) = act.Hears (reply_view names y)

-- whether a reply is heard
abbrev pub IsHeardBy : act.Heard → Bool → Type 0
IsHeardBy h true = (y : model.Reply) × (h ≡ act.Hears y)
IsHeardBy h false = h ≡ act.Unheard

abbrev pub gathered_view : List (List ℕ) → Gathered → act.Gathered
gathered_view names (gathered.Whole a) = act.Whole (answer_view names a)
gathered_view names (gathered.Broken x) = act.Broken (model.Failed (error_view names x))

-- the parts so far, as one answer
abbrev pub whole_of : List model.Answer → model.Answer
whole_of [] = model.Changed
whole_of (a ∷ more) = merged_all a more

abbrev pub whole_view : List (List ℕ) → List Answer → model.Answer
whole_view names parts = whole_of (map (answer_view names) parts)

-- what the reply to a part is to the whole: an answer, a reference that stays unexplored, or an error that ends it
abbrev pub IsPart : List (List ℕ) → Reply → Part → Type 0
IsPart names y (part.Joins c) = reply_view names y ≡ model.Answered (answer_view names c)
IsPart names y (part.Leaves r) = reply_view names y ≡ is_unavailable (reference_view names r)
IsPart names y (part.Breaks x) =
    (reply_view names y ≡ model.Failed (error_view names x))
    × (is_service unavailable (model.Failed (error_view names x)) ≡ false)

-- the answer is of the kind of the parts, or of another, and then it adds nothing to them
abbrev pub IsOfKind : List Answer → Answer → Bool → Type 0
IsOfKind parts a true = are_alike (parts ++ a ∷ []) ≡ true
IsOfKind parts a false =
    (names : List (List ℕ)) → merged (whole_view names parts) (answer_view names a) ≡ whole_view names parts

-- the reply to a message that isn't looked at; or it is
abbrev pub IsEarly : Scene → ℕ → List (List ℕ) → Journal → Hand → Option Reply → Type 0
IsEarly s most names j k None = Arrives s k j
IsEarly s most names j k (Some y) = Does s most (Serves k (reply_view names y)) j j

-- what comes of a message that arrives: the reply to it at once; or the reference by which it is passed on; or the
-- references for the parts of a list or search, and the answer that they are joined to; or an update
abbrev pub IsStep : Scene → ℕ → List (List ℕ) → Journal → Hand → Step → Type 0
IsStep s most names j k (step.Replies y) = Does s most (Serves k (reply_view names y)) j j
IsStep s most names j k (step.Goes r) =
    Arrives s k j × (found_at s j k ≡ finding.Onward (reference_view names r)) × (is_idle s k ≡ false)
IsStep s most names j k (step.Joins a rs) =
    Arrives s k j × (is_idle s k ≡ false) × IsOwnPart s names j k a rs
IsStep s most names j k step.Updates =
    Arrives s k j × (c : Held) × (found_at s j k ≡ finding.Here c) × (is_update k.message.request.body ≡ true)

-- what is heard by a reference, of whichever kind it is
abbrev pub Goes : Scene → ℕ → Option ℕ → Hand → Reference → model.Reply → Journal → Journal → Type 0
Goes s most from o r y i j =
    ((is_wide r.kind ≡ true) × Does s most (Casts from o r y) i j)
    ⊎ ((is_wide r.kind ≡ false)
    × (h : act.Heard) × (y ≡ heard_or (is_unavailable (in_vain r)) h) × Does s most (Takes from o r h) i j)

-- what the reply to a probe tells of its agent: it can't go on with the new name, it knows nothing, or it ends the
-- update
abbrev pub IsTelling : List (List ℕ) → Reply → Told → Type 0
IsTelling names y told.Unable = is_service unable_to_proceed (reply_view names y) ≡ true
IsTelling names y told.Unsure = is_service unavailable (reply_view names y) ≡ true
IsTelling names y (told.Ends x) =
    ((a : model.Answer) × (reply_view names y ≡ model.Answered a)
    × (error_view names x ≡ model.UpdateProblem entry_already_exists))
    ⊎ ((reply_view names y ≡ model.Failed (error_view names x))
    × (is_service unable_to_proceed (model.Failed (error_view names x)) ≡ false)
    × (is_service unavailable (model.Failed (error_view names x)) ≡ false))

-- what the probes tell: the agents that weren't heard, all others having no such entry; or what ends the update
abbrev pub IsProbed : Scene → ℕ → List (List ℕ) → Hand → Reference → Journal → Journal → Probed → Type 0
IsProbed s most names k r i j (probed.Through noted) =
    Does s most (Probes k r r.agents (map (access_view names) noted)) i j
IsProbed s most names k r i j (probed.Ends x) =
    (mine : List Named) → judged s i k ≡ Ok mine → due_probes (holds_now s i k) k.message ≡ r ∷ []
    → Does s most (Updates k (model.Failed (error_view names x))) i j
