-- The cases of serving a message: what is claimed of each, from what is claimed of what it does (X.518, sections 17 to
-- 19). Each is a lemma of its own, since whoever proves it needs none of the others.
use Rattle.std.specs.Prelude.{◌≡◌, ℕ, true, false}
use Rattle.std.specs.declared.option.Option.TheVariants.{None, Some}
use Rattle.x5_model.specs.References.{Reference}
use Rattle.x5_model_run.specs.Journal.{Journal}
use Rattle.x5_model_run.specs.History.{Point}
use Rattle.x5_model_run.specs.Chain.{Scene}
use Rattle.x5_model_right.specs.Kept.{Ground}
use Rattle.x5_model.specs.Values.{Name}
use Rattle.x5_model.specs.Answers.{Answer, Changed, DirError, NoSuchObject, ServiceProblem, Reply, Answered, Failed}
use Rattle.x5_model.specs.Answers.{Referred}
use Rattle.x5_model.specs.Problems.{invalid_reference, loop_detected}
use Rattle.x5_model.specs.Statics.{fault_of}
use Rattle.x5_model_tree.specs.Ask.{is_update}
use Rattle.x5_model_run.specs.Journal.{item_of, is_wide}
use Rattle.x5_model_run.specs.Holdings.{Held, Copy}
use Rattle.x5_model_run.specs.Needs.{subset_of}
use Rattle.x5_model_run.specs.Placed.{fits}
use Rattle.x5_model_serve.specs.Finding.{Here, CopyHere, Onward, Nowhere, Stuck}
use Rattle.x5_model_serve.specs.Answering.{reply_in_own, reply_in_copy, local_part, with_unexplored, in_vain}
use Rattle.x5_model_serve.specs.Answering.{is_unavailable}
use Rattle.x5_model_serve.specs.Serving.{Hand, Heard, Gathered, Takes, Casts, Gathers, Updates, Does, Arrives}
use Rattle.x5_model_serve.specs.Serving.{holds_now, is_idle, is_looped, is_too_long, is_done_here, found_at, asked_by}
use Rattle.x5_model_serve.specs.Serving.{begins_parts, stuck_problem, parts_refs, at_limit, gathered_reply, limit_reply}
use Rattle.x5_model_serve.specs.Serving.{heard_or}
use Rattle.x5_model_right.specs.Claim.{ServesRight, UpdatesRight, TakesRight, CastsRight, GathersRight}

-- an agent finds its own item in the trace
abbrev pub Loops : Type 0
Loops =
    (p : Point) (s : Scene) (most : ℕ) (k : Hand) (j : Journal)
    → Ground p s → is_looped k ≡ true
    → ServesRight p s most k (Failed (ServiceProblem loop_detected None (Some (item_of k.receiver k.message)))) j j

-- a trace of 128 items
abbrev pub IsLong : Type 0
IsLong =
    (p : Point) (s : Scene) (most : ℕ) (k : Hand) (j : Journal)
    → Ground p s → is_looped k ≡ false → is_too_long k ≡ true
    → ServesRight p s most k limit_reply j j

-- an update that the agent has accepted in this line
abbrev pub DoneBefore : Type 0
DoneBefore =
    (p : Point) (s : Scene) (most : ℕ) (k : Hand) (j : Journal)
    → Ground p s → is_looped k ≡ false → is_too_long k ≡ false → is_done_here s k j ≡ true
    → ServesRight p s most k (Answered Changed) j j

-- what is refused by the request alone
abbrev pub Refused : Type 0
Refused =
    (p : Point) (s : Scene) (most : ℕ) (k : Hand) (j : Journal) (x : DirError)
    → Ground p s → is_looped k ≡ false → is_too_long k ≡ false → is_done_here s k j ≡ false
    → fault_of k.message.request.body ≡ Some x
    → ServesRight p s most k (Failed x) j j

-- a message that does not fit its request
abbrev pub Unfit : Type 0
Unfit =
    (p : Point) (s : Scene) (most : ℕ) (k : Hand) (j : Journal)
    → Ground p s → is_looped k ≡ false → is_too_long k ≡ false → is_done_here s k j ≡ false
    → fault_of k.message.request.body ≡ None → fits k.message ≡ false
    → ServesRight p s most k (Failed (ServiceProblem invalid_reference (Some (asked_by k)) None)) j j

-- an agent that cannot go on
abbrev pub IsStuck : Type 0
IsStuck =
    (p : Point) (s : Scene) (most : ℕ) (k : Hand) (j : Journal)
    → Ground p s → Arrives s k j → found_at s j k ≡ Stuck
    → ServesRight p s most k (Failed (ServiceProblem (stuck_problem k) (Some (asked_by k)) None)) j j

-- there is no such entry
abbrev pub IsNowhere : Type 0
IsNowhere =
    (p : Point) (s : Scene) (most : ℕ) (k : Hand) (j : Journal) (n : Name)
    → Ground p s → Arrives s k j → found_at s j k ≡ Nowhere n
    → ServesRight p s most k (Failed (NoSuchObject n)) j j

-- an agent that may not chain replies with the reference
abbrev pub Refers : Type 0
Refers =
    (p : Point) (s : Scene) (most : ℕ) (k : Hand) (j : Journal) (r : Reference)
    → Ground p s → Arrives s k j → found_at s j k ≡ Onward r → is_idle s k ≡ true
    → ServesRight p s most k (Referred r) j j

-- any other asks the agents of the reference
abbrev pub Goes : Type 0
Goes =
    (p : Point) (s : Scene) (most : ℕ) (k : Hand) (i j : Journal) (r : Reference) (h : Heard)
    → Ground p s → Arrives s k i → found_at s i k ≡ Onward r → is_idle s k ≡ false → is_wide r.kind ≡ false
    → Does s most (Takes (Some k.receiver) k r h) i j → TakesRight p s most (Some k.receiver) k r h i j
    → ServesRight p s most k (heard_or (is_unavailable (in_vain r)) h) i j

-- and those of an NSSR until one can go on
abbrev pub GoesWide : Type 0
GoesWide =
    (p : Point) (s : Scene) (most : ℕ) (k : Hand) (i j : Journal) (r : Reference) (reply : Reply)
    → Ground p s → Arrives s k i → found_at s i k ≡ Onward r → is_idle s k ≡ false → is_wide r.kind ≡ true
    → Does s most (Casts (Some k.receiver) k r reply) i j → CastsRight p s most (Some k.receiver) k r reply i j
    → ServesRight p s most k reply i j

-- a read or compare in a context of its own
abbrev pub ReadsOwn : Type 0
ReadsOwn =
    (p : Point) (s : Scene) (most : ℕ) (k : Hand) (j : Journal) (c : Held)
    → Ground p s → Arrives s k j → found_at s j k ≡ Here c
    → is_update k.message.request.body ≡ false → subset_of k.message ≡ None
    → ServesRight p s most k (reply_in_own k.receiver k.message c) j j

-- or in a copy
abbrev pub ReadsCopy : Type 0
ReadsCopy =
    (p : Point) (s : Scene) (most : ℕ) (k : Hand) (j : Journal) (c : Copy)
    → Ground p s → Arrives s k j → found_at s j k ≡ CopyHere c → subset_of k.message ≡ None
    → ServesRight p s most k (reply_in_copy k.receiver k.message c) j j

-- an agent that may not chain replies with its own part, and with the references for the rest
abbrev pub GivesParts : Type 0
GivesParts =
    (p : Point) (s : Scene) (most : ℕ) (k : Hand) (j : Journal) (a : Answer)
    → Ground p s → Arrives s k j → begins_parts k (found_at s j k) ≡ true → is_idle s k ≡ true
    → local_part (holds_now s j k) k.message ≡ Answered a
    → ServesRight p s most k (Answered (at_limit k (with_unexplored (parts_refs s j k) a))) j j

-- any other asks them and joins the parts
abbrev pub AsksParts : Type 0
AsksParts =
    (p : Point) (s : Scene) (most : ℕ) (k : Hand) (i j : Journal) (a : Answer) (whole : Gathered)
    → Ground p s → Arrives s k i → begins_parts k (found_at s i k) ≡ true → is_idle s k ≡ false
    → local_part (holds_now s i k) k.message ≡ Answered a
    → Does s most (Gathers (Some k.receiver) k (parts_refs s i k) a whole) i j
    → GathersRight p s most (Some k.receiver) k (parts_refs s i k) a whole i j
    → ServesRight p s most k (gathered_reply k whole) i j

-- an update is carried out by the agent that has the target
abbrev pub CarriesOut : Type 0
CarriesOut =
    (p : Point) (s : Scene) (most : ℕ) (k : Hand) (i j : Journal) (c : Held) (reply : Reply)
    → Ground p s → Arrives s k i → found_at s i k ≡ Here c → is_update k.message.request.body ≡ true
    → Does s most (Updates k reply) i j → UpdatesRight p s most k reply i j
    → ServesRight p s most k reply i j

pub record ServingCases : Type 0 where
  pub loops : Loops
  pub is_long : IsLong
  pub done_before : DoneBefore
  pub refused : Refused
  pub unfit : Unfit
  pub is_stuck : IsStuck
  pub is_nowhere : IsNowhere
  pub refers : Refers
  pub goes : Goes
  pub goes_wide : GoesWide
  pub reads : ReadsOwn
  pub reads_copy : ReadsCopy
  pub gives_parts : GivesParts
  pub asks_parts : AsksParts
  pub carries_out : CarriesOut
