-- What the master of an update's target makes of it by what it holds and knows itself: it refuses it, or passes it once
-- the agents of a reference, if one is due, are probed (X.511, section 11; X.518, section 19.1).
use Rattle.std.specs.Prelude.{◌≡◌, ℕ, true, List, [], ◌∷◌}
use Rattle.std.specs.declared.option.Option.{Option}
use Rattle.std.specs.declared.option.Option.TheVariants.{None, Some}
use Rattle.std.specs.declared.result.Result.{Result}
use Rattle.std.specs.declared.result.Result.TheVariants.{Ok, Err}
use Rattle.x5_model.specs.Words.{in_option}
use Rattle.x5_model.specs.Values.{Name}
use Rattle.x5_model.specs.Entries.{Named}
use Rattle.x5_model.specs.Requests.{Request}
use Rattle.x5_model.specs.References as model
use Rattle.x5_model.specs.Statics.{fault_of}
use Rattle.x5_model_tree.specs.Ask.{is_update}
use Rattle.x5_model_tree.specs.Apply.{Ground, UpdatedEntries, apply_over}
use Rattle.x5_model_run.specs.Holdings.{Held, Holdings, ground_at}
use Rattle.x5_model_run.specs.Needs.{due_probes, probe_of}
use Rattle.x5_model_run.specs.Placed.{fits}
use Rattle.x5_model_serve.specs.Finding.{Here, find}
use Rattle.x5_ops.specs.AnswerViews.{error_view}
use Rattle.x5_ops.specs.ReferenceViews.{reference_view}
use Rattle.x5_ops.specs.declared.changes.ChangeFault.{ChangeFault}
use Rattle.x5_ops.specs.declared.changes.ChangeFault.TheVariants as faults
use Rattle.x5_ops.specs.declared.references.Reference.{Reference}
use Rattle.x5_holdings.specs.State.{State, holdings_view}

-- An update that isn't refused by its request alone, at the agent that has its target in a context of its own.
pub record IsDue (h : Holdings) (m : model.Chained) : Type 0 where
  pub update : is_update m.request.body ≡ true
  pub unrefused : fault_of m.request.body ≡ None
  pub fit : fits m ≡ true
  pub context : Held
  pub found : find h m ≡ Here context

-- what an agent's state judges a request by
abbrev pub ground_in : State → Request → Ground
ground_in s r = ground_at r (holdings_view s)

-- what it makes of the update
abbrev pub judged : Holdings → Request → UpdatedEntries
judged h r = apply_over (ground_at r h) r.body

-- an update that it passes
pub record IsReady (h : Holdings) (m : model.Chained) : Type 0 where
  pub due : IsDue h m
  pub made : List Named
  pub passed : judged h m.request ≡ Ok made

-- the references of probes, one at most
abbrev pub probes_of : List (List ℕ) → Option Reference → List model.Reference
probes_of names None = []
probes_of names (Some r) = reference_view names r ∷ []

-- those that are due, in the target's context, where the update gives this new name
abbrev pub probes_from : Holdings → Held → Option Name → List model.Reference
probes_from h c name = in_option [] (λ n. probe_of h n c) name

pub record IsPassed (names : List (List ℕ)) (h : Holdings) (m : model.Chained) (probe : Option Reference) : Type 0 where
  pub made : List Named
  pub passed : judged h m.request ≡ Ok made
  pub due : due_probes h m ≡ probes_of names probe

-- refused with this error; or memory ran out
abbrev pub IsStopped : ChangeFault → UpdatedEntries → Type 0
IsStopped (faults.Refused x) outcome = (names : List (List ℕ)) → outcome ≡ Err (error_view names x)
IsStopped faults.NoMemory outcome = Unit {0}

abbrev pub IsVerdict : List (List ℕ) → Holdings → model.Chained → Result (Option Reference) ChangeFault → Type 0
IsVerdict names h m (Ok probe) = IsPassed names h m probe
IsVerdict names h m (Err fault) = IsStopped fault (judged h m.request)
