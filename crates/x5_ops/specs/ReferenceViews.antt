-- What references and messages stand for, given the names of the world's agents: in the definitions an agent is its
-- place among them, and messages name it.
use Rattle.std.specs.Prelude.{ℕ, List, map, ◌==◌, if◌then◌else◌}
use Rattle.std.specs.declared.option.Option.{Option}
use Rattle.std.specs.declared.option.Option.TheVariants.{None, Some}
use Rattle.x5_model.specs.References as model
use Rattle.x5_ops.specs.AgentNames.{agent_of}
use Rattle.x5_ops.specs.RequestViews.{request_view}
use Rattle.x5_ops.specs.declared.references.Progress.{Progress}
use Rattle.x5_ops.specs.declared.references.Progress.TheVariants.{NotStarted, Proceeding, Completed}
use Rattle.x5_ops.specs.declared.references.RefType.{RefType}
use Rattle.x5_ops.specs.declared.references.RefType.TheVariants as kinds
use Rattle.x5_ops.specs.declared.references.TraceItem.{TraceItem}
use Rattle.x5_ops.specs.declared.references.AccessPoint.{AccessPoint}
use Rattle.x5_ops.specs.declared.references.Reference.{Reference}
use Rattle.x5_ops.specs.declared.references.Chained.{Chained}

abbrev pub progress_view : Progress → model.Progress
progress_view NotStarted = model.Start
progress_view (Proceeding k) = model.Next k
progress_view Completed = model.Done

abbrev pub kind_view : RefType → model.RefType
kind_view kinds.Superior = model.Superior
kind_view kinds.Subordinate = model.Subordinate
kind_view kinds.Cross = model.Cross
kind_view kinds.NonSpecific = model.NonSpecific
kind_view kinds.Supplier = model.Supplier
kind_view kinds.Own = model.Own

-- the kind of a number in messages
abbrev pub kind_of_number : ℕ → Option model.RefType
kind_of_number n =
    if n == 1 then Some model.Superior
    else if n == 2 then Some model.Subordinate
    else if n == 3 then Some model.Cross
    else if n == 4 then Some model.NonSpecific
    else if n == 5 then Some model.Supplier
    else if n == 8 then Some model.Own
    else None

abbrev pub item_view : List (List ℕ) → TraceItem → model.TraceItem
item_view names i =
    record { agent = agent_of names i.agent; target = i.target; progress = progress_view i.progress; wide = i.wide }

-- whether the agent has a copy is no part of the definitions' references: of an access the first is the master
abbrev pub access_view : List (List ℕ) → AccessPoint → ℕ
access_view names a = agent_of names a.agent

abbrev pub reference_view : List (List ℕ) → Reference → model.Reference
reference_view names r = record {
  target = r.target;
  progress = progress_view r.progress;
  kind = kind_view r.kind;
  agents = map (access_view names) r.agents;
  exclusions = r.exclusions;
  tried = r.tried;
}

abbrev pub chained_view : List (List ℕ) → Chained → model.Chained
chained_view names m = record {
  target = m.target;
  progress = progress_view m.progress;
  kind = kind_view m.kind;
  exclusions = m.exclusions;
  trace = map (item_view names) m.trace;
  request = request_view m.request;
}
