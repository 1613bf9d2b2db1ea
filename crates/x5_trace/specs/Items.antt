-- When two items of a trace are the same (X.518, section 10.6: trace information): they name one agent, and what it was
-- asked has the same target, the same progress, and came by the same kind of reference, nonSpecific or not. Messages
-- name agents; whoever stands in the world is its place there.
use Rattle.std.specs.Prelude.{ℕ, Bool, true, false, ◌&&◌, IsTrue, List}
use Rattle.std.specs.List.{list_any}
use Rattle.x5_model.specs.Words.{same_octets}
use Rattle.x5_model_run.specs.Journal.{same_progress, same_name}
use Rattle.x5_ops.specs.ReferenceViews.{progress_view}
use Rattle.x5_ops.specs.declared.references.TraceItem.{TraceItem}

abbrev pub same_kind : Bool → Bool → Bool
same_kind true b = b
same_kind false true = false
same_kind false false = true

abbrev pub same_named : TraceItem → TraceItem → Bool
same_named a b =
    same_octets a.agent b.agent
    && (same_name a.target b.target && (same_progress (progress_view a.progress) (progress_view b.progress)
    && same_kind a.wide b.wide))

-- an agent of the world has this name
abbrev pub IsNamed : List (List ℕ) → List ℕ → Type 0
IsNamed names name = IsTrue (list_any (λ n. same_octets n name) names)
