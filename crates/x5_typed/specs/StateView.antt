-- Where the code's reading stands, as the definitions see it.
use Rattle.std.specs.Prelude.{◌≡◌, ℕ, List, [], ◌∷◌, map, length, drop, ◌+◌, ◌<◌, Bool, true, false, if◌then◌else◌}
use Rattle.std.specs.declared.option.Option.{Option}
use Rattle.std.specs.declared.option.Option.TheVariants.{None, Some}
use Rattle.std.specs.declared.result.Result.{Result}
use Rattle.std.specs.declared.result.Result.TheVariants.{Ok}
use Rattle.x5_model_typed.specs.Nodes as nodes
use Rattle.x5_model_typed.specs.Forms as forms
use Rattle.x5_model_typed.specs.Layouts.{Surroundings}
use Rattle.x5_model_octets.specs.Breaches as octet_breaches
use Rattle.x5_model_typed.specs.Judged as judged
use Rattle.x5_types.specs.FormView.{named_view, content_view, components_view, choices_view}
use Rattle.x5_types.specs.NodeView.{node_view, option_view}
use Rattle.x5_types.specs.declared.form.Component.{Component}
use Rattle.x5_types.specs.declared.form.Content.{Content}
use Rattle.x5_types.specs.declared.form.Content.TheVariants as content
use Rattle.x5_typed.specs.declared.slots.Left.{Left}
use Rattle.x5_typed.specs.declared.slots.Left.TheVariants as left
use Rattle.x5_typed.specs.declared.slots.Step.{Step}
use Rattle.x5_typed.specs.declared.slots.Step.TheVariants as step
use Rattle.x5_typed.specs.declared.slots.Awaited.{Awaited}
use Rattle.x5_typed.specs.declared.state.State.{State}

abbrev pub left_view : Left → List forms.Component
left_view (left.Listed cs) = components_view cs.now
left_view (left.Named form) = forms.plain (named_view form) ∷ []

abbrev pub step_view : Step → judged.Step
step_view step.Next = judged.Next
step_view (step.InPlace i) = judged.InPlace i
step_view (step.InSlot i) = judged.InSlot i

abbrev pub awaited_view : Surroundings → Awaited → judged.Awaited
awaited_view w a = record { types = choices_view w a.choices; step = step_view a.step }

abbrev pub state_view : Surroundings → State → judged.State
state_view w s = record {
  at = s.at;
  content = content_view w s.content;
  left = left_view s.left;
  nodes = map node_view s.nodes.items;
  slots = map option_view s.slots.items;
  last = s.last;
}

-- What is awaited in a bit string.
abbrev pub awaits_bits : judged.State → Result judged.Awaited octet_breaches.Breach
awaits_bits s =
    if judged.is_ragged (judged.last_node s.nodes) then judged.wrong_content s.last else Ok
    (record { types = judged.bit_segment; step = judged.Next })

-- A SET has a slot for each component.
abbrev pub IsState : State → Type 0
IsState s = by s.content
  where
    by : Content → Type 0
    by (content.Set cs) = length s.slots.items ≡ length (left_view s.left)
    by other = Unit {0}

-- What stands in a slot.
abbrev pub SlotIs : Bool → ℕ → List (Option nodes.Node) → Type 0
SlotIs true i slots = (n : nodes.Node) × (drop i slots ≡ Some n ∷ drop (i + 1) slots)
SlotIs false i slots = drop i slots ≡ None ∷ drop (i + 1) slots

abbrev pub IsPlace : ℕ → Step → Type 0
IsPlace n step.Next = Unit {0}
IsPlace n (step.InPlace i) = i < n
IsPlace n (step.InSlot i) = ⊥

abbrev pub IsSlot : ℕ → Step → Type 0
IsSlot n step.Next = Unit {0}
IsSlot n (step.InPlace i) = ⊥
IsSlot n (step.InSlot i) = i < n

abbrev pub IsSequence : State → Type 0
IsSequence s = by s.content
  where
    by : Content → Type 0
    by (content.Sequence cs) = Unit {0}
    by other = ⊥

-- A step that awaits gives.
abbrev pub Fits : Step → State → Type 0
Fits step.Next s = Unit {0}
Fits (step.InPlace i) s = (i < length (left_view s.left)) × IsSequence s
Fits (step.InSlot i) s = i < length s.slots.items

abbrev pub no_node : Component → Option nodes.Node
no_node c = None
