-- What is left of the run of what stands just below a node.
use Rattle.std.specs.Prelude.{ℕ, Bool, ◌==◌, if◌then◌else◌, List, [], ◌∷◌, drop}
use Rattle.x5_dse.specs.declared.node.NodeId.{NodeId}
use Rattle.x5_dse.specs.declared.children.Children.TheInside.{Inside}
use Rattle.x5_dse.specs.Inside.{Slots, parent_at, IsRow}

abbrev pub is_under : Slots → NodeId → NodeId → Bool
is_under slots above id = (parent_at slots id).0 == above.0

-- the members before the first that doesn't pass the test
abbrev pub front_of : {A : Type 0} → (A → Bool) → List A → List A
front_of test [] = []
front_of test (x ∷ xs) = if test x then x ∷ front_of test xs else []

abbrev pub run_from : Slots → List NodeId → NodeId → ℕ → List NodeId
run_from slots order above at = front_of (is_under slots above) (drop at order)

abbrev pub left : Inside → List NodeId
left c = run_from c.slots.now c.order.now c.above c.at

abbrev pub Invariant : Inside → Type 0
Invariant c = IsRow c.slots.now c.order.now
