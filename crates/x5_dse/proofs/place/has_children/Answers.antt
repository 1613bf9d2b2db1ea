-- Where the run begins with nothing below the node, nothing is.
use Rattle.std.proofs.Common.{◌≡◌, ℕ, ◌<◌, Bool, true, false, List, length, get_or, refl}
use Rattle.std.specs.Prelude.{◌↔◌}
use Rattle.std.specs.Bool.{IsTrue, MatchBool}
use Rattle.x5_model.specs.Members.{In}
use Rattle.x5_dse.specs.declared.node.NodeId.{NodeId}
use Rattle.x5_dse.specs.Inside.{Slots, top, parent_at, spots_of, IsStart, IsRow}
use Rattle.x5_dse.proofs.Spots.{in_get}
use Rattle.x5_dse.proofs.Runs.{first_of_run}
use Rattle.x5_dse.proofs.place.has_children.Goals as goal

told : (slots : Slots) (order : List NodeId) (row : IsRow slots order) (node : NodeId) (at : ℕ) → IsStart (spots_of slots order) node at → (b : Bool)
    → IsTrue b ↔ ((at < length order) × (parent_at slots (get_or order at top) ≡ node))
    → MatchBool b ((c : NodeId) × In c order × (parent_at slots c ≡ node)) ((c : NodeId) → In c order → parent_at slots c ≡ node → ⊥)
told slots order row node at start true h = let w = h.0 refl in (get_or order at top, in_get order at top w.0, w.1)
told slots order row node at start false h = λ c i e. let t = h.1 (first_of_run slots order row.in_order node at start c i e) in cc

pub returns : goal.returns
returns c = told c.args.slots.now c.args.order.now c.requires c.args.node c.run_of.result c.run_of.ensures c.is_below_at.result c.is_below_at.ensures
