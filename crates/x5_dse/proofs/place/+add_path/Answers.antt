-- The path of the node above, and the node's own RDN.
use Rattle.std.proofs.Common.{◌≡◌, ℕ, ◌++◌, [], ◌∷◌, inl, inr, sym, ap, ◌∙◌, arith, append_assoc}
use Rattle.x5_model.specs.Members.{In}
use Rattle.x5_model.specs.Values.{Name}
use Rattle.x5_model.proofs.Lists.{in_first}
use Rattle.x5_dse.specs.Slot.{Slot}
use Rattle.x5_dse.specs.Inside.{top, depth_at, parent_at, rdn_at, path, path_of}
use Rattle.x5_dse.proofs.place.+add_path.Goals as goal

pub returns-in_ok-push : goal.returns-in_ok-push
returns-in_ok-push t c =
    let was = c.dse.view_is ∙ c.held_at-dse.ensures in
    let placed : In c.args.node c.args.order.now = elim (in_first c.args.node top c.args.order.now ((c.requires.row.used c.args.node).1 c.requires.used)) [
      | inl p ↦ absurd (let d = ap (λ (s : Slot). s.depth) was ∙ ap (depth_at c.args.slots.now) p ∙ c.requires.row.first in let h = c.if-dse-gt0.true in omega arith)
      | inr i ↦ i
    ] in
    let own : path_of c.args.slots.now c.args.node ≡ path_of c.args.slots.now (parent_at c.args.slots.now c.args.node) ++ rdn_at c.args.slots.now c.args.node ∷ [] =
    ap (λ (n : ℕ). path c.args.slots.now n c.args.node) (c.requires.row.above c.args.node placed).1 in
    c.in_ok-push.ensures.items
    ∙ ap (λ (n : Name). n ++ c.in_ok-rdn.field-0 ∷ []) c.in_ok-add_path.ensures
    ∙ append_assoc c.args.rdns.now.items (path_of c.args.slots.now c.dse.inside.parent) (c.in_ok-rdn.field-0 ∷ [])
    ∙ ap (λ (n : Name). c.args.rdns.now.items ++ n)
    (ap (λ (r : _). path_of c.args.slots.now c.dse.inside.parent ++ r ∷ []) (c.in_ok-rdn.ensures ∙ ap (λ (s : Slot). s.rdn) c.held_at-dse.ensures)
    ∙ ap (λ (s : Slot). path_of c.args.slots.now s.parent ++ rdn_at c.args.slots.now c.args.node ∷ []) was
    ∙ sym own)
