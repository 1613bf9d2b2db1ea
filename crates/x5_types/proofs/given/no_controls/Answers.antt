-- The four that were pushed are the parts.
use Rattle.std.proofs.Common.{◌≡◌, ◌∙◌, [], ◌∷◌, ap, refl}
use Rattle.x5_model_typed.specs.Nodes as nodes
use Rattle.x5_types.specs.declared.node.Node.{Vacant}
use Rattle.x5_types.proofs.Nodes.{many_is}
use Rattle.x5_types.proofs.given.no_controls.Goals as goal

pub returns : goal.returns
returns c =
    let items : c.push-4.new.self.items ≡ c.in_ok-options.options ∷ Vacant ∷ Vacant ∷ Vacant ∷ [] =
    simp (
      c.in_ok-push-4.ensures.items,
      c.in_ok-push-3.ensures.items,
      c.in_ok-push-2.ensures.items,
      c.in_ok-push.ensures.items,
      c.new-parts.ensures.items,
    ) refl in
    many_is c.push-4.new.self (c.in_ok-options.options ∷ Vacant ∷ Vacant ∷ Vacant ∷ []) items
    ∙ ap (λ (n : nodes.Node). nodes.Many (nodes.row (n ∷ nodes.Vacant ∷ nodes.Vacant ∷ nodes.Vacant ∷ [])))
    c.in_ok-options.ensures
