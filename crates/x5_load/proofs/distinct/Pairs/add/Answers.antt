-- A new pair stands behind the others.
use Rattle.std.proofs.Common.{ℕ, List, [], ◌∷◌, ◌++◌, map, ap, ◌∙◌}
use Rattle.std.specs.List.{list_any}
use Rattle.x5_load.proofs.Texts.{pair_added}
use Rattle.x5_load.specs.TextPairs.{texts_of}
use Rattle.x5_model_world.specs.NetworkText.{same_texts}
use Rattle.x5_load.proofs.distinct.Pairs.add.Goals as goal

pub returns : goal.returns
returns c =
    let a : List ℕ = c.args.a.now in
    let b : List ℕ = c.args.b.now in
    ap (map texts_of) c.in_ok-_added.ensures.keys
    ∙ pair_added c.self.inside.pairs.keys (c.args.a, c.args.b)
    (ap (λ (ps : List (List ℕ × List ℕ)). list_any (same_texts (a, b)) ps) c.self.view_is ∙ c.requires)
    ∙ ap (λ (ps : List (List ℕ × List ℕ)). ps ++ (a, b) ∷ []) c.self.view_is
