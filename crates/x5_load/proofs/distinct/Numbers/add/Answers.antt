-- A new number stands behind the others.
use Rattle.std.proofs.Common.{ℕ, ◌==◌, Bool, if◌then◌else◌, List, [], ◌∷◌, ◌++◌, ap, ◌∙◌}
use Rattle.std.specs.List.{list_any}
use Rattle.x5_load.proofs.distinct.Numbers.add.Goals as goal

pub returns : goal.returns
returns c =
    let n : ℕ = c.args.number in
    let ns : List ℕ = c.self.inside.numbers.keys in
    c.in_ok-_added.ensures.keys
    ∙ ap (λ (b : Bool). if b then ns else ns ++ n ∷ [])
    (ap (λ (l : List ℕ). list_any (λ k. n == k) l) c.self.view_is ∙ c.requires)
    ∙ ap (λ (l : List ℕ). l ++ n ∷ []) c.self.view_is
