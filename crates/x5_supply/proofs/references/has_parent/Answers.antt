-- The way to the name has all RDNs but one, at least, exactly where the entry above is there.
use Rattle.std.proofs.Common.{◌≡◌, ℕ, ◌-◌, nat_le, length, sym, ap, ◌∙◌}
use Rattle.std.proofs.lemmas.List.{length-map}
use Rattle.x5_model.specs.Values.{key_of, key_of_rdn}
use Rattle.x5_supply.proofs.Nodes.{by_way}
use Rattle.x5_supply.proofs.references.has_parent.Goals as goal

pub returns : goal.returns
returns c =
    let long : length (key_of c.args.name.now) ≡ c.len.result = length-map c.args.name.now key_of_rdn ∙ sym c.len.ensures in
    ap (λ (n : ℕ). nat_le (n - 1) c.way.result.1) (sym long)
    ∙ by_way c.args.tree.now.nodes c.way.ensures.linked (key_of c.args.name.now) c.way.result.0 c.way.result.1 c.way.ensures.lowest
    c.way.ensures.long c.requires.below
