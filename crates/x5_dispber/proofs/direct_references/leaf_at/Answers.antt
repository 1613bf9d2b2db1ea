-- What the content says is found, and the rest is what is left.
use Rattle.std.proofs.Common.{◌-◌, length, refl, ap, sym, ◌∙◌}
use Rattle.x5_types.specs.NodeView.{option_view}
use Rattle.x5_direct.proofs.Here.{opens_taken}
use Rattle.x5_dispber.proofs.direct_references.leaf_at.Goals as goal

pub returns-in-Some-clause-says : goal.returns-in-Some-clause-says
returns-in-Some-clause-says c =
    let octets = c.args.octets.now in
    let rest = c.in_ok-content.rest.now in
    record {
      content = c.in_ok-content.content.now;
      opens = opens_taken c.args.first c.in_ok-content.content.now octets rest (length octets - length rest) refl
          c.in_ok-content.ensures.opens;
      reads = sym c.in_ok-node.ensures ∙ ap option_view c.in-Some.is;
    }
