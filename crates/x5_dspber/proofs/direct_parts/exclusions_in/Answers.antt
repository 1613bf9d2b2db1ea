-- The component is missing, or holds the RDNs.
use Rattle.std.proofs.Common.{List, sym, subst, ◌∙◌}
use Rattle.x5_model.specs.Values as values
use Rattle.x5_direct.proofs.Heads.{nothing}
use Rattle.x5_dspber.specs.Direct.{ReadLast}
use Rattle.x5_dspber.proofs.DirectWhole.{none_left_out, some_left_out}
use Rattle.x5_dspber.proofs.direct_parts.exclusions_in.Goals as goal

pub returns-then-is_empty : goal.returns-then-is_empty
returns-then-is_empty c =
    subst (λ (l : List values.Rdn). ReadLast l c.args.octets.now) (sym c.new.ensures)
    (none_left_out c.args.octets.now (nothing c.args.octets.now (sym c.is_empty.ensures ∙ c.if-is_empty.true)))

pub returns : goal.returns
returns c =
    some_left_out c.in_ok-rdns.rdns c.in_ok-content.content.now c.args.octets.now c.in_ok-content.ensures
    c.in_ok-rdns.ensures
