-- Texts of RDNs with their keys are those of the RDNs.
use Rattle.std.proofs.Common.{map, string_bytes, ap, ◌∙◌}
use Rattle.std.specs.List.{join_with_byte}
use Rattle.x5_model.specs.Words.{sorted}
use Rattle.x5_model_output.specs.Output.{comma, rdn_below}
use Rattle.x5_report.specs.Order.{keyed, keyed_text}
use Rattle.x5_report.proofs.Mapped.{map_twice}
use Rattle.x5_report.proofs.lines.rdns.Goals as goal

pub returns : goal.returns
returns c =
    c.in_ok-with_commas.ensures
    ∙ ap (join_with_byte comma)
    (ap (map string_bytes) c.as_slice-2.ensures.value ∙ c.in_ok-texts.ensures
    ∙ ap (map keyed_text) (c.as_slice.ensures.value ∙ c.in_ok-ordered.ensures)
    ∙ map_twice keyed keyed_text (sorted rdn_below c.args.rdns.now))
