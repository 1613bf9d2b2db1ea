-- The octets of a PrintableString are those of the text.
use Rattle.std.proofs.Common.{ℕ, List, ◌++◌, length, ap, sym, ◌∙◌}
use Rattle.x5_model.specs.Normal.{is_printable}
use Rattle.x5_model_typed.specs.Leaves.{text_of}
use Rattle.x5_model_typed.specs.Layouts.{layout}
use Rattle.x5_model_typed.specs.Named as named
use Rattle.x5_model_typed.specs.Nodes as nodes
use Rattle.x5_model_typed.specs.Written.{written}
use Rattle.x5_direct_writer.proofs.Putting.{primitive_put}
use Rattle.x5_direct_writer.proofs.Texts.{text_is}
use Rattle.x5_direct_writer.proofs.names.put_text.Goals as goal

pub returns-then-is_text : goal.returns-then-is_text
returns-then-is_text c w =
    let same = c.as_bytes-octets.ensures.value ∙ c.as_str.ensures in
    primitive_put 19 (written (layout w) (layout w named.Value) (nodes.Text c.args.text.now)) c.args.text.now c.args.out.now
    c.put_all.new.self c.put_header.new.self (length c.as_bytes-octets.result.now)
    (text_is w c.args.text.now
    (ap (λ (t : List ℕ). text_of is_printable t) (sym same) ∙ sym c.is_text.ensures ∙ c.if-is_text.true))
    (c.in_ok-put_all.ensures ∙ ap (λ (t : List ℕ). t ++ c.args.out.now) same) (ap length same) c.in_ok-put_header.ensures
