-- The words of the request stand behind the agent.
use Rattle.std.proofs.Common.{◌∙◌, string_bytes}
use Rattle.x5_gen.proofs.Making.{line_told, on_ok_from}
use Rattle.x5_gen.proofs.script.add_line.Goals as goal

pub returns : goal.returns
returns c =
    on_ok_from c.add_asked.result
    (line_told (string_bytes c.args.text.now) (string_bytes c.write.new.self) (string_bytes c.add_asked.new.text) c.as_str.result.now c.args.number c.args.agent c.args.kind c.args.holder c.args.person
    c.if-kind-eq9.false (c.as_str.ensures.value ∙ c.in_ok-prefix.ensures) c.in_ok-write.ensures.bytes)
    c.add_asked.ensures
