-- The octets of the PrintableString are those of the name.
use Rattle.std.proofs.Common.{ℕ, List, ◌++◌, length, ap, sym, ◌∙◌}
use Rattle.x5_model_typed.specs.Layouts.{layout}
use Rattle.x5_model_typed.specs.Named as named
use Rattle.x5_model_typed.specs.Nodes as nodes
use Rattle.x5_model_typed.specs.Written.{written}
use Rattle.x5_direct_writer.proofs.Agents.{agent_is, may_name, no_agent}
use Rattle.x5_direct_writer.proofs.Putting.{primitive_put}
use Rattle.x5_direct_writer.proofs.answers.put_agent.Goals as goal

pub returns-then-not-is_text : goal.returns-then-not-is_text
returns-then-not-is_text c w =
    no_agent w c.args.agent.now
    (ap may_name (sym (c.as_bytes-octets.ensures.value ∙ c.as_str.ensures)) ∙ sym c.is_text.ensures ∙ c.if-not-is_text.true)

pub returns : goal.returns
returns c w =
    let same = c.as_bytes-octets.ensures.value ∙ c.as_str.ensures in
    primitive_put 19 (written (layout w) (layout w named.AgentName) (nodes.Text c.args.agent.now)) c.args.agent.now
    c.args.out.now c.put_all.new.self c.put_header.new.self (length c.as_bytes-octets.result.now)
    (agent_is w c.args.agent.now
    (ap may_name (sym same) ∙ sym c.is_text.ensures ∙ c.if-not-is_text.false))
    (c.in_ok-put_all.ensures ∙ ap (λ (t : List ℕ). t ++ c.args.out.now) same) (ap length same) c.in_ok-put_header.ensures
