-- Five pieces, one behind the other.
use Rattle.std.proofs.Common.{◌++◌, ◌∙◌, ◌∷◌, [], codes, ap, string_bytes}
use Rattle.x5_gen.specs.World as made
use Rattle.x5_gen.proofs.Making.{pieces}
use Rattle.x5_gen.proofs.world.add_agent.Goals as goal

pub returns-clause-text : goal.returns-clause-text
returns-clause-text c =
    let i = c.args.agent in
    let x = c.args.draws.now.x in
    let at = c.as_str.ensures.value ∙ c.in_ok-prefix.ensures in
    c.in_ok-push_str.ensures.bytes
    ∙ ap (λ t. t ++ codes "}") (c.in_ok-add_references.ensures
    ∙ ap (λ t. t ++ made.references i) (c.in_ok-add_context.ensures.text
    ∙ ap (λ p. string_bytes c.add_superior.new.text ++ made.context p i x) at
    ∙ ap (λ t. t ++ made.context (made.prefix i) i x) (c.in_ok-add_superior.ensures
    ∙ ap (λ t. t ++ made.superior i) c.in_ok-write.ensures.bytes)))
    ∙ pieces (string_bytes c.args.text.now) (made.agent_head i ∷ made.superior i ∷ made.context (made.prefix i) i x ∷ made.references i ∷ codes "}" ∷ [])
