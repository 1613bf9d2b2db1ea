-- Six pieces, one behind the other.
use Rattle.std.proofs.Common.{◌++◌, ◌∙◌, ◌∷◌, [], codes, ap, string_bytes}
use Rattle.x5_gen.specs.World as made
use Rattle.x5_gen.proofs.Making.{pieces}
use Rattle.x5_gen.proofs.world.add_context.Goals as goal

pub returns-clause-text : goal.returns-clause-text
returns-clause-text c =
    let at = c.args.prefix.now in
    let i = c.args.agent in
    let entry = made.prefix_entry at (made.prefix_class i) in
    let people = made.people at c.args.draws.now.x made.people_count in
    c.in_ok-push_str-2.ensures.bytes
    ∙ ap (λ t. t ++ codes "}]") (c.in_ok-add_nssr.ensures
    ∙ ap (λ t. t ++ made.nssr at i) (c.in_ok-push_str.ensures.bytes
    ∙ ap (λ t. t ++ codes "]") (c.in_ok-add_people.ensures.text
    ∙ ap (λ t. t ++ people) (c.in_ok-add_prefix_entry.ensures
    ∙ ap (λ k. string_bytes c.write.new.self ++ made.prefix_entry at k) c.prefix_class.ensures
    ∙ ap (λ t. t ++ entry) c.in_ok-write.ensures.bytes))))
    ∙ pieces (string_bytes c.args.text.now) (made.context_head at ∷ entry ∷ people ∷ codes "]" ∷ made.nssr at i ∷ codes "}]" ∷ [])
