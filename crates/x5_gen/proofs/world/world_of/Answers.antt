-- Five pieces, one behind the other.
use Rattle.std.proofs.Common.{◌++◌, ◌∙◌, ◌∷◌, [], codes, ap, string_bytes, Vec, Global, ℕ}
use Rattle.x5_gen.specs.World as made
use Rattle.x5_gen.proofs.Making.{pieces}
use Rattle.x5_gen.proofs.world.world_of.Goals as goal

pub returns : goal.returns
returns c =
    let head = codes "{\"format\":1,\"start\":\"19930101000000Z\",\"agents\":[" in
    let agents = made.agents c.args.seed made.agents_count in
    let agreements = made.agreements made.agreements_count in
    c.new.ensures
    ∙ ap (λ (v : Vec ℕ Global). v.items) c.into_bytes.ensures.value
    ∙ c.in_ok-push_str-3.ensures.bytes
    ∙ ap (λ t. t ++ codes "]}\n") (c.in_ok-add_agreements.ensures
    ∙ ap (λ t. t ++ agreements) (c.in_ok-push_str-2.ensures.bytes
    ∙ ap (λ t. t ++ codes "],\"agreements\":[") (c.in_ok-add_agents.ensures
    ∙ ap (λ x. string_bytes c.push_str.new.self ++ made.agents x made.agents_count) c.new-draws.ensures
    ∙ ap (λ t. t ++ agents) (c.in_ok-push_str.ensures.bytes ∙ ap (λ t. t ++ head) c.new-text.ensures.bytes))))
    ∙ pieces [] (head ∷ agents ∷ codes "],\"agreements\":[" ∷ agreements ∷ codes "]}\n" ∷ [])
