-- The list stands behind its word, if there is something to list.
use Rattle.std.proofs.Common.{◌++◌, ◌∙◌, ◌∷◌, [], codes, List, sym, ap, map, append_assoc, string_bytes, String, Global}
use Rattle.std.specs.List.{concat}
use Rattle.x5_gen.specs.World as made
use Rattle.x5_gen.proofs.Making.{member_is, member_none, is_none, is_some}
use Rattle.x5_gen.proofs.world.add_nssr.Goals as goal

pub returns-then-is_empty : goal.returns-then-is_empty
returns-then-is_empty c =
    member_none (string_bytes c.args.text.now) (concat (codes ",\"nssr\":[{\"at\":\"" ∷ c.args.prefix.now ∷ codes "\",\"agents\":[" ∷ [])) (codes "]}]") (map made.agent_name (made.just_below c.args.agent 0))
    (is_none made.agent_name c.as_slice-numbers.result.now _ (c.as_slice-numbers.ensures.value ∙ c.in_ok-numbers.ensures) (sym c.is_empty.ensures ∙ c.if-is_empty.true))

pub returns : goal.returns
returns c =
    member_is (string_bytes c.args.text.now) (concat (codes ",\"nssr\":[{\"at\":\"" ∷ c.args.prefix.now ∷ codes "\",\"agents\":[" ∷ [])) (codes "]}]") (string_bytes c.in_ok-names-2.names) (string_bytes c.write.new.self) (map string_bytes c.in_ok-names.names.items) (map made.agent_name (made.just_below c.args.agent 0))
    (is_some made.agent_name c.as_slice-numbers.result.now _ (c.as_slice-numbers.ensures.value ∙ c.in_ok-numbers.ensures) (sym c.is_empty.ensures ∙ c.if-is_empty.false))
    (c.in_ok-names.ensures ∙ ap (λ xs. map made.agent_name xs) (c.as_slice-numbers.ensures.value ∙ c.in_ok-numbers.ensures))
    (c.in_ok-names-2.ensures ∙ ap (λ (xs : List (String Global)). made.listed (map string_bytes xs)) c.deref.ensures.value)
    (c.in_ok-write.ensures.bytes
    ∙ ap (λ w. string_bytes c.args.text.now ++ (codes ",\"nssr\":[{\"at\":\"" ++ w))
    (sym (append_assoc c.args.prefix.now (codes "\",\"agents\":[") (string_bytes c.in_ok-names-2.names ++ codes "]}]"))))
