-- The list stands behind its word, if there is something to list.
use Rattle.std.proofs.Common.{◌∙◌, codes, List, sym, ap, map, string_bytes, String, Global}
use Rattle.x5_gen.specs.World as made
use Rattle.x5_gen.proofs.Making.{member_is, member_none, is_none, is_some}
use Rattle.x5_gen.proofs.world.add_references.Goals as goal

pub returns-then-is_empty : goal.returns-then-is_empty
returns-then-is_empty c =
    member_none (string_bytes c.args.text.now) (codes ",\"refs\":[") (codes "]") (map made.reference (made.just_below c.args.agent 1))
    (is_none made.reference c.as_slice-numbers.result.now _ (c.as_slice-numbers.ensures.value ∙ c.in_ok-numbers.ensures) (sym c.is_empty.ensures ∙ c.if-is_empty.true))

pub returns : goal.returns
returns c =
    member_is (string_bytes c.args.text.now) (codes ",\"refs\":[") (codes "]") (string_bytes c.in_ok-texts-2.texts) (string_bytes c.write.new.self) (map string_bytes c.in_ok-texts.texts.items) (map made.reference (made.just_below c.args.agent 1))
    (is_some made.reference c.as_slice-numbers.result.now _ (c.as_slice-numbers.ensures.value ∙ c.in_ok-numbers.ensures) (sym c.is_empty.ensures ∙ c.if-is_empty.false))
    (c.in_ok-texts.ensures ∙ ap (λ xs. map made.reference xs) (c.as_slice-numbers.ensures.value ∙ c.in_ok-numbers.ensures))
    (c.in_ok-texts-2.ensures ∙ ap (λ (xs : List (String Global)). made.listed (map string_bytes xs)) c.deref.ensures.value)
    c.in_ok-write.ensures.bytes
