-- The text is no keyword, and spells an object identifier.
use Rattle.std.proofs.Common.{Some, sym, ◌∙◌, ap}
use Rattle.x5_syntax.proofs.OidLemmas.{type_of_oid_text}
use Rattle.x5_syntax.proofs.kinds.TypeRef.parse.Goals as goal

pub returns-in-Some-2 : goal.returns-in-Some-2
returns-in-Some-2 c = ap Some c.from_oid.ensures ∙ sym (type_of_oid_text c.args.text.now c.in-Some-2.oid (sym c.from_keyword.ensures ∙ c.in_default.is) (sym c.in_ok-oid.ensures ∙ c.in-Some-2.is))
