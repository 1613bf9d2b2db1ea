-- A type of the table is written as such.
use Rattle.std.proofs.Common.{subst, sym}
use Rattle.x5_model_messages.specs.Terms as terms
use Rattle.x5_model_typed.specs.Named as named
use Rattle.x5_syntax.specs.TypeView.{type_view}
use Rattle.x5_syntax.specs.declared.kinds.TypeRef.{TypeRef}
use Rattle.x5_direct_writer.specs.PutsOf.{PutsOf}
use Rattle.x5_direct_writer.proofs.names.put_type.Goals as goal

pub returns-in-Known : goal.returns-in-Known
returns-in-Known c =
    subst (λ (k : TypeRef). PutsOf named.AnyOid (terms.type_node (type_view k)) c.args.out.now c.put_known_type.new.out c.put_known_type.result)
    (sym c.in-Known.is) c.put_known_type.ensures
