-- What the search by halves says.
use Rattle.std.proofs.Common.{◌∙◌}
use Rattle.x5_check.proofs.Sought.{as_sought, sought}
use Rattle.x5_check.proofs.table.Table.has.Goals as goal

pub returns : goal.returns
returns c =
    c.is_ok.ensures.value ∙ sought _ _ _ _ (as_sought c.args.self.now c.self.inside.rows.items c.deref.result.now c.args.key.now c.args.number c.new.result c.binary_search.result c.self.view_is c.deref.ensures.value c.new.ensures c.self.invariant c.binary_search.ensures.bound c.binary_search.ensures.position)
