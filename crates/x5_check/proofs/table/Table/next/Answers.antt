-- What the search by halves says: the row, or the place where the next row of the key stands, if there is one.
use Rattle.std.proofs.Common.{◌∙◌, sym, arith}
use Rattle.x5_check.proofs.Sought.{as_sought, sought_there, sought_next, sought_other, sought_none}
use Rattle.x5_check.proofs.table.Table.next.Goals as goal

pub returns-in-Ok : goal.returns-in-Ok
returns-in-Ok c =
    let h = as_sought c.args.self.now c.self.inside.rows.items c.deref.result.now c.args.key.now c.args.from c.new.result c.binary_search.result c.self.view_is c.deref.ensures.value c.new.ensures c.self.invariant c.binary_search.ensures.bound c.binary_search.ensures.position in
    (sought_there _ _ _ _ c.in-Ok.field-0 h c.in-Ok.is, omega arith, λ m a b. absurd (omega arith))

pub returns-in-Some : goal.returns-in-Some
returns-in-Some c =
    let h = as_sought c.args.self.now c.self.inside.rows.items c.deref.result.now c.args.key.now c.args.from c.new.result c.binary_search.result c.self.view_is c.deref.ensures.value c.new.ensures c.self.invariant c.binary_search.ensures.bound c.binary_search.ensures.position in
    sought_next _ c.deref-in-Err.result.now _ _ _ c.in-Err.place h c.in-Err.is (c.deref-in-Err.ensures.value ∙ c.self.view_is) c.get.result c.get.ensures.lookup c.in-Some.row (c.row.inside.key.now, c.row.inside.number) c.in-Some.is c.row.view_is (sym c.eq.ensures ∙ c.if-eq.true)

pub returns-in_default : goal.returns-in_default
returns-in_default c =
    let h = as_sought c.args.self.now c.self.inside.rows.items c.deref.result.now c.args.key.now c.args.from c.new.result c.binary_search.result c.self.view_is c.deref.ensures.value c.new.ensures c.self.invariant c.binary_search.ensures.bound c.binary_search.ensures.position in
    sought_other _ c.deref-in-Err.result.now _ _ _ c.in-Err.place h c.in-Err.is (c.deref-in-Err.ensures.value ∙ c.self.view_is) c.get.result c.get.ensures.lookup c.in-Some.row (c.row.inside.key.now, c.row.inside.number) c.in-Some.is c.row.view_is (sym c.eq.ensures ∙ c.if-eq.false)

pub returns-in_default-2 : goal.returns-in_default-2
returns-in_default-2 c =
    let h = as_sought c.args.self.now c.self.inside.rows.items c.deref.result.now c.args.key.now c.args.from c.new.result c.binary_search.result c.self.view_is c.deref.ensures.value c.new.ensures c.self.invariant c.binary_search.ensures.bound c.binary_search.ensures.position in
    sought_none _ c.deref-in-Err.result.now _ _ _ c.in-Err.place h c.in-Err.is (c.deref-in-Err.ensures.value ∙ c.self.view_is) c.get.result c.get.ensures.lookup c.in_default.is
