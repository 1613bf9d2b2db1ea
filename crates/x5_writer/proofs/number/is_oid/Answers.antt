-- The reads of the two first arcs decide.
use Rattle.std.proofs.Common.{arith}
use Rattle.std.proofs.lemmas.Bool.Decides.{nat_tests}
use Rattle.x5_writer.proofs.Numbers.{is_oid_reads}
use Rattle.x5_writer.proofs.number.is_oid.Goals as goal

pub returns-then-first-gt1 : goal.returns-then-first-gt1
returns-then-first-gt1 c =
    let e = is_oid_reads c.args.arcs.now (λ k. omega (arith, c.type_inv.arcs k)) c.in-len2-up.len_at_least in
    grind (arith, nat_tests)

pub returns-else-first-gt1 : goal.returns-else-first-gt1
returns-else-first-gt1 c =
    let e = is_oid_reads c.args.arcs.now (λ k. omega (arith, c.type_inv.arcs k)) c.in-len2-up.len_at_least in
    grind (arith, nat_tests)
