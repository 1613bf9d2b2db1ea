-- The number fits, by its first octet.
use Rattle.std.proofs.Common.{arith}
use Rattle.x5_types.proofs.Magnitudes.{low_number, high_number}
use Rattle.x5_types.proofs.number.complement.Goals as goal

pub from_zero-requires : goal.from_zero-requires
from_zero-requires c =
    omega (
      arith,
      c.magnitude-number.ensures,
      low_number c.args.octets.now c.in-Some.field-0-1.now c.in-Some.first.now
          c.in-Some.ensures.cases.0 c.requires c.if-first-lt128.true (λ k. omega (arith, c.type_inv.octets k)),
    )

pub overflow_sub-largest : goal.overflow_sub-largest
overflow_sub-largest c =
    let both = high_number c.args.octets.now c.in-Some.field-0-1.now c.in-Some.first.now c.in-Some.ensures.cases.0
    c.requires c.if-first-lt128.false (λ k. omega (arith, c.type_inv.octets k)) in
    omega (arith, c.magnitude-number.ensures, c.largest.ensures, both.0)

pub below_zero-requires : goal.below_zero-requires
below_zero-requires c =
    let both = high_number c.args.octets.now c.in-Some.field-0-1.now c.in-Some.first.now c.in-Some.ensures.cases.0
    c.requires c.if-first-lt128.false (λ k. omega (arith, c.type_inv.octets k)) in
    omega (arith, c.magnitude-number.ensures, c.largest.ensures, both.1)
