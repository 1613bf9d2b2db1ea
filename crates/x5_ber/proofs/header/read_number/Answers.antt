-- Reading a big-endian number: with at most 7 octets before it one more leaves the number in 64 bits, and what is left
-- gives, behind the number with this octet, what all octets give: by powers of 256.
use Rattle.std.proofs.Common.{◌≡◌, ◌+◌, ◌-◌, arith, sym, ap, ◌∙◌}
use Rattle.x5_model_octets.specs.Headers.{big_endian}
use Rattle.x5_ber.proofs.Powers.{octets_room, octets_step}
use Rattle.x5_ber.proofs.header.read_number.Goals as goal

pub overflow_mul-number : goal.overflow_mul-number
overflow_mul-number c = omega (arith, octets_room c.loop-digit.number (c.loop-digit.place - c.args.start) c.loop-digit.invariant.bound (omega (arith, c.in-Some.ensures)))

pub overflow_add-number : goal.overflow_add-number
overflow_add-number c = omega (arith, octets_room c.loop-digit.number (c.loop-digit.place - c.args.start) c.loop-digit.invariant.bound (omega (arith, c.in-Some.ensures)))

pub loop-digit-preserved : goal.loop-digit-preserved
loop-digit-preserved c =
    let count : c.loop-digit.place + 1 - c.args.start ≡ c.loop-digit.place - c.args.start + 1 = omega (arith, c.loop-digit.invariant.past) in
    record {
      past = omega (arith, c.loop-digit.invariant.past);
      bound = rw count (octets_step c.loop-digit.number c.in-Some.digit (c.loop-digit.place - c.args.start) c.loop-digit.invariant.bound (omega arith));
      same = ap (big_endian c.loop-digit.number) (sym c.in-Some.ensures.1) ∙ c.loop-digit.invariant.same;
    }
