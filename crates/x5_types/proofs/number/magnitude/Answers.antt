-- An octet more makes the number 256 times as large at most.
use Rattle.std.proofs.Common.{◌+◌, ◌*◌, drop, ap, sym, ◌∙◌, arith}
use Rattle.std.proofs.lemmas.List.{drop_more}
use Rattle.x5_model_octets.specs.Headers.{big_endian}
use Rattle.x5_types.proofs.Magnitudes.{octets_room, octets_step}
use Rattle.x5_types.proofs.number.magnitude.Goals as goal

pub overflow_mul-number : goal.overflow_mul-number
overflow_mul-number c = omega (
  arith,
  octets_room c.loop-octet.number c.loop-octet.octet-index
      c.loop-octet.invariant.bound (omega (arith, c.requires, c.loop-octet-test.true)),
)

pub loop-octet-preserved : goal.loop-octet-preserved
loop-octet-preserved c = record {
  bound = octets_step c.loop-octet.number c.from.result c.loop-octet.octet-index c.loop-octet.invariant.bound
      (omega (arith, c.from.ensures, c.type_inv.octets c.loop-octet.octet-index));
  same =
      ap (λ d. big_endian (c.loop-octet.number * 256 + d) (drop (c.loop-octet.octet-index + 1) c.args.octets.now))
      c.from.ensures
      ∙ ap (big_endian c.loop-octet.number) (sym
      (drop_more c.args.octets.now c.loop-octet.octet-index 0 c.loop-octet-test.true)) ∙ c.loop-octet.invariant.same;
}
