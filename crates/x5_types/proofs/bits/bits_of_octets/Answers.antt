-- All bits without the unused ones at the end.
use Rattle.std.proofs.Common.{◌≡◌, ◌-◌, List, Bool, take, length, flat_map, ap, sym, ◌∙◌, arith}
use Rattle.x5_model_typed.specs.Judged as judged
use Rattle.x5_types.proofs.BitLaws.{whole_bits}
use Rattle.x5_types.proofs.bits.bits_of_octets.Goals as goal

pub returns : goal.returns
returns c =
    let all : List Bool = flat_map judged.bits_of_octet c.args.octets.now in
    let count : c.saturating_sub-count.result ≡ length all - c.args.unused =
    omega (arith, c.saturating_sub-count.ensures, c.len.ensures, ap length c.in_ok-bits.ensures, c.from.ensures) in
    c.truncate.ensures.items ∙ ap (λ n. take n c.in_ok-bits.bits.items) count
    ∙ ap (λ (l : List Bool). take (length all - c.args.unused) l) c.in_ok-bits.ensures
    ∙ sym (whole_bits c.args.unused c.args.octets.now c.requires)
