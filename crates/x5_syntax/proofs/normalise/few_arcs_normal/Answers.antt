-- The octets of an arc go behind those of the arcs before it.
use Rattle.std.proofs.Common.{◌≡◌, ◌+◌, ◌*◌, ◌≤◌, ◌++◌, length, drop, take, get_or, sym, ap, ◌∙◌, append_assoc, arith}
use Rattle.std.proofs.lemmas.List.{drop_more}
use Rattle.std.proofs.lemmas.Slice.{take-put_mid}
use Rattle.std.specs.Int.{to_be_bytes, w32}
use Rattle.x5_model.specs.Normal.{oid_normal}
use Rattle.x5_syntax.proofs.normalise.few_arcs_normal.Goals as goal

pub loop-i-preserved : goal.loop-i-preserved
loop-i-preserved c =
    let i = c.loop-i.i in
    let arcs = c.args.arcs.now in
    let arc = get_or arcs i 0 in
    let before = take (4 * i) c.loop-i.octets in
    let put = c.copy_from_slice.new.self in
    let is_arc : put ≡ to_be_bytes w32 arc = c.copy_from_slice.ensures.after ∙ c.to_be_bytes.ensures in
    let four : length put ≡ 4 = ap length is_arc in
    let long = c.loop-i-test.array_long in
    let room : 4 * i ≤ length c.loop-i.octets = omega (arith, c.loop-i-test.true, long, c.requires) in
    ap (λ t. t ++ oid_normal (drop (i + 1) arcs))
    (take-put_mid (4 * i) _ c.loop-i.octets put (4 * (i + 1)) (omega (arith, four)) room ∙ ap (λ t. before ++ t) is_arc)
    ∙ append_assoc before (to_be_bytes w32 arc) (oid_normal (drop (i + 1) arcs))
    ∙ ap (λ t. before ++ oid_normal t) (sym (drop_more arcs i 0 c.loop-i-test.true))
    ∙ c.loop-i.invariant
