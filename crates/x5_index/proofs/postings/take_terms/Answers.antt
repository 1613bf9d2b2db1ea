-- One value more has been taken away.
use Rattle.std.proofs.Common.{◌≡◌, ap, arith}
use Rattle.x5_model.specs.Keys.{KeyPair}
use Rattle.x5_model.specs.Values.{StoredValue}
use Rattle.x5_model.specs.Entries.{Stored}
use Rattle.x5_index.proofs.Taking.{term_with, taken_value}
use Rattle.x5_index.proofs.postings.take_terms.Goals as goal

pub loop-value-preserved : goal.loop-value-preserved
loop-value-preserved c =
    let at = c.loop-value.invariant in
    let kind : c.attribute.inside.kind ≡ c.args.attribute.now.kind = ap (λ (s : Stored). s.kind) c.attribute.view_is in
    let normal : c.value.inside.normal ≡ c.value-item.result.normal = ap (λ (v : StoredValue). v.normal) c.value.view_is in
    let t : KeyPair = (c.attribute.inside.kind, c.value.inside.normal) in
    let same : t ≡ term_with c.args.attribute.now.kind c.value-item.result = λ i. (kind i, normal i) in
    record {
      taken = taken_value c.args.node c.args.kept.now c.args.postings.now.items c.loop-value.postings.items c.take_posting.new.postings.items c.args.attribute.now.kind c.as_slice-value-items.result.now c.loop-value.value-index c.value-item.result t c.loop-value-test.true c.value-item.is same at.taken c.take_posting.ensures.taken;
      len = omega (arith, at.len, c.take_posting.ensures.len);
      capacity = omega (arith, at.capacity, c.take_posting.ensures.capacity);
    }
