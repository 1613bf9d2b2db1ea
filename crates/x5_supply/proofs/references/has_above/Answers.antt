-- Where the name isn't below the prefix, nothing of the context stands above it.
use Rattle.std.proofs.Common.{◌≡◌, length, sym, ap, subst, ◌∙◌, arith}
use Rattle.std.proofs.lemmas.List.{length-map}
use Rattle.x5_model.specs.Keys.{Key, is_prefix}
use Rattle.x5_model.specs.Values.{key_of, key_of_rdn}
use Rattle.x5_dse.specs.Linked.{Nodes, IsLinked, prefix_of}
use Rattle.x5_supply.proofs.Nodes.{not_above, not_within}
use Rattle.x5_supply.proofs.references.has_above.Goals.{then-len-via-then-len, then-len-via-else-len+then-not-is_prefix}
use Rattle.x5_supply.proofs.references.has_above.Goals as goal

pub returns-then-len : goal.returns-then-len
returns-then-len c =
    let held = c.args.held.now in
    let key = key_of c.args.name.now in
    let linked = subst (λ (ns : Nodes). IsLinked ns.nodes) c.tree.ensures.nodes c.len.ensures.linked in
    let prefixed : prefix_of held.nodes.nodes ≡ key_of held.prefix = c.tree.ensures.kept.prefixed in
    let long : length (prefix_of held.nodes.nodes) ≡ length held.prefix = ap length prefixed ∙ length-map held.prefix key_of_rdn in
    let named : length (key_of c.args.name.now) ≡ length c.args.name.now = length-map c.args.name.now key_of_rdn in
    let same : length c.prefix-prefix.result.now ≡ length held.prefix = ap length c.prefix-prefix.ensures.prefix in
    elim c.then-len.branch [
      | then-len-via-then-len w ↦ sym (not_above held.nodes.nodes linked key
          (omega (arith, long, c.tree.ensures.kept.below_root)) (omega (arith, long, named, same, w.if-len.true, c.len-2.ensures, c.len-3.ensures)))
      | then-len-via-else-len+then-not-is_prefix w ↦ sym (not_within held.nodes.nodes linked key
          (ap (λ (k : Key). is_prefix k key) (prefixed ∙ ap key_of (sym c.prefix-prefix.ensures.prefix))
          ∙ sym w.is_prefix.ensures ∙ w.if-not-is_prefix.true))
    ]
