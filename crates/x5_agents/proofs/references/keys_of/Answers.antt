-- One key more is that of one entry more.
use Rattle.std.proofs.Common.{◌||◌, List, ap, ◌∙◌}
use Rattle.std.specs.List.{list_any}
use Rattle.x5_model.specs.Keys.{Key, same_key}
use Rattle.x5_model.specs.Values.{key_of}
use Rattle.x5_model_tree.specs.Tree.{is_there}
use Rattle.x5_agents.proofs.Keyed.{one_more, all_keys}
use Rattle.x5_agents.proofs.references.keys_of.Goals as goal

pub loop-named-init : goal.loop-named-init
loop-named-init c key =
    ap (λ (ks : List Key). list_any (same_key key) ks || is_there c.args.entries.now key) c.new-keys.ensures.empty

pub loop-named-preserved : goal.loop-named-preserved
loop-named-preserved c =
    one_more c.loop-named.keys.keys c.insert.new.self.keys c.args.entries.now c.loop-named.named-index
    c.named-item.result c.in_ok-clone.field-0 c.loop-named-test.true c.named-item.is
    (c.in_ok-clone.ensures.cases ∙ c.key.ensures ∙ (λ i. key_of (c.named.view_is i).name))
    c.in_ok-_added.ensures.updates.0 c.loop-named.invariant

pub returns : goal.returns
returns c = all_keys c.loop-named.keys.keys c.args.entries.now c.loop-named.named-index c.loop-named-test.false c.loop-named.invariant
