-- All but the last RDN is spelled as the entry above is.
use Rattle.std.proofs.Common.{◌++◌, ◌∷◌, [], false, map, sym, ap, ◌∙◌}
use Rattle.x5_model.specs.Values.{Rdn}
use Rattle.x5_model.specs.References.{Next, NonSpecific}
use Rattle.x5_ops.specs.ReferenceViews.{access_view}
use Rattle.x5_update.proofs.Probing.{below_kept}
use Rattle.x5_update.proofs.probes.probe_to.Goals as goal

pub returns : goal.returns
returns c = λ names. λ i. record {
  target = (c.in_ok-below.ensures ∙ ap (λ (r : Rdn). c.args.above.now ++ r ∷ []) c.in_ok-rdn.ensures
      ∙ sym (below_kept c.args.name.now c.args.above.now c.requires.named c.requires.long)) i;
  progress = Next (c.len.ensures i);
  kind = NonSpecific;
  agents = map (access_view names) c.args.agents;
  exclusions = c.new.ensures i;
  tried = false;
}
