-- Each is longer than the place of the RDN.
use Rattle.std.proofs.Common.{◌<◌, length, sym, ap, subst}
use Rattle.x5_model.specs.Members.{In}
use Rattle.x5_model.specs.Entries.{Named}
use Rattle.x5_model.specs.Values.{Name}
use Rattle.x5_one.proofs.Searching.{in_get}
use Rattle.x5_one.proofs.renaming.respelled_all.Goals as goal

pub respelled-requires : goal.respelled-requires
respelled-requires c =
    subst (λ (n : Name). c.args.above < length n) (sym (ap (λ (e : Named). e.name) c.named.view_is))
    (c.requires c.named-item.result (subst (λ (e : Named). In e c.args.run.now) (sym c.named-item.is)
    (in_get c.args.run.now c.loop-named.named-index c.named-item.result c.loop-named-test.true)))
