-- What stands next to the entry tells, since those below it stand next to it.
use Rattle.std.proofs.Common.{ap, ◌∙◌}
use Rattle.x5_model.specs.Keys.{is_prefix}
use Rattle.x5_model.specs.Entries.{Named}
use Rattle.x5_model_tree.specs.Tree.{key_at}
use Rattle.x5_one.proofs.Changing.{below_next, below_none}
use Rattle.x5_one.proofs.updating.has_below.Goals as goal

pub returns-in-Some : goal.returns-in-Some
returns-in-Some c =
    c.is_prefix.ensures ∙ ap (is_prefix c.args.key.now) c.key.ensures ∙ ap (λ (e : Named). is_prefix c.args.key.now (key_at e)) c.next.view_is
    ∙ below_next c.args.entries.now c.args.key.now c.args.at c.in-Some.next.now c.requires.order c.requires.place c.in-Some.ensures.lookup.3

pub returns-in-None : goal.returns-in-None
returns-in-None c = below_none c.args.entries.now c.args.key.now c.args.at c.requires.order c.requires.place c.in-None.ensures.lookup.3
