-- Those of the first context of the name.
use Rattle.std.proofs.Common.{sym, ap, ◌∙◌, Option}
use Rattle.std.specs.Option.{option_map}
use Rattle.x5_load.proofs.Copied.{copied_by}
use Rattle.x5_model_world.specs.WorldFile.{entries_there}
use Rattle.x5_ops.specs.KnowledgeViews.{context_view}
use Rattle.x5_ops.specs.declared.knowledge.ContextSpec.{ContextSpec}
use Rattle.x5_load.proofs.agreements.copied.Goals as goal

pub returns-in-Some : goal.returns-in-Some
returns-in-Some c =
    c.len.ensures
    ∙ ap (λ (o : Option ContextSpec). entries_there (option_map context_view o)) c.in-Some.ensures
    ∙ sym (copied_by c.args.agents.now c.args.name.now)

pub returns-in-None : goal.returns-in-None
returns-in-None c =
    ap (λ (o : Option ContextSpec). entries_there (option_map context_view o)) c.in-None.ensures
    ∙ sym (copied_by c.args.agents.now c.args.name.now)
