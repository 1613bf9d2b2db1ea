-- Where a member has another name than a context's, that is the breach.
use Rattle.std.proofs.Common.{◌∙◌, sym, ap}
use Rattle.std.proofs.lemmas.Result.{err_from_is_err_and}
use Rattle.serde_json.specs.View.{view, members_view}
use Rattle.x5_model_world.specs.ContextText.{Counts}
use Rattle.x5_world_members.specs.Parts.{nssrs_at}
use Rattle.x5_world_members.specs.Paths.{path_of}
use Rattle.x5_world_members.proofs.Failing.{context_fails}
use Rattle.x5_world_members.proofs.contexts.nssrs_beside.Goals as goal

pub returns-in_err-only : goal.returns-in_err-only
returns-in_err-only c =
    let p = err_from_is_err_and c.from_residual-in_err-only.result c.from_residual-in_err-only.ensures.1 in
    let listed = c.nssr_agents-nssr_agents.ensures.same ∙ ap (λ (k : Counts). k.nssr_agents) c.counts.ensures in
    rw (p.1, p.2)
    (context_fails c.args.names.now (path_of c.args.place.now) c.args.before.now c.args.prefix.now c.args.entries.now c.args.used
    (members_view c.args.members.now.entries) (view c.args.value.now) c.in_ok-found.found c.in_err-only.field-0.0
    (ap (λ n. nssrs_at c.args.names.now (path_of c.args.place.now) n c.args.entries.now (view c.args.value.now))
    (sym listed)
    ∙ c.in_ok-found.ensures)
    c.in_err-only.ensures)
