-- Where a member has another name than an entry's, that is the breach; else the entry is read as it stands behind those
-- before it.
use Rattle.std.proofs.Common.{◌∙◌, sym}
use Rattle.std.proofs.lemmas.Result.{err_from_is_err_and}
use Rattle.serde_json.specs.View.{view, members_view}
use Rattle.x5_world_members.specs.Paths.{path_of}
use Rattle.x5_world_members.proofs.Failing.{entry_fails, entry_read, named_fails}
use Rattle.x5_world_members.proofs.entries.named_behind.Goals as goal

pub returns-in_err-only-clause-read : goal.returns-in_err-only-clause-read
returns-in_err-only-clause-read c =
    let p = err_from_is_err_and c.from_residual-in_err-only.result c.from_residual-in_err-only.ensures.1 in
    rw (p.1, p.2)
    (entry_fails (path_of c.args.place.now) c.args.prefix.now c.args.before.now (view c.args.value.now)
    (members_view c.in_ok-members.members.now.entries) c.in_ok-own.own c.in_ok-named.named c.in_err-only.field-0.0
    c.in_ok-members.ensures c.in_ok-own.ensures.read
    (sym c.has.ensures ∙ c.if-has.false) c.in_ok-named.ensures.read c.in_err-only.ensures)

pub returns-in_err-named-clause-read : goal.returns-in_err-named-clause-read
returns-in_err-named-clause-read c =
    let p = err_from_is_err_and c.from_residual-in_err-named.result c.from_residual-in_err-named.ensures.1 in
    rw (p.1, p.2)
    (named_fails (path_of c.args.place.now) c.args.prefix.now c.args.before.now (view c.args.value.now)
    (members_view c.in_ok-members.members.now.entries) c.in_ok-own.own c.in_err-named.field-0.0
    c.in_ok-members.ensures c.in_ok-own.ensures.read
    (sym c.has.ensures ∙ c.if-has.false) c.in_err-named.ensures.read)

pub returns-clause-read : goal.returns-clause-read
returns-clause-read c =
    entry_read (path_of c.args.place.now) c.args.prefix.now c.args.before.now (view c.args.value.now)
    (members_view c.in_ok-members.members.now.entries) c.in_ok-own.own c.in_ok-named.named c.in_ok-only.field-0
    c.in_ok-members.ensures c.in_ok-own.ensures.read
    (sym c.has.ensures ∙ c.if-has.false) c.in_ok-named.ensures.read c.in_ok-only.ensures
