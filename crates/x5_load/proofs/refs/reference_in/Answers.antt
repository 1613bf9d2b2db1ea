-- The reference stands behind those before it.
use Rattle.std.proofs.Common.{◌∙◌, sym}
use Rattle.serde_json.specs.View.{view, members_view}
use Rattle.x5_world_members.specs.Paths.{path_of}
use Rattle.x5_load.proofs.Referring.{reference_read}
use Rattle.x5_load.proofs.refs.reference_in.Goals as goal

pub returns-clause-read : goal.returns-clause-read
returns-clause-read c =
    reference_read c.args.names.now (path_of c.args.place.now) c.args.before.now (view c.args.value.now)
    (members_view c.in_ok-members.members.now.entries) c.in_ok-word.word.now c.in-Some.cross c.in_ok-pin.pin
    c.in_ok-access.access c.in_ok-only.field-0 c.in_ok-members.ensures c.in_ok-word.ensures
    (sym c.is_cross.ensures ∙ c.in-Some.is) c.in_ok-pin.ensures.read (sym c.has.ensures ∙ c.if-has.false)
    c.in_ok-access.ensures c.in_ok-only.ensures
