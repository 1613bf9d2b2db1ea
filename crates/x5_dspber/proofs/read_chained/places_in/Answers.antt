-- The members of what the trace stands in are items of a trace.
use Rattle.std.proofs.Common.{ap, map, ◌∙◌}
use Rattle.x5_model_messages.specs.Replies.{item_in}
use Rattle.x5_model_messages.specs.Terms.{rdn_of}
use Rattle.x5_dapber.proofs.Members.{members_are}
use Rattle.x5_dapreply.specs.Sayable.{IsItem}
use Rattle.x5_dspber.proofs.read_chained.places_in.Goals as goal

pub trace_in-requires : goal.trace_in-requires
trace_in-requires c =
    members_are IsItem c.parts-2.result.now _ c.parts-2.ensures c.requires

pub returns : goal.returns
returns c = (
  c.in_ok-name.ensures,
  c.in_ok-rdns.ensures ∙ ap (map rdn_of) c.parts.ensures,
  c.in_ok-items.ensures ∙ ap (map item_in) c.parts-2.ensures,
)
