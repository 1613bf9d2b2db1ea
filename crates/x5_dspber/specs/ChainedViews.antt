-- What the code's messages between agents tell: as messages carry them, agents by their names.
use Rattle.std.specs.Prelude.{map}
use Rattle.x5_model_messages.specs.Chained as chains
use Rattle.x5_dapreply.specs.ReplyViews.{told_item}
use Rattle.x5_ops.specs.ReferenceViews.{progress_view, kind_view}
use Rattle.x5_ops.specs.RequestViews.{request_view}
use Rattle.x5_ops.specs.declared.references.Chained.{Chained}

abbrev pub told_chained : Chained → chains.Chained
told_chained m = record {
  target = m.target;
  progress = progress_view m.progress;
  kind = kind_view m.kind;
  exclusions = m.exclusions;
  trace = map told_item m.trace;
  request = request_view m.request;
}
