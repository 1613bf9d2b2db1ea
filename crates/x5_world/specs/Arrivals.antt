-- What becomes of a message that was sent, by its fate.
use Rattle.x5_model_run.specs.Network as fates
use Rattle.x5_ops.specs.declared.references.Chained.{Chained}
use Rattle.x5_serve.specs.declared.network.Carried.{Carried}
use Rattle.x5_serve.specs.declared.network.Carried.TheVariants.{Undelivered, Unheard, Taken}

abbrev pub arrival_by : fates.Fate → Chained → Carried
arrival_by fates.Lost m = Undelivered
arrival_by fates.NoReply m = Unheard m
arrival_by fates.Sent m = Taken m
