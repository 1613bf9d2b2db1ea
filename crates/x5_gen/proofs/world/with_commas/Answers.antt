-- The texts as `join` joins them.
use Rattle.std.proofs.Common.{◌∙◌, string_bytes}
use Rattle.std.proofs.lemmas.Result.{IfOk-weaker}
use Rattle.x5_gen.proofs.Joined.{joined_is}
use Rattle.x5_gen.proofs.world.with_commas.Goals as goal

pub returns : goal.returns
returns c = IfOk-weaker c.join.result _ _ (λ t e. e ∙ joined_is string_bytes 44 c.args.texts.now) c.join.ensures.ok
