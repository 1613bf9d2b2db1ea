-- A copy that has the entries was refreshed, and has all that was sent once its references are those that were sent.
use Rattle.std.proofs.Common.{refl, sym, ap, ◌∙◌}
use Rattle.std.specs.Option.{is_some}
use Rattle.x5_holdings.proofs.Holding.{some_within}
use Rattle.x5_holdings.specs.State.{CopyKept}
use Rattle.x5_consume.proofs.Placing.{copy_inside}
use Rattle.x5_consume.proofs.Taking.{renewed}
use Rattle.x5_consume.proofs.total.renew.Goals as goal

pub renew_copy-requires-clause-there : goal.renew_copy-requires-clause-there
renew_copy-requires-clause-there c = some_within c.args.state.now.copies c.args.place c.requires.copy c.requires.there

pub renew_copy-requires-clause-refreshed : goal.renew_copy-requires-clause-refreshed
renew_copy-requires-clause-refreshed c = λ k got.
    ap (λ (x : CopyKept). is_some x.refreshed) (copy_inside (sym got ∙ c.requires.there)) ∙ ap is_some c.requires.refreshed

pub returns-clause-ok : goal.returns-clause-ok
returns-clause-ok c =
    renewed c.args.state.now c.renew_copy.new.self c.args.place c.args.content c.args.stamp c.new-log.result c.args.content.specific
    c.args.content.nssr c.requires refl refl c.new-log.ensures.base c.new-log.ensures.changes c.in_ok-renew_copy.ensures.ok
