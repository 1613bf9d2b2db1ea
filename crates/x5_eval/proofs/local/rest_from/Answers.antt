-- What is held of the numbers are the contexts that the walk leaves.
use Rattle.std.proofs.Common.{Bor, map, sym, ap, ◌∙◌}
use Rattle.x5_ops.specs.RequestViews.{request_view}
use Rattle.x5_holdings.specs.State.{Kept, held_view, holdings_view}
use Rattle.x5_eval.specs.Numbers.{held_number}
use Rattle.x5_eval.specs.Rest.{unnamed}
use Rattle.x5_eval.proofs.Adding.{map_twice}
use Rattle.x5_eval.proofs.Choosing.{served_held}
use Rattle.x5_eval.proofs.local.rest_from.Goals as goal

pub held_of-requires : goal.held_of-requires
held_of-requires c = λ n i. served_held (holdings_view c.args.state.now) (request_view c.args.message.now.request) n (c.requires.left.served n i)

pub rest-requires-clause-contexts : goal.rest-requires-clause-contexts
rest-requires-clause-contexts c =
    ap (map (λ (b : Bor Kept). unnamed (held_view b.now))) c.deref.ensures.value ∙ c.in_ok-held.ensures
    ∙ sym (map_twice (held_number (holdings_view c.args.state.now)) unnamed c.args.left.now) ∙ ap (map unnamed) c.requires.left.views
