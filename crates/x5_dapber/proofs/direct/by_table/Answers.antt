-- What is spelled of the argument is one for whose parts the code has types, and says the request.
use Rattle.std.proofs.Common.{ℕ, ap, lit≤, ◌∙◌}
use Rattle.x5_model_messages.specs.Requests as requests
use Rattle.x5_model_typed.specs.Named as named
use Rattle.x5_types.specs.FormView.{operation_view}
use Rattle.x5_types.specs.NodeView.{node_view}
use Rattle.x5_direct.proofs.Spelling.{spelled_higher}
use Rattle.x5_dapber.proofs.DirectArgument.{argument_so}
use Rattle.x5_dapber.proofs.direct.by_table.Goals as goal

pub argument_in-requires : goal.argument_in-requires
argument_in-requires c =
    argument_so (operation_view c.args.operation) c.from.result (node_view c.in_ok-node.node)
    (c.from.ensures ∙ c.requires) c.in_ok-node.ensures.fits

pub returns : goal.returns
returns c =
    let n = node_view c.in_ok-node.node in (
      n,
      spelled_higher 48 50 (named.Argument (operation_view c.args.operation)) n c.args.octets.now _ (lit≤ tt)
          c.in_ok-node.ensures.is,
      c.in_ok-argument_in.ensures ∙ ap (λ (k : ℕ). requests.argument_in k n) c.from.ensures,
    )
