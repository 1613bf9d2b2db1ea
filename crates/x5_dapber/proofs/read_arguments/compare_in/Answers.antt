-- The name and the assertion are the first two components.
use Rattle.std.proofs.Common.{ap, ap₂, sym, ◌∙◌, List}
use Rattle.x5_model.specs.Requests.{Compare}
use Rattle.x5_model_messages.specs.Requests.{three_of}
use Rattle.x5_model_messages.specs.Terms as terms
use Rattle.x5_model_typed.specs.Nodes as nodes
use Rattle.x5_dapber.specs.Sayable.{IsAssertion}
use Rattle.x5_dapber.proofs.Members.{three_are}
use Rattle.x5_dapber.proofs.read_arguments.compare_in.Goals as goal

pub returns : goal.returns
returns c =
    let three = three_are (λ name assertion controls. IsAssertion assertion) c.args.parts.now
    c.object-item.result c.assertion-item.result c.object-item.is c.assertion-item.is c.requires in
    ap₂ Compare c.in_ok-object.ensures c.in_ok-kind.ensures
    ∙ sym (ap (λ (l : List nodes.Node). three_of (λ name assertion. Compare (terms.name_of name) (terms.assertion_in assertion)) l) three.split)
