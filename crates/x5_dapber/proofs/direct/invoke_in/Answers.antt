-- An id and a code, and nothing behind the element.
use Rattle.x5_dapber.proofs.Invoking.{code_spelled}
use Rattle.x5_dapber.proofs.direct.invoke_in.Goals as goal

pub returns-clause-invokes : goal.returns-clause-invokes
returns-clause-invokes c = record {
  content = c.in_ok-content.content.now;
  after = c.in_ok-id.after.now;
  opens = c.in_ok-content.ensures;
  id = c.in_ok-id.ensures;
  code = code_spelled c.in-Some.code c.in_ok-id.after.now c.in-Some.rest.now c.in-Some.ensures.is
      c.in-Some.ensures.small;
  code_is = c.in-Some-operation_of.ensures;
}
