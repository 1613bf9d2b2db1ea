-- Octets that bring no message are one message more, of which the fate and the first breach are told.
use Rattle.std.proofs.Common.{◌≡◌, List, ℕ, sym, ap, subst, ◌∙◌}
use Rattle.x5_ops.specs.AgentNames.{agent_of}
use Rattle.x5_world.specs.State.{Net}
use Rattle.x5_world.proofs.Delivering.{rejected_so}
use Rattle.x5_world.proofs.world.World.reject.Goals as goal

pub returns-clause-rejected : goal.returns-clause-rejected
returns-clause-rejected c = (
  c.in-Some.breach,
  sym c.breach_of.ensures ∙ c.in-Some.is,
  λ p via count s.
      rejected_so c.args.self.now c.spoil-fate.new.self p via c.args.to count c.in_ok-name.name c.spoil-fate.result c.in-Some.breach s
      (subst (λ (names : List (List ℕ)). agent_of names c.in_ok-name.name ≡ c.args.to) (ap (λ (n : Net). n.names) c.self.view_is)
      c.in_ok-name.ensures.place)
      c.spoil-fate.ensures.fate c.spoil-fate.ensures.counted,
)
