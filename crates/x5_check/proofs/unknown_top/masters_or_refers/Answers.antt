-- What the tables say of the agent.
use Rattle.std.proofs.Common.{◌≡◌, Bool, false, ◌||◌, ℕ, sym, ap, ◌∙◌}
use Rattle.x5_model_tree.specs.Masters.{numbered, masters}
use Rattle.x5_model_tree.specs.Consistent.{refers_to}
use Rattle.x5_check.specs.Numbers.{referrers_in}
use Rattle.x5_check.proofs.ByAgent.{refers_at}
use Rattle.x5_check.proofs.unknown_top.masters_or_refers.Goals as goal

pub returns-else-masters : goal.returns-else-masters
returns-else-masters c =
    let m : masters c.args.known.now c.args.agent.now.0 c.args.pin.now ≡ false =
    sym (ap (λ (n : ℕ). masters c.args.known.now n c.args.pin.now) c.id.ensures) ∙ (sym c.masters.ensures ∙ c.if-masters.false) in
    c.refers.ensures
    ∙ ap (λ (n : ℕ). referrers_in (numbered c.args.known.now) c.args.pin.now n) c.id-else-masters.ensures
    ∙ refers_at c.args.known.now c.args.agent.now.0 c.args.agent.now.1 c.args.pin.now c.requires
    ∙ sym (ap (λ (b : Bool). b || refers_to c.args.agent.now.1 c.args.pin.now) m)
