-- What the dispatch asks of a network, of every exchange: what its agents hold is their own, and what they know are
-- agents of the network; and it keeps to the limits of messages.
use Rattle.std.proofs.Common.{◌≡◌, ℕ, zero, suc, ◌<◌, List, [], ◌∷◌, length, slice_get, refl, sym, ap, subst, arith}
use Rattle.std.proofs.Common.{Some}
use Rattle.x5_model.specs.Words.{in_option}
use Rattle.x5_model.proofs.Decide.{less_decides}
use Rattle.x5_model.specs.References.{Chained}
use Rattle.x5_model_run.specs.Holdings.{Holdings}
use Rattle.x5_model_run.specs.History.{no_holdings}
use Rattle.x5_model_heard.specs.Told.{KnowsAgents}
use Rattle.x5_model_known.specs.Holding.{HoldAgents, AreThemselves}
use Rattle.x5_model_known.proofs.Finding.{knowledge_names_agents}
use Rattle.x5_serve.specs.Sendable.{KeepsLimits}
use Rattle.x5_world.specs.State.{Net, holdings_in}
use Rattle.x5_world.specs.Sent.{IsNet, IsHolder, IsUnderWay, journal_of, scene_of}
use Rattle.x5_world.specs.declared.journal.Sent.{Sent}

got : (hs : List Holdings) (i : ℕ) → i < length hs → (h : Holdings) × (slice_get hs i ≡ Some h)
got [] i h = absurd (omega (arith, h))
got (x ∷ xs) zero h = (x, refl)
got (x ∷ xs) (suc i) h = got xs i (omega (arith, h))

pub holder : (n : Net) (a : ℕ) → IsNet n → a < length n.names → IsHolder n.names a (holdings_in n a)
holder n a net h =
    let g = got n.agents a (let c = net.count in omega (arith, c, h)) in
    subst (IsHolder n.names a) (ap (in_option (no_holdings a) (λ x. x)) (sym g.1)) (net.each a g.0 g.1)

pub hold_agents : (n : Net) (first : ℕ) (m : Chained) → IsNet n → HoldAgents (length n.names) (scene_of n first m)
hold_agents n first m net a e = (holder n a net ((less_decides a (length n.names)).0 e)).known

pub are_themselves : (n : Net) (first : ℕ) (m : Chained) → IsNet n → AreThemselves (length n.names) (scene_of n first m)
are_themselves n first m net a e = (holder n a net ((less_decides a (length n.names)).0 e)).me

pub knows : (n : Net) (first : ℕ) (m : Chained) → IsNet n → KnowsAgents (length n.names) (scene_of n first m)
knows n first m net = knowledge_names_agents (length n.names) (scene_of n first m) (hold_agents n first m net)

pub keeps_limits : (n now : Net) (first : ℕ) (m : Chained) (most : ℕ) (lines : List Sent) (accepted : List ℕ)
    → IsUnderWay n now first m most lines accepted
    → KeepsLimits (length n.names) (scene_of n first m) (journal_of n.names lines accepted)
keeps_limits n now first m most lines accepted w = record {
  names = hold_agents n first m w.net;
  whose = are_themselves n first m w.net;
  holds = λ a e. (holder n a w.net ((less_decides a (length n.names)).0 e)).bounded;
  request = w.request;
  journal = w.journal;
}
