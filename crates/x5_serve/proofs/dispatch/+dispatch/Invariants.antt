-- Each loop builds the relation's own loop: so far as it has come. All that is called has fewer messages left, or is
-- further in.
use Rattle.std.proofs.Common.{◌≡◌, ◌+◌, ◌*◌, ◌<◌, true, length, map, take, Some}
use Rattle.x5_model.specs.References.{Reference}
use Rattle.x5_model_serve.specs.Serving.{Hand, hand, carried_for, Tries, Spreads, Gathers, Probes, Whole, Does}
use Rattle.x5_ops.specs.ReferenceViews.{chained_view, reference_view, access_view}
use Rattle.x5_ops.specs.AnswerViews.{answer_view}
use Rattle.x5_merge.specs.Merging.{are_alike}
use Rattle.x5_serve.specs.Networks.{left_of}
use Rattle.x5_serve.specs.Steps.{whole_view}
use Rattle.x5_serve.proofs.Walks as walks
use Rattle.x5_serve.proofs.dispatch.+dispatch.Given as goal

abbrev pub decreases-ask : goal.decreases-ask
decreases-ask g l = 5 * left_of (g.N.Network.most l.net.now) (g.N.Network.journal l.net.now)

abbrev pub decreases-cast : goal.decreases-cast
decreases-cast g l = 5 * left_of (g.N.Network.most l.net.now) (g.N.Network.journal l.net.now) + 1

abbrev pub decreases-follow : goal.decreases-follow
decreases-follow g l = 5 * left_of (g.N.Network.most l.net.now) (g.N.Network.journal l.net.now) + 4

abbrev pub decreases-gather : goal.decreases-gather
decreases-gather g l = 5 * left_of (g.N.Network.most l.net.now) (g.N.Network.journal l.net.now) + 3

abbrev pub decreases-go : goal.decreases-go
decreases-go g l = 5 * left_of (g.N.Network.most l.net.now) (g.N.Network.journal l.net.now) + 3

abbrev pub decreases-probe : goal.decreases-probe
decreases-probe g l = 5 * left_of (g.N.Network.most l.net.now) (g.N.Network.journal l.net.now) + 1

abbrev pub decreases-serve : goal.decreases-serve
decreases-serve g l = 5 * left_of (g.N.Network.most l.net.now) (g.N.Network.journal l.net.now) + 4

abbrev pub decreases-take : goal.decreases-take
decreases-take g l = 5 * left_of (g.N.Network.most l.net.now) (g.N.Network.journal l.net.now) + 2

abbrev pub decreases-update : goal.decreases-update
decreases-update g l = 5 * left_of (g.N.Network.most l.net.now) (g.N.Network.journal l.net.now) + 2

abbrev pub decreases-take_in_turn : goal.decreases-take_in_turn
decreases-take_in_turn g l = 5 * left_of (g.N.Network.most l.net.now) (g.N.Network.journal l.net.now) + 1

abbrev pub invariant-take_in_turn-loop-access : goal.invariant-take_in_turn-loop-access
invariant-take_in_turn-loop-access g l = record {
  goes : walks.Goes g.N.Network.scene g.N.Network.most g.N.Network.names g.N.Network.journal l.fn.net l.net;
  tried : (o : Hand) (r : Reference) → map (access_view (g.N.Network.names l.fn.net)) l.agents ≡ r.agents
      → chained_view (g.N.Network.names l.fn.net) l.onward ≡ carried_for (Some l.from) o r
      → Does (g.N.Network.scene l.fn.net) (g.N.Network.most l.fn.net)
      (Tries (Some l.from) o r (map (access_view (g.N.Network.names l.fn.net)) (take l.access-index l.agents)))
      (g.N.Network.journal l.fn.net) (g.N.Network.journal l.net);
}

abbrev pub invariant-cast-loop-access : goal.invariant-cast-loop-access
invariant-cast-loop-access g l = record {
  goes : walks.Goes g.N.Network.scene g.N.Network.most g.N.Network.names g.N.Network.journal l.fn.net l.net;
  carries : walks.Carries (g.N.Network.names l.fn.net) l.fn.owner l.message l.reference l.onward l.agents;
  asked : Does (g.N.Network.scene l.fn.net) (g.N.Network.most l.fn.net)
      (Spreads (Some l.from) (hand l.fn.owner (chained_view (g.N.Network.names l.fn.net) l.message))
      (reference_view (g.N.Network.names l.fn.net) l.reference)
      (map (access_view (g.N.Network.names l.fn.net)) (take l.access-index l.agents))
      (map (access_view (g.N.Network.names l.fn.net)) l.noted))
      (g.N.Network.journal l.fn.net) (g.N.Network.journal l.net);
}

abbrev pub invariant-probe-loop-access : goal.invariant-probe-loop-access
invariant-probe-loop-access g l = record {
  goes : walks.Goes g.N.Network.scene g.N.Network.most g.N.Network.names g.N.Network.journal l.fn.net l.net;
  carries : walks.Carries (g.N.Network.names l.fn.net) l.fn.me l.message l.reference l.onward l.agents;
  probed : Does (g.N.Network.scene l.fn.net) (g.N.Network.most l.fn.net)
      (Probes (hand l.fn.me (chained_view (g.N.Network.names l.fn.net) l.message))
      (reference_view (g.N.Network.names l.fn.net) l.reference)
      (map (access_view (g.N.Network.names l.fn.net)) (take l.access-index l.agents))
      (map (access_view (g.N.Network.names l.fn.net)) l.noted))
      (g.N.Network.journal l.fn.net) (g.N.Network.journal l.net);
}

abbrev pub invariant-gather-loop-reference : goal.invariant-gather-loop-reference
invariant-gather-loop-reference g l = record {
  goes : walks.Goes g.N.Network.scene g.N.Network.most g.N.Network.names g.N.Network.journal l.fn.net l.net;
  asked_are : l.asked ≡ l.references;
  filled : 0 < length l.parts.items;
  alike : are_alike l.parts.items ≡ true;
  gathered : Does (g.N.Network.scene l.fn.net) (g.N.Network.most l.fn.net)
      (Gathers (Some l.from) (hand l.fn.owner (chained_view (g.N.Network.names l.fn.net) l.message))
      (map (reference_view (g.N.Network.names l.fn.net)) (take l.reference-index l.asked))
      (answer_view (g.N.Network.names l.fn.net) l.fn.first)
      (Whole (whole_view (g.N.Network.names l.fn.net) l.parts.items)))
      (g.N.Network.journal l.fn.net) (g.N.Network.journal l.net);
}
