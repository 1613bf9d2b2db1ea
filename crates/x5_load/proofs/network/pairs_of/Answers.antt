-- One pair more is that of one pair of texts more.
use Rattle.std.proofs.Common.{◌<◌, ◌++◌, ◌∷◌, [], ℕ, List, Bor, get_or, length, arith, sym, ap, ◌∙◌}
use Rattle.x5_load.proofs.Texts.{pair_step}
use Rattle.x5_model_world.specs.ContextText.{agent_of}
use Rattle.x5_model_world.specs.NetworkText.{pair_of_agents}
use Rattle.x5_load.proofs.network.pairs_of.Goals as goal

pub loop-a-preserved : goal.loop-a-preserved
loop-a-preserved c =
    let lt : c.loop-a.a-index < length c.args.texts.now = omega arith in
    let d : Bor (List ℕ) = record { ref_ptr = (0, 0); now = [] } in
    let p : Bor (List ℕ) × Bor (List ℕ) = get_or c.args.texts.now c.loop-a.a-index (d, d) in
    let names : List (List ℕ) = c.args.names.now in
    c.in_ok-push.ensures.ok
    ∙ ap (λ (a : ℕ). c.loop-a.pairs ++ (a, c.agent_of-in-loop-a.result) ∷ []) c.agent_of.ensures
    ∙ ap (λ (b : ℕ). c.loop-a.pairs ++ (agent_of names p.0.now, b) ∷ []) c.agent_of-in-loop-a.ensures
    ∙ ap (λ (l : List (ℕ × ℕ)). l ++ (agent_of names p.0.now, agent_of names p.1.now) ∷ []) c.loop-a.invariant
    ∙ sym (pair_step (pair_of_agents names) c.args.texts.now c.loop-a.a-index (d, d) lt)
