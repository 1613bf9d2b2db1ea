-- One agent more is that of one text more.
use Rattle.std.proofs.Common.{◌<◌, ◌++◌, ◌∷◌, [], ℕ, List, Bor, get_or, length, arith, sym, ap, ◌∙◌}
use Rattle.x5_load.proofs.Texts.{text_step}
use Rattle.x5_model_world.specs.ContextText.{agent_of}
use Rattle.x5_load.proofs.network.agents_of.Goals as goal

pub loop-text-preserved : goal.loop-text-preserved
loop-text-preserved c =
    let lt : c.loop-text.text-index < length c.args.texts.now = omega arith in
    let d : Bor (List ℕ) = record { ref_ptr = (0, 0); now = [] } in
    let text : List ℕ = (get_or c.args.texts.now c.loop-text.text-index d).now in
    c.in_ok-push.ensures.ok
    ∙ ap (λ (a : ℕ). c.loop-text.agents ++ a ∷ []) c.agent_of.ensures
    ∙ ap (λ (l : List ℕ). l ++ agent_of c.args.names.now text ∷ []) c.loop-text.invariant
    ∙ sym (text_step (agent_of c.args.names.now) c.args.texts.now c.loop-text.text-index d lt)
