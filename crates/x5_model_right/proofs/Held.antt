-- A user who follows holds back no message: what he would send is placed, so it is no loop, and its trace is short.
use Rattle.std.proofs.Common.{◌≡◌, ◌<◌, ℕ, Bool, true, false, ◌||◌, inl, inr, ◌∷◌, length, arith, Option, Some, None}
use Rattle.x5_model.specs.Members.{here}
use Rattle.x5_model.proofs.Lists.{either_true}
use Rattle.x5_model_run.specs.Journal.{item_of}
use Rattle.x5_model_theory.proofs.Stages.{no_loop}
use Rattle.x5_model_lasting.proofs.Finishing.{is_at_most}
use Rattle.x5_model_serve.specs.Serving.{hand, carried_for, next_line, is_looped, is_too_long, is_held_back}
use Rattle.x5_model_right.specs.Journeys.{NeededAgents}
use Rattle.x5_model_right.specs.Sent.{HoldsBack}
use Rattle.x5_model_right.proofs.Adding.{licensed}
use Rattle.x5_model_right.proofs.Journeys.{line_placed}
use Rattle.x5_model_right.proofs.Leaves.{item_there}

pub holds_back_right : NeededAgents → HoldsBack
holds_back_right known p s most from o r i a g e before after at may rests split so_far = absurd (by from e)
  where
    by : (f : Option ℕ) → is_held_back f (hand a (carried_for from o r)) ≡ true → ⊥
    by (Some b) h = (let z : false ≡ true = h in cc)
    by None h =
        let all = licensed known p s most g from o r i before after a at may rests split so_far in
        elim (either_true (is_looped (hand a (carried_for from o r))) _ h) [
          | inl loop ↦
              let placed = line_placed p s g (next_line s i from o r a ∷ i.lines) (next_line s i from o r a) all here in
              let w = item_there (carried_for from o r).trace (item_of a (carried_for from o r)) loop in
              no_loop p (carried_for from o r) a w.0 placed w.1 w.2
          | inr long ↦
              let short = g.short (next_line s i from o r a ∷ i.lines) (next_line s i from o r a) all here in
              let far = is_at_most 128 (length (carried_for from o r).trace) long in
              omega (arith, short, far)
        ]
