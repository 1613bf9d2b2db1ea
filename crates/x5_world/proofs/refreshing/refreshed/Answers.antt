-- A refresh by a number is by the first agreement of it, or by none.
use Rattle.std.proofs.Common.{◌≡◌, ℕ, ◌==◌, ◌⊎◌, inl, inr, Bool, refl, sym, ◌∙◌, Some, Result, Ok, Err, IfOk}
use Rattle.std.specs.List.{position}
use Rattle.x5_model_tree.specs.World.{Agreement}
use Rattle.x5_ops.specs.RefreshViews.{refreshed_view}
use Rattle.x5_world.specs.Refreshing.{IsDoneAt, IsDoneBy, IsInvalid}
use Rattle.x5_world.specs.State.{Net}
use Rattle.x5_world.specs.declared.refreshment.Refreshment.{Refreshment}
use Rattle.x5_world.proofs.Stopping.{none_finds, place_finds}
use Rattle.x5_world.proofs.refreshing.refreshed.Goals as goal

by_number : {E : Type 0} (result : Result Refreshment E) (old new : Net) (number place : ℕ) (push total : Bool)
    → position (λ (g : Agreement). g.number == number) old.agreements ≡ Some place
    → IfOk result (λ r. IsDoneAt old place push total r new)
    → IfOk result (λ r. IsInvalid old number r new ⊎ IsDoneBy old number push total r new)
by_number (Ok r) old new number place push total e done =
    let found = place_finds old.agreements number place e in
    inr (record { place = place; agreement = found.0; found = found.1; there = found.2; done = done })
by_number (Err x) old new number place push total e done = tt

pub returns-in-None-clause-done : goal.returns-in-None-clause-done
returns-in-None-clause-done c =
    inl (record {
      none = none_finds c.args.world.now.agreements c.args.number (sym c.place_of.ensures ∙ c.in-None.is);
      lines = c.stopped.ensures.0 ∙ c.new.ensures;
      became = (λ i. refreshed_view (c.stopped.ensures.2 i) c.args.number (c.stopped.ensures.1 i));
      same = refl;
    })

pub returns-in-Some-clause-done : goal.returns-in-Some-clause-done
returns-in-Some-clause-done c =
    by_number c.by_place.result c.args.world.now c.by_place.new.world c.args.number c.in-Some.place c.args.push c.args.total
    (sym c.place_of.ensures ∙ c.in-Some.is) c.by_place.ensures.done
