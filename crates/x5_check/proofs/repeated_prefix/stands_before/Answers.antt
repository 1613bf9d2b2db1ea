-- By the place of the first context with this prefix.
use Rattle.std.proofs.Common.{Some, None}
use Rattle.x5_model.specs.Keys.{same_key}
use Rattle.x5_model_tree.specs.Masters.{Mastered, mastered, pin_of}
use Rattle.x5_check.proofs.Places.{place_of_next, place_before, none_before}
use Rattle.x5_check.proofs.repeated_prefix.stands_before.Goals as goal

pub returns-in-Some : goal.returns-in-Some
returns-in-Some c =
    place_before (λ (m : Mastered). same_key (pin_of m) c.args.prefix.now) (mastered c.args.known.now) c.in-Some.first c.args.place (place_of_next (λ (m : Mastered). same_key (pin_of m) c.args.prefix.now) (mastered c.args.known.now) (Some c.in-Some.first) c.in-Some.ensures)

pub returns-in-None : goal.returns-in-None
returns-in-None c =
    none_before (λ (m : Mastered). same_key (pin_of m) c.args.prefix.now) (mastered c.args.known.now) c.args.place (place_of_next (λ (m : Mastered). same_key (pin_of m) c.args.prefix.now) (mastered c.args.known.now) None c.in-None.ensures)
