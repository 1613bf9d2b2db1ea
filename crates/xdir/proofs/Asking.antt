-- Which files are asked for, from the script's file to both, by how it ends.
use Rattle.std.proofs.Common.{◌≡◌, inl, inr, ℕ, List, ◌∷◌, Option, sym, ap, subst, ◌∙◌}
use Rattle.x5_port.specs.Outside.{File}
use Rattle.x5_words.specs.Forms.{FileNames}
use Rattle.xdir.specs.Asked.{AsksOne, StopsEarly, AsksBoth}
use Rattle.xdir.specs.Run.{TakesWorld}
use Rattle.xdir.specs.Steps.{WritesSuchLine}
use Rattle.xdir.specs.declared.top.Status.{Status}
use Rattle.xdir.specs.declared.top.Status.TheVariants.{Done, Refused, Usage, ReadFault, WriteFault, NoMemory}
use Rattle.xdir.specs.declared.top.Status.TheVariants.{Inconsistent, TooLong}

-- the script behind the world, which is taken
pub asks_both : (status : Status) (told : Option (List File)) (names : FileNames) (old mid new : List (List ℕ))
    → mid ≡ names.world ∷ old → TakesWorld told names.world → AsksOne status names.script mid new → AsksBoth status told names old new
asks_both status told names old mid new world takes (inl script) =
    inl (script ∙ ap (λ (asked : List (List ℕ)). names.script ∷ asked) world, takes)
asks_both status told names old mid new world takes (inr (out_of_memory, none)) =
    inr (inl (subst StopsEarly (sym out_of_memory) tt, none ∙ world))

-- a world that is refused stops it
stops_early : (status : Status) (P : List ℕ → Type 0) (old new : Option (List ℕ)) (before after : ℕ)
    → WritesSuchLine status P old new before after → StopsEarly status
stops_early Refused P old new before after w = tt
stops_early WriteFault P old new before after w = tt
stops_early NoMemory P old new before after w = tt
stops_early ReadFault P old new before after w = tt
stops_early TooLong P old new before after w = tt
stops_early Done P old new before after w = absurd w
stops_early Usage P old new before after w = absurd w
stops_early Inconsistent P old new before after w = absurd w

pub asks_refused : (told : Option (List File)) (names : FileNames) (asked now : List (List ℕ)) → now ≡ names.world ∷ asked
    → (status : Status) (P : List ℕ → Type 0) (old new : Option (List ℕ)) (before after : ℕ)
    → WritesSuchLine status P old new before after → AsksBoth status told names asked now
asks_refused told names asked now world status P old new before after w =
    inr (inl (stops_early status P old new before after w, world))
