-- What is written of a text that is made of a number.
use Rattle.std.specs.Prelude.{◌≡◌, ℕ, List, Option}
use Rattle.x5_port.specs.Outside.{Rose, with_octets, TookPrefix}
use Rattle.xdir.specs.declared.top.Status.{Status}
use Rattle.xdir.specs.declared.top.Status.TheVariants.{Done, Refused, Usage, ReadFault, WriteFault, NoMemory}
use Rattle.xdir.specs.declared.top.Status.TheVariants.{Inconsistent, TooLong}

-- what is written of a text, by how that ends: all of it, a first part, or nothing
abbrev pub WritesText : Status → List ℕ → Option (List ℕ) → Option (List ℕ) → ℕ → ℕ → Type 0
WritesText Done text old new before after = new ≡ with_octets text old
WritesText WriteFault text old new before after = Rose before after × TookPrefix text old new
WritesText NoMemory text old new before after = new ≡ old
WritesText Refused text old new before after = ⊥
WritesText Usage text old new before after = ⊥
WritesText ReadFault text old new before after = ⊥
WritesText TooLong text old new before after = ⊥
WritesText Inconsistent text old new before after = ⊥
