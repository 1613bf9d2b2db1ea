-- What `show` writes of a file's octets.
use Rattle.std.specs.Prelude.{◌≡◌, ℕ, ◌⊎◌, List, Option}
use Rattle.x5_port.specs.Outside.{File, Rose, TookPrefix}
use Rattle.x5_show.specs.Show.{ShowsValues, ShowsFault}
use Rattle.xdir.specs.Outcomes.{Wrote, OfContent}
use Rattle.xdir.specs.declared.top.Status.{Status}
use Rattle.xdir.specs.declared.top.Status.TheVariants.{Done, Refused, Usage, ReadFault, WriteFault, NoMemory}
use Rattle.xdir.specs.declared.top.Status.TheVariants.{Inconsistent, TooLong}

-- what is shown of these octets is no fault or one, of which a first part was written
pub record BrokeShown (octets : List ℕ) (old new : Option (List ℕ)) : Type 0 where
  pub text : List ℕ
  pub is : ShowsValues octets text ⊎ ShowsFault octets text
  pub part : TookPrefix text old new

-- what `show` writes of a file's octets: at Done the lines of their elements, at Refused the line of their first fault
abbrev pub ShowsOctets : Status → List ℕ → Option (List ℕ) → Option (List ℕ) → ℕ → ℕ → Type 0
ShowsOctets Done octets old new before after = Wrote (ShowsValues octets) old new
ShowsOctets Refused octets old new before after = Wrote (ShowsFault octets) old new
ShowsOctets WriteFault octets old new before after = Rose before after × BrokeShown octets old new
ShowsOctets NoMemory octets old new before after = new ≡ old
ShowsOctets Usage octets old new before after = ⊥
ShowsOctets ReadFault octets old new before after = ⊥
ShowsOctets Inconsistent octets old new before after = ⊥
ShowsOctets TooLong octets old new before after = ⊥

-- what `show` writes, by how it ends: before the file is read nothing is
abbrev pub WritesShown : Status → Option (List File) → List ℕ → Option (List ℕ) → Option (List ℕ) → ℕ → ℕ → Type 0
WritesShown Done told name old new before after =
    OfContent told name (λ octets. ShowsOctets Done octets old new before after)
WritesShown Refused told name old new before after =
    OfContent told name (λ octets. ShowsOctets Refused octets old new before after)
WritesShown WriteFault told name old new before after =
    OfContent told name (λ octets. ShowsOctets WriteFault octets old new before after)
WritesShown NoMemory told name old new before after = new ≡ old
WritesShown ReadFault told name old new before after = new ≡ old
WritesShown TooLong told name old new before after = new ≡ old
WritesShown Usage told name old new before after = ⊥
WritesShown Inconsistent told name old new before after = ⊥
