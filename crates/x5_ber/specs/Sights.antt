-- What the feeder's octets and one more piece are.
use Rattle.std.specs.Prelude.{◌≡◌, ℕ, List}
use Rattle.x5_ber.specs.declared.element.BerFault.{BerFault}
use Rattle.x5_ber.specs.declared.element.BerFault.TheVariants.{Truncated, BadLength, BadTag, BadContent, TooDeep}
use Rattle.x5_ber.specs.declared.feeder.Sight.{Sight}
use Rattle.x5_ber.specs.declared.feeder.Sight.TheVariants.{Whole, Beginning, Breach}
use Rattle.x5_ber.specs.declared.reader.Reader.{Reader}
use Rattle.x5_ber.specs.Reading.{ValueAt, AreOpen}
use Rattle.x5_ber.specs.Feeding.{IsBeginning, IsBreach, StaysFaulty}

abbrev pub Sees : List ℕ → Sight → Reader → Type 0
Sees input Whole reader = ValueAt input 0 reader.at
Sees input Beginning reader = IsBeginning input × AreOpen input reader.enclosing 0 reader.depth reader.at
Sees input (Breach fault) reader = IsBreach input fault

abbrev pub IsTruncated : BerFault → Type 0
IsTruncated (Truncated n) = Unit {0}
IsTruncated (BadLength n) = ⊥
IsTruncated (BadTag n) = ⊥
IsTruncated (BadContent n) = ⊥
IsTruncated (TooDeep n) = ⊥

abbrev pub Shows : BerFault → Sight → Type 0
Shows fault Whole = ⊥
Shows fault Beginning = IsTruncated fault
Shows fault (Breach shown) = (shown ≡ fault) × StaysFaulty fault
