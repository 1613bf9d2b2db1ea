-- A constructed element of a first element and others: it is put once both are, and it is lost where one of them is.
use Rattle.std.proofs.Common.{◌≡◌, ℕ, List, length}
use Rattle.std.specs.Result.{IsErrAnd}
use Rattle.std.specs.declared.option.Option.{Option}
use Rattle.std.specs.declared.option.Option.TheVariants.{Some}
use Rattle.std.specs.declared.result.Result.{Result}
use Rattle.std.specs.declared.result.Result.TheVariants.{Ok, Err}
use Rattle.x5_model_octets.specs.Elements as elements
use Rattle.x5_model_octets.specs.Elements.{Element, Elements, canonical, canonical_all}
use Rattle.x5_model_typed.specs.Written.{one_before}
use Rattle.x5_writer.specs.Puts.{Puts}
use Rattle.x5_writer.specs.declared.fault.WriteFault.{WriteFault}
use Rattle.x5_direct_writer.specs.PutsOf.{Encloses}
use Rattle.x5_direct_writer.proofs.Putting.{around, enclosed_put, one_put}
use Rattle.x5_direct_writer.proofs.Wholes.{first_fault, inner_fault, last_put, later_fault, passed_on}

-- the element stands before the octets that were there
abbrev pub IsPut : Option Element → List ℕ → List ℕ → Type 0
IsPut o old new = Puts {Y = Unit {0}} canonical o old new (Ok tt)

-- or why it doesn't
abbrev pub IsLost : Option Element → List ℕ → List ℕ → WriteFault → Type 0
IsLost o old new fault = Puts {Y = Unit {0}} canonical o old new (Err fault)

-- so do elements, one after the other
abbrev pub ArePut : Option Elements → List ℕ → List ℕ → Type 0
ArePut os old new = Puts {Y = Unit {0}} canonical_all os old new (Ok tt)

abbrev pub AreLost : Option Elements → List ℕ → List ℕ → WriteFault → Type 0
AreLost os old new fault = Puts {Y = Unit {0}} canonical_all os old new (Err fault)

-- just one, and just two
abbrev pub one_alone : Option Element → Option Elements
one_alone a = one_before a (Some elements.Nil)

abbrev pub pair : Option Element → Option Element → Option Elements
pair a b = one_before a (one_alone b)

-- what is said of one is said of it alone
pub alone_puts : (o : Option Element) (old new : List ℕ) (r : Result (Unit {0}) WriteFault) → Puts canonical o old new r
    → Puts canonical_all (one_alone o) old new r
alone_puts o old new (Ok y) put = last_put o old new put
alone_puts o old new (Err fault) put = first_fault o (Some elements.Nil) fault old new old new put

-- ---- a first one and others

pub front_put : (class tag k : ℕ) (o a : Option Element) (others : Option Elements) (old early late new : List ℕ)
    → o ≡ around class tag (one_before a others) → k ≡ length old → Encloses class tag k late new
    → ArePut others old early → IsPut a early late → IsPut o old new
front_put class tag k o a others old early late new is before header behind front =
    enclosed_put class tag k o (one_before a others) old late new is before header
    (one_put a others old early late behind front)

pub front_lost : (class tag : ℕ) (o a : Option Element) (others : Option Elements) (fault : WriteFault)
    (mid new old late : List ℕ) (r : Result (Unit {0}) WriteFault) → o ≡ around class tag (one_before a others)
    → IsErrAnd r (λ x. x ≡ fault) → IsLost a mid new fault → Puts canonical o old late r
front_lost class tag o a others fault mid new old late r is passed put =
    passed_on canonical o old late fault r passed
    (inner_fault class tag o (one_before a others) fault mid new old late is
    (first_fault a others fault mid new mid new put))

pub others_lost : (class tag : ℕ) (o a : Option Element) (others : Option Elements) (fault : WriteFault)
    (mid new old late : List ℕ) (r : Result (Unit {0}) WriteFault) → o ≡ around class tag (one_before a others)
    → IsErrAnd r (λ x. x ≡ fault) → AreLost others mid new fault → Puts canonical o old late r
others_lost class tag o a others fault mid new old late r is passed put =
    passed_on canonical o old late fault r passed
    (inner_fault class tag o (one_before a others) fault mid new old late is
    (later_fault a others fault mid new mid new put))

-- ---- two of them

pub pair_put : (class tag k : ℕ) (o a b : Option Element) (old early late new : List ℕ)
    → o ≡ around class tag (pair a b) → k ≡ length old → Encloses class tag k late new
    → IsPut b old early → IsPut a early late → IsPut o old new
pair_put class tag k o a b old early late new is before header last first =
    front_put class tag k o a (one_before b (Some elements.Nil)) old early late new is before header
    (last_put b old early last) first

pub last_lost : (class tag : ℕ) (o a b : Option Element) (fault : WriteFault) (mid new old late : List ℕ)
    (r : Result (Unit {0}) WriteFault) → o ≡ around class tag (pair a b) → IsErrAnd r (λ x. x ≡ fault)
    → IsLost b mid new fault → Puts canonical o old late r
last_lost class tag o a b fault mid new old late r is passed put =
    others_lost class tag o a (one_before b (Some elements.Nil)) fault mid new old late r is passed
    (first_fault b (Some elements.Nil) fault mid new mid new put)
