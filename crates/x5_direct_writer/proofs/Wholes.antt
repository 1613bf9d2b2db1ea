-- Steps of whole messages: an element before others, with a header, with an explicit tag; and a fault that is passed on.
use Rattle.std.proofs.Common.{◌≡◌, ℕ, ◌-◌, List, [], ◌∷◌, ◌++◌, length, refl, ap, sym, subst, ◌∙◌, append-nil}
use Rattle.std.specs.Result.{IsErrAnd}
use Rattle.std.specs.declared.option.Option.{Option}
use Rattle.std.specs.declared.option.Option.TheVariants.{None, Some}
use Rattle.std.specs.declared.result.Result.{Result}
use Rattle.std.specs.declared.result.Result.TheVariants.{Ok, Err}
use Rattle.x5_model_octets.specs.Elements as elements
use Rattle.x5_model_octets.specs.Elements.{Element, Elements, canonical, canonical_all}
use Rattle.x5_model_typed.specs.Written.{one_before, tagged_with}
use Rattle.x5_writer.specs.Puts.{Puts}
use Rattle.x5_writer.specs.declared.fault.WriteFault.{WriteFault}
use Rattle.x5_writer.specs.declared.fault.WriteFault.TheVariants.{Misfit, NoMemory}
use Rattle.x5_direct_writer.specs.PutsOf.{Encloses}
use Rattle.x5_direct_writer.proofs.Putting.{around, enclosed_put, err_is, nothing_before, one_put}

-- the last component
pub last_put : (o : Option Element) (old new : List ℕ) → Puts {Y = Unit {0}} canonical o old new (Ok tt)
    → Puts {Y = Unit {0}} canonical_all (one_before o (Some elements.Nil)) old new (Ok tt)
last_put o old new put = one_put o (Some elements.Nil) old old new (elements.Nil, refl, refl) put

-- an element in an explicit tag
pub tagged_put : (tag k : ℕ) (o : Option Element) (old mid new : List ℕ) → k ≡ length old → Encloses 2 tag k mid new
    → Puts {Y = Unit {0}} canonical o old mid (Ok tt)
    → Puts {Y = Unit {0}} canonical (tagged_with (Some tag) o) old new (Ok tt)
tagged_put tag k o old mid new before header put =
    enclosed_put 2 tag k (tagged_with (Some tag) o) (Some (elements.More put.0 elements.Nil)) old mid new
    (ap (tagged_with (Some tag)) put.1) before header
    (elements.More put.0 elements.Nil, refl, put.2 ∙ ap (λ (l : List ℕ). l ++ old) (sym (append-nil (canonical put.0))))

-- ---- faults

pub first_fault : (o : Option Element) (os : Option Elements) (fault : WriteFault) (mid new old late : List ℕ)
    → Puts {Y = Unit {0}} canonical o mid new (Err fault)
    → Puts {Y = Unit {0}} canonical_all (one_before o os) old late (Err fault)
first_fault o os Misfit mid new old late put = ap (λ (p : Option Element). one_before p os) put
first_fault o os NoMemory mid new old late put = tt

pub later_fault : (o : Option Element) (os : Option Elements) (fault : WriteFault) (mid new old late : List ℕ)
    → Puts {Y = Unit {0}} canonical_all os mid new (Err fault)
    → Puts {Y = Unit {0}} canonical_all (one_before o os) old late (Err fault)
later_fault o os Misfit mid new old late put = ap (λ (p : Option Elements). one_before o p) put ∙ nothing_before o
later_fault o os NoMemory mid new old late put = tt

pub inner_fault : (class tag : ℕ) (o : Option Element) (os : Option Elements) (fault : WriteFault) (mid new old late : List ℕ)
    → o ≡ around class tag os → Puts {Y = Unit {0}} canonical_all os mid new (Err fault)
    → Puts {Y = Unit {0}} canonical o old late (Err fault)
inner_fault class tag o os Misfit mid new old late is put = is ∙ ap (around class tag) put
inner_fault class tag o os NoMemory mid new old late is put = tt

pub tagged_fault : (tag : ℕ) (o : Option Element) (fault : WriteFault) (mid new old late : List ℕ)
    → Puts {Y = Unit {0}} canonical o mid new (Err fault)
    → Puts {Y = Unit {0}} canonical (tagged_with (Some tag) o) old late (Err fault)
tagged_fault tag o Misfit mid new old late put = ap (tagged_with (Some tag)) put
tagged_fault tag o NoMemory mid new old late put = tt

pub passed_on : {X : Type 0} (f : X → List ℕ) (o : Option X) (old new : List ℕ) (fault : WriteFault)
    (r : Result (Unit {0}) WriteFault) → IsErrAnd r (λ x. x ≡ fault) → Puts {Y = Unit {0}} f o old new (Err fault)
    → Puts f o old new r
passed_on f o old new fault r is put = subst (λ q. Puts f o old new q) (sym (err_is r fault is)) put
