-- What octets begin with a spelling of fits its type, and the argument of an operation is one for whose parts the code
-- has types.
use Rattle.std.proofs.Common.{◌≡◌, ℕ, true, List, [], ◌∷◌, ◌++◌, refl, sym, ap, subst, ◌∙◌, arith}
use Rattle.std.specs.List.{list_all}
use Rattle.x5_model.proofs.Lists.{both_true}
use Rattle.x5_model_typed.specs.Named as named
use Rattle.x5_model_typed.specs.Nodes.{Node}
use Rattle.x5_model_typed_laws.specs.Fits.{Fits}
use Rattle.x5_model_typed_laws.specs.Said.{is_octet}
use Rattle.x5_model_typed_laws.proofs.Closed.{messages_spelled_fit}
use Rattle.x5_types.specs.FormView.{nowhere, table}
use Rattle.x5_direct.specs.Spelled.{Spelled}
use Rattle.x5_dapber.specs.Direct.{code_of}
use Rattle.x5_dapber.specs.Sayable.{IsArgument}
use Rattle.x5_dapber.proofs.ReadIsSayable.{read_fits, compare_fits, list_fits, search_fits, add_fits, remove_fits}
use Rattle.x5_dapber.proofs.ReadIsSayable.{modify_fits, rename_fits}

fits_argument : (o : named.Operation) (n : Node) → Fits table (table (named.Argument o)) n → IsArgument (code_of o) n
fits_argument named.Read n f = read_fits n f
fits_argument named.Compare n f = compare_fits n f
fits_argument named.ListBelow n f = list_fits n f
fits_argument named.Search n f = search_fits n f
fits_argument named.AddEntry n f = add_fits n f
fits_argument named.RemoveEntry n f = remove_fits n f
fits_argument named.ModifyEntry n f = modify_fits n f
fits_argument named.ModifyDn n f = rename_fits n f

front_octets : (part rest : List ℕ) → list_all is_octet (part ++ rest) ≡ true → list_all is_octet part ≡ true
front_octets [] rest e = refl
front_octets (o ∷ part) rest e =
    let two = both_true (is_octet o) (list_all is_octet (part ++ rest)) e in
    rw (two.0) (front_octets part rest two.1)

pub spelled_fits_in : (form : named.Named) (n : Node) (octets rest : List ℕ) → list_all is_octet octets ≡ true
    → Spelled 48 form n octets rest → Fits table (table form) n
spelled_fits_in form n octets rest all s =
    let e = s.is_element 1 0 (omega arith) in
    let front = front_octets s.part rest (ap (λ (l : List ℕ). list_all is_octet l) (sym s.whole) ∙ all) in
    messages_spelled_fit nowhere form s.part n front
    (record { tree = e.tree; lies = e.lies; is_of = e.is_of nowhere })

pub argument_so : (o : named.Operation) (k : ℕ) (n : Node) → k ≡ code_of o → Fits table (table (named.Argument o)) n
    → IsArgument k n
argument_so o k n is f = subst (λ (j : ℕ). IsArgument j n) (sym is) (fits_argument o n f)
