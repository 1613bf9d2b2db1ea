-- What is written of a request is its id, its code and its argument.
use Rattle.std.proofs.Common.{◌≡◌, ℕ, List, [], ◌∷◌, ◌++◌, refl, ap, ◌∙◌}
use Rattle.std.specs.declared.option.Option.{Option}
use Rattle.std.specs.declared.option.Option.TheVariants.{Some}
use Rattle.x5_model.specs.Requests.{Controls, Body, Read, Compare, ListBelow, Search, AddEntry, RemoveEntry, ModifyEntry, ModifyDn}
use Rattle.x5_model_messages.specs.Requests.{argument_node, request_node}
use Rattle.x5_model_octets.specs.Elements as elements
use Rattle.x5_model_octets.specs.Elements.{Element}
use Rattle.x5_model_run.specs.Journal.{operation_of}
use Rattle.x5_model_typed.specs.Named as named
use Rattle.x5_model_typed.specs.Nodes.{Node, whole}
use Rattle.x5_model_typed.specs.Written.{written}
use Rattle.x5_ops.specs.JournalViews.{code_view}
use Rattle.x5_ops.specs.declared.journal.Operation.{Operation}
use Rattle.x5_ops.specs.declared.journal.Operation.TheVariants as operations
use Rattle.x5_types.specs.FormView.{table}
use Rattle.x5_direct_writer.proofs.Putting.{around}
use Rattle.x5_dapber.specs.PutsPart.{asked_by}
use Rattle.x5_dapber.proofs.Components.{IsPut, three}

-- what is written of a value of the type
abbrev pub of : named.Named → Node → Option Element
of form n = written table (table form) n

-- ---- codes

as_octet : (k l : ℕ) (o : Option Element) (old new : List ℕ) → k ≡ l → o ≡ Some (elements.Primitive 0 2 (l ∷ []))
    → new ≡ (2 ∷ 1 ∷ k ∷ []) ++ old → IsPut o old new
as_octet k l o old new same is e =
    (elements.Primitive 0 2 (l ∷ []), is, e ∙ ap (λ (m : ℕ). 2 ∷ 1 ∷ m ∷ old) same)

code_is : (o : Operation) → of named.AnyNumber (whole (code_view o)) ≡ Some (elements.Primitive 0 2 (code_view o ∷ []))
code_is operations.Read = refl
code_is operations.Compare = refl
code_is operations.List = refl
code_is operations.Search = refl
code_is operations.AddEntry = refl
code_is operations.RemoveEntry = refl
code_is operations.ModifyEntry = refl
code_is operations.ModifyDn = refl

pub code_put : (o : Operation) (k : ℕ) (old new : List ℕ) → k ≡ code_view o → new ≡ (2 ∷ 1 ∷ k ∷ []) ++ old
    → IsPut (of named.AnyNumber (whole (code_view o))) old new
code_put o k old new same e = as_octet k (code_view o) (of named.AnyNumber (whole (code_view o))) old new same (code_is o) e

-- ---- the message

-- the type of ids
abbrev pub id_form : named.Named
id_form = named.NumberBelow 0 4294967295

pub request_is : (id : ℕ) (c : Controls) (b : Body)
    → of named.DapRequest (request_node id (record { controls = c; body = b }))
    ≡ around 2 1 (three (of id_form (whole id)) (of named.AnyNumber (whole (operation_of b)))
    (of (named.Argument (asked_by b)) (argument_node (record { controls = c; body = b }))))
request_is id c (Read name selection) = refl
request_is id c (Compare name assertion) = refl
request_is id c (ListBelow name) = refl
request_is id c (Search base subset filter selection) = refl
request_is id c (AddEntry name attributes) = refl
request_is id c (RemoveEntry name) = refl
request_is id c (ModifyEntry name changes) = refl
request_is id c (ModifyDn name rdn drops) = refl
