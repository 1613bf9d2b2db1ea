-- Something is shown of an entry exactly where one of its attributes is selected.
use Rattle.std.proofs.Common.{◌≡◌, Bool, true, false, cond, not, List, [], ◌∷◌, map, refl, sym, ap, ◌∙◌, Some, None}
use Rattle.std.specs.List.{list_any, filter, slice_get}
use Rattle.std.specs.Option.{option_map}
use Rattle.std.proofs.lemmas.Option.{slice_get-map}
use Rattle.x5_model.specs.Words.{is_empty}
use Rattle.x5_model.specs.Values.{TypeRef}
use Rattle.x5_model.specs.Entries.{Stored, Entry}
use Rattle.x5_model.specs.Requests.{Only}
use Rattle.x5_model.specs.Selections.{is_selected, shown_attribute, selection_fault}
use Rattle.x5_syntax.specs.TypeView.{type_view}
use Rattle.x5_syntax.specs.declared.kinds.TypeRef.{TypeRef as CodeRef}
use Rattle.x5_ops.specs.RequestViews.{selection_view}
use Rattle.x5_ops.specs.declared.requests.Selection.{Selection}
use Rattle.x5_ops.specs.declared.requests.Selection.TheVariants.{Only as Listed}

pub none_selected : {A B : Type 0} (f : A → B) (test : A → Bool) (xs : List A) → is_empty (map f (filter test xs)) ≡ not (list_any test xs)
none_selected f test [] = refl
none_selected f test (x ∷ xs) = by (test x) refl (none_selected f test xs)
  where
    by : (b : Bool) → test x ≡ b → is_empty (map f (filter test xs)) ≡ not (list_any test xs) → is_empty (map f (filter test (x ∷ xs))) ≡ not (list_any test (x ∷ xs))
    by true e rest = rw e refl
    by false e rest = rw e rest

-- a read that lists types is refused with the first exactly where none is selected
pub fault_is : (types : List TypeRef) (e : Entry) (t : TypeRef) → slice_get types 0 ≡ Some t → selection_fault (Only types) e ≡ cond (list_any (λ a. is_selected (Only types) a.kind) e.attributes) None (Some t)
fault_is [] e t at = cc
fault_is (first ∷ types) e t at =
    let same : first ≡ t = cc in by (list_any selected e.attributes) refl same
  where
    selected : Stored → Bool
    selected a = is_selected (Only (first ∷ types)) a.kind

    shown_if : (b : Bool) → list_any selected e.attributes ≡ b → selection_fault (Only (first ∷ types)) e ≡ cond (not b) (Some first) None
    shown_if b q = ap (λ (x : Bool). cond x (Some first) None) (none_selected shown_attribute selected e.attributes ∙ ap not q)

    by : (b : Bool) → list_any selected e.attributes ≡ b → first ≡ t → selection_fault (Only (first ∷ types)) e ≡ cond (list_any selected e.attributes) None (Some t)
    by true q same = shown_if true q ∙ sym (ap (λ (x : Bool). cond x None (Some t)) q)
    by false q same = shown_if false q ∙ ap Some same ∙ sym (ap (λ (x : Bool). cond x None (Some t)) q)

-- the same of the code's types
pub fault_found : (selection : Selection) (kinds listed : List CodeRef) (e : Entry) (first : CodeRef) (attributes : List Stored) (b : Bool) → selection ≡ Listed kinds → listed ≡ kinds → Some first ≡ slice_get listed 0 → attributes ≡ e.attributes → b ≡ list_any (λ a. is_selected (selection_view selection) a.kind) attributes → selection_fault (selection_view selection) e ≡ cond b None (Some (type_view first))
fault_found selection kinds listed e first attributes b is same at shown_are found =
    let types : List TypeRef = map type_view kinds in
    let view : selection_view selection ≡ Only types = ap selection_view is in
    let here : slice_get types 0 ≡ Some (type_view first) = slice_get-map type_view kinds 0 ∙ ap (option_map type_view) (ap (λ (l : List CodeRef). slice_get l 0) (sym same) ∙ sym at) in
    let tested : b ≡ list_any (λ (a : Stored). is_selected (Only types) a.kind) e.attributes = found ∙ (λ i. list_any (λ (a : Stored). is_selected (view i) a.kind) (shown_are i)) in
    ap (λ s. selection_fault s e) view ∙ fault_is types e (type_view first) here ∙ ap (λ (x : Bool). cond x None (Some (type_view first))) (sym tested)
