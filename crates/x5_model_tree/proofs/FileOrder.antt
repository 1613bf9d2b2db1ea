-- In the order of the file stand exactly an agent's subordinate and cross references.
use Rattle.std.proofs.Common.{◌≡◌, Bool, true, false, inl, inr, List, [], ◌∷◌, map, sym, subst}
use Rattle.x5_model.specs.Members.{In, here, there}
use Rattle.x5_model.proofs.Lists.{in_first, in_left, in_right, in_either, in_map, of_map}
use Rattle.x5_model_tree.specs.World.{Specific, Agent}
use Rattle.x5_model_tree.specs.Consistent.{FileReference, ToBelow, ToAnywhere, in_file_order, references}

abbrev pub IsOf : List Specific → List Specific → FileReference → Type 0
IsOf below anywhere (ToBelow k) = In k below
IsOf below anywhere (ToAnywhere k) = In k anywhere

of_map_below : (below anywhere : List Specific) (r : FileReference) → In r (map ToBelow below) → IsOf below anywhere r
of_map_below below anywhere r i =
    let w = of_map ToBelow r below i in subst (λ (x : FileReference). IsOf below anywhere x) (sym w.2) w.1

of_map_anywhere : (below anywhere : List Specific) (r : FileReference) → In r (map ToAnywhere anywhere) → IsOf below anywhere r
of_map_anywhere below anywhere r i =
    let w = of_map ToAnywhere r anywhere i in subst (λ (x : FileReference). IsOf below anywhere x) (sym w.2) w.1

one_below : (k : Specific) (below anywhere : List Specific) (r : FileReference) → IsOf below anywhere r → IsOf (k ∷ below) anywhere r
one_below k below anywhere (ToBelow j) i = there i
one_below k below anywhere (ToAnywhere j) i = i

one_anywhere : (k : Specific) (below anywhere : List Specific) (r : FileReference) → IsOf below anywhere r → IsOf below (k ∷ anywhere) r
one_anywhere k below anywhere (ToBelow j) i = i
one_anywhere k below anywhere (ToAnywhere j) i = there i

of_order : (order : List Bool) (below anywhere : List Specific) (r : FileReference) → In r (in_file_order order below anywhere) → IsOf below anywhere r
of_order [] below anywhere r i =
    elim (in_either r (map ToBelow below) (map ToAnywhere anywhere) i) [
      | inl j ↦ of_map_below below anywhere r j
      | inr j ↦ of_map_anywhere below anywhere r j
    ]
of_order (false ∷ order) [] anywhere r i = of_order order [] anywhere r i
of_order (false ∷ order) (k ∷ below) anywhere r i =
    elim (in_first r (ToBelow k) (in_file_order order below anywhere) i) [
      | inl e ↦ subst (λ (x : FileReference). IsOf (k ∷ below) anywhere x) (sym e) here
      | inr j ↦ one_below k below anywhere r (of_order order below anywhere r j)
    ]
of_order (true ∷ order) below [] r i = of_order order below [] r i
of_order (true ∷ order) below (k ∷ anywhere) r i =
    elim (in_first r (ToAnywhere k) (in_file_order order below anywhere) i) [
      | inl e ↦ subst (λ (x : FileReference). IsOf below (k ∷ anywhere) x) (sym e) here
      | inr j ↦ one_anywhere k below anywhere r (of_order order below anywhere r j)
    ]

in_order : (order : List Bool) (below anywhere : List Specific) (r : FileReference) → IsOf below anywhere r → In r (in_file_order order below anywhere)
in_order [] below anywhere (ToBelow k) i = in_left (ToBelow k) (map ToBelow below) (map ToAnywhere anywhere) (in_map ToBelow k below i)
in_order [] below anywhere (ToAnywhere k) i = in_right (ToAnywhere k) (map ToBelow below) (map ToAnywhere anywhere) (in_map ToAnywhere k anywhere i)
in_order (false ∷ order) [] anywhere r i = in_order order [] anywhere r i
in_order (false ∷ order) (k ∷ below) anywhere (ToBelow j) here = here
in_order (false ∷ order) (k ∷ below) anywhere (ToBelow j) (there i) = there (in_order order below anywhere (ToBelow j) i)
in_order (false ∷ order) (k ∷ below) anywhere (ToAnywhere j) i = there (in_order order below anywhere (ToAnywhere j) i)
in_order (true ∷ order) below [] r i = in_order order below [] r i
in_order (true ∷ order) below (k ∷ anywhere) (ToBelow j) i = there (in_order order below anywhere (ToBelow j) i)
in_order (true ∷ order) below (k ∷ anywhere) (ToAnywhere j) here = here
in_order (true ∷ order) below (k ∷ anywhere) (ToAnywhere j) (there i) = there (in_order order below anywhere (ToAnywhere j) i)

pub of_references : (a : Agent) (r : FileReference) → In r (references a) → IsOf a.subordinate a.cross r
of_references a r i = of_order a.crosses a.subordinate a.cross r i

pub in_references : (a : Agent) (r : FileReference) → IsOf a.subordinate a.cross r → In r (references a)
in_references a r i = in_order a.crosses a.subordinate a.cross r i
