-- Places among the members of several lists.
use Rattle.std.specs.Prelude.{◌≡◌, ℕ, suc, List, [], ◌∷◌, ◌++◌, map, slice_get}
use Rattle.std.specs.List.{find, flat_map}
use Rattle.std.specs.declared.option.Option.{Option}
use Rattle.std.specs.declared.option.Option.TheVariants.{None, Some}
use Rattle.x5_model.specs.Keys.{Key, same_key}
use Rattle.x5_model.specs.Values.{key_of}
use Rattle.x5_ops.specs.declared.knowledge.Specific.{Specific}
use Rattle.x5_holdings.specs.Rows.{KeyRow, AreRowsOf}
use Rattle.x5_holdings.specs.declared.below.Spot.{Spot}

-- the members of one list, from a place on
abbrev pub spots_from : {A : Type 0} → ℕ → ℕ → List A → List Spot
spots_from list member [] = []
spots_from list member (x ∷ xs) = record { list = list; member = member } ∷ spots_from list (suc member) xs

-- those of lists, from a place on
abbrev pub spots_in : {A : Type 0} → ℕ → List (List A) → List Spot
spots_in list [] = []
spots_in list (xs ∷ more) = spots_from list 0 xs ++ spots_in (suc list) more

abbrev pub joined : {A : Type 0} → List (List A) → List A
joined lists = flat_map (λ xs. xs) lists

abbrev pub pins_in : List (List Specific) → List Key
pins_in lists = map (λ k. key_of k.pin) (joined lists)

-- what is kept of lists of references: rows of their pins, and their places
pub record Spotted : Type 0 where
  pub rows : List KeyRow
  pub spots : List Spot

pub record AreBelow (b : Spotted) (lists : List (List Specific)) : Type 0 where
  pub rows : AreRowsOf b.rows (pins_in lists)
  pub spots : b.spots ≡ spots_in 0 lists

-- the first reference to a pin
abbrev pub first_to : List Specific → Key → Option Specific
first_to ks key = find (λ k. same_key (key_of k.pin) key) ks

-- it stands there
pub record IsSpotOf (lists : List (List Specific)) (key : Key) (spot : Spot) : Type 0 where
  pub list : List Specific
  pub reference : Specific
  pub in_lists : slice_get lists spot.list ≡ Some list
  pub in_list : slice_get list spot.member ≡ Some reference
  pub first : first_to (joined lists) key ≡ Some reference

abbrev pub IsSpot : List (List Specific) → Key → Option Spot → Type 0
IsSpot lists key None = first_to (joined lists) key ≡ None
IsSpot lists key (Some spot) = IsSpotOf lists key spot
