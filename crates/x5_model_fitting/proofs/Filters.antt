-- Filters within the limits fit, and are as they are spelled.
use Rattle.std.proofs.Common.{◌≡◌, ℕ, ◌-◌, ◌≤◌, Bool, false, ◌==◌, if◌then◌else◌, List, [], ◌∷◌, refl, sym, ap, subst, arith}
use Rattle.x5_model.specs.Filters as filters
use Rattle.x5_model.specs.Filters.{Item, Equality, Substrings, GreaterOrEqual, LessOrEqual, Present, Approximate, Filter, Filters, Is, And, Or, Not}
use Rattle.x5_model_typed.specs.Named as named
use Rattle.x5_model_typed.specs.Forms.{Explicit, Never, Alternative, choice}
use Rattle.x5_model_typed.specs.Layouts as layouts
use Rattle.x5_model_typed.specs.Layouts.{Surroundings, layout, set_of}
use Rattle.x5_model_typed_laws.specs.Fits as fits
use Rattle.x5_model_typed_laws.specs.Fits.{Fits, FitsEach}
use Rattle.x5_model_messages.specs.FilterTerms.{item_node, filter_node, filter_nodes}
use Rattle.x5_model_messages.specs.Laws.{IsItem, IsFilter, AreFilters}
use Rattle.x5_model_fitting.specs.Filters.{ItemWithin, FilterWithin, FiltersWithin}
use Rattle.x5_model_fitting.proofs.Texts.{type_fits}
use Rattle.x5_model_fitting.proofs.Terms.{assertion_fits, assertion_is, substrings_fit, substrings_are}

-- ---- items

item_fits : (w : Surroundings) (i : Item) → ItemWithin i → Fits (layout w) (layout w named.Item) (item_node i)
item_fits w (Equality a) h =
    fits.chosen (choice 0 (Explicit named.Assertion)) 0 named.Assertion refl refl (assertion_fits w a h) refl
item_fits w (Substrings s) h =
    fits.chosen (choice 1 (Explicit named.Substrings)) 1 named.Substrings refl refl (substrings_fit w s h) refl
item_fits w (GreaterOrEqual a) h =
    fits.chosen (choice 2 (Explicit named.Assertion)) 2 named.Assertion refl refl (assertion_fits w a h) refl
item_fits w (LessOrEqual a) h =
    fits.chosen (choice 3 (Explicit named.Assertion)) 3 named.Assertion refl refl (assertion_fits w a h) refl
item_fits w (Present type) h =
    fits.chosen (choice 4 (Explicit named.AnyOid)) 4 named.AnyOid refl refl (type_fits w type h) refl
item_fits w (Approximate a) h =
    fits.chosen (choice 5 (Explicit named.Assertion)) 5 named.Assertion refl refl (assertion_fits w a h) refl

-- ---- filters, where a level is left

abbrev pub level_types : ℕ → List Alternative
level_types below =
    choice 0 (Explicit named.Item) ∷ choice 1 (Explicit (named.Filters below)) ∷ choice 2
    (Explicit (named.Filters below))
    ∷ choice 3 (Explicit (named.Filter below)) ∷ []

pub some_level : (levels : ℕ) → 1 ≤ levels → layouts.filter levels ≡ level_types (levels - 1)
some_level levels h =
    ap (λ (b : Bool). if b then choice 0 Never ∷ choice 1 Never ∷ choice 2 Never ∷ choice 3 Never ∷ [] else level_types
    (levels - 1))
    (not_none levels h)
  where
    not_none : (n : ℕ) → 1 ≤ n → (n == 0) ≡ false
    not_none n l = grind arith

mutual
  pub filter_fits : (w : Surroundings) (levels : ℕ) (f : Filter) → FilterWithin levels f
      → Fits (layout w) (layouts.filter levels) (filter_node f)
  filter_fits w levels (Is i) h =
      subst (λ (ts : List Alternative). Fits (layout w) ts (filter_node (Is i))) (sym (some_level levels h.0))
      (fits.chosen (choice 0 (Explicit named.Item)) 0 named.Item refl refl (item_fits w i h.1) refl)
  filter_fits w levels (And fs) h =
      subst (λ (ts : List Alternative). Fits (layout w) ts (filter_node (And fs))) (sym (some_level levels h.0))
      (fits.chosen (choice 1 (Explicit (named.Filters (levels - 1)))) 1 (named.Filters (levels - 1)) refl refl
      (fits.made (set_of (named.Filter (levels - 1))) refl refl refl (fits.members (filters_fit w (levels - 1) fs h.1))
      refl) refl)
  filter_fits w levels (Or fs) h =
      subst (λ (ts : List Alternative). Fits (layout w) ts (filter_node (Or fs))) (sym (some_level levels h.0))
      (fits.chosen (choice 2 (Explicit (named.Filters (levels - 1)))) 2 (named.Filters (levels - 1)) refl refl
      (fits.made (set_of (named.Filter (levels - 1))) refl refl refl (fits.members (filters_fit w (levels - 1) fs h.1))
      refl) refl)
  filter_fits w levels (Not f) h =
      subst (λ (ts : List Alternative). Fits (layout w) ts (filter_node (Not f))) (sym (some_level levels h.0))
      (fits.chosen (choice 3 (Explicit (named.Filter (levels - 1)))) 3 (named.Filter (levels - 1)) refl refl
      (filter_fits w (levels - 1) f h.1) refl)

  filters_fit : (w : Surroundings) (levels : ℕ) (fs : Filters) → FiltersWithin levels fs
      → FitsEach (layout w) (named.Filter levels) (filter_nodes fs)
  filters_fit w levels filters.Nil h = fits.none
  filters_fit w levels (filters.More f fs) h = fits.more (filter_fits w levels f h.0) (filters_fit w levels fs h.1)

-- ---- such filters are as they are spelled

item_is : (i : Item) → ItemWithin i → IsItem i
item_is (Equality a) h = assertion_is a h
item_is (Substrings s) h = substrings_are s h
item_is (GreaterOrEqual a) h = assertion_is a h
item_is (LessOrEqual a) h = assertion_is a h
item_is (Present type) h = h.is
item_is (Approximate a) h = assertion_is a h

mutual
  pub filter_is : (levels : ℕ) (f : Filter) → FilterWithin levels f → IsFilter f
  filter_is levels (Is i) h = item_is i h.1
  filter_is levels (And fs) h = filters_are (levels - 1) fs h.1
  filter_is levels (Or fs) h = filters_are (levels - 1) fs h.1
  filter_is levels (Not f) h = filter_is (levels - 1) f h.1

  filters_are : (levels : ℕ) (fs : Filters) → FiltersWithin levels fs → AreFilters fs
  filters_are levels filters.Nil h = tt
  filters_are levels (filters.More f fs) h = (filter_is levels f h.0, filters_are levels fs h.1)
