-- What the tables beside an agent's lists say of what it holds: the context, the copy or the reference that the
-- definitions find
-- by a key is the one at the place that its table gives.
use Rattle.std.proofs.Common.{◌≡◌, ℕ, zero, suc, ◌<◌, ◌≤◌, Bool, true, false, if◌then◌else◌, List, [], ◌∷◌, ◌++◌, map}
use Rattle.std.proofs.Common.{length, get_or, Option, Some, None, Bor, refl, sym, ap, subst, ◌∙◌, arith}
use Rattle.std.specs.Prelude.{slice_get}
use Rattle.std.specs.List.{filter, flat_map}
use Rattle.std.specs.Option.{is_some, option_map}
use Rattle.x5_model.specs.Keys.{Key, same_key}
use Rattle.x5_model.specs.Values.{key_of}
use Rattle.x5_model.specs.Requests.{Request}
use Rattle.x5_model_tree.specs.World as world
use Rattle.x5_model_run.specs.Holdings as model
use Rattle.x5_model_run.specs.Needs.{specific_at, nssr_at}
use Rattle.x5_ops.specs.declared.knowledge.Specific.{Specific}
use Rattle.x5_ops.specs.declared.knowledge.Nssr.{Nssr}
use Rattle.x5_ops.specs.KnowledgeViews.{specific_view, cross_view, nssr_view}
use Rattle.x5_holdings.specs.declared.below.Spot.{Spot}
use Rattle.x5_holdings.specs.declared.tables.Tables.{Tables}
use Rattle.x5_holdings.specs.Rows.{KeyRow, Places, AreRowsOf, places_of, IsFirstPlace}
use Rattle.x5_holdings.specs.Known.{IsPlaceOf}
use Rattle.std.specs.Slice.{IsItemAt}
use Rattle.x5_holdings.specs.Spots.{joined, first_to, IsSpotOf}
use Rattle.x5_holdings.specs.State.{State, held_view, copy_view, holdings_view}
use Rattle.x5_holdings.specs.Tables.{AreTables, below_own, below_copies}
use Rattle.x5_holdings.proofs.Numbered.{row_places}
use Rattle.x5_holdings.proofs.Sought.{item_at, no_item}
use Rattle.x5_holdings.proofs.Finding.{at_first, find_left, find_right, find_map, own_references, copied_references}

-- ---- places in lists

pub within : {A : Type 0} (xs : List A) (i : ℕ) → is_some (slice_get xs i) ≡ true → i < length xs
within [] i e = cc
within (x ∷ xs) zero e = omega arith
within (x ∷ xs) (suc i) e = let l = within xs i e in omega arith

pub got : {A : Type 0} (xs : List A) (i : ℕ) (x : A) → i < length xs → x ≡ get_or xs i x → slice_get xs i ≡ Some x
got [] i x lt e = absurd (omega arith)
got (y ∷ xs) zero x lt e = ap Some (sym e)
got (y ∷ xs) (suc i) x lt e = got xs i x (omega arith) e

pub some_within : {A : Type 0} (xs : List A) (i : ℕ) (x : A) → slice_get xs i ≡ Some x → i < length xs
some_within {A} xs i x e = within xs i (ap (λ (o : Option A). is_some o) e)

-- what is indexed at the place
pub placed_item : {A B : Type 0} (view : A → B) (xs : List A) (i : ℕ) (x : A) (o : Option B) → i < length xs → x ≡
    get_or xs i x → IsPlaceOf view xs o (Some i) → Some (view x) ≡ o
placed_item view xs i x o lt is h = sym (h.0 ∙ ap (option_map view) (got xs i x lt is))

pub item_got : {A : Type 0} (xs : List A) (i : ℕ) (r : Option (Bor A)) → IsItemAt xs i r → option_map
    (λ (x : Bor A). x.now) r ≡ slice_get xs i
item_got xs i None h = sym (got_none xs i (no_item xs i None h refl))
  where
    got_none : {A : Type 0} (xs : List A) (i : ℕ) → length xs ≤ i → slice_get xs i ≡ None
    got_none [] i le = refl
    got_none (y ∷ xs) zero le = absurd (omega arith)
    got_none (y ∷ xs) (suc i) le = got_none xs i (omega arith)
item_got xs i (Some x) h = let w = item_at xs i (Some x) x h refl in sym (got xs i x.now w.0 w.1)

pub some_got : {A : Type 0} (xs : List A) (i : ℕ) (r : Option (Bor A)) (x : Bor A) → IsItemAt xs i r → r ≡ Some x →
    slice_get xs i ≡ Some x.now
some_got {A} xs i r x h e = sym (item_got xs i r h) ∙ ap (option_map (λ (y : Bor A). y.now)) e

pub none_got : {A : Type 0} (xs : List A) (i : ℕ) (r : Option (Bor A)) → IsItemAt xs i r → r ≡ None → slice_get xs i ≡
    None
none_got {A} xs i r h e = sym (item_got xs i r h) ∙ ap (option_map (λ (y : Bor A). y.now)) e

-- what is got at the place
pub viewed : {A B : Type 0} (view : A → B) (xs : List A) (i : ℕ) (r : Option (Bor A)) (o : Option B) → IsItemAt xs i r
    → IsPlaceOf view xs o (Some i) → option_map (λ (x : Bor A). view x.now) r ≡ o
viewed {A} {B} view xs i r o h p = twice r ∙ (ap (option_map view) (item_got xs i r h) ∙ sym p.0)
  where
    twice : (q : Option (Bor A)) → option_map (λ (x : Bor A). view x.now) q ≡ option_map view
        (option_map (λ (x : Bor A). x.now) q)
    twice None = refl
    twice (Some x) = refl

-- ---- what stands at a spot

mapped : {A B : Type 0} (f : A → B) (xs : List A) (i : ℕ) (y : B) → slice_get (map f xs) i ≡ Some y → (x : A) ×
    (slice_get xs i ≡ Some x) × (f x ≡ y)
mapped f [] i y e = cc
mapped f (x ∷ xs) zero y e = (x, refl, inside e)
  where
    inside : Some (f x) ≡ Some y → f x ≡ y
    inside g = cc
mapped f (x ∷ xs) (suc i) y e = mapped f xs i y e

module _ {A : Type 0} (f : A → List Specific) (xs : List A) (key : Key) (spot : Spot)
    (h : IsSpotOf (map f xs) key spot) where
  pub never_lacking : slice_get xs spot.list ≡ None → ⊥
  never_lacking e = (let w = mapped f xs spot.list h.list h.in_lists in let s : None ≡ Some w.0 = sym e ∙ w.1 in cc)

  pub at_spot : (x : A) (ks : List Specific) (r : Option (Bor Specific)) → slice_get xs spot.list ≡ Some x → ks ≡ f x
      → IsItemAt ks spot.member r → option_map (λ (k : Bor Specific). k.now) r ≡ first_to (joined (map f xs)) key
  at_spot x ks r e g i =
      let w = mapped f xs spot.list h.list h.in_lists in
      let same : x ≡ w.0 = inside w.0 (sym e ∙ w.1) in
      item_got ks spot.member r i ∙
      (ap (λ (l : List Specific). slice_get l spot.member) (g ∙ (ap f same ∙ w.2)) ∙ (h.in_list ∙ sym h.first))
    where
      inside : (y : A) → Some x ≡ Some y → x ≡ y
      inside y p = cc

-- ---- by the tables

module _ (s : State) (t : Tables) (key : Key) (h : AreTables s t) where
  pub own_placed : (found : Option ℕ) → IsFirstPlace (places_of t.own) key found → IsPlaceOf held_view s.own
      (model.held_at (holdings_view s).own key) found
  own_placed found f = at_first held_view (λ (c : model.Held). key_of c.prefix) key s.own found
      (subst (λ (p : Places). IsFirstPlace p key found) (row_places _ _ h.own) f)

  pub copy_placed : (found : Option ℕ) → IsFirstPlace (places_of t.copies) key found → IsPlaceOf copy_view s.copies
      (model.copy_at (holdings_view s) key) found
  copy_placed found f = at_first copy_view (λ (c : model.Copy). key_of c.held.prefix) key s.copies found
      (subst (λ (p : Places). IsFirstPlace p key found) (row_places _ _ h.copies) f)

  pub cross_placed : (found : Option ℕ) → IsFirstPlace (places_of t.cross) key found → IsPlaceOf cross_view s.cross
      (specific_at (holdings_view s).cross key) found
  cross_placed found f = at_first cross_view (λ (k : world.Specific). key_of k.pin) key s.cross found
      (subst (λ (p : Places). IsFirstPlace p key found) (row_places _ _ h.cross) f)

  pub root_placed : (found : Option ℕ) → IsFirstPlace (places_of t.root) key found → IsPlaceOf specific_view s.root
      (specific_at (holdings_view s).root key) found
  root_placed found f = at_first specific_view (λ (k : world.Specific). key_of k.pin) key s.root found
      (subst (λ (p : Places). IsFirstPlace p key found) (row_places _ _ h.root) f)

pub nssr_placed : (nssrs : List Nssr) (rows : List KeyRow) (key : Key) (found : Option ℕ) → AreRowsOf rows
    (map (λ n. key_of n.at) nssrs) → IsFirstPlace (places_of rows) key found → IsPlaceOf nssr_view nssrs
    (nssr_at (map nssr_view nssrs) key) found
nssr_placed nssrs rows key found h f = at_first nssr_view (λ (n : world.Nssr). key_of n.at) key nssrs found
    (subst (λ (p : Places). IsFirstPlace p key found) (row_places _ _ h) f)

-- ---- subordinate references: those of contexts, of copies that may be used, and of the root

module _ (r : Request) (s : State) (key : Key) where
  abbrev own_list : List world.Specific
  own_list = flat_map (λ (c : model.Held). c.subordinate) (holdings_view s).own

  abbrev copied_list : List world.Specific
  copied_list = flat_map (λ (c : model.Held). c.subordinate) (model.usable_copies r (holdings_view s))

  at_own : specific_at own_list key ≡ option_map specific_view (first_to (joined (below_own s)) key)
  at_own = ap (λ (l : List world.Specific). specific_at l key) (own_references s.own) ∙ find_map specific_view
      (λ (k : world.Specific). same_key (key_of k.pin) key) (joined (below_own s))

  abbrev copied_if : Bool → List world.Specific
  copied_if b = flat_map (λ (c : model.Held). c.subordinate)
      (if b then map (λ (c : model.Copy). c.held)
      (filter (λ (c : model.Copy). is_some c.stamp) (map copy_view s.copies)) else [])

  at_copies : model.may_copy r ≡ true → specific_at copied_list key ≡ option_map specific_view
      (first_to (joined (below_copies s)) key)
  at_copies may =
      ap (λ (b : Bool). specific_at (copied_if b) key) may
      ∙ (ap (λ (l : List world.Specific). specific_at l key) (copied_references s.copies) ∙ find_map specific_view
      (λ (k : world.Specific). same_key (key_of k.pin) key) (joined (below_copies s)))

  no_copies : model.may_copy r ≡ false → specific_at copied_list key ≡ None
  no_copies may = ap (λ (b : Bool). specific_at (copied_if b) key) may

  pub found_own : (k : Specific) → first_to (joined (below_own s)) key ≡ Some k → specific_at
      (model.subordinates r (holdings_view s)) key ≡ Some (specific_view k)
  found_own k e =
      find_left (λ (k : world.Specific). same_key (key_of k.pin) key) (own_list ++ copied_list)
      (map specific_view s.root) (specific_view k)
      (find_left (λ (k : world.Specific). same_key (key_of k.pin) key) own_list copied_list (specific_view k)
      (at_own ∙ ap (option_map specific_view) e))

  module _ (none : first_to (joined (below_own s)) key ≡ None) where
    not_own : specific_at own_list key ≡ None
    not_own = at_own ∙ ap (option_map specific_view) none

    pub found_copies : (k : Specific) → model.may_copy r ≡ true → first_to (joined (below_copies s)) key ≡ Some k →
        specific_at (model.subordinates r (holdings_view s)) key ≡ Some (specific_view k)
    found_copies k may e =
        find_left (λ (k : world.Specific). same_key (key_of k.pin) key) (own_list ++ copied_list)
        (map specific_view s.root) (specific_view k)
        (find_right (λ (k : world.Specific). same_key (key_of k.pin) key) own_list copied_list not_own ∙
        (at_copies may ∙ ap (option_map specific_view) e))

    in_root : specific_at copied_list key ≡ None → specific_at (model.subordinates r (holdings_view s)) key ≡
        specific_at (holdings_view s).root key
    in_root e =
        find_right (λ (k : world.Specific). same_key (key_of k.pin) key) (own_list ++ copied_list)
        (map specific_view s.root)
        (find_right (λ (k : world.Specific). same_key (key_of k.pin) key) own_list copied_list not_own ∙ e)

    pub root_without : model.may_copy r ≡ false → specific_at (model.subordinates r (holdings_view s)) key ≡
        specific_at (holdings_view s).root key
    root_without may = in_root (no_copies may)

    pub root_behind : model.may_copy r ≡ true → first_to (joined (below_copies s)) key ≡ None → specific_at
        (model.subordinates r (holdings_view s)) key ≡ specific_at (holdings_view s).root key
    root_behind may e = in_root (at_copies may ∙ ap (option_map specific_view) e)
