-- Places among the members of several lists: the n-th member of all lists together stands at the n-th place.
use Rattle.std.proofs.Common.{◌≡◌, ℕ, zero, suc, ◌+◌, ◌-◌, ◌<◌, ◌≤◌, Bool, true, ◌⊎◌, inl, inr, List, [], ◌∷◌, ◌++◌}
use Rattle.std.proofs.Common.{map, take, length, get_or, Option, Some, None, refl, sym, ap, subst, ◌∙◌, arith}
use Rattle.std.proofs.Common.{append_assoc}
use Rattle.std.specs.Prelude.{slice_get}
use Rattle.std.specs.List.{find}
use Rattle.std.specs.Option.{is_some, option_map}
use Rattle.x5_model.specs.Keys.{Key, same_key}
use Rattle.x5_model.specs.Values.{key_of}
use Rattle.x5_ops.specs.declared.knowledge.Specific.{Specific}
use Rattle.x5_holdings.specs.declared.below.Spot.{Spot}
use Rattle.x5_holdings.specs.Rows.{KeyRow, Places, AreRowsOf, places_of, numbered, IsFirstPlace}
use Rattle.x5_holdings.specs.Known.{IsPlaceOf}
use Rattle.x5_holdings.specs.Spots.{spots_from, spots_in, joined, pins_in, Spotted, AreBelow, IsSpotOf, IsSpot}
use Rattle.std.proofs.lemmas.List.{length-map, length-take, map-append, map_push, take_all}
use Rattle.x5_holdings.proofs.Numbered.{taken, row_places}
use Rattle.x5_holdings.proofs.Finding.{at_first}

-- ---- one more member, and one more list

pub spots_push : {A : Type 0} (list member n : ℕ) (xs : List A) (x : A) → n ≡ member + length xs → spots_from list
    member (xs ++ x ∷ []) ≡ spots_from list member xs ++ record { list = list; member = n } ∷ []
spots_push list member n [] x e =
    (let f : member ≡ n = omega arith in ap (λ (m : ℕ). record { list = list; member = m } ∷ []) f)
spots_push list member n (y ∷ xs) x e = ap (λ (l : List Spot). record { list = list; member = member } ∷ l)
    (spots_push list (suc member) n xs x (omega arith))

pub lists_push : {A : Type 0} (list n : ℕ) (lists : List (List A)) (xs : List A) → n ≡ list + length lists → spots_in
    list (lists ++ xs ∷ []) ≡ spots_in list lists ++ spots_from n 0 xs
lists_push list n [] xs e =
    (let f : list ≡ n = omega arith in append_nothing (spots_from list 0 xs) ∙ ap (λ (m : ℕ). spots_from m 0 xs) f)
  where
    append_nothing : {B : Type 0} (l : List B) → l ++ [] ≡ l
    append_nothing [] = refl
    append_nothing {B} (y ∷ l) = ap (λ (k : List B). y ∷ k) (append_nothing l)
lists_push list n (ys ∷ lists) xs e =
    ap (λ (l : List Spot). spots_from list 0 ys ++ l) (lists_push (suc list) n lists xs (omega arith))
    ∙ sym (append_assoc (spots_from list 0 ys) (spots_in (suc list) lists) (spots_from n 0 xs))

pins_push : (lists : List (List Specific)) (xs : List Specific) → pins_in (lists ++ xs ∷ []) ≡ pins_in lists ++ map
    (λ k. key_of k.pin) xs
pins_push [] xs = ap (map (λ (k : Specific). key_of k.pin)) (alone xs)
  where
    alone : (l : List Specific) → l ++ [] ≡ l
    alone [] = refl
    alone (y ∷ l) = ap (λ (k : List Specific). y ∷ k) (alone l)
pins_push (ys ∷ lists) xs =
    map-append (λ (k : Specific). key_of k.pin) ys (joined (lists ++ xs ∷ []))
    ∙ (ap (λ (l : List Key). map (λ (k : Specific). key_of k.pin) ys ++ l) (pins_push lists xs)
    ∙ (sym (append_assoc (map (λ (k : Specific). key_of k.pin) ys) (pins_in lists)
    (map (λ (k : Specific). key_of k.pin) xs))
    ∙ ap (λ (l : List Key). l ++ map (λ (k : Specific). key_of k.pin) xs)
    (sym (map-append (λ (k : Specific). key_of k.pin) ys (joined lists)))))

-- a loop's step over references
pub one_more_spot : {A : Type 0} (list i : ℕ) (xs : List A) (x : A) (before old new : List Spot) → i < length xs → x ≡
    get_or xs i x
    → old ≡ before ++ spots_from list 0 (take i xs) → new ≡ old ++ record { list = list; member = i } ∷ [] → new ≡
    before ++ spots_from list 0 (take (i + 1) xs)
one_more_spot {A} list i xs x before old new lt is e g =
    g ∙ (ap (λ (l : List Spot). l ++ record { list = list; member = i } ∷ []) e
    ∙ (append_assoc before (spots_from list 0 (take i xs)) (record { list = list; member = i } ∷ [])
    ∙ ap (λ (l : List Spot). before ++ l)
    (sym (ap (spots_from list 0) (taken xs i x lt is) ∙ spots_push list 0 i (take i xs) x
    (omega (arith, length-take i xs))))))

-- and over contexts
module _ {A : Type 0} (f : A → List Specific) (xs : List A) (i : ℕ) (x : A) (lt : i < length xs)
    (is : x ≡ get_or xs i x) where
  lists_more : map f (take (i + 1) xs) ≡ map f (take i xs) ++ f x ∷ []
  lists_more = ap (map f) (taken xs i x lt is) ∙ map_push f (take i xs) x

  pub more_pins : (old new : List KeyRow) → old ≡ numbered (pins_in (map f (take i xs))) →
      ((keys : List Key) → old ≡ numbered keys → new ≡ numbered (keys ++ map (λ k. key_of k.pin) (f x))) → new ≡
      numbered (pins_in (map f (take (i + 1) xs)))
  more_pins old new e h = h (pins_in (map f (take i xs))) e ∙ ap numbered
      (sym (ap pins_in lists_more ∙ pins_push (map f (take i xs)) (f x)))

  pub more_spots : (old new : List Spot) → old ≡ spots_in 0 (map f (take i xs)) → new ≡ old ++ spots_from i 0 (f x) →
      new ≡ spots_in 0 (map f (take (i + 1) xs))
  more_spots old new e h =
      h ∙ (ap (λ (l : List Spot). l ++ spots_from i 0 (f x)) e ∙ sym
      (ap (spots_in 0) lists_more ∙ lists_push 0 i (map f (take i xs)) (f x)
      (omega (arith, length-take i xs, length-map (take i xs) f))))

-- the table of all
pub below_made : {A : Type 0} (f : A → List Specific) (xs : List A) (i : ℕ) (rows : List KeyRow) (spots : List Spot)
    (pins : List KeyRow) → length xs ≤ i
    → ((ks : List Key) → rows ≡ numbered ks → AreRowsOf pins ks) → rows ≡ numbered (pins_in (map f (take i xs))) →
    spots ≡ spots_in 0 (map f (take i xs))
    → AreBelow (record { rows = pins; spots = spots }) (map f xs)
below_made {A} f xs i rows spots pins le h e g = record {
  rows = h (pins_in (map f xs)) (e ∙ ap (λ (l : List A). numbered (pins_in (map f l))) (take_all i xs le));
  spots = g ∙ ap (λ (l : List A). spots_in 0 (map f l)) (take_all i xs le);
}

-- ---- what stands at a place

-- a spot is that of the n-th member
pub record Stands {A : Type 0} (lists : List (List A)) (spots : List Spot) (first n : ℕ) : Type 0 where
  pub spot : Spot
  pub list : List A
  pub member : A
  pub there : slice_get spots n ≡ Some spot
  pub within : first ≤ spot.list
  pub in_lists : slice_get lists (spot.list - first) ≡ Some list
  pub in_list : slice_get list spot.member ≡ Some member
  pub same : slice_get (joined lists) n ≡ Some member

get_left : {A : Type 0} (xs ys : List A) (n : ℕ) → n < length xs → slice_get (xs ++ ys) n ≡ slice_get xs n
get_left [] ys n l = absurd (omega arith)
get_left (x ∷ xs) ys zero l = refl
get_left (x ∷ xs) ys (suc n) l = get_left xs ys n (omega arith)

get_right : {A : Type 0} (xs ys : List A) (n m : ℕ) → n ≡ length xs + m → slice_get (xs ++ ys) n ≡ slice_get ys m
get_right [] ys n m e = (let f : n ≡ m = omega (arith, e) in ap (slice_get ys) f)
get_right (x ∷ xs) ys zero m e = absurd (omega arith)
get_right (x ∷ xs) ys (suc n) m e = get_right xs ys n m (omega arith)

stands : {A : Type 0} (lists : List (List A)) (first n : ℕ) → is_some (slice_get (joined lists) n) ≡ true → Stands
    lists (spots_in first lists) first n
stands [] first n e = cc
stands {A} (xs ∷ lists) first n e =
    elim (before n (length xs)) [
      | inl l ↦ in_first l
      | inr m ↦ (let s = stands lists (suc first) (n - length xs)
          (subst (λ (o : Option A). is_some o ≡ true) (get_right xs (joined lists) n (n - length xs) (omega arith)) e)
          in
          let w = s.within in
          record {
            spot = s.spot;
            list = s.list;
            member = s.member;
            there = get_right (spots_from first 0 xs) (spots_in (suc first) lists) n (n - length xs)
                (omega (arith, count first 0 xs)) ∙ s.there;
            within = omega arith;
            in_lists = (let f : s.spot.list - first ≡ suc (s.spot.list - suc first) = omega arith in ap
                (slice_get (xs ∷ lists)) f) ∙ s.in_lists;
            in_list = s.in_list;
            same = get_right xs (joined lists) n (n - length xs) (omega arith) ∙ s.same;
          })
    ]
  where
    before : (n k : ℕ) → (n < k) ⊎ (k ≤ n)
    before n k = grind arith

    count : (list member : ℕ) (xs : List A) → length (spots_from list member xs) ≡ length xs
    count list member [] = refl
    count list member (x ∷ xs) = ap suc (count list (suc member) xs)

    from : (list member k : ℕ) (xs : List A) → k < length xs → (x : A) × (slice_get xs k ≡ Some x) ×
        (slice_get (spots_from list member xs) k ≡ Some (record { list = list; member = member + k }))
    from list member k [] l = absurd (omega arith)
    from list member zero (x ∷ xs) l = (
      x,
      refl,
      (let f : member ≡ member + 0 = omega arith in ap
          (λ (m : ℕ). Some (record { list = list; member = m })) f),
    )
    from list member (suc k) (x ∷ xs) l =
        let w = from list (suc member) k xs (omega arith) in (
          w.0,
          w.1,
          w.2 ∙ (let f : suc member + k ≡ member + suc k = omega arith in ap
              (λ (m : ℕ). Some (record { list = list; member = m })) f),
        )

    in_first : n < length xs → Stands (xs ∷ lists) (spots_from first 0 xs ++ spots_in (suc first) lists) first n
    in_first l =
        let w = from first 0 n xs l in
        record {
          spot = record { list = first; member = n };
          list = xs;
          member = w.0;
          there = get_left (spots_from first 0 xs) (spots_in (suc first) lists) n (omega (arith, count first 0 xs)) ∙
              (w.2 ∙ (let f : 0 + n ≡ n = omega arith in ap (λ (m : ℕ). Some (record { list = first; member = m })) f));
          within = omega arith;
          in_lists = (let f : first - first ≡ 0 = omega arith in ap (slice_get (xs ∷ lists)) f);
          in_list = w.1;
          same = get_left xs (joined lists) n l ∙ w.1;
        }

-- ---- the first reference to a pin

same_map : {A : Type 0} (test : A → Bool) (xs : List A) → find test xs ≡ find test (map (λ x. x) xs)
same_map {A} test xs = ap (find test) (as_it_is xs)
  where
    as_it_is : (ys : List A) → ys ≡ map (λ x. x) ys
    as_it_is [] = refl
    as_it_is (y ∷ ys) = ap (λ (l : List A). y ∷ l) (as_it_is ys)

module _ (b : Spotted) (lists : List (List Specific)) (key : Key) (h : AreBelow b lists) where
  placed : (found : Option ℕ) → IsFirstPlace (places_of b.rows) key found → IsPlaceOf (λ k. k) (joined lists)
      (find (λ k. same_key (key_of k.pin) key) (map (λ k. k) (joined lists))) found
  placed found f =
      at_first (λ (k : Specific). k) (λ k. key_of k.pin) key (joined lists) found
      (subst (λ (p : Places). IsFirstPlace p key found) (row_places _ _ h.rows) f)

  pub no_spot : IsFirstPlace (places_of b.rows) key None → IsSpot lists key None
  no_spot f = same_map (λ (k : Specific). same_key (key_of k.pin) key) (joined lists) ∙ placed None f

  -- the place is within the spots
  pub spot_within : (n : ℕ) → IsFirstPlace (places_of b.rows) key (Some n) → (spot : Spot) ×
      ((slice_get b.spots n ≡ Some spot) × IsSpotOf lists key spot)
  spot_within n f =
      let p = placed (Some n) f in
      let s = stands lists 0 n p.1 in (
        s.spot,
        (
          ap (λ (l : List Spot). slice_get l n) h.spots ∙ s.there,
          record {
            list = s.list;
            reference = s.member;
            in_lists = (let e : s.spot.list ≡ s.spot.list - 0 = omega arith in ap (slice_get lists) e) ∙ s.in_lists;
            in_list = s.in_list;
            first = same_map (λ (k : Specific). same_key (key_of k.pin) key) (joined lists) ∙
                (p.0 ∙ (ap (option_map (λ k. k)) s.same));
          },
        ),
      )
