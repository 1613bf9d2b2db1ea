-- Words on lists and options that the definitions share and std lacks.
use Rattle.std.specs.Prelude.{ℕ, Bool, true, false, not, ◌&&◌, ◌||◌, ◌==◌, if◌then◌else◌, List, [], ◌∷◌, ◌++◌}
use Rattle.std.specs.Cmp.Lexicographic.{pointwise, slice_cmp}
use Rattle.std.specs.Ordering.{is_lt, nat_cmp}
use Rattle.std.specs.declared.option.Option.{Option}
use Rattle.std.specs.declared.option.Option.TheVariants.{None, Some}

-- some member is the same as x
abbrev pub has : {X : Type 0} → (X → X → Bool) → List X → X → Bool
has same [] x = false
has same (y ∷ ys) x = same y x || has same ys x

-- no member is the same as a later one
abbrev pub distinct : {X : Type 0} → (X → X → Bool) → List X → Bool
distinct same [] = true
distinct same (x ∷ xs) = not (has same xs x) && distinct same xs

abbrev pub is_empty : {X : Type 0} → List X → Bool
is_empty [] = true
is_empty (x ∷ xs) = false

abbrev pub first_of : {X : Type 0} → List X → Option X
first_of [] = None
first_of (x ∷ xs) = Some x

abbrev pub last_of : {X : Type 0} → List X → Option X
last_of [] = None
last_of (x ∷ []) = Some x
last_of (x ∷ y ∷ ys) = last_of (y ∷ ys)

-- each member is below the next
abbrev pub ascending : {X : Type 0} → (X → X → Bool) → List X → Bool
ascending below [] = true
ascending below (x ∷ []) = true
ascending below (x ∷ y ∷ ys) = below x y && ascending below (y ∷ ys)

-- an element put into a list in order, before the first that isn't below it
abbrev pub insert_sorted : {X : Type 0} → (X → X → Bool) → X → List X → List X
insert_sorted below x [] = x ∷ []
insert_sorted below x (y ∷ ys) = if below y x then y ∷ insert_sorted below x ys else (x ∷ y ∷ ys)

-- the list in order; of two members neither of which is below the other, the earlier stays the earlier
abbrev pub sorted : {X : Type 0} → (X → X → Bool) → List X → List X
sorted below [] = []
sorted below (x ∷ xs) = insert_sorted below x (sorted below xs)

-- there is something, and it passes the test
abbrev pub some_and : {X : Type 0} → (X → Bool) → Option X → Bool
some_and test None = false
some_and test (Some x) = test x

abbrev pub in_option : {X Y : Type 0} → Y → (X → Y) → Option X → Y
in_option y f None = y
in_option y f (Some x) = f x

-- x where the test holds, and nothing where it doesn't
abbrev pub when : {X : Type 0} → Bool → X → List X
when true x = x ∷ []
when false x = []

-- the members that come a second time, by their keys, or aren't fit, as what is told of them; `before` has the keys so
-- far
abbrev pub unfit : {A K X : Type 0} → (K → K → Bool) → (A → K) → (A → Bool) → (A → X) → List K → List A → List X
unfit same key fit told before [] = []
unfit same key fit told before (x ∷ xs) =
    when (has same before (key x) || not (fit x)) (told x) ++ unfit same key fit told (key x ∷ before) xs

-- all ends of a list: the list, the list without its first member, .., the empty list
abbrev pub tails : {X : Type 0} → List X → List (List X)
tails [] = [] ∷ []
tails (x ∷ xs) = (x ∷ xs) ∷ tails xs

-- lists of octets (and texts): the same, and the order, octet by octet and a beginning first
abbrev pub same_octets : List ℕ → List ℕ → Bool
same_octets a b = pointwise ◌==◌ a b

abbrev pub octets_below : List ℕ → List ℕ → Bool
octets_below a b = is_lt (slice_cmp nat_cmp a b)
