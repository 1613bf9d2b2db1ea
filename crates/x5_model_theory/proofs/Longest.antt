-- The longest pin on the way, and the lowest entry.
use Rattle.std.proofs.Common.{◌≡◌, ℕ, zero, suc, ◌≤◌, true, List, [], ◌∷◌, ◌++◌, length, take, drop, map, refl, sym, ap, subst, ◌∙◌, arith, Some, None}
use Rattle.x5_model.specs.Members.{In}
use Rattle.x5_model.specs.Keys.{Key, IsPrefix}
use Rattle.x5_model.specs.Values.{Name, key_of, key_of_rdn}
use Rattle.x5_model.specs.Entries.{Named}
use Rattle.x5_model.proofs.Prefixes.{take_take}
use Rattle.x5_model_tree.specs.Tree.{key_at, lowest, longest, belongs}
use Rattle.x5_model_theory.proofs.Stages.{key_length}
use Rattle.x5_model_tree.proofs.Longest.{IsLongest, longest_right, belongs_decides, IsLowest, lowest_right}

pub longest_some : (ks : List Key) (n p : Key) → longest ks n ≡ Some p → In p ks × IsPrefix p n × ((q : Key) → In q ks → IsPrefix q n → length q ≤ length p)
longest_some ks n p e = let h = subst (IsLongest ks n) e (longest_right ks n) in (h.0, h.1.0, h.1.1)

pub longest_none : (ks : List Key) (n : Key) → longest ks n ≡ None → (q : Key) → In q ks → IsPrefix q n → ⊥
longest_none ks n e = subst (IsLongest ks n) e (longest_right ks n)

-- an entry of a context's part is below its pin
pub belongs_below : (pins : List Key) (pin key : Key) → belongs pins pin key ≡ true → IsPrefix pin key
belongs_below pins pin key b = ((belongs_decides pins pin key).0 b).1.0

-- the lowest entry is one of the entries on the way
pub lowest_is : (entries : List Named) (key : Key) (e : Named) → lowest entries key ≡ Some e → In e entries × IsPrefix (key_at e) key
lowest_is entries key e is = let h = subst (IsLowest entries key (length key)) is (lowest_right entries key) in (h.0, h.1.0)

-- a name whose first RDNs are spelled as another does it
map_append : {A B : Type 0} (f : A → B) (xs ys : List A) → map f (xs ++ ys) ≡ map f xs ++ map f ys
map_append f [] ys = refl
map_append {A} {B} f (x ∷ xs) ys = ap (λ (zs : List B). f x ∷ zs) (map_append f xs ys)

map_take : {A B : Type 0} (f : A → B) (n : ℕ) (xs : List A) → map f (take n xs) ≡ take n (map f xs)
map_take f zero xs = refl
map_take f (suc n) [] = refl
map_take {A} {B} f (suc n) (x ∷ xs) = ap (λ (ys : List B). f x ∷ ys) (map_take f n xs)

map_drop : {A B : Type 0} (f : A → B) (n : ℕ) (xs : List A) → map f (drop n xs) ≡ drop n (map f xs)
map_drop f zero xs = refl
map_drop f (suc n) [] = refl
map_drop f (suc n) (x ∷ xs) = map_drop f n xs

take_drop : {A : Type 0} (n : ℕ) (xs : List A) → take n xs ++ drop n xs ≡ xs
take_drop zero xs = refl
take_drop (suc n) [] = refl
take_drop {A} (suc n) (x ∷ xs) = ap (λ (ys : List A). x ∷ ys) (take_drop n xs)

pub respelled_key : (n : ℕ) (kept name : Name) → n ≤ length kept → IsPrefix (key_of kept) (key_of name) → key_of (take n kept ++ drop n name) ≡ key_of name
respelled_key n kept name h on =
    let le : n ≤ length (key_of kept) = (let e : length (key_of kept) ≡ length kept = key_length kept in omega arith) in
    let front : take n (key_of kept) ≡ take n (key_of name) = ap (take n) (sym on) ∙ take_take n (length (key_of kept)) (key_of name) le in
    map_append key_of_rdn (take n kept) (drop n name)
    ∙ ap (λ (xs : Key). xs ++ map key_of_rdn (drop n name)) (map_take key_of_rdn n kept ∙ front)
    ∙ ap (λ (xs : Key). take n (key_of name) ++ xs) (map_drop key_of_rdn n name)
    ∙ take_drop n (key_of name)
